-- Parts that stand up to a blank or the end.
use Rattle.std.proofs.Common.{◌≡◌, ℕ, ◌<◌, true, ◌==◌, List, [], ◌∷◌, ◌++◌, length, get_or}
use Rattle.std.proofs.Common.{take}
use Rattle.std.proofs.Common.{drop, refl, sym, ap, subst, arith, ◌∙◌, zero, suc}
use Rattle.std.specs.Prelude.{nat_le}
use Rattle.std.specs.List.{list_all, prefix_len}
use Rattle.std.specs.Str.{IsUtf8}
use Rattle.std.proofs.lemmas.Bool.{and_parts, and_from, eqb-true, eq-eqb, ne_eqb, not-false, not_from_false}
use Rattle.std.proofs.lemmas.Bool.{leb-true}
use Rattle.std.proofs.lemmas.List.{take-append-drop, append-nil, take_at, drop_at, get_or_past}
use Rattle.std.proofs.lemmas.Str.{IsUtf8-from_ascii}
use Rattle.syslog_in.specs.Message.{is_visible, is_name_byte, IsName}
use Rattle.syslog_in.specs.Parts.{Behind, Stands}
use Rattle.syslog_in.specs.DataReading.{is_no_blank, part_len, first_part, behind_part, is_end}
use Rattle.syslog_in.proofs.Runs.{all_taken, stops, run_again, run_then, run_alone}

-- ---- bytes

visible_below : (byte : ℕ) → is_visible byte ≡ true → byte < 128
visible_below byte h = omega (arith, leb-true byte 126 (and_parts (nat_le 33 byte) (nat_le byte 126) h).1)

all_visible_below : (bytes : List ℕ) → list_all is_visible bytes ≡ true → (i : ℕ) → get_or bytes i 0 < 128
all_visible_below [] h i = omega (arith, get_or_past {X = ℕ} [] i 0 (omega arith))
all_visible_below (byte ∷ bytes) h zero = visible_below byte (and_parts (is_visible byte) _ h).0
all_visible_below (byte ∷ bytes) h (suc i) = all_visible_below bytes (and_parts (is_visible byte) _ h).1 i

pub visible_utf8 : (bytes : List ℕ) → list_all is_visible bytes ≡ true → IsUtf8 bytes
visible_utf8 bytes h = IsUtf8-from_ascii bytes (all_visible_below bytes h)

pub name_bytes_visible : (bytes : List ℕ) → list_all is_name_byte bytes ≡ true → list_all is_visible bytes ≡ true
name_bytes_visible [] h = refl
name_bytes_visible (byte ∷ bytes) h =
    let parts = and_parts (is_name_byte byte) _ h in
    and_from _ _ (and_parts (is_visible byte) _ parts.0).0 (name_bytes_visible bytes parts.1)

visible_no_blank : (byte : ℕ) → is_visible byte ≡ true → is_no_blank byte ≡ true
visible_no_blank byte h =
    not_from_false _ (ne_eqb byte 32 (λ is. absurd (omega (
      arith,
      leb-true 33 byte
          (and_parts (nat_le 33 byte) (nat_le byte 126) h).0,
    ))))

pub visible_no_blanks : (bytes : List ℕ) → list_all is_visible bytes ≡ true → list_all is_no_blank bytes ≡ true
visible_no_blanks [] h = refl
visible_no_blanks (byte ∷ bytes) h =
    let parts = and_parts (is_visible byte) _ h in
    and_from _ _ (visible_no_blank byte parts.0) (visible_no_blanks bytes parts.1)

-- ---- the part at the start

behind_here : (rest : List ℕ) → ((byte : ℕ) (more : List ℕ) → rest ≡ byte ∷ more → byte ≡ 32)
    → Behind rest (drop 1 rest)
behind_here [] blank = refl
behind_here (byte ∷ more) blank = (blank byte more refl, refl)

pub stands_here : (IsSo : List ℕ → Type 0) (text : List ℕ) → IsSo (first_part text)
    → Stands IsSo text (behind_part text)
stands_here IsSo text so = record {
  part = first_part text;
  after = drop (part_len text) text;
  is_so = so;
  spelled = sym (take-append-drop (part_len text) text);
  behind = behind_here (drop (part_len text) text) (λ byte more is.
      eqb-true byte 32 (not-false (byte == 32) (stops is_no_blank text more byte is)));
}

only_part : (part after rest : List ℕ) → list_all is_no_blank part ≡ true → Behind after rest
    → (part ≡ first_part (part ++ after)) × (rest ≡ behind_part (part ++ after))
only_part part [] rest h behind =
    let len = run_alone is_no_blank part h in
    let all = append-nil part in
    rw all (
      rw len (sym (sym (ap (take (length part)) (append-nil part)) ∙ take_at part [] (length part) refl)),
      rw len (behind ∙ sym (ap (drop 1) (sym (ap (drop (length part)) (append-nil part))
          ∙ drop_at part [] (length part) refl))),
    )
only_part part (byte ∷ more) rest h behind =
    let blank : byte ≡ 32 = behind.0 in
    let len = run_then is_no_blank part more 32 h refl in
    rw (blank, len) (
      sym (take_at part (32 ∷ more) (length part) refl),
      sym behind.1 ∙ sym (ap (drop 1) (drop_at part (32 ∷ more) (length part) refl)),
    )

-- a part without blanks is the bytes up to the first blank
pub stands_only : (IsSo : List ℕ → Type 0) (text rest : List ℕ) (h : Stands IsSo text rest)
    → list_all is_no_blank h.part ≡ true
    → (h.part ≡ first_part text) × (rest ≡ behind_part text)
stands_only IsSo text rest h plain =
    let same = only_part h.part h.after rest plain h.behind in
    (same.0 ∙ ap first_part (sym h.spelled), same.1 ∙ ap behind_part (sym h.spelled))

-- no name stands where the part at the start is none
pub lacks_name : (most : ℕ) (text : List ℕ) → (IsName most (first_part text) → ⊥)
    → (rest : List ℕ) → Stands (IsName most) text rest → ⊥
lacks_name most text not_so rest h =
    not_so (subst (IsName most) (stands_only (IsName most) text rest h
    (visible_no_blanks h.part h.is_so.visible)).0 h.is_so)

-- ---- the visible bytes at the start

visible_run : (text : List ℕ) → list_all is_no_blank (take (prefix_len is_visible text) text) ≡ true
visible_run text = visible_no_blanks (take (prefix_len is_visible text) text) (all_taken is_visible text)

-- where a blank or the end comes after them, they are the part at the start
pub visible_first : (text after rest : List ℕ) → after ≡ drop (prefix_len is_visible text) text → Behind after rest
    → (take (prefix_len is_visible text) text ≡ first_part text) × (rest ≡ behind_part text)
visible_first text after rest is behind =
    let len = prefix_len is_visible text in
    let whole = ap (λ (t : List ℕ). take len text ++ t) is ∙ take-append-drop len text in
    let same = only_part (take len text) after rest (visible_run text) behind in
    (same.0 ∙ ap first_part whole, same.1 ∙ ap behind_part whole)

pub behind_end : (after rest : List ℕ) → Behind after rest → is_end after ≡ true
behind_end [] rest h = refl
behind_end (byte ∷ bytes) rest h = eq-eqb byte 32 h.0

visible_then : (part after rest : List ℕ) → list_all is_visible part ≡ true → Behind after rest
    → prefix_len is_visible (part ++ after) ≡ length part
visible_then part [] rest all h = omega (arith, run_again is_visible part [] all)
visible_then part (byte ∷ more) rest all h = rw h.0 (run_then is_visible part more 32 all refl)

-- after a part that is visible comes a blank, or the end
pub visible_ends : (text : List ℕ) → list_all is_visible (first_part text) ≡ true
    → is_end (drop (prefix_len is_visible text) text) ≡ true
visible_ends text all =
    let h = stands_here (λ part. part ≡ first_part text) text refl in
    let len = visible_then h.part h.after (behind_part text) (ap (list_all is_visible) h.is_so ∙ all) h.behind in
    ap (λ (t : List ℕ). is_end (drop (prefix_len is_visible t) t)) h.spelled
    ∙ ap (λ (n : ℕ). is_end (drop n (h.part ++ h.after))) len
    ∙ ap is_end (drop_at h.part h.after (length h.part) refl)
    ∙ behind_end h.after (behind_part text) h.behind
