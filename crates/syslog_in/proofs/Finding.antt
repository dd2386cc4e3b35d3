-- The run of bytes before the first one that ends it.
use Rattle.std.proofs.Common.{◌≡◌, ℕ, ◌+◌, ◌-◌, Bool, not, List, length, take, drop, sym, ap}
use Rattle.std.proofs.Common.{arith}
use Rattle.std.proofs.Common.{◌∙◌}
use Rattle.std.specs.List.{prefix_len}
use Rattle.std.proofs.lemmas.Bool.{not_from_true, not_from_false, false_from_ne_true}
use Rattle.std.proofs.lemmas.List.{take_rest, drop-drop, drop_all}
use Rattle.std.proofs.lemmas.List.Sums.{prefix_len_is}
use Rattle.memchr.specs.Find.{NoneBefore, Nowhere, Passes}
use Rattle.syslog_in.specs.DataReading.{is_no_blank, behind_part}

pub found : (test : ℕ → Bool) (bytes : List ℕ) (end : ℕ) → NoneBefore (Passes test bytes) 0 (length bytes) end
    → Passes test bytes end → end ≡ prefix_len (λ byte. not (test byte)) bytes
found test bytes end none here =
    sym (prefix_len_is (λ byte. not (test byte)) bytes end 0 (omega (arith, none.high))
    (λ k below. not_from_false _ (false_from_ne_true _ (none.before k (omega arith) below)))
    (λ _. not_from_true _ here))

pub not_found : (test : ℕ → Bool) (bytes : List ℕ) → Nowhere (Passes test bytes) 0 (length bytes)
    → length bytes ≡ prefix_len (λ byte. not (test byte)) bytes
not_found test bytes none =
    sym (prefix_len_is (λ byte. not (test byte)) bytes (length bytes) 0 (omega arith)
    (λ k below. not_from_false _ (false_from_ne_true _ (none k (omega arith) below))) (λ h. absurd (omega arith)))

pub behind_blank : (text : List ℕ) (end : ℕ) → end ≡ prefix_len is_no_blank text
    → take (length text - (end + 1)) (drop (end + 1) text) ≡ behind_part text
behind_blank text end is =
    take_rest text (end + 1) ∙ sym (drop-drop 1 end text) ∙ ap (λ (n : ℕ). drop 1 (drop n text)) is

pub behind_all : (text : List ℕ) → length text ≡ prefix_len is_no_blank text
    → take (length text - length text) (drop (length text) text) ≡ behind_part text
behind_all text is =
    let all = drop_all (length text) text (omega arith) in
    take_rest text (length text) ∙ all ∙ ap (drop 1) (sym all) ∙ ap (λ (n : ℕ). drop 1 (drop n text)) is
