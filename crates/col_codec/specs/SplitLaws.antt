-- Texts in one buffer, by the places at which they end.
use Rattle.std.proofs.Common.{◌≡◌, ℕ, zero, suc, ◌+◌, ◌-◌, ◌<◌, ◌≤◌, true, List, [], ◌∷◌, ◌++◌, length}
use Rattle.std.proofs.Common.{get_or, take, drop, Some, refl, sym, ap, subst, ◌∙◌, arith, drop-cons}
use Rattle.std.specs.Prelude.{slice_get, ◌&&◌}
use Rattle.std.specs.List.{list_all, flat_map}
use Rattle.std.specs.Str.{IsAscii, is_utf8, IsUtf8}
use Rattle.std.proofs.lemmas.List.{length-append, length-drop, length-take, drop-append-le, take-append-le}
use Rattle.std.proofs.lemmas.List.{take-append-drop, drop-take, drop-drop, take_all, take_at, drop_at}
use Rattle.std.proofs.lemmas.List.{take-take, append_assoc}
use Rattle.std.proofs.lemmas.List.Sums.{fold-append, sum_by-cons}
use Rattle.std.proofs.lemmas.List.Folds.{list_all-append}
use Rattle.std.proofs.lemmas.List.Concat.{flat_map-cons}
use Rattle.std.proofs.lemmas.Str.{IsAscii-drop, IsAscii-take, IsUtf8-from_ascii, is_utf8-from_IsUtf8}
use Rattle.byte_format.proofs.Cases.{both_true}
use Rattle.col_codec.specs.Split.{IsRising, IsSplit, last_from, start_in}
use Rattle.col_codec.specs.Texts.{last_of, parts, ends_of, total}

pub last-push : (ends : List ℕ) (end : ℕ) → last_of (ends ++ end ∷ []) ≡ end
last-push ends end = fold-append (λ (last end : ℕ). end) 0 ends (end ∷ [])

pub rising-push : (from : ℕ) (ends : List ℕ) (end : ℕ) → IsRising from ends → last_from from ends ≤ end
    → IsRising from (ends ++ end ∷ [])
rising-push from [] end r le = (le, tt)
rising-push from (e ∷ es) end r le = (r.0, rising-push e es end r.1 le)

pub rising-last : (from : ℕ) (ends : List ℕ) → IsRising from ends → from ≤ last_from from ends
rising-last from [] r = omega arith
rising-last from (e ∷ es) r = omega (arith, r.0, rising-last e es r.1)

pub parts_length : (bytes : List ℕ) (from : ℕ) (ends : List ℕ) → length (parts bytes from ends) ≡ length ends
parts_length bytes from [] = refl
parts_length bytes from (e ∷ es) = ap suc (parts_length bytes e es)

-- one text more, after the others
part-kept : (bytes t : List ℕ) (from end : ℕ) → from ≤ end → end ≤ length bytes
    → take (end - from) (drop from (bytes ++ t)) ≡ take (end - from) (drop from bytes)
part-kept bytes t from end a b =
    ap (take (end - from)) (drop-append-le from bytes t (omega arith))
    ∙ take-append-le (end - from) (drop from bytes) t (omega (arith, length-drop from bytes))

pub parts-push : (bytes t : List ℕ) (from : ℕ) (ends : List ℕ) (end : ℕ) → IsRising from ends
    → last_from from ends ≡ length bytes
    → end ≡ length bytes + length t → parts (bytes ++ t) from (ends ++ end ∷ []) ≡ parts bytes from ends ++ t ∷ []
parts-push bytes t from [] end r last e =
    let size : end - from ≡ length t = omega (arith, last, e) in
    let rest : drop from (bytes ++ t) ≡ t = drop_at bytes t from (sym last) in
    ap (λ (l : List ℕ). l ∷ []) (ap (λ (n : ℕ). take n (drop from (bytes ++ t))) size ∙ ap (take (length t)) rest
    ∙ take_all (length t) t (omega arith))
parts-push bytes t from (x ∷ xs) end r last e =
    let kept = part-kept bytes t from x r.0 (omega (arith, rising-last x xs r.1, last)) in
    ap (λ (l : List ℕ). l ∷ parts (bytes ++ t) x (xs ++ end ∷ [])) kept
    ∙ ap (λ (l : List (List ℕ)). take (x - from) (drop from bytes) ∷ l) (parts-push bytes t x xs end r.1 last e)

pub split-push : (bytes t ends : List ℕ) (end : ℕ) → IsSplit bytes ends → IsUtf8 t → end ≡ length bytes + length t
    → IsSplit (bytes ++ t) (ends ++ end ∷ [])
split-push bytes t ends end s utf8 e =
    let more = parts-push bytes t 0 ends end s.rising s.all e in
    let one : (is_utf8 t && true) ≡ true = rw (is_utf8-from_IsUtf8 t utf8) refl in
    record {
      rising = rising-push 0 ends end s.rising (omega (arith, s.all, e));
      all = last-push ends end ∙ e ∙ sym (length-append bytes t);
      utf8 = ap (list_all is_utf8) more ∙ list_all-append is_utf8 (parts bytes 0 ends) (t ∷ [])
          ∙ rw (s.utf8, is_utf8-from_IsUtf8 t utf8) refl;
    }

-- the text at a place
pub start-next : (from : ℕ) (ends : List ℕ) (i : ℕ) → i < length ends → start_in from ends (suc i) ≡ get_or ends i 0
start-next from [] i lt = absurd (omega (arith, lt))
start-next from (e ∷ es) zero lt = refl
start-next from (e ∷ es) (suc i) lt = start-next e es i (omega (arith, lt))

pub start-is : (ends : List ℕ) (i : ℕ) → 0 < i → i < length ends → start_in 0 ends i ≡ get_or ends (i - 1) 0
start-is ends zero some lt = absurd (omega (arith, some))
start-is ends (suc i) some lt = start-next 0 ends i (omega (arith, lt))
    ∙ ap (λ (n : ℕ). get_or ends n 0) (omega arith)

pub part-at : (bytes : List ℕ) (from : ℕ) (ends : List ℕ) (i : ℕ) → IsRising from ends
    → list_all is_utf8 (parts bytes from ends) ≡ true → i < length ends
    → (start_in from ends i ≤ get_or ends i 0) × (get_or ends i 0 ≤ last_from from ends)
    × (slice_get (parts bytes from ends) i ≡ Some (take (get_or ends i 0 - start_in from ends i) (drop
    (start_in from ends i) bytes)))
    × (is_utf8 (take (get_or ends i 0 - start_in from ends i) (drop (start_in from ends i) bytes)) ≡ true)
part-at bytes from [] i r u lt = absurd (omega (arith, lt))
part-at bytes from (e ∷ es) zero r u lt =
    let p = both_true (is_utf8 (take (e - from) (drop from bytes))) (list_all is_utf8 (parts bytes e es)) u in
    (r.0, rising-last e es r.1, refl, p.0)
part-at bytes from (e ∷ es) (suc i) r u lt =
    let p = both_true (is_utf8 (take (e - from) (drop from bytes))) (list_all is_utf8 (parts bytes e es)) u in
    part-at bytes e es i r.1 p.1 (omega (arith, lt))

-- ---- what is stored is what is spelled

between : (bytes : List ℕ) (from mid to : ℕ) → from ≤ mid → mid ≤ to
    → take (mid - from) (drop from bytes) ++ take (to - mid) (drop mid bytes) ≡ take (to - from) (drop from bytes)
between bytes from mid to a b =
    let whole = take (to - from) (drop from bytes) in
    let head : take (mid - from) (take (to - from) (drop from bytes))
    ≡ take (mid - from) (drop from bytes) = take-take (mid - from) (to - from) (drop from bytes) (omega arith) in
    let sum : mid - from + (to - mid) ≡ to - from = omega arith in
    let tail : drop (mid - from) (take (to - from) (drop from bytes)) ≡ take (to - mid) (drop mid bytes) =
    ap (λ (n : ℕ). drop (mid - from) (take n (drop from bytes))) (sym sum)
    ∙ drop-take (mid - from) (to - mid) (drop from bytes)
    ∙ ap (take (to - mid)) (drop-drop (mid - from) from bytes ∙ ap (λ (n : ℕ). drop n bytes) (omega arith)) in
    ap (λ (l : List ℕ). l ++ take (to - mid) (drop mid bytes)) (sym head)
    ∙ ap (λ (l : List ℕ). take (mid - from) (take (to - from) (drop from bytes)) ++ l) (sym tail)
    ∙ take-append-drop (mid - from) (take (to - from) (drop from bytes))

pub parts-joined : (bytes : List ℕ) (from : ℕ) (ends : List ℕ) → IsRising from ends
    → flat_map (λ t. t) (parts bytes from ends) ≡ take (last_from from ends - from) (drop from bytes)
parts-joined bytes from [] r =
    let none : from - from ≡ 0 = omega arith in
    sym (ap (λ (n : ℕ). take n (drop from bytes)) none)
parts-joined bytes from (e ∷ es) r =
    flat_map-cons (λ t. t) (take (e - from) (drop from bytes)) (parts bytes e es)
    ∙ ap (λ (l : List ℕ). take (e - from) (drop from bytes) ++ l) (parts-joined bytes e es r.1)
    ∙ between bytes from e (last_from e es) r.0 (rising-last e es r.1)

pub parts-ends : (bytes : List ℕ) (from : ℕ) (ends : List ℕ) → IsRising from ends → last_from from ends ≤ length bytes
    → ends_of from (parts bytes from ends) ≡ ends
parts-ends bytes from [] r le = refl
parts-ends bytes from (e ∷ es) r le =
    let size : from + length (take (e - from) (drop from bytes)) ≡ e =
    omega (arith, r.0, rising-last e es r.1, le, length-take (e - from) (drop from bytes), length-drop from bytes) in
    ap (λ (n : ℕ). n ∷ ends_of n (parts bytes e es)) size ∙ ap (λ (l : List ℕ). e ∷ l) (parts-ends bytes e es r.1 le)

pub parts-total : (bytes : List ℕ) (from : ℕ) (ends : List ℕ) → IsRising from ends
    → last_from from ends ≤ length bytes
    → total (parts bytes from ends) + from ≡ last_from from ends
parts-total bytes from [] r le = omega arith
parts-total bytes from (e ∷ es) r le =
    let sum = sum_by-cons length (take (e - from) (drop from bytes)) (parts bytes e es) in
    omega (
      arith,
      sum,
      r.0,
      rising-last e es r.1,
      le,
      length-take (e - from)
          (drop from bytes),
      length-drop from bytes,
      parts-total bytes e es r.1 le,
    )

-- ---- and what is spelled is read

pub ends-last : (from : ℕ) (ts : List (List ℕ)) → last_from from (ends_of from ts) ≡ from + total ts
ends-last from [] = omega arith
ends-last from (t ∷ ts) =
    let sum = sum_by-cons length t ts in
    omega (arith, sum, ends-last (from + length t) ts)

-- the parts are those of what stands from a place on
parts-from : (before bytes : List ℕ) (from : ℕ) (ts : List (List ℕ)) → length before ≡ from
    → bytes ≡ before ++ flat_map (λ t. t) ts → parts bytes from (ends_of from ts) ≡ ts
parts-from before bytes from [] len e = refl
parts-from before bytes from (t ∷ ts) len e =
    let joined : bytes ≡ before ++ (t ++ flat_map (λ t. t) ts) = e
    ∙ ap (λ (l : List ℕ). before ++ l) (flat_map-cons (λ t. t) t ts) in
    let rest : drop from bytes ≡ t ++ flat_map (λ t. t) ts = ap (drop from) joined
    ∙ drop_at before (t ++ flat_map (λ t. t) ts) from len in
    let size : from + length t - from ≡ length t = omega arith in
    let first : take (from + length t - from) (drop from bytes) ≡ t =
    ap (λ (n : ℕ). take n (drop from bytes)) size ∙ ap (take (length t)) rest
    ∙ take_at t (flat_map (λ t. t) ts) (length t) refl in
    let next = parts-from (before ++ t) bytes (from + length t) ts (omega (arith, len, length-append before t))
    (joined ∙ sym (append_assoc before t (flat_map (λ t. t) ts))) in
    ap (λ (l : List ℕ). l ∷ parts bytes (from + length t) (ends_of (from + length t) ts)) first
    ∙ ap (λ (l : List (List ℕ)). t ∷ l) next

pub parts-again : (ts : List (List ℕ)) → parts (flat_map (λ t. t) ts) 0 (ends_of 0 ts) ≡ ts
parts-again ts = parts-from [] (flat_map (λ t. t) ts) 0 ts refl refl

pub joined-length : (ts : List (List ℕ)) → length (flat_map (λ t. t) ts) ≡ total ts
joined-length [] = refl
joined-length (t ∷ ts) =
    let sum = sum_by-cons length t ts in
    omega (
      arith,
      sum,
      ap length (flat_map-cons (λ t. t) t ts),
      length-append t (flat_map
          (λ t. t) ts),
      joined-length ts,
    )

-- the rest of the texts, from one on
pub one-text : (bytes : List ℕ) (from : ℕ) (ends : List ℕ) (i end : ℕ) → IsRising from (drop i ends)
    → last_from from (drop i ends) ≡ length bytes
    → i < length ends → end ≡ get_or ends i 0
    → (from ≤ end) × (end ≤ length bytes) × IsRising end (drop (i + 1) ends)
    × (last_from end (drop (i + 1) ends) ≡ length bytes)
    × (list_all is_utf8 (parts bytes from (drop i ends))
    ≡ (is_utf8 (take (end - from) (drop from bytes)) && list_all is_utf8 (parts bytes end (drop (i + 1) ends))))
one-text bytes from ends i end r last lt e =
    let more : suc i ≡ i + 1 = omega arith in
    let cut : drop i ends ≡ end ∷ drop (i + 1) ends = drop-cons ends i 0 lt
    ∙ ap (λ (n : ℕ). get_or ends i 0 ∷ drop n ends) more ∙ ap (λ (n : ℕ). n ∷ drop (i + 1) ends) (sym e) in
    let r' : IsRising from (end ∷ drop (i + 1) ends) = subst (IsRising from) cut r in
    let last' : last_from end (drop (i + 1) ends) ≡ length bytes = sym (ap (last_from from) cut) ∙ last in (
      r'.0,
      omega (arith, rising-last end (drop (i + 1) ends) r'.1, last'),
      r'.1,
      last',
      ap (λ (l : List ℕ). list_all is_utf8 (parts bytes from l)) cut,
    )

-- parts of ASCII are UTF-8
pub ascii-parts : (bytes : List ℕ) (from : ℕ) (ends : List ℕ) → IsAscii bytes
    → list_all is_utf8 (parts bytes from ends) ≡ true
ascii-parts bytes from [] ascii = refl
ascii-parts bytes from (end ∷ ends) ascii =
    rw (is_utf8-from_IsUtf8 (take (end - from) (drop from bytes))
    (IsUtf8-from_ascii (take (end - from) (drop from bytes))
    (IsAscii-take (drop from bytes) (end - from) (IsAscii-drop bytes from ascii)))) (ascii-parts bytes end ends ascii)
