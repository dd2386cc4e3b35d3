-- Lists of requests: they stay, whatever follows, they can be longer by one, and the bytes begin with one list.
use Rattle.std.proofs.Common.{◌≡◌, ◌⊎◌, ℕ, Bool, true, false, List, [], ◌∷◌, ◌++◌, length}
use Rattle.std.proofs.Common.{refl, ap, sym, subst, ◌∙◌, inl, inr, arith, append_assoc, append-nil, length-append}
use Rattle.std.proofs.lemmas.List.{nil_from_length}
use Rattle.http_in.specs.Faults.{IsInside}
use Rattle.http_in.specs.Message.{Asked, Begins}
use Rattle.http_in.specs.Requests.{AreAllRequests, AreRequests, EndsSo, RequestsEnd, asked_to_close, closed_by_request}
use Rattle.http_in.specs.Requests.{ended_inside, ended_whole, has_fault, may_go_on}
use Rattle.http_in.proofs.StayLemmas.{Begins-more}
use Rattle.http_in.proofs.UniqueLemmas.{Begins-unique, Begins-used, no_fault, not_empty, not_inside}

-- requests stay, whatever follows
pub AreRequests-later : (bytes rest more : List ℕ) (list : List Asked) → AreRequests bytes list rest
    → AreRequests (bytes ++ more) list (rest ++ more)
AreRequests-later bytes rest more [] a = ap (λ l. l ++ more) a
AreRequests-later bytes rest more (first ∷ later) a =
    (a.0 ++ more, Begins-more bytes a.0 more first a.1, a.2, AreRequests-later a.0 rest more later a.3)

-- one request more, where the last one did not ask to close
pub AreRequests-more : (bytes mid rest : List ℕ) (list : List Asked) (asked : Asked) → asked_to_close list ≡ false
    → AreRequests bytes list mid → Begins mid asked rest → AreRequests bytes (list ++ asked ∷ []) rest
AreRequests-more bytes mid rest [] asked stays a b =
    (rest, subst (λ l. Begins l asked rest) (sym a) b, λ _. refl, refl)
AreRequests-more bytes mid rest (first ∷ []) asked stays a b =
    (a.0, a.1, λ closes. cc, AreRequests-more a.0 mid rest [] asked refl a.3 b)
AreRequests-more bytes mid rest (first ∷ next ∷ later) asked stays a b = (
  a.0,
  a.1,
  λ closes. absurd (not_nil next later (a.2 closes)),
  AreRequests-more a.0 mid rest (next ∷ later) asked
      stays a.3 b,
)
  where
    not_nil : (x : Asked) (xs : List Asked) → x ∷ xs ≡ [] → ⊥
    not_nil x xs e = cc

-- whether the last one asks to close, of a list that is longer by one
pub asked_to_close-more : (list : List Asked) (asked : Asked) → asked_to_close (list ++ asked ∷ []) ≡ asked.last
asked_to_close-more [] asked = refl
asked_to_close-more (first ∷ []) asked = refl
asked_to_close-more (first ∷ next ∷ later) asked = asked_to_close-more (next ∷ later) asked

-- what the requests take of the bytes
pub AreRequests-used : (bytes rest : List ℕ) (list : List Asked) → AreRequests bytes list rest
    → (used : List ℕ) × (bytes ≡ used ++ rest)
AreRequests-used bytes rest [] a = ([], a)
AreRequests-used bytes rest (first ∷ later) a =
    let one = Begins-used bytes a.0 first a.1 in
    let more = AreRequests-used a.0 rest later a.3 in
    (one.0 ++ more.0, one.1 ∙ ap (λ l. one.0 ++ l) more.1 ∙ sym (append_assoc one.0 more.0 rest))

-- no further request follows the list
abbrev pub HasNoNext : List Asked → List ℕ → Type 0
HasNoNext list rest = asked_to_close list ≡ false → (asked : Asked) (after : List ℕ) → Begins rest asked after → ⊥

-- where none follows the list, none of another list does
none_next : (rest other : List ℕ) (ys : List Asked) → ((asked : Asked) (after : List ℕ) → Begins rest asked after → ⊥)
    → AreRequests rest ys other → ys ≡ []
none_next rest other [] none q = refl
none_next rest other (b ∷ ys) none q = absurd (none b q.0 q.1)

none_later : (rest other : List ℕ) (a b : Asked) (ys : List Asked) → HasNoNext (a ∷ []) rest → a ≡ b
    → (b.last ≡ true → ys ≡ []) → AreRequests rest ys other → ys ≡ []
none_later rest other a b ys none same closes q = by_last a.last refl
  where
    by_last : (t : Bool) → a.last ≡ t → ys ≡ []
    by_last true is = closes (sym (ap (λ (x : Asked). x.last) same) ∙ is)
    by_last false is = none_next rest other ys (none is) q

-- where the first list has no next request, any other list is a front of it
pub requests_unique : (bytes rest other : List ℕ) (xs ys : List Asked) → HasNoNext xs rest → AreRequests bytes xs rest
    → AreRequests bytes ys other → (more : List Asked) × (xs ≡ ys ++ more)
requests_unique bytes rest other xs [] none p q = (xs, refl)
requests_unique bytes rest other [] (b ∷ ys) none p q =
    absurd (none refl b q.0 (subst (λ l. Begins l b q.0) p q.1))
requests_unique bytes rest other (a ∷ []) (b ∷ ys) none p q =
    let same = Begins-unique bytes p.0 q.0 a b p.1 q.1 in
    let over = none_later rest other a b ys none same.0 q.2
    (subst (λ l. AreRequests l ys other) (sym same.1 ∙ p.3) q.3) in
    ([], ap (λ x. x ∷ []) same.0 ∙ ap (λ l. b ∷ l) (sym over) ∙ sym (append-nil (b ∷ ys)))
requests_unique bytes rest other (a ∷ next ∷ xs) (b ∷ ys) none p q =
    let same = Begins-unique bytes p.0 q.0 a b p.1 q.1 in
    let later = requests_unique p.0 rest other (next ∷ xs) ys none p.3
    (subst (λ l. AreRequests l ys other) (sym same.1) q.3) in
    (later.0, ap (λ x. x ∷ next ∷ xs) same.0 ∙ ap (λ l. b ∷ l) later.1)

-- where a list ends, no further request follows it
pub EndsSo-last : (list : List Asked) (start : ℕ) (rest : List ℕ) (ended : Bool) (end : RequestsEnd)
    → EndsSo list start rest ended end → HasNoNext list rest
EndsSo-last list start rest ended closed_by_request e = λ stays asked after b. cc
EndsSo-last list start rest ended (has_fault fault) e = λ _ asked after b.
    no_fault start rest after asked fault b e.1
EndsSo-last list start rest ended ended_whole e = λ _ asked after b.
    not_empty after asked (subst (λ l. Begins l asked after) e.1 b)
EndsSo-last list start rest ended (ended_inside at) e = λ _ asked after b. not_inside rest after asked b e.3
EndsSo-last list start rest ended may_go_on e = λ _ asked after b. waiting asked after b e.1
  where
    waiting : (asked : Asked) (after : List ℕ) → Begins rest asked after → (rest ≡ []) ⊎ IsInside rest → ⊥
    waiting asked after b (inl none) = not_empty after asked (subst (λ l. Begins l asked after) none b)
    waiting asked after b (inr inside) = not_inside rest after asked b inside

-- so all the requests are one list, and whatever requests were found are its first
pub all_requests_first : (bytes other : List ℕ) (ended : Bool) (xs ys : List Asked) (end : RequestsEnd)
    → AreAllRequests bytes ended xs end → AreRequests bytes ys other → (more : List Asked) × (xs ≡ ys ++ more)
all_requests_first bytes other ended xs ys end p q =
    requests_unique bytes p.rest other xs ys (EndsSo-last xs (length p.used) p.rest ended end p.ends) p.requests q

pub all_requests_unique : (bytes : List ℕ) (ended over : Bool) (xs ys : List Asked) (end last : RequestsEnd)
    → AreAllRequests bytes ended xs end → AreAllRequests bytes over ys last → xs ≡ ys
all_requests_unique bytes ended over xs ys end last p q =
    let one = all_requests_first bytes q.rest ended xs ys end p q.requests in
    let two = all_requests_first bytes p.rest over ys xs last q p.requests in
    let none : one.0 ≡ [] = nil_from_length one.0
    (omega (arith, ap length one.1, ap length two.1, length-append ys one.0, length-append xs two.0)) in
    one.1 ∙ ap (λ l. ys ++ l) none ∙ append-nil ys
