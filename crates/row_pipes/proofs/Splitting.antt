-- What `split_once` of std says, in the words of the pipe `extract`.
use Rattle.std.proofs.Common.{◌≡◌, ◌≢◌, ℕ, zero, suc, ◌+◌, ◌<◌, ◌≤◌, true, false, List, [], ◌∷◌, ◌++◌, length, take}
use Rattle.std.proofs.Common.{drop, Option, None, Some, Bor, refl, ◌∙◌, arith}
use Rattle.std.proofs.lemmas.Bool.Decides.{Decides-eqb}
use Rattle.std.proofs.lemmas.Grind.{common_steps}
use Rattle.std.proofs.lemmas.Slice.Eq.{starts_is}
use Rattle.std.specs.List.{starts_with}
use Rattle.std.specs.Option.{option_map}
use Rattle.std.specs.Prelude.{MatchOption, nat_eq, unwrap_or}
use Rattle.std.specs.Str.Pattern.{FindsText, LacksTextAt, SplitsAroundMatch}
use Rattle.vl_row.specs.Field.{is_empty}
use Rattle.lq_ast.specs.Made.{left_after, part_before, split_once}

-- ---- whether a text begins with another

begins : (text s rest : List ℕ) → s ≡ text ++ rest → starts_with nat_eq s text ≡ true
begins text s rest e = (starts_is Decides-eqb s text (starts_with nat_eq s text) refl).1 rest e

begins_not : (text s : List ℕ) → ((rest : List ℕ) → s ≢ text ++ rest) → starts_with nat_eq s text ≡ false
begins_not text s lacks = grind (arith, (starts_is Decides-eqb s text (starts_with nat_eq s text) refl).0, lacks)

pub filled : (byte : ℕ) (text : List ℕ) → is_empty (byte ∷ text) ≡ false
filled byte text = grind (arith, common_steps)

-- ---- where a text occurs first

nowhere : (text s : List ℕ) → ((i : ℕ) → i ≤ length s → LacksTextAt text s i) → split_once text s ≡ None
nowhere [] [] lacks = absurd (lacks 0 (omega arith) [] refl)
nowhere (x ∷ text) [] lacks = rw filled refl
nowhere text (byte ∷ s) lacks =
    let later : split_once text s ≡ None = nowhere text s (λ i below. lacks (suc i) (omega arith)) in
    let here : starts_with nat_eq (byte ∷ s) text ≡ false = begins_not text (byte ∷ s) (lacks 0 (omega arith)) in
    rw (here, later) refl

somewhere : (text s : List ℕ) (i j : ℕ) → j ≡ i + length text → j ≤ length s
    → ((k : ℕ) → k < i → LacksTextAt text s k) → drop i s ≡ text ++ drop j s
    → split_once text s ≡ Some (take i s, drop j s)
somewhere [] [] zero zero ends inside lacks here = refl
somewhere [] [] zero (suc j) ends inside lacks here = absurd (omega arith)
somewhere (x ∷ text) [] zero j ends inside lacks here = absurd (omega arith)
somewhere text [] (suc i) j ends inside lacks here = absurd (omega arith)
somewhere text (byte ∷ s) zero j ends inside lacks here =
    let length_is : length text ≡ j = omega arith in
    rw (begins text (byte ∷ s) (drop j (byte ∷ s)) here, length_is) refl
somewhere text (byte ∷ s) (suc i) zero ends inside lacks here = absurd (omega arith)
somewhere text (byte ∷ s) (suc i) (suc j) ends inside lacks here =
    let apart : starts_with nat_eq (byte ∷ s) text ≡ false = begins_not text (byte ∷ s) (lacks 0 (omega arith)) in
    let later : split_once text s ≡ Some (take i s, drop j s) =
    somewhere text s i j (omega arith) (omega arith) (λ k below. lacks (suc k) (omega arith)) here in
    rw (apart, later) refl

-- ---- what `split_once` of std returns

abbrev pub Parts : Type 0
Parts = Bor (List ℕ) × Bor (List ℕ)

abbrev pub IsSplit : List ℕ → List ℕ → Option Parts → Type 0
IsSplit text s r = MatchOption r (FindsText text s None) (λ x. SplitsAroundMatch (FindsText text) s x.0.now x.1.now)

splits : (text s : List ℕ) (r : Option Parts) → IsSplit text s r
    → split_once text s ≡ option_map (λ x. (x.0.now, x.1.now)) r
splits text s None h = nowhere text s h
splits text s (Some x) h =
    somewhere text s h.0 h.1 h.2.1.ends (omega arith) h.2.0 h.2.1.split ∙ rw (h.3, h.4) refl

pub part_before-parts : (text s : List ℕ) (r : Option Parts) (none : Parts) → IsSplit text s r → none.0.now ≡ []
    → (unwrap_or r none).0.now ≡ part_before (split_once text s)
part_before-parts text s None none h empty = rw (splits text s None h) empty
part_before-parts text s (Some x) none h empty = rw (splits text s (Some x) h) refl

pub left_after-parts : (text s : List ℕ) (r : Option Parts) (none : Parts) → IsSplit text s r → none.1.now ≡ []
    → (unwrap_or r none).1.now ≡ unwrap_or (left_after text (Some s)) []
left_after-parts text s None none h empty = rw (splits text s None h) empty
left_after-parts text s (Some x) none h empty = rw (splits text s (Some x) h) refl
