-- Blocks that are opened one after another if they are admitted, and the steps that they count.
use Rattle.std.proofs.Common.{◌≡◌, ℕ, zero, suc, ◌+◌, ◌-◌, ◌^◌, ◌<◌, ◌≤◌, Bool, true, false, cond, List, [], ◌∷◌, ◌++◌}
use Rattle.std.proofs.Common.{Some, flat_map, get_or, filter}
use Rattle.std.proofs.Common.{drop, length, min, subst, take, ap, sym, ◌∙◌, add-one, arith}
use Rattle.std.proofs.lemmas.Grind.{flat_map-append}
use Rattle.std.proofs.lemmas.List.{append-nil, append_assoc, length-append, take-append-drop, take_more}
use Rattle.std.proofs.lemmas.List.Elements.{filter-append}
use Rattle.std.proofs.lemmas.Option.{none-some}
use Rattle.std.specs.List.{AllByRecursion, slice_get}
use Rattle.log_model.specs.History.{Numbered}
use Rattle.block_body.specs.Outlines.{outline_of}
use Rattle.lq_prune.specs.Need.{TheNeed, admits}
use Rattle.part_model.specs.Filling.{blocks_of}
use Rattle.lq_filter.specs.declared.fault.PrepareFault.{PrepareFault}
use Rattle.lq_filter.specs.declared.fault.PrepareFault.TheVariants as preparing
use Rattle.query_run.specs.Answer.{preparing_fault, searching_fault}
use Rattle.query_run.specs.Opened.{Counts, CountsAtMost, CountsUntil, CountsUntilFault, admitted_by}
use Rattle.query_run.specs.declared.fault.SearchFault.{SearchFault}
use Rattle.query_run.specs.declared.fault.SearchFault.TheVariants.{ManyRows, Overflow, Memory}

-- ---- steps

pub counts_none : (old : ℕ) → old ≤ 2 ^ 64 - 1 → Counts old 0 old
counts_none old fits = omega (arith, fits)

pub counts_more : (old steps now new : ℕ) → Counts old steps now → new ≡ min (now + 1) (2 ^ 64 - 1)
    → Counts old (steps + 1) new
counts_more old steps now new before is = omega (arith, before, is)

pub counts_both : (old steps now more new : ℕ) → Counts old steps now → Counts now more new
    → Counts old (steps + more) new
counts_both old steps now more new before after = omega (arith, before, after)

-- some of the steps
pub counts_some : (old steps all new : ℕ) → old ≤ 2 ^ 64 - 1 → Counts old steps new → steps ≤ all
    → CountsAtMost old all new
counts_some old steps all new fits counted few =
    record { forward = omega (arith, fits, counted); within = omega (arith, counted, few) }

pub counts_some_more : (old steps now more all new : ℕ) → old ≤ 2 ^ 64 - 1 → Counts old steps now
    → CountsAtMost now more new → steps + more ≤ all → CountsAtMost old all new
counts_some_more old steps now more all new fits before after few =
    let forward = after.forward in let within = after.within in
    record {
      forward = omega (arith, fits, before, forward);
      within = omega (arith, before, within, few);
    }

-- what a search that fails counted
pub counts_until : (fault : SearchFault) (old blocks new : ℕ) → old ≤ 2 ^ 64 - 1 → Counts old blocks new
    → CountsUntil fault old blocks new
counts_until ManyRows old blocks new fits counted = counted
counts_until (Overflow name) old blocks new fits counted = counted
counts_until Memory old blocks new fits counted = counts_some old blocks blocks new fits counted (omega arith)

pub counts_query : (fault : SearchFault) (old blocks new : ℕ) → CountsUntil fault old blocks new
    → CountsUntilFault (searching_fault fault) old blocks new
counts_query ManyRows old blocks new counted = counted
counts_query (Overflow name) old blocks new counted = counted
counts_query Memory old blocks new counted = counted

-- nothing was opened
pub counts_unprepared : (fault : PrepareFault) (old blocks new : ℕ) → old ≤ 2 ^ 64 - 1 → new ≡ old
    → CountsUntilFault (preparing_fault fault) old blocks new
counts_unprepared (preparing.RegexRefused nth) old blocks new fits same = same
counts_unprepared preparing.Memory old blocks new fits same =
    record { forward = omega (arith, same); within = omega (arith, same, fits) }

-- ---- lists

take_part : {X : Type 0} (parts : List X) (i : ℕ) (part : X) → slice_get parts i ≡ Some part
    → take (suc i) parts ≡ take i parts ++ part ∷ []
take_part [] i part is = absurd (none-some part is)
take_part (p ∷ ps) zero part is = let same : Some p ≡ Some part = is in cc
take_part (p ∷ ps) (suc i) part is = ap (λ l. p ∷ l) (take_part ps i part is)

-- what one part more has
pub part_more : {X A : Type 0} (f : X → List A) (parts : List X) (i : ℕ) (part : X) → slice_get parts i ≡ Some part
    → flat_map f (take (i + 1) parts) ≡ flat_map f (take i parts) ++ f part
part_more f parts i part is =
    ap (λ n. flat_map f (take n parts)) (add-one i) ∙ ap (flat_map f) (take_part parts i part is)
    ∙ flat_map-append f (take i parts) (part ∷ []) ∙ ap (λ l. flat_map f (take i parts) ++ l) (append-nil (f part))

pub all_joined : {A : Type 0} (P : A → Type 0) (xs ys : List A) → AllByRecursion P xs → AllByRecursion P ys
    → AllByRecursion P (xs ++ ys)
all_joined P [] ys first last = last
all_joined P (x ∷ xs) ys first last = (first.0, all_joined P xs ys first.1 last)

-- ---- blocks that are admitted

module _ (need : TheNeed) where
  abbrev is_admitted : List Numbered → Bool
  is_admitted rows = admits need (outline_of rows)

  -- some blocks, and others
  pub admitted_joined : (xs ys : List (List Numbered))
      → admitted_by need (xs ++ ys) ≡ admitted_by need xs ++ admitted_by need ys
  admitted_joined xs ys = filter-append is_admitted xs ys

  pub admitted_within : (n : ℕ) (blocks : List (List Numbered))
      → length (admitted_by need (take n blocks)) ≤ length (admitted_by need blocks)
  admitted_within n blocks =
      omega (
        arith,
        ap (λ l. length (admitted_by need l)) (sym (take-append-drop n blocks)),
        ap length (admitted_joined (take n blocks) (drop n blocks)),
        length-append (admitted_by need (take n blocks)) (admitted_by need (drop n blocks)),
      )

  module _ (blocks : List (List Numbered)) (i : ℕ) (block : List Numbered) (below : i < length blocks)
      (is : block ≡ get_or blocks i block) where
    one_more : take (i + 1) blocks ≡ take i blocks ++ block ∷ []
    one_more = take_more blocks i block below ∙ ap (λ b. take i blocks ++ b ∷ []) (sym is)

    more : (admitted : Bool) → is_admitted block ≡ admitted → admitted_by need (take (i + 1) blocks)
        ≡ admitted_by need (take i blocks) ++ cond admitted (block ∷ []) []
    more admitted so =
        ap (admitted_by need) one_more ∙ admitted_joined (take i blocks) (block ∷ [])
        ∙ ap (λ b. admitted_by need (take i blocks) ++ cond b (block ∷ []) []) so

    -- a block is admitted, and opened
    pub opens : (before opened after : List (List Numbered)) → is_admitted block ≡ true
        → opened ≡ before ++ admitted_by need (take i blocks) → after ≡ opened ++ block ∷ []
        → after ≡ before ++ admitted_by need (take (i + 1) blocks)
    opens before opened after so same pushed =
        pushed ∙ ap (λ l. l ++ block ∷ []) same ∙ append_assoc before (admitted_by need (take i blocks)) (block ∷ [])
        ∙ ap (λ l. before ++ l) (sym (more true so))

    -- another stays closed
    pub leaves : (before opened : List (List Numbered)) → is_admitted block ≡ false
        → opened ≡ before ++ admitted_by need (take i blocks)
        → opened ≡ before ++ admitted_by need (take (i + 1) blocks)
    leaves before opened so same =
        same ∙ ap (λ l. before ++ l)
        (sym (more false so ∙ append-nil (admitted_by need (take i blocks))))

    pub count_opened : is_admitted block ≡ true
        → length (admitted_by need (take (i + 1) blocks)) ≡ length (admitted_by need (take i blocks)) + 1
    count_opened so = ap length (more true so) ∙ length-append (admitted_by need (take i blocks)) (block ∷ [])

    pub count_left : is_admitted block ≡ false
        → length (admitted_by need (take (i + 1) blocks)) ≡ length (admitted_by need (take i blocks))
    count_left so = ap length (more false so ∙ append-nil (admitted_by need (take i blocks)))

    pub all_more : (P : List Numbered → Type 0) → AllByRecursion P (take i blocks) → P block
        → AllByRecursion P (take (i + 1) blocks)
    all_more P first it = subst (AllByRecursion P) (sym one_more) (all_joined P (take i blocks) (block ∷ []) first (it, tt))

  -- ---- one part more

  module _ (parts : List (List Numbered)) (i : ℕ) (part : List Numbered) (is : slice_get parts i ≡ Some part) where
    pub part_admitted : admitted_by need (flat_map blocks_of (take (i + 1) parts))
        ≡ admitted_by need (flat_map blocks_of (take i parts)) ++ admitted_by need (blocks_of part)
    part_admitted =
        ap (admitted_by need) (part_more blocks_of parts i part is)
        ∙ admitted_joined (flat_map blocks_of (take i parts)) (blocks_of part)

    pub part_count : length (admitted_by need (flat_map blocks_of (take i parts)))
        + length (admitted_by need (blocks_of part))
        ≡ length (admitted_by need (flat_map blocks_of (take (i + 1) parts)))
    part_count =
        sym (ap length part_admitted
        ∙ length-append (admitted_by need (flat_map blocks_of (take i parts))) (admitted_by need (blocks_of part)))

    -- the first parts, and one more, have no more than all
    pub part_within : length (admitted_by need (flat_map blocks_of (take i parts)))
        + length (admitted_by need (blocks_of part)) ≤ length (admitted_by need (flat_map blocks_of parts))
    part_within =
        let rest = admitted_by need (flat_map blocks_of (drop (i + 1) parts)) in
        omega (
          arith,
          part_count,
          ap (λ l. length (admitted_by need (flat_map blocks_of l))) (sym (take-append-drop (i + 1) parts)),
          ap (λ l. length (admitted_by need l))
              (flat_map-append blocks_of (take (i + 1) parts) (drop (i + 1) parts)),
          ap length (admitted_joined (flat_map blocks_of (take (i + 1) parts)) (flat_map blocks_of (drop (i + 1) parts))),
          length-append (admitted_by need (flat_map blocks_of (take (i + 1) parts))) rest,
        )
