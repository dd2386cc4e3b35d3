use Rattle.std.proofs.Common.{◌≡◌, ◌-◌, ◌<◌, ◌∙◌, ℕ, List, arith, get_or, length, subst, sym}
use Rattle.std.specs.List.{AllByRecursion}
use Rattle.std.proofs.lemmas.List.Elements.{All-from_recursion, All-get_or}
use Rattle.std.proofs.lemmas.List.Sorted.{all_adjacent_more}
use Rattle.log_model.specs.History.{Numbered}
use Rattle.block_format.specs.Rows.{IsBlock}
use Rattle.part_file.specs.Followed.{IsFollowedBy}
use Rattle.part_file.proofs.FollowedLaws.{get-any}
use Rattle.part_file.proofs.followed.are_followed.Goals as goal

one : (blocks : List (List Numbered)) (i : ℕ) (block : List Numbered) → i < length blocks → block ≡ get_or blocks i block
    → AllByRecursion IsBlock blocks → IsBlock block
one blocks i block lt is each =
    subst IsBlock (sym is) (All-get_or IsBlock blocks i block lt (All-from_recursion IsBlock blocks each))

two : (blocks : List (List Numbered)) (i : ℕ) (a b d : List Numbered) → i < length blocks → a ≡ get_or blocks (i - 1) a
    → b ≡ get_or blocks i b → IsFollowedBy a b → IsFollowedBy (get_or blocks (i - 1) d) (get_or blocks i d)
two blocks i a b d lt p q followed =
    subst (λ (x : List Numbered). IsFollowedBy x (get_or blocks i d)) (p ∙ get-any blocks (i - 1) a d (omega (arith, lt)))
    (subst (IsFollowedBy a) (q ∙ get-any blocks i b d lt) followed)

pub is_followed-requires : goal.is_followed-requires
is_followed-requires c = record {
  block = one c.args.blocks.now (c.loop-i.i - 1) c.index-blocks-i.result (omega (arith, c.loop-i-test.true))
      c.index-blocks-i.is c.requires;
  next = one c.args.blocks.now c.loop-i.i c.index-blocks-i-in-loop-i.result c.loop-i-test.true
      c.index-blocks-i-in-loop-i.is c.requires;
}

pub loop-i-preserved : goal.loop-i-preserved
loop-i-preserved c =
    all_adjacent_more c.args.blocks.now IsFollowedBy c.loop-i.i (omega (arith, c.loop-i.auto.i)) c.loop-i.invariant (λ d.
    two c.args.blocks.now c.loop-i.i c.index-blocks-i.result c.index-blocks-i-in-loop-i.result d c.loop-i-test.true
    c.index-blocks-i.is c.index-blocks-i-in-loop-i.is (c.in_ok-is_followed.ensures c.if-not-branch.false))
