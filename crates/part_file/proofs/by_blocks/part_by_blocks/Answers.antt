use Rattle.std.proofs.Common.{List, subst, sym}
use Rattle.std.specs.List.{AllByRecursion}
use Rattle.log_model.specs.History.{Numbered}
use Rattle.block_format.specs.Rows.{IsBlock}
use Rattle.part_model.specs.Part.{ArePartRows}
use Rattle.part_model.specs.Filling.{rows_in_blocks}
use Rattle.part_file.specs.Followed.{AreFollowed}
use Rattle.part_file.proofs.FollowedLaws.{blocks-written, followed-filled, followed-part, sized-blocks}
use Rattle.part_file.proofs.by_blocks.part_by_blocks.Goals as goal

pub are_followed-requires : goal.are_followed-requires
are_followed-requires c =
    subst (AllByRecursion IsBlock) (sym c.as_slice.ensures.value) (sized-blocks c.in-Some.blocks.items (rw c.in-Some.is at
    c.in_ok-blocks.ensures.sized))

pub are_part_blocks-requires : goal.are_part_blocks-requires
are_part_blocks-requires c =
    subst (AllByRecursion IsBlock) (sym c.as_slice-2.ensures.value) (sized-blocks c.in-Some.blocks.items (rw c.in-Some.is
    at c.in_ok-blocks.ensures.sized))

pub of_blocks-requires-clause-part : goal.of_blocks-requires-clause-part
of_blocks-requires-clause-part c =
    followed-part c.in-Some.blocks.items (sized-blocks c.in-Some.blocks.items (rw c.in-Some.is at
    c.in_ok-blocks.ensures.sized)) (subst AreFollowed c.as_slice.ensures.value (c.in_ok-are_followed.ensures
    c.if-not-branch.false)) (subst (λ (l : List (List Numbered)). ArePartRows (rows_in_blocks l))
    c.as_slice-2.ensures.value (c.in_ok-are_part_blocks.ensures c.if-not-branch-2.false))

pub of_blocks-requires-clause-filled : goal.of_blocks-requires-clause-filled
of_blocks-requires-clause-filled c =
    followed-filled c.in-Some.blocks.items (sized-blocks c.in-Some.blocks.items (rw c.in-Some.is at
    c.in_ok-blocks.ensures.sized)) (subst AreFollowed c.as_slice.ensures.value (c.in_ok-are_followed.ensures
    c.if-not-branch.false))

pub returns : goal.returns
returns c =
    let blocks = c.in-Some.blocks.items in
    let sized = (rw c.in-Some.is at c.in_ok-blocks.ensures.sized) in
    let each = sized-blocks c.in-Some.blocks.items sized in
    let followed = subst AreFollowed c.as_slice.ensures.value (c.in_ok-are_followed.ensures c.if-not-branch.false) in
    let rules = subst (λ (l : List (List Numbered)). ArePartRows (rows_in_blocks l)) c.as_slice-2.ensures.value
    (c.in_ok-are_part_blocks.ensures c.if-not-branch-2.false) in
    blocks-written blocks c.in_ok-part.part c.args.bytes.now c.in_ok-part.ensures (followed-part blocks each followed rules)
    (followed-filled blocks each followed) sized (rw c.in-Some.is at c.in_ok-blocks.ensures.few) (rw c.in-Some.is at
    c.in_ok-blocks.ensures.bytes)
