use Rattle.std.proofs.Common.{◌≡◌, ◌∙◌, ◌+◌, ◌*◌, Bool, ℕ, false, length, true, ap, arith, refl, sym}
use Rattle.std.specs.Prelude.{◌&&◌, nat_le, not}
use Rattle.std.proofs.lemmas.Bool.{both_ways}
use Rattle.log_model.specs.History.{Numbered}
use Rattle.block_body.specs.Outline.{Outline}
use Rattle.part_file.proofs.FollowedLaws.{limit-passed, most-rows, other-stream}
use Rattle.part_file.proofs.followed.is_full.Goals as goal

not-true : (a : Bool) → not a ≡ true → a ≡ false
not-true true e = absurd cc
not-true false e = refl

pub returns-then-rows-ge-MAX_ROWS : goal.returns-then-rows-ge-MAX_ROWS
returns-then-rows-ge-MAX_ROWS c t =
    most-rows c.args.block.now c.args.next.now (omega (
      arith,
      c.rows-rows.ensures,
      ap (λ (o : Outline). o.rows) c.head-head.ensures.outline,
      c.if-rows-ge-MAX_ROWS.true,
    ))

pub returns-then-not-is_same : goal.returns-then-not-is_same
returns-then-not-is_same c t =
    other-stream c.args.block.now c.args.next.now (λ e. both_ways c.is_same.result c.if-not-is_same.true
    (c.is_same.ensures.1 (c.stream.ensures ∙ ap (λ (o : Outline). o.labels) c.head-head.ensures.outline ∙ e
    ∙ sym (c.stream-2.ensures ∙ ap (λ (n : Numbered). n.row.labels) c.next.view_is))))

pub returns : goal.returns
returns c full =
    let count : c.rows-rows.result ≡ length c.args.block.now = c.rows-rows.ensures
    ∙ ap (λ (o : Outline). o.rows) c.head-head.ensures.outline in
    let columns = c.in_ok-columns.columns in
    limit-passed c.args.block.now c.args.next.now columns c.in_ok-columns.ensures
    (ap (λ (n : ℕ). nat_le columns 2000 && nat_le ((n + 1) * columns) 1_048_576) (sym count)
    ∙ sym c.are_within.ensures ∙ not-true c.are_within.result full)
