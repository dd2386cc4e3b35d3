use Rattle.std.proofs.Common.{◌≡◌, ◌∙◌, ◌≤◌, Ok, take, drop, length, ap, true, arith, rules, refl}
use Rattle.std.specs.Prelude.{nat_lt}
use Rattle.std.specs.List.{list_all}
use Rattle.std.proofs.lemmas.List.{length-take}
use Rattle.block_column.proofs.BodyLaws.{codes-read}
use Rattle.block_column.proofs.take.take_codes.Goals as goal

pub returns-clause-value : goal.returns-clause-value
returns-clause-value c =
    let good : c.are_below.result ≡ true = search rules in
    let copy = c.in_ok-to_vec.ensures.items_if_clones_equal (λ y h e. e) in
    let below : list_all (λ code. nat_lt code c.args.count) (take c.args.rows c.args.bytes.now) ≡ true =
    rw (c.are_below.ensures, c.split_at.ensures.front) at good in
    codes-read c.args.count c.args.rows c.args.bytes.now c.if-bytes-rows.false below
    ∙ rw (copy, c.split_at.ensures.front, c.split_at.ensures.back) refl
