use Rattle.std.proofs.Common.{◌≡◌, ◌∙◌, ◌<◌, ℕ, length, arith, rules, sym, true}
use Rattle.std.proofs.lemmas.Slice.Eq.{bytes_eq-Decides}
use Rattle.block_model.specs.Columns.{names_of}
use Rattle.block_gather.proofs.NameLaws.{same-more}
use Rattle.block_gather.proofs.names.have_same_names.Goals as goal

pub loop-c-preserved : goal.loop-c-preserved
loop-c-preserved c =
    let lt : c.loop-c.c < length (names_of c.args.pick.now.block) = omega (
      arith,
      c.loop-c-test.true,
      c.columns-c-end.ensures,
    ) in
    let also : c.loop-c.c < length (names_of c.args.other.now.block) = search rules in
    let yes : c.are_same.result ≡ true = search rules in
    same-more (names_of c.args.pick.now.block) (names_of c.args.other.now.block) c.loop-c.c c.name.result.now
    c.name-in-loop-c.result.now lt also c.name.ensures c.name-in-loop-c.ensures ((bytes_eq-Decides _ _).0 (sym
    c.are_same.ensures ∙ yes)) c.loop-c.invariant
