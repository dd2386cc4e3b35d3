use Rattle.std.proofs.Common.{◌≡◌, ◌∙◌, ◌<◌, ℕ, List, [], Bor, ap, arith, get_or, length, sym}
use Rattle.std.proofs.lemmas.Option.{slice_get-get_or}
use Rattle.byte_format.proofs.Cases.{some_is}
use Rattle.block_model.specs.Columns.{names_of}
use Rattle.block_gather.proofs.NameLaws.{put-text}
use Rattle.block_gather.proofs.names.put_names.Goals as goal

abbrev now_of : Bor (List ℕ) → List ℕ
now_of t = t.now

pub loop-c-preserved : goal.loop-c-preserved
loop-c-preserved c =
    let names : List (List ℕ) = names_of c.args.pick.now.block in
    let lt : c.loop-c.c < length (names_of c.args.pick.now.block) = omega (
      arith,
      c.loop-c-test.true,
      c.columns-c-end.ensures,
    ) in
    let is : c.name.result.now ≡ get_or (names_of c.args.pick.now.block) c.loop-c.c [] =
    some_is c.name.result.now (get_or names c.loop-c.c []) (sym c.name.ensures ∙ slice_get-get_or names c.loop-c.c [] lt) in
    put-text now_of c.loop-c.names.keys c.insert.new.self.keys c.name.result _ names c.loop-c.c lt
    c.in_ok-insert.ensures.keys is c.loop-c.invariant
