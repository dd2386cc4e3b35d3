use Rattle.std.proofs.Common.{◌≡◌, ℕ, List, arith, map, subst, sym, take}
use Rattle.std.proofs.lemmas.List.{length-map, take_all}
use Rattle.block_body.specs.Outline.{NamedFilter}
use Rattle.part_picks.proofs.NameLaws.{AreAmong, among-more, kept-more, name-taken, now_of, put-is, rows-among}
use Rattle.part_picks.proofs.ends.put_names.Goals as goal

pub loop-c-preserved : goal.loop-c-preserved
loop-c-preserved c =
    let old = map now_of c.loop-c.names.keys in
    let new = map now_of c.insert.new.self.keys in
    let names = map (λ (column : NamedFilter). column.0) c.head-head.result.now.columns in
    let put = put-is c.loop-c.names.keys c.insert.new.self.keys c.name.result c.in_ok-insert.ensures.keys in
    record {
      kept = λ rows h. kept-more old new c.name.result.now rows put (c.loop-c.invariant.kept rows h);
      among = subst (λ (l : List (List ℕ)). AreAmong l new) (sym (name-taken names c.loop-c.c c.name.result.now
          c.name.ensures)) (among-more (take c.loop-c.c names) old new c.name.result.now put c.loop-c.invariant.among);
    }

pub returns-clause-named : goal.returns-clause-named
returns-clause-named c =
    let columns = c.head-head.result.now.columns in
    let names = map (λ (column : NamedFilter). column.0) columns in
    let keys = map now_of c.loop-c.names.keys in
    let all : take c.loop-c.c names ≡ names = take_all c.loop-c.c names (omega (
      arith,
      length-map columns (λ (column : NamedFilter). column.0),
      c.columns-c-end.ensures,
      c.loop-c-test.false,
    )) in
    rows-among names keys c.args.pick.now (subst (λ (l : List (List ℕ)). AreAmong l keys) all c.loop-c.invariant.among)
    c.head-head.ensures
