use Rattle.std.proofs.Common.{◌≡◌, ◌∙◌, ap, arith, map, take}
use Rattle.std.specs.BTreeSet.{insert_key}
use Rattle.std.specs.List.{fold}
use Rattle.std.proofs.lemmas.List.{length-map, take_all}
use Rattle.log_model.specs.Field.{bytes_cmp}
use Rattle.block_body.specs.Outline.{NamedFilter}
use Rattle.part_file.proofs.FollowedLaws.{name-put, now_of, put-is}
use Rattle.part_file.proofs.followed.put_columns.Goals as goal

pub loop-c-preserved : goal.loop-c-preserved
loop-c-preserved c =
    let names = map (λ (column : NamedFilter). column.0) c.args.head.now.columns in
    name-put (map now_of c.args.names.now.keys) (map now_of c.loop-c.names.keys) (map now_of c.insert.new.self.keys) names
    c.loop-c.c c.name.result.now c.name.ensures c.loop-c.invariant (put-is c.loop-c.names.keys c.insert.new.self.keys
    c.name.result c.in_ok-insert.ensures.keys)

pub returns : goal.returns
returns c =
    let columns = c.args.head.now.columns in
    let names = map (λ (column : NamedFilter). column.0) columns in
    let all : take c.loop-c.c names ≡ names = take_all c.loop-c.c names (omega (
      arith,
      length-map columns (λ (column : NamedFilter). column.0),
      c.columns-c-end.ensures,
      c.loop-c-test.false,
    )) in
    c.loop-c.invariant ∙ ap (fold (insert_key bytes_cmp) (map now_of c.args.names.now.keys)) all
