use Rattle.std.proofs.Common.{subst}
use Rattle.lone_desk.specs.Alone.{RefusesAlone}
use Rattle.vl_pipe.proofs.HeldLemmas.{is_last, takes}
use Rattle.vl_pipe.proofs.InsertLemmas.{full_group, large_group, never_last}
use Rattle.vl_pipe.proofs.load.insert_group.Goals as goal

pub returns-in-Ok-clause-taken : goal.returns-in-Ok-clause-taken
returns-in-Ok-clause-taken g c arrival reads =
    let body = c.args.group.body.items in
    let inserts = c.in-Ok.ensures.inserted arrival.options arrival.moment body reads in (
      inserts.2.outcomes,
      takes arrival body c.args.desk.now c.insert_read.new.self c.in-Ok.insertion inserts,
      inserts.2.refused,
    )

pub returns-in-Err-Large-clause-refused : goal.returns-in-Err-Large-clause-refused
returns-in-Err-Large-clause-refused g c arrival reads =
    let body = c.args.group.body.items in
    let refused = c.in-Err-Large.ensures.refused arrival.options arrival.moment body reads in
    let named = subst (RefusesAlone arrival.options arrival.moment body c.args.desk.now c.insert_read.new.self)
    c.in-Err-Large.field-0-is refused in
    large_group arrival body c.args.desk.now c.insert_read.new.self c.in-Err-Large.weight c.requires.lines named

pub returns-in-Err-Full-clause-refused : goal.returns-in-Err-Full-clause-refused
returns-in-Err-Full-clause-refused g c arrival reads =
    let body = c.args.group.body.items in
    let refused = c.in-Err-Full.ensures.refused arrival.options arrival.moment body reads in
    let named = subst (RefusesAlone arrival.options arrival.moment body c.args.desk.now c.insert_read.new.self)
    c.in-Err-Full.field-0-is refused in
    full_group arrival body c.args.desk.now c.insert_read.new.self _ named

pub unreachable-requires : goal.unreachable-requires
unreachable-requires g c =
    let reads = c.requires.read in
    let arrival = reads.0 in
    let body = c.args.group.body.items in
    let refused = c.in-Err-Spent.ensures.refused arrival.options arrival.moment body reads.1 in
    let named = subst (RefusesAlone arrival.options arrival.moment body c.args.desk.now c.insert_read.new.self)
    c.in-Err-Spent.field-0-is refused in
    absurd (never_last arrival body c.args.desk.now c.insert_read.new.self c.requires.numbered named)

pub returns-in-Ok-clause-numbered : goal.returns-in-Ok-clause-numbered
returns-in-Ok-clause-numbered g c =
    let reads = c.requires.read in
    is_last reads.0 c.args.group.body.items c.args.desk.now c.insert_read.new.self c.in-Ok.insertion
    (c.in-Ok.ensures.inserted reads.0.options reads.0.moment c.args.group.body.items reads.1)
