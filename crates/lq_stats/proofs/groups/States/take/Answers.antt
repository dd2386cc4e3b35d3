use Rattle.std.proofs.Common.{arith}
use Rattle.std.proofs.lemmas.Result.{on_ok_weaker}
use Rattle.lq_stats.proofs.JoinedStates.{joined_one, joins_at, joins_nowhere}
use Rattle.lq_stats.proofs.groups.States.take.Goals as goal

pub returns-then-place-len : goal.returns-then-place-len
returns-then-place-len c =
    let states = c.args.self.now.list in
    on_ok_weaker c.merge.result
    (λ joins. joins_at states.items c.args.place c.index_mut.result.now c.args.state c.merge.new.self
    (omega (arith, c.if-place-len.true, c.len.ensures, states.ok.0)) c.index_mut.ensures.value
    (joined_one c.index_mut.result.now c.args.state c.merge.new.self c.merge.ensures.call joins)) c.merge.ensures.taken

pub returns : goal.returns
returns c =
    let states = c.args.self.now.list in
    joins_nowhere states.items c.args.place c.args.state
    (omega (arith, c.if-place-len.false, c.len.ensures, states.ok.0))
