use Rattle.std.proofs.Common.{◌++◌, ◌∷◌, [], true, Ok, Err, ap, arith, sym, subst, ◌∙◌, length-append}
use Rattle.std.proofs.lemmas.List.{length-map}
use Rattle.vl_io.specs.declared.transfer.ReadFault.TheVariants.{Memory}
use Rattle.vl_pipe.specs.Window.{IsWindow, bodies_of}
use Rattle.vl_pipe.specs.declared.window.Group.{Group}
use Rattle.vl_pipe.proofs.WindowLemmas.{Filling, fill_more, fill_starts, still_open, window_failed, window_full}
use Rattle.vl_pipe.proofs.WindowLemmas.{window_over, window_unkept}
use Rattle.vl_pipe.proofs.window.cut_window.Goals as goal

pub groups-init : goal.groups-init
groups-init g c = record {
  filling =
      fill_starts c.args.reader.now (g.S.Source.left c.args.src.now) (g.S.Source.faults c.args.src.now)
      (bodies_of c.new-groups.result.items) (ap bodies_of c.new-groups.ensures.items) c.requires.lines
      c.requires.within c.requires.ahead c.requires.closed;
  room = omega (arith, c.new-groups.ensures.len, c.requires.most.0);
  most = c.requires.most.1;
}

pub returns-in-Ok-false-clause-window : goal.returns-in-Ok-false-clause-window
returns-in-Ok-false-clause-window g c =
    let before = c.groups.invariant in
    let advance = c.in-Ok-false.ensures in
    window_over c.args.reader.now c.groups.reader c.advance.new.self _ _ _ _ _ _ (bodies_of c.groups.groups.items)
    before.filling (advance.read.0, advance.read.1, advance.read.2)
    (advance.over (ap Ok c.in-Ok-false.field-0-test)) advance.ended
    (λ ended. ap g.S.Source.left (advance.idle ended).0)
    (omega (arith, before.room, before.most, length-map c.groups.groups.items (λ (group : Group). group.body.items)))

pub returns-in-Err-clause-window : goal.returns-in-Err-clause-window
returns-in-Err-clause-window g c =
    let before = c.groups.invariant in
    let advance = c.in-Err.ensures in
    window_failed c.args.reader.now c.groups.reader c.advance.new.self _ _ _ _ _ _ (bodies_of c.groups.groups.items)
    before.filling (still_open c.groups.reader.ended _ _ (λ same. cc) advance.idle) c.in-Err.fault
    (λ is_long. advance.long (ap Err is_long))
    (λ not_long. advance.short (λ is_long. not_long (let same = is_long in cc)))
    (λ failed. advance.failed (ap Err failed))
    (omega (arith, before.room, before.most, length-map c.groups.groups.items (λ (group : Group). group.body.items)))

pub returns-in-Err-keep_group-clause-window : goal.returns-in-Err-keep_group-clause-window
returns-in-Err-keep_group-clause-window g c =
    let before = c.groups.invariant in
    let advance = c.in-Ok-true.ensures in
    let goes_on = still_open c.groups.reader.ended _ _ (λ same. let yes = c.in-Ok-true.field-0-test in cc) advance.idle in
    subst
    (λ items. IsWindow c.args.reader.now c.advance.new.self (g.S.Source.left c.args.src.now)
    (g.S.Source.left c.advance.new.source) (g.S.Source.faults c.args.src.now)
    (g.S.Source.faults c.advance.new.source) (bodies_of items) (Err Memory)) (sym c.in-Err-keep_group.ensures.same)
    (window_unkept c.args.reader.now c.groups.reader c.advance.new.self _ _ _ _ _ _
    (bodies_of c.groups.groups.items) before.filling goes_on (advance.read.0, advance.read.1, advance.read.2)
    (advance.group (ap Ok c.in-Ok-true.field-0-test)) advance.ahead
    (omega (arith, before.room, before.most, length-map c.groups.groups.items (λ (group : Group). group.body.items))))

pub returns-then-len-most-clause-window : goal.returns-then-len-most-clause-window
returns-then-len-most-clause-window g c =
    let before = c.groups.invariant in
    let advance = c.in-Ok-true.ensures in
    let goes_on = still_open c.groups.reader.ended _ _ (λ same. let yes = c.in-Ok-true.field-0-test in cc) advance.idle in
    let old = bodies_of c.groups.groups.items in
    let count = length-map c.groups.groups.items (λ (group : Group). group.body.items) in
    let filled = fill_more c.args.reader.now c.groups.reader c.advance.new.self _ _ _ _ _ _ old before.filling goes_on
    (advance.read.0, advance.read.1, advance.read.2) (advance.group (ap Ok c.in-Ok-true.field-0-test)) advance.ahead
    (advance.ended goes_on) advance.faults in
    subst
    (λ bodies. IsWindow c.args.reader.now c.advance.new.self (g.S.Source.left c.args.src.now)
    (g.S.Source.left c.advance.new.source) (g.S.Source.faults c.args.src.now)
    (g.S.Source.faults c.advance.new.source) bodies (Ok true))
    (sym (c.in-Ok.ensures.kept ∙ ap (λ body. old ++ body ∷ []) c.group.ensures))
    (window_full c.args.reader.now c.advance.new.self _ _ _ _ (old ++ c.advance.new.self.group ∷ []) filled
    (omega (arith, length-append old (c.advance.new.self.group ∷ [])))
    (omega (arith, length-append old (c.advance.new.self.group ∷ []), before.room, before.most, count)))

pub groups-preserved : goal.groups-preserved
groups-preserved g c =
    let before = c.groups.invariant in
    let advance = c.in-Ok-true.ensures in
    let goes_on = still_open c.groups.reader.ended _ _ (λ same. let yes = c.in-Ok-true.field-0-test in cc) advance.idle in
    let old = bodies_of c.groups.groups.items in
    let filled = fill_more c.args.reader.now c.groups.reader c.advance.new.self _ _ _ _ _ _ old before.filling goes_on
    (advance.read.0, advance.read.1, advance.read.2) (advance.group (ap Ok c.in-Ok-true.field-0-test)) advance.ahead
    (advance.ended goes_on) advance.faults in
    record {
      filling = subst
          (λ bodies. Filling c.args.reader.now c.advance.new.self (g.S.Source.left c.args.src.now)
          (g.S.Source.left c.advance.new.source) (g.S.Source.faults c.args.src.now)
          (g.S.Source.faults c.advance.new.source) bodies)
          (sym (c.in-Ok.ensures.kept ∙ ap (λ body. old ++ body ∷ []) c.group.ensures)) filled;
      room = omega (arith, c.if-len-most.false, c.len.ensures);
      most = before.most;
    }
