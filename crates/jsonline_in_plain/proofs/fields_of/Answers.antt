use Rattle.jsonline_in.specs.Reading.{text_at}
use Rattle.jsonline_in.proofs.Objects.{line_set, line_set_only}
use Rattle.jsonline_in.proofs.Settings.{listed_set}
use Rattle.jsonline_in_plain.proofs.fields_of.Goals as goal

pub returns-clause-read : goal.returns-clause-read
returns-clause-read c =
    let inside = c.in_ok-inside.inside.now in
    let old = c.args.out.now in
    let set = listed_set (text_at inside) old c.loop-pair.out _ c.deref-pair-items.result.now _ c.loop-pair.pair-index
    c.in-Ok.ensures c.deref-pair-items.ensures.value c.loop-pair-test.false c.loop-pair.invariant in
    line_set c.args.line.now inside c.in_ok-inside.ensures.inside old c.loop-pair.out set

pub returns-clause-only : goal.returns-clause-only
returns-clause-only c =
    let inside = c.in_ok-inside.inside.now in
    let old = c.args.out.now in
    let set = listed_set (text_at inside) old c.loop-pair.out _ c.deref-pair-items.result.now _ c.loop-pair.pair-index
    c.in-Ok.ensures c.deref-pair-items.ensures.value c.loop-pair-test.false c.loop-pair.invariant in
    line_set_only c.args.line.now inside c.in_ok-inside.ensures.inside old c.loop-pair.out set
