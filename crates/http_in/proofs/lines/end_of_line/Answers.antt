use Rattle.std.proofs.Common.{sym, ap, get_or, ◌∙◌}
use Rattle.http_in.specs.Lines.{begins_line}
use Rattle.http_in.proofs.CountLemmas.{begun_more, ends_here, lines_next}
use Rattle.http_in.proofs.lines.end_of_line.Goals as goal

pub returns-then-ended-lines-clause-some : goal.returns-then-ended-lines-clause-some
returns-then-ended-lines-clause-some c =
    let l = c.loop-i in
    ends_here c.args.bytes.now l.i l.ended c.ends_line-ended.result c.args.lines l.begun c.loop-i-test.true
    l.invariant.count
    l.invariant.state c.ends_line-ended.ensures l.invariant.few c.if-ended-lines.true

pub loop-i-preserved : goal.loop-i-preserved
loop-i-preserved c =
    let l = c.loop-i in
    record {
      count = lines_next c.args.bytes.now l.i l.ended c.ends_line-ended.result l.begun c.loop-i-test.true
          l.invariant.count
          l.invariant.state c.ends_line-ended.ensures;
      state = c.begins_line-begun.ensures ∙ ap (λ t. begins_line t (get_or c.args.bytes.now l.i 0)) l.invariant.state
          ∙ sym (begun_more c.args.bytes.now l.i c.loop-i-test.true);
      few = c.if-ended-lines.false;
    }
