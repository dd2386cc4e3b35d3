use Rattle.std.proofs.Common.{◌∙◌, ap, sym, get_or}
use Rattle.http_in.specs.Lines.{begins_line}
use Rattle.http_in.proofs.CountLemmas.{begun_more}
use Rattle.http_in.proofs.LackLemmas.{ended_next, found_next}
use Rattle.http_in.proofs.search.ends_head.Goals as goal

pub loop-i-preserved : goal.loop-i-preserved
loop-i-preserved c =
    let l = c.loop-i in
    let bytes = c.args.bytes.now in
    record {
      begun = c.begins_line-begun.ensures ∙ ap (λ t. begins_line t (get_or bytes l.i 0)) l.invariant.begun
          ∙ sym (begun_more bytes l.i c.loop-i-test.true);
      ended = ended_next bytes l.i c.ends_line.result l.begun l.ended c.loop-i-test.true l.invariant.begun
          l.invariant.ended c.ends_line.ensures;
      found = λ at after inside ends.
          found_next bytes c.args.search.now.searched l.i at l.found l.begun l.ended c.ends_empty_line.result
          l.invariant.begun l.invariant.ended l.invariant.found c.ends_empty_line.ensures after inside ends;
    }
