use Rattle.std.proofs.Common.{◌++◌, [], take, refl, sym, ap, ◌∙◌, inl, append-nil}
use Rattle.vl_io.proofs.Laws.{Consumes-nil}
use Rattle.http_in.proofs.MoveLemmas.{takes_here}
use Rattle.http_in.proofs.body.take_data.Goals as goal

pub returns-in-Err-clause-taken : goal.returns-in-Err-clause-taken
returns-in-Err-clause-taken g c = (
  [],
  Consumes-nil (g.S.Source.left c.args.src.now),
  record {
    taken = [];
    left = append-nil c.args.window.now;
    came = c.in-Err.ensures.items ∙ sym (append-nil c.args.bytes.now.items);
  },
  inl (refl, refl),
)

pub returns-then-count-left-clause-taken : goal.returns-then-count-left-clause-taken
returns-then-count-left-clause-taken g c = (
  [],
  Consumes-nil (g.S.Source.left c.args.src.now),
  takes_here c.args.window.now c.args.bytes.now.items c.use_up.new.self c.extend_from_slice.new.self.items
      c.min-count.result c.use_up.ensures
      (c.in-Ok.ensures.items ∙ ap (λ l. c.args.bytes.now.items ++ take c.min-count.result l) c.as_slice-2.ensures),
  inl (refl, refl),
)
