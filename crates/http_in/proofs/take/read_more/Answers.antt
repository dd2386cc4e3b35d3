use Rattle.std.proofs.Common.{◌≡◌, ◌++◌, take, length, ap, arith, sym, ◌∙◌}
use Rattle.http_in.proofs.TakeLemmas.{read_behind, resized_front}
use Rattle.http_in.proofs.take.read_more.Goals as goal

pub returns-in-Ok-clause-adds : goal.returns-in-Ok-clause-adds
returns-in-Ok-clause-adds g c =
    let n = c.len-have.ensures in
    let old = c.args.bytes.now.items in
    let front : take c.len-have.result c.deref_mut.result.now ≡ old =
    ap (take c.len-have.result) (c.deref_mut.ensures.value ∙ c.in_ok-resize.ensures.items)
    ∙ resized_front c.len-have.result c.args.most old _ (n ∙ c.args.bytes.now.ok.0) in
    let is_len : c.len-have.result ≡ length (take c.len-have.result c.deref_mut.result.now) = n
    ∙ c.args.bytes.now.ok.0 ∙ sym (ap length front) in (
      take c.in-Ok.count c.read-read.new.buf,
      c.in-Ok.ensures.bytes.0,
      c.truncate.ensures.items ∙ read_behind c.len-have.result c.in-Ok.count c.resize.new.self.len _ _ _ _ is_len
          c.in-Ok.ensures.bound (omega (arith, c.in-Ok.ensures.bound, c.in_ok-resize.ensures.len))
          ∙ ap (λ l. l ++ take c.in-Ok.count c.read-read.new.buf) front,
    )
