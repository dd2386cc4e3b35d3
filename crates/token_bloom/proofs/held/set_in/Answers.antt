use Rattle.std.proofs.Common.{◌≡◌, ◌<◌, ◌++◌, length, take, drop, ap, sym, ◌∙◌, arith}
use Rattle.std.proofs.Math.Seq.{take-append_seam}
use Rattle.token_bloom.specs.Filter.{with_hash}
use Rattle.token_bloom.proofs.HeldLaws.{hash_len}
use Rattle.token_bloom.proofs.held.set_in.Goals as goal

pub returns : goal.returns
returns c =
    let lent : c.as_mut_slice.result.now ≡ c.args.words.now.items = c.as_mut_slice.ensures.value in
    let some : 0 < length c.as_mut_slice.result.now = omega (arith, ap length lent, c.requires.some) in
    let same : length c.set_all.new.filter ≡ length c.as_mut_slice.result.now =
    ap length c.set_all.ensures ∙ hash_len c.as_mut_slice.result.now c.args.hash some in
    let whole : take c.args.words.now.len (c.set_all.new.filter ++ drop (length c.set_all.new.filter)
    c.args.words.now.items) ≡ c.set_all.new.filter =
    ap (λ n. take n (c.set_all.new.filter ++ drop (length c.set_all.new.filter) c.args.words.now.items))
    (sym (same ∙ c.as_mut_slice.ensures.len)) ∙ take-append_seam c.set_all.new.filter _ in
    let new = whole ∙ c.set_all.ensures ∙ ap (λ l. with_hash l c.args.hash) lent in
    record {
      words = new;
      some = omega (arith, ap length whole, same, ap length lent, c.requires.some);
      small = omega (arith, ap length whole, same, ap length lent, c.requires.small);
    }
