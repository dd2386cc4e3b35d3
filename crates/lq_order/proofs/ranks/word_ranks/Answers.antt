use Rattle.std.proofs.Common.{◌<◌, ap, map, length, ◌∙◌, sym, arith}
use Rattle.std.proofs.lemmas.List.{length-map}
use Rattle.lq_order.specs.Ranks.{keyed_of, next_rank}
use Rattle.lq_order.proofs.Ranking.{keyed_entry, mirrors_of, placing_of, ranked_none, ranked_step}
use Rattle.lq_order.proofs.ranks.word_ranks.Goals as goal

pub loop-i-init : goal.loop-i-init
loop-i-init c =
    ranked_none _ c.in_ok-ranks.ranks.items
    (omega (
      arith,
      length-map c.deref-one-items.result.now keyed_of,
      c.in_ok-ranks.ensures.len,
      c.in_ok-ranks.ranks.ok.0,
      c.in_ok-keyed.keyed.ok.0,
      c.deref-one-items.ensures.len,
      c.len.ensures,
    ))

pub index_mut-requires : goal.index_mut-requires
index_mut-requires c =
    let within : c.loop-i.i < length (map keyed_of c.deref-one-items.result.now) = omega
    (arith, c.loop-i-test.true, length-map c.deref-one-items.result.now keyed_of) in
    let whole = ap (map keyed_of) c.deref-one-items.ensures.value ∙ c.in_ok-keyed.ensures in
    let at = keyed_entry c.deref-one-items.result.now c.loop-i.i c.one-item.result c.loop-i-test.true c.one-item.is in
    let inside = rw at at ((placing_of _ _ whole).inside c.loop-i.i within) in
    omega (arith, inside, c.loop-i.invariant.long, c.loop-i.ranks.ok.0)

pub loop-i-preserved : goal.loop-i-preserved
loop-i-preserved c =
    let within : c.loop-i.i < length (map keyed_of c.deref-one-items.result.now) = omega
    (arith, c.loop-i-test.true, length-map c.deref-one-items.result.now keyed_of) in
    let whole = ap (map keyed_of) c.deref-one-items.ensures.value ∙ c.in_ok-keyed.ensures in
    let same = c.as_slice.ensures.value ∙ sym c.deref-one-items.ensures.value in
    ranked_step (map keyed_of c.deref-one-items.result.now) c.loop-i.ranks.items c.loop-i.i c.loop-i.rank
    c.next_rank-rank.result
    (keyed_of c.one-item.result) (placing_of _ _ whole) c.loop-i.invariant within
    (keyed_entry c.deref-one-items.result.now c.loop-i.i c.one-item.result c.loop-i-test.true c.one-item.is)
    (c.next_rank-rank.ensures ∙ ap (λ items. next_rank (map keyed_of items) c.loop-i.i c.loop-i.rank) same)

pub returns : goal.returns
returns c =
    let whole = ap (map keyed_of) c.deref-one-items.ensures.value ∙ c.in_ok-keyed.ensures in
    mirrors_of (map keyed_of c.deref-one-items.result.now) c.args.texts.now c.loop-i.ranks.items c.loop-i.i
    c.loop-i.rank
    whole (omega (arith, length-map c.deref-one-items.result.now keyed_of)) c.loop-i.invariant
