use Rattle.std.proofs.Common.{◌≡◌, ℕ, ◌+◌, ◌++◌, ◌<◌, ◌≤◌, ◌∙◌, List, ap, arith, drop, inl, inr, length, map, refl, rules, subst, sym, take}
use Rattle.std.proofs.lemmas.List.{length-append, length-map}
use Rattle.log_model.specs.Field.{Field}
use Rattle.log_model.specs.History.{Numbered}
use Rattle.block_format.specs.Rows.{labels_of}
use Rattle.part_model.specs.Filling.{rows_in_blocks}
use Rattle.part_picks.specs.Names.{AreListed, AreNamed}
use Rattle.part_picks.specs.Range.{AreOfStream}
use Rattle.part_picks.proofs.EndLaws.{ends-here}
use Rattle.part_picks.proofs.NameLaws.{now_of}
use Rattle.part_picks.proofs.RangeLaws.{all-join}
use Rattle.part_picks.proofs.TakeLaws.{labels-first, none-left, not-first, other-rest, rows-more, rows-parts, some-taken}
use Rattle.part_picks.proofs.ends.narrow_end.Goals as goal

pub loop-i-preserved : goal.loop-i-preserved
loop-i-preserved c =
    let queue = c.args.queue.now.items in
    let i = c.loop-i.i in
    let pick = c.index-pick.result.now in
    let keys = map now_of c.put_names.new.names.keys in
    let before = rows_in_blocks (take i queue) in
    let lt : i < length queue = search rules in
    let more = rows-more queue i pick lt c.index-pick.ensures in
    let same : labels_of pick ≡ labels_of (rows_in_blocks queue) = sym (labels-first queue c.index-first.result.now
    c.requires c.index-first.ensures c.len-some.ensures.some
    ∙ c.are_of_one_stream.ensures.0 c.if-not-are_of_one_stream.false) in
    record {
      count = omega (
        arith,
        ap length more,
        length-append before pick,
        c.loop-i.invariant.count,
        c.len-rows.ensures.count,
      );
      few = c.if-count-ge-MAX_ROWS.false;
      named = subst (AreNamed keys) (sym more) (all-join (λ (n : Numbered). AreListed n.row.fields keys) before pick
          (c.in_ok-put_names.ensures.kept before c.loop-i.invariant.named) c.in_ok-put_names.ensures.named);
      narrow = search rules;
      stream = subst (AreOfStream (labels_of (rows_in_blocks queue))) (sym more) (all-join (λ (n : Numbered).
          n.row.labels ≡ labels_of (rows_in_blocks queue)) before pick c.loop-i.invariant.stream (subst (λ (l : List Field).
          AreOfStream l pick) same c.rules.ensures.stream));
    }

pub returns-then-not-are_of_one_stream : goal.returns-then-not-are_of_one_stream
returns-then-not-are_of_one_stream c =
    let queue = c.args.queue.now.items in
    let i = c.loop-i.i in
    let pick = c.index-pick.result.now in
    let first = c.index-first.result.now in
    let keys = map now_of c.loop-i.names.keys in
    let lt : i < length queue = search rules in
    let narrow : length keys ≤ 256 = omega (arith, length-map c.loop-i.names.keys now_of, c.loop-i.invariant.narrow) in
    let other : labels_of first ≡ labels_of pick → ⊥ = λ e. search (c.are_of_one_stream.ensures.1 e, rules) in
    let up = not-first queue i first pick lt c.index-first.ensures c.index-pick.ensures other in
    let some = some-taken queue i first up c.requires c.index-first.ensures c.len-some.ensures.some in
    let labels = labels-first queue first c.requires c.index-first.ensures c.len-some.ensures.some in
    ends-here (rows_in_blocks queue) (rows_in_blocks (take i queue)) (rows_in_blocks (drop i queue)) c.loop-i.count keys
    (rows-parts queue i) (omega (arith, c.loop-i.invariant.count, some)) (omega (arith, c.loop-i.invariant.count))
    (omega (arith, c.loop-i.invariant.few)) c.loop-i.invariant.stream c.loop-i.invariant.named narrow
    (inr (
      c.loop-i.invariant.count,
      other-rest queue i pick (labels_of (rows_in_blocks queue)) lt c.index-pick.ensures
          c.len-rows.ensures.some (λ e. other (sym labels ∙ e)),
    ))

pub returns-then-count-ge-MAX_ROWS : goal.returns-then-count-ge-MAX_ROWS
returns-then-count-ge-MAX_ROWS c =
    let queue = c.args.queue.now.items in
    let i = c.loop-i.i in
    let pick = c.index-pick.result.now in
    let keys = map now_of c.put_names.new.names.keys in
    let before = rows_in_blocks (take i queue) in
    let lt : i < length queue = search rules in
    let more = rows-more queue i pick lt c.index-pick.ensures in
    let same : labels_of pick ≡ labels_of (rows_in_blocks queue) = sym (labels-first queue c.index-first.result.now
    c.requires c.index-first.ensures c.len-some.ensures.some
    ∙ c.are_of_one_stream.ensures.0 c.if-not-are_of_one_stream.false) in
    let few : length c.put_names.new.names.keys ≤ 256 = search rules in
    let narrow : length keys ≤ 256 = omega (arith, length-map c.put_names.new.names.keys now_of, few) in
    ends-here (rows_in_blocks queue) (rows_in_blocks (take (i + 1) queue)) (rows_in_blocks (drop (i + 1) queue)) 4096 keys
    (rows-parts queue (i + 1)) (omega arith) (omega (
      arith,
      ap length more,
      length-append before pick,
      c.loop-i.invariant.count,
      c.len-rows.ensures.count,
      c.if-count-ge-MAX_ROWS.true,
    )) (omega arith) (subst (AreOfStream (labels_of (rows_in_blocks queue))) (sym more) (all-join (λ (n : Numbered).
    n.row.labels ≡ labels_of (rows_in_blocks queue)) before pick c.loop-i.invariant.stream (subst (λ (l : List Field).
    AreOfStream l pick) same c.rules.ensures.stream))) (subst (AreNamed keys) (sym more) (all-join (λ (n : Numbered).
    AreListed n.row.fields keys) before pick (c.in_ok-put_names.ensures.kept before c.loop-i.invariant.named)
    c.in_ok-put_names.ensures.named)) narrow (inl refl)

pub returns : goal.returns
returns c =
    let queue = c.args.queue.now.items in
    let i = c.loop-i.i in
    let first = c.index-first.result.now in
    let keys = map now_of c.loop-i.names.keys in
    let le : length queue ≤ i = search rules in
    let narrow : length keys ≤ 256 = omega (arith, length-map c.loop-i.names.keys now_of, c.loop-i.invariant.narrow) in
    let some = some-taken queue i first (omega (arith, le, c.requires)) c.requires c.index-first.ensures
    c.len-some.ensures.some in
    ends-here (rows_in_blocks queue) (rows_in_blocks (take i queue)) (rows_in_blocks (drop i queue)) c.loop-i.count keys
    (rows-parts queue i) (omega (arith, c.loop-i.invariant.count, some)) (omega (arith, c.loop-i.invariant.count))
    (omega (arith, c.loop-i.invariant.few)) c.loop-i.invariant.stream c.loop-i.invariant.named narrow
    (inr (c.loop-i.invariant.count, none-left queue i (labels_of (rows_in_blocks queue)) le))
