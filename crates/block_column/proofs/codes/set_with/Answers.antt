use Rattle.std.proofs.Common.{◌≡◌, ◌+◌, ◌∷◌, ◌∙◌, sym, ℕ, List, [], Bor, get_or, length, map, ap, arith, take}
use Rattle.std.specs.Prelude.{nat_le}
use Rattle.std.specs.BTreeSet.{insert_key}
use Rattle.std.specs.List.{list_all}
use Rattle.std.proofs.lemmas.Bool.{lt-leb, le-leb}
use Rattle.std.proofs.lemmas.List.{length-map}
use Rattle.byte_format.proofs.Cases.{second_false}
use Rattle.log_model.specs.Field.{bytes_cmp}
use Rattle.block_model.specs.Distinct.{distinct, is_short}
use Rattle.block_model.proofs.Distinct.{first_false, one-text-fails, one-text-more, put-no-fewer, put-one-more}
use Rattle.block_model.proofs.Rising.{distinct-rising}
use Rattle.block_column.proofs.codes.set_with.Goals as goal

abbrev now_of : Bor (List ℕ) → List ℕ
now_of t = t.now

pub returns-then-value-gt-MAX_VALUE_LEN : goal.returns-then-value-gt-MAX_VALUE_LEN
returns-then-value-gt-MAX_VALUE_LEN c =
    let none : Bor (List ℕ) = record { ref_ptr = (0, 0); now = [] } in
    let ts = map now_of c.args.rest.now in
    second_false (nat_le (length (distinct (c.args.first.now ∷ ts))) 255) (list_all is_short (c.args.first.now ∷ ts))
    (second_false (is_short c.args.first.now) (list_all is_short ts)
    (one-text-fails now_of is_short c.args.rest.now c.loop-value.value-index none c.loop-value-test.true
    (lt-leb _ 256 c.if-value-gt-MAX_VALUE_LEN.true)))

pub put_value-requires-clause-rising : goal.put_value-requires-clause-rising
put_value-requires-clause-rising c =
    rw c.loop-value.invariant.so_far (distinct-rising (c.args.first.now ∷ map now_of (take c.loop-value.value-index
    c.args.rest.now)))

pub returns-then-len-gt-MAX_VALUES : goal.returns-then-len-gt-MAX_VALUES
returns-then-len-gt-MAX_VALUES c =
    let none : Bor (List ℕ) = record { ref_ptr = (0, 0); now = [] } in
    let ts = map now_of c.args.rest.now in
    let put = put-one-more now_of (c.args.first.now ∷ []) c.args.rest.now c.loop-value.value-index none
    c.loop-value-test.true in
    let more : map now_of c.put_value.new.set.keys
    ≡ distinct (c.args.first.now ∷ map now_of (take (c.loop-value.value-index + 1) c.args.rest.now)) =
    c.in_ok-put_value.ensures.values
    ∙ ap (λ (l : List (List ℕ)). insert_key bytes_cmp l (get_or c.args.rest.now c.loop-value.value-index none).now)
    c.loop-value.invariant.so_far
    ∙ sym put in
    let fewer = put-no-fewer now_of (c.args.first.now ∷ []) c.args.rest.now (c.loop-value.value-index + 1) in
    first_false (nat_le (length (distinct (c.args.first.now ∷ ts))) 255) (list_all is_short (c.args.first.now ∷ ts))
    (lt-leb _ 255 (omega (
      arith,
      fewer,
      ap length more,
      length-map c.put_value.new.set.keys now_of,
      c.len.ensures.len,
      c.if-len-gt-MAX_VALUES.true,
    )))

pub loop-value-preserved : goal.loop-value-preserved
loop-value-preserved c =
    let none : Bor (List ℕ) = record { ref_ptr = (0, 0); now = [] } in
    let put = put-one-more now_of (c.args.first.now ∷ []) c.args.rest.now c.loop-value.value-index none
    c.loop-value-test.true in
    record {
      so_far = c.in_ok-put_value.ensures.values
          ∙ ap (λ (l : List (List ℕ)). insert_key bytes_cmp l (get_or c.args.rest.now c.loop-value.value-index none).now)
          c.loop-value.invariant.so_far
          ∙ sym put;
      short = one-text-more now_of is_short c.args.rest.now c.loop-value.value-index none
          c.loop-value-test.true c.loop-value.invariant.short (le-leb _ 256 c.if-value-gt-MAX_VALUE_LEN.false);
      few = omega (arith, c.len.ensures.len, c.if-len-gt-MAX_VALUES.false);
      recent = c.in_ok-put_value.ensures.recent;
    }
