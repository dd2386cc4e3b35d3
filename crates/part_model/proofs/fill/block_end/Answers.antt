use Rattle.std.proofs.Common.{◌≡◌, ◌+◌, ◌∙◌, ℕ, List, Bor, length, map, take, arith, ap, subst, sym, rules}
use Rattle.std.proofs.lemmas.Bool.{both_ways}
use Rattle.std.proofs.lemmas.List.{length-map}
use Rattle.block_model.specs.Columns.{names_of, put_names}
use Rattle.part_model.proofs.EndLaws.{ends-full, ends-last, ends-limit, ends-stream, first-names, first-one, limits-are}
use Rattle.part_model.proofs.EndLaws.{names-next, one-more, put-first, put-last}
use Rattle.part_model.specs.Ends.{EndsBlock}
use Rattle.part_model.proofs.fill.block_end.Goals.{then-rows-eq1-via-then-rows-eq1}
use Rattle.part_model.proofs.fill.block_end.Goals.{then-rows-eq1-via-else-rows-eq1+then-not-are_of_one_stream}
use Rattle.part_model.proofs.fill.block_end.Goals as goal

abbrev now_of : Bor (List ℕ) → List ℕ
now_of t = t.now

pub loop-i-init : goal.loop-i-init
loop-i-init c =
    let put = c.in_ok-put_names.ensures ∙ ap (λ (l : List (Bor (List ℕ))). put_names (map now_of l)
    c.fields_of-last.result.now) c.new-names.ensures.empty in
    record {
      few = omega arith;
      names = first-names c.args.rows.now c.index-rows-0.result (map now_of c.put_names.new.names.keys)
          c.fields_of-last.result.now c.requires c.index-rows-0.is c.fields_of-last.ensures.fields put;
      last = put-first (map now_of c.put_names.new.names.keys) c.fields_of-last.result.now put;
      one = first-one c.args.rows.now c.index-rows-0.result c.requires c.index-rows-0.is c.fields_of-last.ensures.rules;
    }

pub returns-then-i-eq-MAX_ROWS : goal.returns-then-i-eq-MAX_ROWS
returns-then-i-eq-MAX_ROWS c =
    ends-full c.args.rows.now c.loop-i.i c.index-rows-i.result c.loop-i.invariant.one c.loop-i-test.true c.index-rows-i.is
    (omega arith)

pub returns-then-not-are_of_one_stream-2 : goal.returns-then-not-are_of_one_stream-2
returns-then-not-are_of_one_stream-2 c =
    ends-stream c.args.rows.now c.loop-i.i c.index-rows-i.result c.index-rows-0-in-loop-i.result c.loop-i.invariant.one
    c.loop-i-test.true c.index-rows-i.is c.index-rows-0-in-loop-i.is (λ e. both_ways c.are_of_one_stream-in-loop-i.result
    c.if-not-are_of_one_stream-2.true (c.are_of_one_stream-in-loop-i.ensures.1 e))

pub returns-then-not-are_within : goal.returns-then-not-are_within
returns-then-not-are_within c =
    let names = names-next c.args.rows.now c.loop-i.i c.index-rows-i.result (map now_of c.loop-i.names.keys)
    (map now_of c.put_other_names.new.names.keys) c.fields_of-fields.result.now c.loop-i-test.true c.index-rows-i.is
    c.fields_of-fields.ensures.fields c.loop-i.invariant.names c.in_ok-put_other_names.ensures in
    let count : c.len.result ≡ length (names_of (take (c.loop-i.i + 1) c.args.rows.now)) = c.len.ensures.len
    ∙ sym (length-map c.put_other_names.new.names.keys now_of) ∙ ap length names in
    ends-limit c.args.rows.now c.loop-i.i c.index-rows-i.result c.loop-i.invariant.one c.loop-i-test.true c.index-rows-i.is
    (limits-are c.args.rows.now c.loop-i.i c.len.result c.loop-i-test.true (omega arith) count ∙ sym c.are_within.ensures
    ∙ c.if-not-are_within.true)

pub loop-i-preserved : goal.loop-i-preserved
loop-i-preserved c =
    let names = names-next c.args.rows.now c.loop-i.i c.index-rows-i.result (map now_of c.loop-i.names.keys)
    (map now_of c.put_other_names.new.names.keys) c.fields_of-fields.result.now c.loop-i-test.true c.index-rows-i.is
    c.fields_of-fields.ensures.fields c.loop-i.invariant.names c.in_ok-put_other_names.ensures in
    let count : c.len.result ≡ length (names_of (take (c.loop-i.i + 1) c.args.rows.now)) = c.len.ensures.len
    ∙ sym (length-map c.put_other_names.new.names.keys now_of) ∙ ap length names in
    record {
      few = omega arith;
      names = names;
      last = put-last c.args.rows.now c.loop-i.i (map now_of c.loop-i.names.keys) (map now_of
          c.put_other_names.new.names.keys) c.fields_of-fields.result.now c.loop-i.invariant.names
          c.in_ok-put_other_names.ensures;
      one = one-more c.args.rows.now c.loop-i.i c.index-rows-i.result c.index-rows-0-in-loop-i.result
          c.loop-i.invariant.one c.loop-i-test.true c.index-rows-i.is c.index-rows-0-in-loop-i.is
          (c.are_of_one_stream-in-loop-i.ensures.0 c.if-not-are_of_one_stream-2.false)
          (limits-are c.args.rows.now c.loop-i.i c.len.result c.loop-i-test.true (omega arith) count
          ∙ sym c.are_within.ensures ∙ c.if-not-are_within.false);
    }

pub returns : goal.returns
returns c = ends-last c.args.rows.now c.loop-i.i c.loop-i.invariant.one (omega arith)

pub returns-then-rows-eq1 : goal.returns-then-rows-eq1
returns-then-rows-eq1 c =
    let one = first-one c.args.rows.now c.index-rows-0.result c.requires c.index-rows-0.is c.fields_of-last.ensures.rules in
    elim c.then-rows-eq1.branch [
      | then-rows-eq1-via-then-rows-eq1 w ↦
          let all : 1 ≡ length c.args.rows.now = omega (arith, w.if-rows-eq1.true) in
          subst (EndsBlock c.args.rows.now) (sym all) (ends-last c.args.rows.now 1 one all)
      | then-rows-eq1-via-else-rows-eq1+then-not-are_of_one_stream w ↦
          ends-stream c.args.rows.now 1 w.index-rows-1.result w.index-rows-0-else-rows-eq1.result one
          (omega (arith, c.requires, w.if-rows-eq1.false)) w.index-rows-1.is w.index-rows-0-else-rows-eq1.is
          (λ e. both_ways w.are_of_one_stream.result w.if-not-are_of_one_stream.true (w.are_of_one_stream.ensures.1 e))
    ]
