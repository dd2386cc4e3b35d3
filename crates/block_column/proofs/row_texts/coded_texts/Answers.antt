use Rattle.std.proofs.Common.{◌∙◌, ◌++◌, ◌∷◌, ◌<◌, ℕ, List, [], Bor, ◌+◌, ap, length, map, sym, rules}
use Rattle.std.proofs.lemmas.List.{length-map, map-append, take-map}
use Rattle.block_model.specs.Distinct.{text_at}
use Rattle.block_column.proofs.Whole.{one-more}
use Rattle.block_column.proofs.row_texts.coded_texts.Goals as goal

abbrev now_of : Bor (List ℕ) → List ℕ
now_of t = t.now

pub loop-i-preserved : goal.loop-i-preserved
loop-i-preserved c =
    let lt : c.loop-i.i < length c.args.codes.now = search rules in
    let all : List (List ℕ) = map (text_at c.args.texts.now) c.args.codes.now in
    let within : c.loop-i.i < length (map (text_at c.args.texts.now) c.args.codes.now) = rw (length-map c.args.codes.now
    (text_at c.args.texts.now)) lt in
    ap (map now_of) c.in_ok-push.ensures.items ∙ map-append now_of c.loop-i.lent.items (c.coded.result ∷ [])
    ∙ ap (λ (l : List (List ℕ)). l ++ c.coded.result.now ∷ []) (c.loop-i.invariant ∙ sym (take-map (text_at
    c.args.texts.now) c.loop-i.i c.args.codes.now))
    ∙ sym (one-more all c.loop-i.i c.coded.result.now within c.coded.ensures)
    ∙ take-map (text_at c.args.texts.now) (c.loop-i.i + 1) c.args.codes.now
