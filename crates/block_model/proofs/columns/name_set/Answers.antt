use Rattle.std.proofs.Common.{◌≡◌, ◌∙◌, ℕ, List, Bor, ap, sym, take, rules}
use Rattle.block_model.specs.Columns.{names_of, put_names}
use Rattle.block_model.specs.Texts.{is_text_row}
use Rattle.block_model.proofs.NameLaws.{names-again, names-more, names-rising}
use Rattle.block_model.proofs.TextLaws.{passes-more}
use Rattle.block_model.proofs.columns.name_set.Goals as goal

abbrev now_of : Bor (List ℕ) → List ℕ
now_of t = t.now

pub loop-numbered-preserved : goal.loop-numbered-preserved
loop-numbered-preserved c =
    let fields : c.fields_of-fields.result.now ≡ c.numbered-item.result.row.fields = c.fields_of-fields.ensures in
    let before = take c.loop-numbered.numbered-index c.args.rows.now in
    let put = c.in_ok-put_names.ensures.names
    ∙ ap (λ (l : List (List ℕ)). put_names l c.fields_of-fields.result.now) c.loop-numbered.invariant.names in
    record {
      names = put ∙ ap (put_names (names_of before)) fields
          ∙ sym (names-more c.args.rows.now c.loop-numbered.numbered-index c.numbered-item.result
          c.loop-numbered-test.true c.numbered-item.is);
      texts = passes-more is_text_row c.args.rows.now c.loop-numbered.numbered-index c.numbered-item.result
          c.loop-numbered-test.true c.numbered-item.is c.loop-numbered.invariant.texts (search rules);
      last = ap (λ (l : List (List ℕ)). put_names l c.fields_of-fields.result.now) put
          ∙ names-again (names_of before) c.fields_of-fields.result.now
          (names-rising before)
          ∙ sym put;
    }
