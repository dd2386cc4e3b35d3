use Rattle.std.proofs.Common.{◌≡◌, ◌∙◌, ap, rules, subst, sym, true}
use Rattle.std.specs.List.{AllByRecursion, list_all}
use Rattle.std.proofs.lemmas.List.{take_all}
use Rattle.block_model.specs.Columns.{names_in}
use Rattle.block_model.specs.Texts.{is_text_field, is_text_row}
use Rattle.block_body.proofs.NamedLaws.{HasNames, names-are, passes-more, row-more}
use Rattle.block_body.proofs.names.have_names.Goals as goal

pub loop-numbered-preserved : goal.loop-numbered-preserved
loop-numbered-preserved c =
    let yes : c.are_named.result ≡ true = search rules in
    let fields = c.fields_of.ensures.fields in
    let names = ap names_in (sym fields) ∙ c.are_named.ensures.names yes in
    let text = ap (list_all is_text_field) (sym fields) ∙ c.are_named.ensures.texts yes in
    record {
      each = row-more c.args.names.now c.args.rows.now c.loop-numbered.numbered-index c.numbered-item.result
          c.loop-numbered-test.true c.numbered-item.is c.loop-numbered.invariant.each (names, c.fields_of.ensures.rules);
      texts = passes-more is_text_row c.args.rows.now c.loop-numbered.numbered-index c.numbered-item.result
          c.loop-numbered-test.true c.numbered-item.is c.loop-numbered.invariant.texts text;
    }

pub returns-clause-names : goal.returns-clause-names
returns-clause-names c _ =
    names-are c.args.rows.now c.args.names.now c.requires (subst (AllByRecursion (HasNames c.args.names.now))
    (take_all c.loop-numbered.numbered-index c.args.rows.now c.loop-numbered-test.false) c.loop-numbered.invariant.each)
