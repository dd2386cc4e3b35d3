use Rattle.std.proofs.Common.{◌≡◌, ◌∙◌, ◌<◌, length, true, rules, sym}
use Rattle.std.proofs.lemmas.Slice.Eq.{bytes_eq-Decides}
use Rattle.block_model.specs.Texts.{is_text_field}
use Rattle.block_body.proofs.NamedLaws.{name-more, passes-more}
use Rattle.block_body.proofs.names.are_named.Goals as goal

pub loop-i-preserved : goal.loop-i-preserved
loop-i-preserved c =
    let lt : c.loop-i.i < length c.args.fields.now = search rules in
    let also : c.loop-i.i < length c.args.names.now = search rules in
    let yes : c.is_named.result ≡ true = search rules in
    let same = (bytes_eq-Decides c.index-fields-i.result.0 c.index-names-i.result).0 (sym c.is_named.ensures.name ∙ yes) in
    record {
      names = name-more c.args.fields.now c.args.names.now c.loop-i.i c.index-fields-i.result c.index-names-i.result lt
          also c.index-fields-i.is c.index-names-i.is c.loop-i.invariant.names same;
      texts = passes-more is_text_field c.args.fields.now c.loop-i.i c.index-fields-i.result lt c.index-fields-i.is
          c.loop-i.invariant.texts c.is_named.ensures.text;
    }
