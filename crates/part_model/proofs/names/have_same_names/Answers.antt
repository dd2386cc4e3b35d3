use Rattle.std.proofs.Common.{◌≡◌, ◌∙◌, ◌<◌, length, true, rules, sym}
use Rattle.std.proofs.lemmas.Slice.Eq.{bytes_eq-Decides}
use Rattle.block_model.proofs.NameLaws.{same-more}
use Rattle.part_model.proofs.names.have_same_names.Goals as goal

pub loop-i-preserved : goal.loop-i-preserved
loop-i-preserved c =
    let lt : c.loop-i.i < length c.args.fields.now = search rules in
    let also : c.loop-i.i < length c.args.others.now = search rules in
    let yes : c.is_named_as.result ≡ true = search rules in
    let same = (bytes_eq-Decides c.index-fields-i.result.0 c.index-others-i.result.0).0 (sym c.is_named_as.ensures
    ∙ yes) in
    same-more c.args.fields.now c.args.others.now c.loop-i.i c.index-fields-i.result c.index-others-i.result lt
    also c.index-fields-i.is c.index-others-i.is c.loop-i.invariant same
