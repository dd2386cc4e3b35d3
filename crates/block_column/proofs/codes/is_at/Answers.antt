use Rattle.std.proofs.Common.{◌≡◌, ◌∙◌, ◌<◌, length, sym, rules}
use Rattle.std.proofs.lemmas.Slice.Eq.{bytes_eq-Decides}
use Rattle.block_model.proofs.Distinct.{read-as}
use Rattle.block_model.proofs.Same.{code-at}
use Rattle.block_column.proofs.codes.is_at.Goals as goal

pub returns : goal.returns
returns c e =
    let lt : c.args.i < length c.args.sorted.now = search rules in
    let here = read-as c.args.sorted.now c.args.i c.index-sorted-i.result lt c.index-sorted-i.is in
    let same : c.args.value.now ≡ c.index-sorted-i.result =
    (bytes_eq-Decides c.args.value.now c.index-sorted-i.result).0 (sym c.is_value.ensures ∙ e) in
    code-at c.args.sorted.now c.args.value.now c.args.i c.requires lt (here ∙ sym same)
