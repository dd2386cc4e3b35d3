use Rattle.std.proofs.Common.{◌≡◌, ◌∙◌, ap, sym, List, ℕ}
use Rattle.std.specs.Prelude.{bytes_eq}
use Rattle.std.specs.List.{list_all}
use Rattle.block_format.proofs.TestLaws.{both_from}
use Rattle.block_model.specs.Columns.{Column}
use Rattle.block_reading.proofs.labels.is_label.Goals as goal

pub returns : goal.returns
returns c e =
    let values : c.column.inside.values ≡ c.args.column.now.1 = ap (λ (k : Column). k.1) c.column.view_is in
    let text : c.value.result.now ≡ c.args.label.now.1 = c.value.ensures in
    both_from (bytes_eq c.args.label.now.0 c.args.column.now.0) (list_all (bytes_eq c.args.label.now.1)
    c.args.column.now.1) (sym c.is_named.ensures ∙ c.if-not-is_named.false) (ap (λ (l : List (List ℕ)). list_all (bytes_eq
    c.args.label.now.1) l) (sym values) ∙ ap (λ (t : List ℕ). list_all (bytes_eq t) c.column.inside.values) (sym text)
    ∙ c.is_filled_with.ensures e)
