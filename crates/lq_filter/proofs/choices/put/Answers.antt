use Rattle.std.proofs.Common.{◌≡◌, rules}
use Rattle.std.specs.Prelude.{string_bytes}
use Rattle.std.proofs.lemmas.Map.Text.{btree_set_updates_text}
use Rattle.lq_filter.proofs.Choosing.{with_one}
use Rattle.lq_filter.proofs.choices.put.Goals as goal

pub returns : goal.returns
returns c = λ value.
    let key = c.in_ok-from_str.field-0 in
    let bytes : string_bytes c.in_ok-from_str.field-0 ≡ c.args.text.now = search rules in
    rw bytes at (with_one (string_bytes key) value _ _
    (btree_set_updates_text (string_bytes key) c.args.sorted.now c.insert.new.self _ c.in_ok-insert.ensures.updates value))
