use Rattle.std.proofs.Common.{string_bytes, ap, ◌∙◌, ◌++◌}
use Rattle.jsonline_in.proofs.Labels.{bare_prefix, bare_copied}
use Rattle.jsonline_in.proofs.copy.copy_bare.Goals as goal

pub prefix-requires : goal.prefix-requires
prefix-requires c = bare_prefix _ c.args.text.now c.in_ok-rest.rest.now _ c.in_ok-rest.ensures

pub returns : goal.returns
returns c = bare_copied _ c.args.text.now c.in_ok-rest.rest.now _ c.in_ok-rest.ensures
    (string_bytes c.args.copied.now) (string_bytes c.push_str.new.self)
    (c.in_ok-push_str.ensures.bytes ∙ ap (λ t. string_bytes c.args.copied.now ++ t) c.prefix.ensures)
