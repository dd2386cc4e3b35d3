use Rattle.std.proofs.Common.{string_bytes, ap, ◌∙◌, ◌++◌}
use Rattle.jsonline_in.proofs.Copies.{string_prefix, string_copied}
use Rattle.jsonline_in_plain.proofs.tokens.Tokens.string.Goals as goal

pub prefix-requires : goal.prefix-requires
prefix-requires c = string_prefix _ c.args.text.now c.in_ok-rest.rest.now _ c.in_ok-rest.ensures

pub returns : goal.returns
returns c =
    string_copied _ c.args.text.now c.in_ok-rest.rest.now _ c.in_ok-rest.ensures (string_bytes c.args.self.now.text)
    (string_bytes c.push_str.new.self) (string_bytes c.push_str-2.new.self)
    c.in_ok-push_str.ensures.bytes (c.in_ok-push_str-2.ensures.bytes
    ∙ ap (λ t. string_bytes c.push_str.new.self ++ t) c.prefix.ensures)
