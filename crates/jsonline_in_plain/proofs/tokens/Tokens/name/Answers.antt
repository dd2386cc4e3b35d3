use Rattle.std.proofs.Common.{string_bytes, ap, ◌++◌}
use Rattle.log_model.specs.Token.{string_source}
use Rattle.log_model.specs.Value.{label_tokens}
use Rattle.jsonline_in.specs.Reading.{expect, characters_at}
use Rattle.jsonline_in.specs.Clauses.{mapped, compact}
use Rattle.jsonline_in.proofs.Copies.{mapped_err}
use Rattle.jsonline_in.proofs.Decoding.{stops_at}
use Rattle.jsonline_in.proofs.Labels.{no_quote, no_text, no_colon, name_made, label_copied}
use Rattle.jsonline_in_plain.proofs.tokens.Tokens.name.Goals as goal

pub returns-in_err-inside : goal.returns-in_err-inside
returns-in_err-inside c =
    let text = c.args.text.now in
    stops_at _ c.from_residual.result _ (expect 34 text) _ c.from_residual.ensures.1
    (λ fault h. ap (mapped (λ label. string_bytes c.args.self.now.text ++ compact (label_tokens label)))
    (no_quote text fault h)) c.in_err-inside.ensures

pub returns-in_err-after_name : goal.returns-in_err-after_name
returns-in_err-after_name c =
    let text = c.args.text.now in
    let inner = c.in_ok-inside.inside.now in
    stops_at _ c.from_residual-in_err-after_name.result _ (mapped
    (λ characters. string_bytes c.args.self.now.text ++ string_source characters) (characters_at inner)) _
    c.from_residual-in_err-after_name.ensures.1
    (λ fault h. ap (mapped (λ label. string_bytes c.args.self.now.text ++ compact (label_tokens label)))
    (no_text text inner c.in_ok-inside.ensures fault (mapped_err _ (characters_at inner) fault h)))
    c.in_err-after_name.ensures

pub returns-in_err-rest : goal.returns-in_err-rest
returns-in_err-rest c =
    let text = c.args.text.now in
    let inner = c.in_ok-inside.inside.now in
    let here = c.skip_space.result.now in
    stops_at _ c.from_residual-in_err-rest.result _ (expect 58 here) _ c.from_residual-in_err-rest.ensures.1
    (λ fault h. ap (mapped (λ label. string_bytes c.args.self.now.text ++ compact (label_tokens label)))
    (no_colon text inner c.in_ok-inside.ensures _ _ c.in_ok-after_name.after_name.now here c.in_ok-after_name.ensures
    c.skip_space.ensures fault h)) c.in_err-rest.ensures

pub returns : goal.returns
returns c =
    name_made c.args.text.now c.in_ok-inside.inside.now c.in_ok-inside.ensures _ _ c.in_ok-after_name.after_name.now
    c.skip_space.result.now c.in_ok-after_name.ensures c.skip_space.ensures
    c.in_ok-rest.rest.now c.skip_space-2.result.now (string_bytes c.push_str.new.self)
    (λ label. string_bytes c.args.self.now.text ++ compact (label_tokens label)) c.in_ok-rest.ensures
    c.skip_space-2.ensures
    (λ name e. label_copied (string_bytes c.args.self.now.text) _ (string_bytes c.push_str.new.self) name
    c.in_ok-push_str.ensures.bytes e)
