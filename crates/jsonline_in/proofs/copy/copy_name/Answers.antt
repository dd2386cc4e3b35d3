use Rattle.std.proofs.Common.{string_bytes, ap, ◌++◌}
use Rattle.log_model.specs.Token.{string_source}
use Rattle.log_model.specs.Value.{label_tokens}
use Rattle.jsonline_in.specs.Reading.{expect, characters_at}
use Rattle.jsonline_in.specs.Clauses.{mapped, compact}
use Rattle.jsonline_in.proofs.Copies.{mapped_err}
use Rattle.jsonline_in.proofs.Decoding.{stops_at}
use Rattle.jsonline_in.proofs.Labels.{no_quote, no_text, no_colon, name_made, label_copied}
use Rattle.jsonline_in.proofs.copy.copy_name.Goals as goal

pub returns-in_err-expect : goal.returns-in_err-expect
returns-in_err-expect c =
    let text = c.args.text.now in
    stops_at _ c.from_residual.result _ (expect 34 text) _ c.from_residual.ensures.1
    (λ fault h. ap (mapped (λ label. string_bytes c.args.copied.now ++ compact (label_tokens label)))
    (no_quote text fault h)) c.in_err-expect.ensures

pub returns-in_err-rest : goal.returns-in_err-rest
returns-in_err-rest c =
    let text = c.args.text.now in
    let inner = c.in_ok-expect.field-0.now in
    stops_at _ c.from_residual-in_err-rest.result _ (mapped
    (λ characters. string_bytes c.args.copied.now ++ string_source characters) (characters_at inner)) _
    c.from_residual-in_err-rest.ensures.1
    (λ fault h. ap (mapped (λ label. string_bytes c.args.copied.now ++ compact (label_tokens label)))
    (no_text text inner c.in_ok-expect.ensures fault (mapped_err _ (characters_at inner) fault h)))
    c.in_err-rest.ensures

pub returns-in_err-rest-2 : goal.returns-in_err-rest-2
returns-in_err-rest-2 c =
    let text = c.args.text.now in
    let inner = c.in_ok-expect.field-0.now in
    let here = c.after_space.result.now in
    stops_at _ c.from_residual-in_err-rest-2.result _ (expect 58 here) _ c.from_residual-in_err-rest-2.ensures.1
    (λ fault h. ap (mapped (λ label. string_bytes c.args.copied.now ++ compact (label_tokens label)))
    (no_colon text inner c.in_ok-expect.ensures _ _ c.in_ok-rest.rest.now here c.in_ok-rest.ensures
    c.after_space.ensures fault h)) c.in_err-rest-2.ensures

pub returns : goal.returns
returns c =
    name_made c.args.text.now c.in_ok-expect.field-0.now c.in_ok-expect.ensures _ _ c.in_ok-rest.rest.now
    c.after_space.result.now c.in_ok-rest.ensures c.after_space.ensures
    c.in_ok-rest-2.rest.now c.after_space-2.result.now (string_bytes c.push_str.new.self)
    (λ label. string_bytes c.args.copied.now ++ compact (label_tokens label)) c.in_ok-rest-2.ensures
    c.after_space-2.ensures
    (λ name e. label_copied (string_bytes c.args.copied.now) _ (string_bytes c.push_str.new.self) name
    c.in_ok-push_str.ensures.bytes e)
