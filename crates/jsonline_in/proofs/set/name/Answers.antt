use Rattle.std.proofs.Common.{string_bytes, ap, ◌++◌}
use Rattle.log_model.specs.Token.{string_text}
use Rattle.log_model.specs.Value.{member_name}
use Rattle.jsonline_in.specs.Reading.{expect, characters_at}
use Rattle.jsonline_in.specs.Clauses.{mapped}
use Rattle.jsonline_in.proofs.Copies.{mapped_err}
use Rattle.jsonline_in.proofs.Decoding.{stops_at}
use Rattle.jsonline_in.proofs.Labels.{no_quote, no_text, no_colon, name_made}
use Rattle.jsonline_in.proofs.set.name.Goals as goal

pub returns-in_err-expect-clause-read : goal.returns-in_err-expect-clause-read
returns-in_err-expect-clause-read c =
    let text = c.args.text.now in
    stops_at _ c.from_residual.result _ (expect 34 text) _ c.from_residual.ensures.1
    (λ fault h. ap (mapped (λ label. string_bytes c.args.names.now ++ member_name label)) (no_quote text fault h))
    c.in_err-expect.ensures

pub returns-in_err-name-clause-read : goal.returns-in_err-name-clause-read
returns-in_err-name-clause-read c =
    let text = c.args.text.now in
    let inner = c.in_ok-expect.field-0.now in
    stops_at _ c.from_residual-in_err-name.result _ (mapped
    (λ characters. string_bytes c.args.names.now ++ string_text characters) (characters_at inner)) _
    c.from_residual-in_err-name.ensures.1
    (λ fault h. ap (mapped (λ label. string_bytes c.args.names.now ++ member_name label))
    (no_text text inner c.in_ok-expect.ensures fault (mapped_err _ (characters_at inner) fault h)))
    c.in_err-name.ensures.read

pub returns-in_err-rest-clause-read : goal.returns-in_err-rest-clause-read
returns-in_err-rest-clause-read c =
    let text = c.args.text.now in
    let inner = c.in_ok-expect.field-0.now in
    let here = c.after_space.result.now in
    stops_at _ c.from_residual-in_err-rest.result _ (expect 58 here) _ c.from_residual-in_err-rest.ensures.1
    (λ fault h. ap (mapped (λ label. string_bytes c.args.names.now ++ member_name label))
    (no_colon text inner c.in_ok-expect.ensures _ _ c.in_ok-name.rest.now here c.in_ok-name.ensures.read
    c.after_space.ensures fault h)) c.in_err-rest.ensures

pub returns-clause-read : goal.returns-clause-read
returns-clause-read c =
    name_made c.args.text.now c.in_ok-expect.field-0.now c.in_ok-expect.ensures _ _ c.in_ok-name.rest.now
    c.after_space.result.now c.in_ok-name.ensures.read c.after_space.ensures
    c.in_ok-rest.rest.now c.after_space-2.result.now _ (λ label. string_bytes c.args.names.now ++ member_name label)
    c.in_ok-rest.ensures c.after_space-2.ensures (λ name e. e)
