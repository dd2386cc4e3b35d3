use Rattle.std.proofs.Common.{ap}
use Rattle.log_model.specs.Token.{string_text}
use Rattle.log_model.specs.Value.{member_name}
use Rattle.jsonline_in.specs.Reading.{expect, characters_at}
use Rattle.jsonline_in.specs.Clauses.{mapped}
use Rattle.jsonline_in.proofs.Copies.{mapped_err}
use Rattle.jsonline_in.proofs.Decoding.{stops_at}
use Rattle.jsonline_in.proofs.Labels.{no_quote, no_text, no_colon, name_made}
use Rattle.jsonline_in_plain.proofs.text.name.Goals as goal

pub returns-in_err-expect : goal.returns-in_err-expect
returns-in_err-expect c =
    let text = c.args.text.now in
    stops_at _ c.from_residual.result _ (expect 34 text) _ c.from_residual.ensures.1
    (λ fault h. ap (mapped member_name) (no_quote text fault h)) c.in_err-expect.ensures

pub returns-in_err-name : goal.returns-in_err-name
returns-in_err-name c =
    let inner = c.in_ok-expect.field-0.now in
    stops_at _ c.from_residual-in_err-name.result _ (mapped string_text (characters_at inner)) _
    c.from_residual-in_err-name.ensures.1
    (λ fault h. ap (mapped member_name) (no_text c.args.text.now inner c.in_ok-expect.ensures fault
    (mapped_err _ (characters_at inner) fault h))) c.in_err-name.ensures

pub returns-in_err-rest : goal.returns-in_err-rest
returns-in_err-rest c =
    let inner = c.in_ok-expect.field-0.now in
    let here = c.skip_space.result.now in
    stops_at _ c.from_residual-in_err-rest.result _ (expect 58 here) _ c.from_residual-in_err-rest.ensures.1
    (λ fault h. ap (mapped member_name) (no_colon c.args.text.now inner c.in_ok-expect.ensures _ _
    c.in_ok-name.rest.now here c.in_ok-name.ensures c.skip_space.ensures fault h)) c.in_err-rest.ensures

pub returns : goal.returns
returns c =
    name_made c.args.text.now c.in_ok-expect.field-0.now c.in_ok-expect.ensures _ _ c.in_ok-name.rest.now
    c.skip_space.result.now c.in_ok-name.ensures c.skip_space.ensures
    c.in_ok-rest.rest.now c.skip_space-2.result.now _ member_name c.in_ok-rest.ensures c.skip_space-2.ensures
    (λ name e. e)
