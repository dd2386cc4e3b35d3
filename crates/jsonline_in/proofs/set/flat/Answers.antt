use Rattle.std.proofs.Common.{string_bytes, ap, sym, refl, ◌∙◌, ◌++◌}
use Rattle.log_model.specs.Token.{string_text, scalar_text}
use Rattle.log_model.specs.Value.{array, tokens}
use Rattle.jsonline_in.specs.Reading.{characters_at, bare_at, nested_at}
use Rattle.jsonline_in.specs.Clauses.{mapped, compact, flat_text}
use Rattle.jsonline_in.proofs.Copies.{mapped_err}
use Rattle.jsonline_in.proofs.Decoding.{stops_at}
use Rattle.jsonline_in.proofs.ValueSteps.{gives_same, flat_square, quoted_mapped, bare_mapped}
use Rattle.jsonline_in.proofs.Settings.{string_flat, array_flat}
use Rattle.jsonline_in.proofs.set.flat.Goals as goal

pub returns-in-Some : goal.returns-in-Some
returns-in-Some c =
    let inside = c.in-Some.inside.now in
    gives_same _ c.string.result _ _ (quoted_mapped (nested_at c.args.depth) c.args.text.now flat_text inside
    string_text (sym c.in-Some.ensures) (λ characters. refl))
    (string_flat (λ s. s.now) (λ s. s.now) c.string.result (string_bytes c.clear.new.self) _ (characters_at inside)
    c.clear.ensures.bytes c.string.ensures.read c.string.ensures.kept)

pub returns-in_err-copy_nested : goal.returns-in_err-copy_nested
returns-in_err-copy_nested c =
    let inside = c.in-Some-past.inside.now in
    let old = string_bytes c.clear-in-Some-past.new.self in
    stops_at _ c.from_residual.result _ (mapped (λ value. old ++ compact (tokens value))
    (nested_at c.args.depth array inside)) _ c.from_residual.ensures.1
    (λ fault h. ap (mapped flat_text) (flat_square (nested_at c.args.depth) c.args.text.now inside
    (sym c.in_default.ensures) (sym c.in-Some-past.ensures)
    ∙ mapped_err _ (nested_at c.args.depth array inside) fault h)) c.in_err-copy_nested.ensures

pub returns-in-Some-past : goal.returns-in-Some-past
returns-in-Some-past c =
    let inside = c.in-Some-past.inside.now in
    ap (mapped flat_text) (flat_square (nested_at c.args.depth) c.args.text.now inside (sym c.in_default.ensures)
    (sym c.in-Some-past.ensures))
    ∙ array_flat c.args.depth inside (string_bytes c.clear-in-Some-past.new.self) c.clear-in-Some-past.ensures.bytes
    ∙ c.in_ok-copy_nested.ensures

pub returns-in_err-token : goal.returns-in_err-token
returns-in_err-token c =
    let text = c.args.text.now in
    stops_at _ c.from_residual-in_err-token.result _ (mapped scalar_text (bare_at text)) _
    c.from_residual-in_err-token.ensures.1
    (λ fault h. bare_mapped (nested_at c.args.depth) text flat_text scalar_text (sym c.in_default.ensures)
    (sym c.in_default-past.ensures) (λ token. refl) ∙ h) c.in_err-token.ensures

pub returns : goal.returns
returns c = bare_mapped (nested_at c.args.depth) c.args.text.now flat_text scalar_text (sym c.in_default.ensures)
    (sym c.in_default-past.ensures) (λ token. refl) ∙ c.in_ok-token.ensures
