use Rattle.std.proofs.Common.{◌≡◌, ℕ, true, List, ap, ◌∙◌, subst}
use Rattle.regex.specs.Failures.{IsRightKind}
use Rattle.regex.specs.Patterns.{Config, default_config}
use Rattle.regex.specs.Sources.{IsRefusal}
use Rattle.regex.specs.Views.{builder_config, builder_source}
use Rattle.lq_filter.proofs.room.Room.build_within.Goals as goal

pub returns-in-Err-clause-by_grammar : goal.returns-in-Err-clause-by_grammar
returns-in-Err-clause-by_grammar c =
    let config : record (builder_config c.size_limit.result) { utf8 = true } ≡ default_config =
    ap (λ b. record (builder_config b) { utf8 = true }) c.size_limit.ensures
    ∙ ap (λ (config : Config). record config { utf8 = true }) c.new.ensures.config in
    let source : builder_source c.size_limit.result ≡ c.args.text.now =
    ap builder_source c.size_limit.ensures ∙ c.new.ensures.source in
    subst (λ (read : Config). IsRefusal read c.args.text.now c.in-Err.error) config
    (subst (λ (text : List ℕ). IsRefusal (record (builder_config c.size_limit.result) { utf8 = true }) text
    c.in-Err.error) source c.in-Err.ensures.by_grammar)

pub returns-in-Err-clause-kind : goal.returns-in-Err-clause-kind
returns-in-Err-clause-kind c =
    let config : record (builder_config c.size_limit.result) { utf8 = true } ≡ default_config =
    ap (λ b. record (builder_config b) { utf8 = true }) c.size_limit.ensures
    ∙ ap (λ (config : Config). record config { utf8 = true }) c.new.ensures.config in
    let source : builder_source c.size_limit.result ≡ c.args.text.now =
    ap builder_source c.size_limit.ensures ∙ c.new.ensures.source in
    subst (λ (read : Config). IsRightKind read c.args.text.now c.in-Err.error) config
    (subst (λ (text : List ℕ). IsRightKind (record (builder_config c.size_limit.result) { utf8 = true }) text
    c.in-Err.error) source c.in-Err.ensures.kind)
