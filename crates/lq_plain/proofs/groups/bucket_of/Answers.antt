use Rattle.std.proofs.Common.{◌≡◌, ◌∙◌, [], FitsSigned, ap, sym, unsigned_abs, Err, None, arith}
use Rattle.std.proofs.lemmas.Int.{ints, to_z-of_z}
use Rattle.std.proofs.lemmas.Result.{IfOk-weaker}
use Rattle.std.specs.Int.{w64}
use Rattle.std.specs.Option.{option_map_or}
use Rattle.log_model.specs.Moment.{moment_text}
use Rattle.lq_ast.specs.Groups.{bucket_text, moment_of}
use Rattle.time_text.specs.declared.fault.TimeFault.{TimeFault}
use Rattle.lq_plain.proofs.Moments.{moment_is, no_moment}
use Rattle.lq_plain.proofs.groups.bucket_of.Goals as goal

pub returns-in-Ok : goal.returns-in-Ok
returns-in-Ok c =
    let read = c.in-Ok.ensures.ok in
    let step : FitsSigned w64 c.args.step = c.ranges.step in
    let moment : FitsSigned w64 c.in-Ok.moment = grind (arith, ints, read.1.0, read.1.1) in
    let first : FitsSigned w64 c.first_moment.result = grind (arith, ints, c.first_moment.type_inv) in
    let is = simp to_z-of_z at c.first_moment.ensures in
    let made = simp to_z-of_z at c.text_at.ensures in
    IfOk-weaker c.text_at.result _ _
    (λ t e. e ∙ ap (λ z. moment_text (unsigned_abs z)) is
    ∙ ap (λ o. option_map_or (bucket_text (unsigned_abs c.args.step)) o [])
    (sym (moment_is c.args.text.now c.in-Ok.moment read.0 read.1))) made

pub returns-in-Err : goal.returns-in-Err
returns-in-Err c =
    let none : moment_of c.args.text.now ≡ None =
    no_moment c.args.text.now c.in-Err.field-0 (λ e. c.in-Err.ensures.not_a_time (ap (λ (f : TimeFault). Err f) e))
    (λ e. c.in-Err.ensures.out_of_range (ap (λ (f : TimeFault). Err f) e)) in
    c.new.ensures ∙ ap (λ o. option_map_or (bucket_text (unsigned_abs c.args.step)) o []) (sym none)
