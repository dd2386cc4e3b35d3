use Rattle.std.proofs.Common.{◌∙◌, ap, length, sym}
use Rattle.std.proofs.lemmas.List.{length-map}
use Rattle.block_body.specs.Outlines.{time_of}
use Rattle.lq_ast.specs.Holds.{is_within}
use Rattle.block_scan.proofs.Staying.{kept-map}
use Rattle.block_scan.specs.Marks.{kept}
use Rattle.block_scan.proofs.leaves.keep_during.Goals as goal

pub keep_times-requires-clause-long : goal.keep_times-requires-clause-long
keep_times-requires-clause-long c =
    c.requires ∙ sym (length-map c.args.rows.now time_of) ∙ ap length (sym c.times.ensures.times)

pub returns : goal.returns
returns c =
    let test = is_within c.args.ends.now.low c.args.ends.now.high in
    c.keep_times.ensures ∙ ap (λ l. kept test l c.args.marks.now) c.times.ensures.times
    ∙ kept-map test time_of c.args.rows.now c.args.marks.now
