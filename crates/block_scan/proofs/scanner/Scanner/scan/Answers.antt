use Rattle.std.proofs.Common.{◌∙◌, FitsSigned, ap, arith, replicate, rules, true, w64}
use Rattle.std.proofs.lemmas.Int.{to_z-of_z}
use Rattle.std.proofs.lemmas.List.{take_at}
use Rattle.lq_filter.specs.Tree.{condition_of_tree}
use Rattle.block_scan.proofs.Staying.{kept-from_all}
use Rattle.block_scan.specs.Marks.{kept}
use Rattle.block_scan.specs.Scans.{row_holds}
use Rattle.block_scan.proofs.scanner.Scanner.scan.Goals as goal

pub returns-clause-mask : goal.returns-clause-mask
returns-clause-mask c =
    let test = row_holds c.args.self.now.now (condition_of_tree c.args.self.now.filter.now) in
    let rows = c.args.b.now in
    let moment : FitsSigned w64 c.args.self.now.now = search rules in
    c.new.ensures ∙ take_at c.keep.new.marks _ _ (omega arith)
    ∙ (simp to_z-of_z at c.in_ok-keep.ensures)
    ∙ ap (kept test rows) (c.as_mut_slice.ensures.value ∙ c.in_ok-marks.ensures.items_if_clones_equal (λ y h. h)
    ∙ ap (λ n. replicate n true) c.len.ensures)
    ∙ kept-from_all test rows
