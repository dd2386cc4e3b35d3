use Rattle.std.proofs.Common.{◌++◌, ◌∙◌, ◌<◌, [], ap, get_or, length, map, of_z, rules, sym, to_z, w64}
use Rattle.lq_ast.specs.Holds.{holds}
use Rattle.lq_filter.specs.Tree.{condition_of}
use Rattle.block_scan.specs.Scans.{condition_of_scanner, moment_of_scanner}
use Rattle.matching_rows.specs.Found.{row_there}
use Rattle.matching_rows.specs.Matches.{matches_in}
use Rattle.matching_rows.proofs.Finding.{block_more, matches_same}
use Rattle.matching_rows.proofs.found.all_found.Goals as goal

pub loop-block-preserved : goal.loop-block-preserved
loop-block-preserved c =
    let opened = c.args.opened.now in
    let i = c.loop-block.block in
    let condition = condition_of c.args.filter.now in
    let now = to_z w64 (of_z w64 c.args.now) in
    let within : i < length opened = search rules in
    let more = c.in_ok-push_found.ensures.found in
    record {
      filter = c.push_found.ensures.filter ∙ c.loop-block.invariant.filter;
      moment = c.push_found.ensures.moment ∙ c.loop-block.invariant.moment;
      found = record {
        rows_there = more.rows_there
            ∙ ap (λ l. map (row_there opened) c.loop-block.found.items ++ l)
            (matches_same (condition_of_scanner c.loop-block.scanner) condition
            (moment_of_scanner c.loop-block.scanner) now (get_or opened i [])
            c.loop-block.invariant.filter c.loop-block.invariant.moment)
            ∙ ap (λ l. l ++ matches_in condition now (get_or opened i [])) c.loop-block.invariant.found.rows_there
            ∙ sym (block_more (λ row. holds now condition row.row) opened i within);
        each = more.each;
      };
    }
