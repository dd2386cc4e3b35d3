use Rattle.std.proofs.Common.{◌≡◌, take}
use Rattle.lq_filter.specs.Tree.{condition_of}
use Rattle.block_scan.specs.Scans.{condition_of_scanner, moment_of_scanner}
use Rattle.matching_rows.specs.Found.{HasFound}
use Rattle.matching_rows.specs.Matches.{matches_in, rows_of_all}
use Rattle.matching_rows.proofs.found.all_found.Given as goal

abbrev pub invariant-loop-block : goal.invariant-loop-block
invariant-loop-block l = record {
  filter : condition_of_scanner l.scanner ≡ condition_of l.fn.filter;
  moment : moment_of_scanner l.scanner ≡ l.fn.now;
  found : HasFound l.opened (matches_in (condition_of l.fn.filter) l.fn.now (rows_of_all (take l.block l.opened)))
      l.found.items;
}
