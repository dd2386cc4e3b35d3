use Rattle.std.proofs.Common.{List, subst}
use Rattle.std.specs.Arc.{arc_value}
use Rattle.std.specs.List.{AllByRecursion}
use Rattle.byte_format.specs.Spelling.{HasSpelling}
use Rattle.block_format.specs.Reading.{block_writing}
use Rattle.block_format.specs.Rows.{IsBlock}
use Rattle.block_format.specs.Spelling.{block_bytes}
use Rattle.block_format.proofs.ReadAgain.{is-written}
use Rattle.block_format.proofs.TestLaws.{is-block}
use Rattle.block_model.specs.Keys.{IsNumbered}
use Rattle.log_model.specs.History.{Numbered}
use Rattle.block_body.specs.Held.{rows_held}
use Rattle.block_body.proofs.stored.StoredRows.rules.Goals as goal

pub returns-clause-block : goal.returns-clause-block
returns-clause-block c = subst IsBlock c.self.view_is c.self.invariant.held.block

pub returns-clause-each : goal.returns-clause-each
returns-clause-each c = subst (AllByRecursion IsNumbered) c.self.view_is c.self.invariant.held.each

pub returns-clause-spelled : goal.returns-clause-spelled
returns-clause-spelled c =
    let held = c.self.invariant.held in
    let rows : List Numbered = rows_held c.self.inside.head (arc_value c.self.inside.body) c.self.inside.batches in
    subst (λ (r : List Numbered). HasSpelling (block_writing r)) c.self.view_is (
      block_bytes rows,
      is-written rows (is-block
          rows held.block held.each held.texts),
    )
