use Rattle.std.proofs.Common.{◌∙◌, ◌++◌, List, ap, map, subst, sym, take}
use Rattle.log_model.specs.History.{Numbered}
use Rattle.block_format.specs.Reading.{has_spelling}
use Rattle.part_model.specs.Filling.{rows_in_blocks}
use Rattle.part_file.specs.Read.{WasRead, rows_of_items}
use Rattle.part_file.proofs.ReadLaws.{items-more, one-fails, passes-more}
use Rattle.part_file.proofs.read.rows_of.Goals as goal

pub rows-requires : goal.rows-requires
rows-requires c =
    subst WasRead (sym c.item-item.is) (c.requires c.loop-item.item-index c.item-item.result c.loop-item-test.true)

pub returns-in-None : goal.returns-in-None
returns-in-None c =
    one-fails has_spelling rows_of_items c.args.items.now c.loop-item.item-index c.item-item.result c.loop-item-test.true
    c.item-item.is (rw c.in-None.is at c.in_ok-rows.ensures)

pub loop-item-preserved : goal.loop-item-preserved
loop-item-preserved c =
    let said = (rw c.in-Some.is at c.in_ok-rows.ensures) in
    record {
      rows = c.in_ok-append-in-Some.ensures.items
          ∙ ap (λ (l : List Numbered). l ++ c.in-Some.rows.items) c.loop-item.invariant.rows
          ∙ ap (λ (l : List Numbered). rows_in_blocks (map rows_of_items (take c.loop-item.item-index c.args.items.now))
          ++ l) said.0
          ∙ sym (items-more rows_of_items c.args.items.now c.loop-item.item-index c.item-item.result c.loop-item-test.true
          c.item-item.is);
      spelled = passes-more has_spelling rows_of_items c.args.items.now c.loop-item.item-index c.item-item.result
          c.loop-item-test.true c.item-item.is c.loop-item.invariant.spelled (ap has_spelling (sym said.0) ∙ said.1);
    }
