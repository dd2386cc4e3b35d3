use Rattle.std.proofs.Common.{◌≡◌, IfNone, IfSome, List, None, map, subst, sym}
use Rattle.std.specs.List.{All}
use Rattle.log_model.specs.History.{Numbered}
use Rattle.part_file.specs.Format.{part_writing, rows_said}
use Rattle.part_file.specs.Read.{WasRead, rows_of_items}
use Rattle.part_file.specs.declared.block_rows.BlockRows.{BlockRows}
use Rattle.part_file.proofs.read.PartItemsSpelled.make.Goals as goal

pub part_of_items-requires : goal.part_of_items-requires
part_of_items-requires c = subst (All WasRead) (sym c.as_slice.ensures.value) c.requires

pub returns-clause-some : goal.returns-clause-some
returns-clause-some c =
    subst (λ (l : List BlockRows). IfSome c.in_ok-made.made (λ (part : List Numbered). part ≡ rows_said (map rows_of_items
    l))) c.as_slice.ensures.value c.in_ok-made.ensures.some

pub returns-clause-none : goal.returns-clause-none
returns-clause-none c =
    subst (λ (l : List BlockRows). IfNone c.in_ok-made.made (part_writing (rows_said (map rows_of_items l)) ≡ None))
    c.as_slice.ensures.value c.in_ok-made.ensures.none
