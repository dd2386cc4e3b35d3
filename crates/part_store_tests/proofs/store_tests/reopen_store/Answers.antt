use Rattle.parts_list.specs.declared.list.Entry.{Entry}
use Rattle.vl_vault.specs.Moments.{IsDurable}
use Rattle.part_store.proofs.Every.{always}
use Rattle.part_store_tests.proofs.store_tests.reopen_store.Goals as goal

pub reopen-requires : goal.reopen-requires
reopen-requires c = record {
  durable = λ told list found.
      always (λ (entry : Entry). IsDurable c.args.vault.past entry.file) (λ entry. c.requires entry.file) list.entries;
}
