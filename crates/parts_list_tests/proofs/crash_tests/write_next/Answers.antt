use Rattle.std.proofs.Common.{refl, subst, sym}
use Rattle.std.specs.Prelude.{Option, Some}
use Rattle.parts_list.specs.declared.list.List.{List as Listing}
use Rattle.parts_list.specs.Writing.{ComesNext}
use Rattle.parts_list_tests.proofs.crash_tests.write_next.Goals as goal

pub write_list-requires-clause-durable : goal.write_list-requires-clause-durable
write_list-requires-clause-durable c = λ told. c.requires.awaits.durable

pub write_list-requires-clause-next : goal.write_list-requires-clause-next
write_list-requires-clause-next c = λ told.
    subst (λ (o : Option (Option Listing)). ComesNext o c.args.list.now) (sym c.requires.awaits.found)
    c.requires.awaits.next

pub returns : goal.returns
returns c = record {
  durable = c.in_ok-write_list.ensures.durable tt;
  live = Some c.args.list.now;
  found = c.in_ok-write_list.ensures.written tt;
  next = refl;
}
