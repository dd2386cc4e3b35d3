use Rattle.log_desk_tests.proofs.kept_tests.KeptDesk.of_vault.Goals as goal

pub of_store-requires-clause-holds : goal.of_store-requires-clause-holds
of_store-requires-clause-holds g c = c.in-Some.ensures.holds

pub of_store-requires-clause-on : goal.of_store-requires-clause-on
of_store-requires-clause-on g c = c.in-Some.ensures.on
