use Rattle.std.proofs.Common.{◌≡◌, ◌≢◌, None, Some, ap, refl, sym, subst, ◌∙◌}
use Rattle.log_desk.specs.Seen.{caller_of, seen_of}
use Rattle.vl_session.specs.Incoming.{InsertsBatch}
use Rattle.vl_session.proofs.insert.Incoming.commit.Goals as goal

pub returns-in-Ok-clause-committed : goal.returns-in-Ok-clause-committed
returns-in-Ok-clause-committed g c = record {
  accepted = refl;
  refused = refl;
  inserts = subst (λ batch. InsertsBatch (caller_of c.args.pass.now) batch (seen_of c.args.pass.now)
      (seen_of c.insert_prepared.new.pass) (Some c.in-Ok.number)) (sym c.in-Some.is)
      (c.in-Ok.ensures.takes, ap Some c.in-Ok.ensures.number);
}

pub returns-in-Err-clause-refused : goal.returns-in-Err-clause-refused
returns-in-Err-clause-refused g c =
    let some : c.args.self.batch ≢ None = λ none. let no : None ≡ Some c.in-Some.batch = sym none ∙ c.in-Some.is in absurd cc in
    (some, (c.in-Err.fault, c.from.ensures, c.in-Err.ensures.refused))
