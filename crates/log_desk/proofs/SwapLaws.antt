-- What a swap in one turn does.
use Rattle.std.proofs.Common.{◌≡◌, ℕ, ◌<◌, ◌≤◌, List, ◌++◌, length, take, sym, ap, subst, arith, length-append}
use Rattle.std.specs.Prelude.{OnErr, OnOk, Result, Ok, Err}
use Rattle.std.proofs.lemmas.List.{length-map}
use Rattle.log_model.specs.Batches.{AreOf}
use Rattle.log_model.specs.Core.{AreFront, Contents}
use Rattle.log_model.specs.History.{Numbered, entry_rows}
use Rattle.turn_lock.specs.Entries.{whats}
use Rattle.turn_lock.specs.Passes.{Finds, PassState}
use Rattle.log_core.specs.Entries.{seen_history, stands_for}
use Rattle.log_core.specs.declared.entries.EntryRows.{EntryRows}
use Rattle.log_core.proofs.EntryLaws.{stands_seen}
use Rattle.log_desk.specs.Keeping.{batches_seen}
use Rattle.log_desk.proofs.KeepLaws.{batches_on, length-batches, take_on}
use Rattle.log_desk.proofs.TurnLaws.{rows}

-- Parts of the first batches that a pass has seen are parts of the first that there are in its turn.
pub front_found : (held : Contents (List Numbered)) (p q : PassState EntryRows) (front : ℕ) (days : List
    (List Numbered))
    → Finds p q → front ≤ length p.seen → AreOf rows days (take front (batches_seen p.seen))
    → stands_for rows held (whats q.seen) → AreFront rows held front days
front_found held p q front days finds within are stands =
    let knows = finds.knows in
    let seen = batches_on p.lock.passes p.numbers p.seen q.seen knows in
    let fits : front ≤ length (batches_seen p.seen) = omega (arith, within, length-batches p.seen) in (
      seen_history q.seen,
      stands_seen rows held q.seen stands,
      omega (
        arith,
        fits,
        ap length seen,
        length-append (batches_seen p.seen) (batches_seen knows.rest),
        length-map (seen_history q.seen) entry_rows,
      ),
      subst (AreOf rows days)
          (sym (take_on front (batches_seen p.seen) (batches_seen q.seen) (batches_seen knows.rest) seen fits)) are,
    )

-- Whether it was swapped or not, the mark is not above the front.
pub mark_within : {T E : Type 0} (r : Result T E) (mark old front : ℕ) → OnOk r (mark ≡ front) → OnErr r (mark ≡ old)
    → old ≤ front → mark ≤ front
mark_within (Ok x) mark old front ok err up = omega (arith, ok)
mark_within (Err e) mark old front ok err up = omega (arith, err, up)
