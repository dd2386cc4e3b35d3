use Rattle.std.proofs.Common.{ℕ, Err, Ok, ap, drop, length}
use Rattle.byte_format.specs.Spelling.{reading}
use Rattle.part_file.specs.Format.{part, part_writing}
use Rattle.part_file.specs.TestLaws.{written-is}
use Rattle.part_file.specs.declared.fault.PartFault.TheVariants as faults
use Rattle.part_file.proofs.FaultLaws.{fault-as, never-other, one-version, place-as}
use Rattle.part_file.proofs.VersionLaws.{other-reading}
use Rattle.part_file.proofs.part.Part.from_bytes.Goals as goal

pub returns-in-Some-clause-only : goal.returns-in-Some-clause-only
returns-in-Some-clause-only c rows written =
    absurd (never-other c.args.bytes.now c.in-Some.found rows c.in-Some.ensures.some written)

pub returns-in-Some-clause-exact : goal.returns-in-Some-clause-exact
returns-in-Some-clause-exact c =
    (length (drop 6 c.args.bytes.now), other-reading c.args.bytes.now c.in-Some.found c.in-Some.ensures.some)

pub returns-in-Some-clause-version : goal.returns-in-Some-clause-version
returns-in-Some-clause-version c version other =
    ap (λ (n : ℕ). Err (faults.Version n)) (one-version c.args.bytes.now version c.in-Some.found other
    c.in-Some.ensures.some)

pub returns-in-Ok-clause-found : goal.returns-in-Ok-clause-found
returns-in-Ok-clause-found c = written-is c.in-Ok.part c.args.bytes.now c.in-Ok.ensures.found

pub returns-in-Ok-clause-only : goal.returns-in-Ok-clause-only
returns-in-Ok-clause-only c rows written = c.in-Ok.ensures.only rows written

pub returns-in-Ok-clause-version : goal.returns-in-Ok-clause-version
returns-in-Ok-clause-version c version other =
    absurd (c.in_default.ensures.none version other)

pub returns-in-Err-clause-only : goal.returns-in-Err-clause-only
returns-in-Err-clause-only c rows written =
    rw c.fault_of.ensures (fault-as c.in-Err.fault c.args.bytes.now (Ok rows) (c.in-Err.ensures.only rows written))

pub returns-in-Err-clause-damaged : goal.returns-in-Err-clause-damaged
returns-in-Err-clause-damaged c =
    rw c.fault_of.ensures (place-as c.in-Err.fault c.args.bytes.now c.in_default.ensures.none
    c.in-Err.ensures.damaged)

pub returns-in-Err-clause-exact : goal.returns-in-Err-clause-exact
returns-in-Err-clause-exact c =
    rw c.fault_of.ensures (fault-as c.in-Err.fault c.args.bytes.now (reading part part_writing c.args.bytes.now)
    c.in-Err.ensures.exact)

pub returns-in-Err-clause-version : goal.returns-in-Err-clause-version
returns-in-Err-clause-version c version other =
    absurd (c.in_default.ensures.none version other)
