use Rattle.log_desk.specs.Keeping.{MayKeep}
use Rattle.vl_serve.specs.Keeping.{HaveRounds}
use Rattle.vl_serve.proofs.keep.keep_on.Given as goal

abbrev pub invariant-rounds : goal.invariant-rounds
invariant-rounds g l = record {
  can_next : (goal.iterator-rounds g).can_next l.iterator';
  is_finite : (goal.iterator-rounds g).is_finite l.iterator';
  keeps : MayKeep l.desk l.keeper l.pass;
  rounds : HaveRounds g.V.Vault.is_told g.V.Vault.past g.V.Vault.faults l.initial.keeper l.keeper l.initial.pass l.pass
      l.kept;
}
