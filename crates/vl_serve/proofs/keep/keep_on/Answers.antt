use Rattle.log_desk.proofs.KeepLaws.{keeps_looked}
use Rattle.vl_serve.specs.Keeping.{kept_then, no_rounds}
use Rattle.vl_serve.proofs.Keeps.{Holds, moved, rounds_by, rounds_far, rounds_looked, rounds_still}
use Rattle.vl_serve.proofs.keep.keep_on.Goals as goal
use Rattle.vl_serve.proofs.keep.keep_on.Goals.{then-is_due+else-is_last, else-is_due}

pub rounds-init : goal.rounds-init
rounds-init g c =
    let told = g.V.Vault.is_told in
    let past = g.V.Vault.past in
    let risen = g.V.Vault.faults in
    let store = c.args.keeper.now in
    let pass = c.args.pass.now in
    record {
      can_next = tt;
      is_finite = tt;
      keeps = c.requires;
      rounds = rounds_by told past risen store store pass pass c.new-kept.result no_rounds c.new-kept.ensures
          (rounds_still told past risen c.args.desk.now store pass c.requires c.finds_law.ensures);
    }

pub returns-then-is_last-clause-rounds : goal.returns-then-is_last-clause-rounds
returns-then-is_last-clause-rounds g c =
    let told = g.V.Vault.is_told in
    let past = g.V.Vault.past in
    let risen = g.V.Vault.faults in
    let lock = c.args.desk.now in
    let store = c.args.keeper.now in
    let pass = c.args.pass.now in
    let before = c.rounds in
    let looked = c.status-count.new.pass in
    rounds_by told past risen store c.keep_once.new.keeper pass c.keep_once.new.pass c.then-kept.result
    (kept_then before.kept c.keep_once.result) c.then-kept.ensures
    (rounds_far told past risen lock store before.keeper c.keep_once.new.keeper pass looked c.keep_once.new.pass
    before.kept c.keep_once.result c.requires
    (rounds_looked told past risen lock store before.keeper pass before.pass looked before.kept before.invariant.rounds
    c.status-count.ensures.looked) c.keep_once.ensures.rounds)

pub rounds-preserved : goal.rounds-preserved
rounds-preserved g c =
    let told = g.V.Vault.is_told in
    let past = g.V.Vault.past in
    let risen = g.V.Vault.faults in
    let lock = c.args.desk.now in
    let store = c.args.keeper.now in
    let pass = c.args.pass.now in
    let before = c.rounds in
    let looked = c.status-count.new.pass in
    let then = c.if-is_due in
    let have = rounds_looked told past risen lock store before.keeper pass before.pass looked before.kept
    before.invariant.rounds c.status-count.ensures.looked in
    let may = keeps_looked lock before.keeper before.pass looked before.invariant.keeps c.status-count.ensures.looked
    c.status-count.ensures.pass in
    let both : Holds told past risen lock store pass then.keeper then.pass then.kept = elim then.branch [
      | then-is_due+else-is_last w ↦ moved (Holds told past risen lock store pass) then.keeper w.keep_once.new.keeper
          then.pass w.keep_once.new.pass then.kept w.then-kept.result w.keeper-is w.pass-is w.kept-is (
            w.keep_once.ensures.keeps,
            rounds_by told past risen store w.keep_once.new.keeper pass w.keep_once.new.pass w.then-kept.result
                (kept_then before.kept w.keep_once.result) w.then-kept.ensures
                (rounds_far told past risen lock store before.keeper w.keep_once.new.keeper pass looked w.keep_once.new.pass
                before.kept w.keep_once.result c.requires have w.keep_once.ensures.rounds),
          )
      | else-is_due w ↦ moved (Holds told past risen lock store pass) then.keeper before.keeper then.pass looked then.kept
          before.kept w.keeper-is w.pass-is w.kept-is (may, have)
    ] in
    record { can_next = tt; is_finite = tt; keeps = both.0; rounds = both.1 }
