use Rattle.std.proofs.Common.{◌≡◌, ◌∙◌, inl, length, refl, sym, ap, subst, Ok, Err}
use Rattle.std.specs.Prelude.{None}
use Rattle.vl_vault.specs.Moments.{EachImage}
use Rattle.log_core.specs.Entries.{seen_history}
use Rattle.part_store.specs.Finds.{FindsParts}
use Rattle.part_store.specs.State.{StoreState}
use Rattle.log_desk.proofs.KeepLaws.{goes_looked, goes_self, goes_trans, holds_seen, round_err, round_is, round_looked}
use Rattle.log_desk.proofs.KeepLaws.{round_memory, round_ok}
use Rattle.log_desk.proofs.SeenLaws.{length-seen}
use Rattle.log_desk.proofs.keeper.Keeper.round.Goals as goal

-- ---- memory ran out at the look

pub returns-in_default-look-clause-round : goal.returns-in_default-look-clause-round
returns-in_default-look-clause-round g c =
    let told = g.V.Vault.is_told in
    let past = g.V.Vault.past in
    let mid = c.look.new.pass in (
      length mid.seen,
      round_looked told past c.args.desk.now c.args.self.now c.args.pass.now mid c.requires
          (goes_looked c.args.desk.now c.args.pass.now mid c.look.ensures.looked)
          (subst (λ (s : StoreState g.row.V.Denot). told → s.halted ≡ None
          → EachImage (FindsParts s.front s.parts) (past s.vault)) c.self.view_is c.finds_law.ensures),
      (
        sym (ap (λ (s : StoreState g.row.V.Denot). s.halted) c.self.view_is) ∙ sym c.halted.ensures
            ∙ c.in_default.is,
        inl refl,
      ),
    )

-- ---- the batches were not written

pub returns-in-Err-clause-round : goal.returns-in-Err-clause-round
returns-in-Err-clause-round g c =
    let told = g.V.Vault.is_told in
    let past = g.V.Vault.past in
    let risen = g.V.Vault.faults in
    let desk = c.args.desk.now in
    let old : StoreState g.row.V.Denot = c.args.self.now in
    let new : StoreState g.row.V.Denot = c.write_out.new.self in
    let before = c.args.pass.now in
    let mid = c.look.new.pass in
    let on = goes_looked desk before mid c.look.ensures.looked in
    let stands = c.in-Ok.ensures.stands in
    let written = c.in-Err.ensures.written (seen_history mid.seen) stands
    (holds_seen old desk.passes before.numbers before.seen mid.seen on.adds c.requires.holds) in (
      length mid.seen,
      round_is told past desk old before mid c.requires on risen mid (goes_self desk mid) new
          (Err c.in-Err.fault) written
          (λ same. c.write_out.ensures.quiet (stands.counted ∙ length-seen mid.seen ∙ same)),
      round_err told past desk old before mid c.requires on risen new c.in-Err.fault written,
    )

-- ---- memory ran out at the swap

pub returns-in-Err-show-clause-sees : goal.returns-in-Err-show-clause-sees
returns-in-Err-show-clause-sees g c =
    goes_trans c.args.desk.now c.args.pass.now c.look.new.pass c.show.new.pass
    (goes_looked c.args.desk.now c.args.pass.now c.look.new.pass c.look.ensures.looked) c.show.ensures.sees

pub returns-in-Err-show-clause-round : goal.returns-in-Err-show-clause-round
returns-in-Err-show-clause-round g c =
    let told = g.V.Vault.is_told in
    let past = g.V.Vault.past in
    let risen = g.V.Vault.faults in
    let desk = c.args.desk.now in
    let old : StoreState g.row.V.Denot = c.args.self.now in
    let new : StoreState g.row.V.Denot = c.write_out.new.self in
    let before = c.args.pass.now in
    let mid = c.look.new.pass in
    let on = goes_looked desk before mid c.look.ensures.looked in
    let stands = c.in-Ok.ensures.stands in
    let written = c.in-Ok-write_out.ensures.written (seen_history mid.seen) stands
    (holds_seen old desk.passes before.numbers before.seen mid.seen on.adds c.requires.holds) in
    let quiet : length mid.seen ≡ old.front → new ≡ old =
    λ same. c.write_out.ensures.quiet (stands.counted ∙ length-seen mid.seen ∙ same) in (
      length mid.seen,
      round_is told past desk old before mid c.requires on risen c.show.new.pass c.show.ensures.sees new (Ok tt) written
          quiet,
      round_memory told past desk old before mid c.requires on risen c.show.new.pass c.show.ensures.sees new written
          quiet,
    )

-- ---- done

pub returns-clause-sees : goal.returns-clause-sees
returns-clause-sees g c =
    goes_trans c.args.desk.now c.args.pass.now c.look.new.pass c.show.new.pass
    (goes_looked c.args.desk.now c.args.pass.now c.look.new.pass c.look.ensures.looked) c.show.ensures.sees

pub returns-clause-round : goal.returns-clause-round
returns-clause-round g c =
    let told = g.V.Vault.is_told in
    let past = g.V.Vault.past in
    let risen = g.V.Vault.faults in
    let desk = c.args.desk.now in
    let old : StoreState g.row.V.Denot = c.args.self.now in
    let new : StoreState g.row.V.Denot = c.write_out.new.self in
    let before = c.args.pass.now in
    let mid = c.look.new.pass in
    let after = c.show.new.pass in
    let on = goes_looked desk before mid c.look.ensures.looked in
    let stands = c.in-Ok.ensures.stands in
    let counted = stands.counted ∙ length-seen mid.seen in
    let written = c.in-Ok-write_out.ensures.written (seen_history mid.seen) stands
    (holds_seen old desk.passes before.numbers before.seen mid.seen on.adds c.requires.holds) in (
      length mid.seen,
      round_is told past desk old before mid c.requires on risen after c.show.ensures.sees new (Ok tt) written
          (λ same. c.write_out.ensures.quiet (counted ∙ same)),
      round_ok told past desk old before mid c.requires on risen after c.show.ensures.sees new c.front.result written
          (c.front.ensures.value ∙ counted) c.in-Ok-show.ensures.ok
          (subst (λ (s : StoreState g.row.V.Denot). told → s.halted ≡ None
          → EachImage (FindsParts s.front s.parts) (past s.vault)) c.self-2.view_is c.finds_law-2.ensures),
    )
