use Rattle.std.proofs.Common.{◌≡◌, ◌∙◌, List, ap, arith, map, subst, sym}
use Rattle.std.specs.List.{All}
use Rattle.std.proofs.lemmas.List.{with_items_is}
use Rattle.log_model.specs.History.{AreOfOneBatch, Numbered, with_batch}
use Rattle.part_model.specs.Filling.{rows_in_blocks}
use Rattle.part_model.proofs.UnderLaws.{blocks-under, each-of-one}
use Rattle.part_file.specs.Holds.{HoldsPart}
use Rattle.part_file.proofs.HoldLaws.{holds-under}
use Rattle.part_file.proofs.held.PartHeld.set_batch.Goals as goal

pub set_batches-requires : goal.set_batches-requires
set_batches-requires c =
    subst (All AreOfOneBatch) (sym c.as_mut_slice.ensures.value) (each-of-one c.self.inside.blocks.items c.args.self.now
    c.self.view_is c.requires)

pub invariant_of-self : goal.invariant_of-self
invariant_of-self c =
    let new : c.set_batches.new.blocks ≡ map (with_batch c.args.number) c.self.inside.blocks.items = c.set_batches.ensures
    ∙ ap (map (with_batch c.args.number)) c.as_mut_slice.ensures.value in
    let items = with_items_is c.self.inside.blocks c.set_batches.new.blocks (omega (
      arith,
      c.set_batches.auto.blocks,
      c.as_mut_slice.ensures.len,
    )) in
    subst (λ (l : List (List Numbered)). HoldsPart l c.self.inside.rows c.self.inside.weight) (sym items) (holds-under
    c.args.number c.self.inside.blocks.items c.set_batches.new.blocks c.self.inside.rows c.self.inside.weight new (subst
    AreOfOneBatch (sym c.self.view_is) c.requires) c.self.invariant)

pub returns : goal.returns
returns c =
    let new : c.set_batches.new.blocks ≡ map (with_batch c.args.number) c.self.inside.blocks.items = c.set_batches.ensures
    ∙ ap (map (with_batch c.args.number)) c.as_mut_slice.ensures.value in
    let items = with_items_is c.self.inside.blocks c.set_batches.new.blocks (omega (
      arith,
      c.set_batches.auto.blocks,
      c.as_mut_slice.ensures.len,
    )) in
    ap rows_in_blocks items ∙ ap rows_in_blocks new ∙ blocks-under c.args.number c.self.inside.blocks.items
    ∙ ap (with_batch c.args.number) c.self.view_is
