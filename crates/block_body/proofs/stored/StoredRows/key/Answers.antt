use Rattle.std.proofs.Common.{◌∙◌, List, ap, arith, length, slice_get, subst, sym}
use Rattle.std.specs.Arc.{arc_value}
use Rattle.std.proofs.lemmas.List.{length-map}
use Rattle.block_model.specs.Keys.{key_of, keys_of}
use Rattle.block_model.specs.declared.keys.Key.{Key}
use Rattle.log_model.specs.History.{Numbered}
use Rattle.block_body.specs.Held.{AreEven, keys_in, rows_held}
use Rattle.block_body.specs.declared.body.Body.{Body}
use Rattle.block_body.proofs.StoreLaws.{keys-length}
use Rattle.block_body.proofs.stored.StoredRows.key.Goals as goal

pub key-requires-clause-even : goal.key-requires-clause-even
key-requires-clause-even c =
    subst (λ (b : Body). AreEven b c.self.inside.batches) (sym c.deref.ensures) c.self.invariant.even

pub key-requires-clause-time : goal.key-requires-clause-time
key-requires-clause-time c =
    let body : Body = arc_value c.self.inside.body in
    let rows : List Numbered = rows_held c.self.inside.head (arc_value c.self.inside.body) c.self.inside.batches in
    omega (
      arith,
      c.requires,
      ap length c.self.view_is,
      keys-length body c.self.inside.batches c.self.invariant.even,
      ap length c.self.invariant.held.keys_are,
      length-map rows key_of,
      ap (λ (b : Body). length b.times.items) c.deref.ensures,
    )

pub key-requires-clause-place : goal.key-requires-clause-place
key-requires-clause-place c =
    let body : Body = arc_value c.self.inside.body in
    let rows : List Numbered = rows_held c.self.inside.head (arc_value c.self.inside.body) c.self.inside.batches in
    omega (
      arith,
      c.requires,
      ap length c.self.view_is,
      keys-length body c.self.inside.batches c.self.invariant.even,
      c.self.invariant.even.places,
      ap length c.self.invariant.held.keys_are,
      length-map rows key_of,
      ap (λ (b : Body). length b.places.items) c.deref.ensures,
    )

pub returns : goal.returns
returns c =
    ap (λ (rows : List Numbered). slice_get (keys_of rows) c.args.i) (sym c.self.view_is)
    ∙ ap (λ (l : List Key). slice_get l c.args.i) (sym c.self.invariant.held.keys_are)
    ∙ ap (λ (b : Body). slice_get (keys_in b c.self.inside.batches) c.args.i) (sym c.deref.ensures)
    ∙ c.key.ensures
