-- How a block stores the keys of its rows.
use Rattle.std.proofs.Common.{◌≡◌, ℕ, zero, suc, pos, ◌<◌, List, [], ◌∷◌, length, map, get_or, Some, refl, sym, ap, subst, ◌∙◌}
use Rattle.std.proofs.Common.{arith, slice_get}
use Rattle.std.specs.Prelude.{◌==◌, replicate, true}
use Rattle.std.specs.List.{list_all}
use Rattle.std.proofs.lemmas.Bool.{eqb-true}
use Rattle.std.proofs.lemmas.List.{length-map, length-replicate}
use Rattle.block_format.specs.Keys.{zipped}
use Rattle.block_format.proofs.KeyLaws.{zipped-again, zipped-at, zipped-length}
use Rattle.block_model.specs.declared.keys.Key.{Key}
use Rattle.byte_format.proofs.Cases.{both_true}
use Rattle.block_body.specs.Held.{AreEven, IsHeld, IsStored, IsWide, batch_at, keys_in, numbers_in, rows_held, rows_in}
use Rattle.block_body.specs.Outline.{Outline}
use Rattle.block_body.specs.declared.body.Batches.{Batches}
use Rattle.block_body.specs.declared.body.Batches.TheVariants as batches
use Rattle.block_body.specs.declared.body.Body.{Body}

same-at : (rows i number : ℕ) → i < rows → get_or (replicate rows number) i 0 ≡ number
same-at zero i number lt = absurd (omega (arith, lt))
same-at (suc rows) zero number lt = refl
same-at (suc rows) (suc i) number lt = same-at rows i number (omega (arith, lt))

pub numbers-wide : (rows : ℕ) (numbers : Batches) → IsWide rows numbers → length (numbers_in rows numbers) ≡ rows
numbers-wide rows (batches.One number) wide = length-replicate rows number
numbers-wide rows (batches.Each numbers) wide = wide

batch-is : (rows i : ℕ) (numbers : Batches) → i < rows → get_or (numbers_in rows numbers) i 0 ≡ batch_at i numbers
batch-is rows i (batches.One number) lt = same-at rows i number lt
batch-is rows i (batches.Each numbers) lt = refl

pub key-held : (body : Body) (numbers : Batches) (i : ℕ) → AreEven body numbers → i < length body.times.items
    → slice_get (keys_in body numbers) i
    ≡ Some (record {
      time = get_or body.times.items i (pos 0);
      batch = batch_at i numbers;
      place = get_or body.places.items i 0;
    })
key-held body numbers i even lt =
    let rows = length body.times.items in
    zipped-at body.times.items (numbers_in (length body.times.items) numbers) body.places.items i (numbers-wide (length
    body.times.items) numbers even.wide) even.places lt
    ∙ ap (λ (n : ℕ). Some (let key : Key = record {
      time = get_or body.times.items i (pos 0);
      batch = n;
      place = get_or body.places.items i 0;
    } in key)) (batch-is (length body.times.items) i numbers lt)

pub keys-length : (body : Body) (numbers : Batches) → AreEven body numbers
    → length (keys_in body numbers) ≡ length body.times.items
keys-length body numbers even =
    zipped-length body.times.items (numbers_in (length body.times.items) numbers) body.places.items (numbers-wide (length
    body.times.items) numbers even.wide) even.places

-- keys that are taken apart are stored so
pub stored : (head : Outline) (keys : List Key) (columns : List (List (List ℕ))) (body : Body) (numbers : Batches)
    → body.times.items ≡ map (λ (key : Key). key.time) keys → body.places.items ≡ map (λ (key : Key). key.place) keys
    → body.columns ≡ columns → IsWide (length keys) numbers
    → numbers_in (length keys) numbers ≡ map (λ (key : Key). key.batch) keys
    → IsHeld (rows_in head keys columns) head keys columns
    → (rows_held head body numbers ≡ rows_in head keys columns)
    × IsStored (rows_held head body numbers) head body numbers
stored head keys columns body numbers t p c wide n h =
    let count : length body.times.items ≡ length keys = ap length t ∙ length-map keys (λ (key : Key). key.time) in
    let same : keys_in body numbers ≡ keys =
    ap (λ (m : ℕ). zipped body.times.items (numbers_in m numbers) body.places.items) count
    ∙ ap (λ l. zipped l (numbers_in (length keys) numbers) body.places.items) t
    ∙ ap (λ (l : List ℕ). zipped (map (λ (key : Key). key.time) keys) l body.places.items) n
    ∙ ap (λ (l : List ℕ). zipped (map (λ (key : Key). key.time) keys) (map (λ (key : Key). key.batch) keys) l) p
    ∙ zipped-again keys in (
      ap (λ (k : List Key). rows_in head k body.columns) same ∙ ap (rows_in head keys) c,
      record {
        even = record {
          places = ap length p ∙ length-map keys (λ (key : Key). key.place) ∙ sym count;
          wide = subst (λ (m : ℕ). IsWide m numbers) (sym count) wide;
        };
        held = subst (λ (k : List Key). IsHeld (rows_in head k body.columns) head k body.columns) (sym same)
            (subst (λ (l : List (List (List ℕ))). IsHeld (rows_in head keys l) head keys l) (sym c) h);
      },
    )

-- the same numbers of batches, held once more
pub shared-stored : (head : Outline) (body : Body) (a b : Batches)
    → ((rows : ℕ) → numbers_in rows b ≡ numbers_in rows a) → ((rows : ℕ) → IsWide rows a → IsWide rows b)
    → IsStored (rows_held head body a) head body a
    → (rows_held head body b ≡ rows_held head body a) × IsStored (rows_held head body b) head body b
shared-stored head body a b same wide s =
    let keys : keys_in body b ≡ keys_in body a =
    ap (λ (l : List ℕ). zipped body.times.items l body.places.items) (same (length body.times.items)) in (
      ap (λ (k : List Key). rows_in head k body.columns) keys,
      record {
        even = record { places = s.even.places; wide = wide (length body.times.items) s.even.wide };
        held = subst (λ (k : List Key). IsHeld (rows_in head k body.columns) head k body.columns) (sym keys)
            s.held;
      },
    )

-- keys of one batch
pub one-batch : (keys : List Key) (batch : ℕ) → list_all (λ (key : Key). key.batch == batch) keys ≡ true
    → replicate (length keys) batch ≡ map (λ (key : Key). key.batch) keys
one-batch [] batch e = refl
one-batch (key ∷ keys) batch e =
    let p = both_true (key.batch == batch) (list_all (λ (k : Key). k.batch == batch) keys) e in
    ap (λ (n : ℕ). n ∷ replicate (length keys) batch) (sym (eqb-true key.batch batch p.0))
    ∙ ap (λ (l : List ℕ). key.batch ∷ l) (one-batch keys batch p.1)
