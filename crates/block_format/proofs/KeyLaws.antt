-- The keys, put together of times, batches and places.
use Rattle.std.proofs.Common.{◌≡◌, ℕ, ℤ, zero, suc, pos, ◌+◌, ◌<◌, List, [], ◌∷◌, ◌++◌, length, map, take, get_or}
use Rattle.std.proofs.Common.{Some, arith, refl, sym, ap, ◌∙◌, slice_get}
use Rattle.std.specs.Int.{w32, w64, to_le_bytes}
use Rattle.std.specs.List.{flat_map}
use Rattle.std.proofs.lemmas.List.Concat.{flat_map-cons}
use Rattle.byte_format.specs.Written.{signed_bytes}
use Rattle.block_model.specs.declared.keys.Key.{Key}
use Rattle.block_format.specs.Keys.{batch_bytes, keys_bytes, place_bytes, time_bytes, zipped}

one-more : (ts : List ℤ) (bs ps : List ℕ) (i : ℕ) → length bs ≡ length ts → length ps ≡ length ts → i < length ts
    → zipped (take (suc i) ts) (take (suc i) bs) (take (suc i) ps)
    ≡ zipped (take i ts) (take i bs) (take i ps)
    ++ record { time = get_or ts i (pos 0); batch = get_or bs i 0; place = get_or ps i 0 } ∷ []
one-more [] bs ps i b p lt = absurd (omega (arith, lt))
one-more (t ∷ ts) [] ps i b p lt = absurd (omega (arith, b))
one-more (t ∷ ts) (b ∷ bs) [] i e p lt = absurd (omega (arith, p))
one-more (t ∷ ts) (b ∷ bs) (p ∷ ps) zero e f lt = refl
one-more (t ∷ ts) (b ∷ bs) (p ∷ ps) (suc i) e f lt =
    let first : Key = record { time = t; batch = b; place = p } in
    ap (λ (l : List Key). first ∷ l) (one-more ts bs ps i (omega (arith, e)) (omega (arith, f)) (omega (arith, lt)))

pub zipped-more : (ts : List ℤ) (bs ps : List ℕ) (i : ℕ) → length bs ≡ length ts → length ps ≡ length ts
    → i < length ts
    → zipped (take (i + 1) ts) (take (i + 1) bs) (take (i + 1) ps)
    ≡ zipped (take i ts) (take i bs) (take i ps)
    ++ record { time = get_or ts i (pos 0); batch = get_or bs i 0; place = get_or ps i 0 } ∷ []
zipped-more ts bs ps i b p lt =
    let next : i + 1 ≡ suc i = omega arith in
    ap (λ (k : ℕ). zipped (take k ts) (take k bs) (take k ps)) next ∙ one-more ts bs ps i b p lt

pub zipped-length : (ts : List ℤ) (bs ps : List ℕ) → length bs ≡ length ts → length ps ≡ length ts
    → length (zipped ts bs ps) ≡ length ts
zipped-length [] bs ps b p = refl
zipped-length (t ∷ ts) [] ps b p = absurd (omega (arith, b))
zipped-length (t ∷ ts) (b ∷ bs) [] e p = absurd (omega (arith, p))
zipped-length (t ∷ ts) (b ∷ bs) (p ∷ ps) e f =
    omega (arith, zipped-length ts bs ps (omega (arith, e)) (omega (arith, f)))

-- the key at a place
pub zipped-at : (ts : List ℤ) (bs ps : List ℕ) (i : ℕ) → length bs ≡ length ts → length ps ≡ length ts → i < length ts
    → slice_get (zipped ts bs ps) i
    ≡ Some (record { time = get_or ts i (pos 0); batch = get_or bs i 0; place = get_or ps i 0 })
zipped-at [] bs ps i b p lt = absurd (omega (arith, lt))
zipped-at (t ∷ ts) [] ps i b p lt = absurd (omega (arith, b))
zipped-at (t ∷ ts) (b ∷ bs) [] i e p lt = absurd (omega (arith, p))
zipped-at (t ∷ ts) (b ∷ bs) (p ∷ ps) zero e f lt = refl
zipped-at (t ∷ ts) (b ∷ bs) (p ∷ ps) (suc i) e f lt =
    zipped-at ts bs ps i (omega (arith, e)) (omega (arith, f)) (omega (arith, lt))

-- keys that are taken apart
pub zipped-again : (keys : List Key)
    → zipped (map (λ (key : Key). key.time) keys) (map (λ (key : Key). key.batch) keys) (map (λ (key : Key). key.place)
    keys) ≡ keys
zipped-again [] = refl
zipped-again (key ∷ keys) = ap (λ (l : List Key). key ∷ l) (zipped-again keys)

-- ---- how they are written

times-written : (ts : List ℤ) (bs ps : List ℕ) → length bs ≡ length ts → length ps ≡ length ts
    → flat_map time_bytes (zipped ts bs ps) ≡ flat_map signed_bytes ts
times-written [] bs ps b p = refl
times-written (t ∷ ts) [] ps b p = absurd (omega (arith, b))
times-written (t ∷ ts) (b ∷ bs) [] e p = absurd (omega (arith, p))
times-written (t ∷ ts) (b ∷ bs) (p ∷ ps) e f =
    flat_map-cons time_bytes (record { time = t; batch = b; place = p }) (zipped ts bs ps)
    ∙ ap (λ (l : List ℕ). signed_bytes t ++ l) (times-written ts bs ps (omega (arith, e)) (omega (arith, f)))
    ∙ sym (flat_map-cons signed_bytes t ts)

batches-written : (ts : List ℤ) (bs ps : List ℕ) → length bs ≡ length ts → length ps ≡ length ts
    → flat_map batch_bytes (zipped ts bs ps) ≡ flat_map (to_le_bytes w64) bs
batches-written [] [] ps b p = refl
batches-written [] (b ∷ bs) ps e p = absurd (omega (arith, e))
batches-written (t ∷ ts) [] ps b p = absurd (omega (arith, b))
batches-written (t ∷ ts) (b ∷ bs) [] e p = absurd (omega (arith, p))
batches-written (t ∷ ts) (b ∷ bs) (p ∷ ps) e f =
    flat_map-cons batch_bytes (record { time = t; batch = b; place = p }) (zipped ts bs ps)
    ∙ ap (λ (l : List ℕ). to_le_bytes w64 b ++ l) (batches-written ts bs ps (omega (arith, e)) (omega (arith, f)))
    ∙ sym (flat_map-cons (to_le_bytes w64) b bs)

places-written : (ts : List ℤ) (bs ps : List ℕ) → length bs ≡ length ts → length ps ≡ length ts
    → flat_map place_bytes (zipped ts bs ps) ≡ flat_map (to_le_bytes w32) ps
places-written [] bs [] b p = refl
places-written [] bs (p ∷ ps) b e = absurd (omega (arith, e))
places-written (t ∷ ts) [] ps b p = absurd (omega (arith, b))
places-written (t ∷ ts) (b ∷ bs) [] e p = absurd (omega (arith, p))
places-written (t ∷ ts) (b ∷ bs) (p ∷ ps) e f =
    flat_map-cons place_bytes (record { time = t; batch = b; place = p }) (zipped ts bs ps)
    ∙ ap (λ (l : List ℕ). to_le_bytes w32 p ++ l) (places-written ts bs ps (omega (arith, e)) (omega (arith, f)))
    ∙ sym (flat_map-cons (to_le_bytes w32) p ps)

pub keys-written : (ts : List ℤ) (bs ps : List ℕ) → length bs ≡ length ts → length ps ≡ length ts
    → keys_bytes (zipped ts bs ps)
    ≡ flat_map signed_bytes ts ++ (flat_map (to_le_bytes w64) bs ++ flat_map (to_le_bytes w32) ps)
unfolding keys_bytes
keys-written ts bs ps b p = rw (times-written ts bs ps b p, batches-written ts bs ps b p, places-written ts bs ps b p) refl
