-- What is written of the parts of a block is read again.
use Rattle.std.proofs.Common.{◌≡◌, ℕ, ℤ, ◌<◌, ◌^◌, true, List, [], ◌∷◌, ◌++◌, length, map, Result, Ok, refl, sym, ap}
use Rattle.std.proofs.Common.{◌∙◌, arith, append_assoc, FitsSigned, to_z, of_z}
use Rattle.std.specs.Prelude.{sum_by, IsUtf8}
use Rattle.std.specs.List.{AllByRecursion, flat_map, list_all}
use Rattle.std.specs.Str.{is_utf8}
use Rattle.std.specs.Int.{w16, w32, w64, from_le_bytes, to_le_bytes}
use Rattle.std.proofs.lemmas.Int.{to_z-of_z, ints}
use Rattle.std.proofs.lemmas.List.{append-nil, length-map}
use Rattle.std.proofs.lemmas.List.Concat.{flat_map-cons}
use Rattle.std.proofs.lemmas.Nat.{from_le_bytes-to_le_bytes_2, from_le_bytes-to_le_bytes_4}
use Rattle.std.proofs.lemmas.Nat.{from_le_bytes-to_le_bytes_8}
use Rattle.block_column.specs.Body.{body}
use Rattle.block_column.specs.Kinds.{body_of, code_of_kind, kind_of}
use Rattle.block_column.proofs.Again.{body-again, kind-again}
use Rattle.byte_format.specs.Format.{value, exactly, many, front, whole, ended, ◌>>=◌}
use Rattle.byte_format.specs.Items.{any_bytes, number, signed, signed_in, text}
use Rattle.byte_format.specs.Written.{signed_bytes, text_bytes}
use Rattle.byte_format.proofs.Readings.{front-item}
use Rattle.byte_format.proofs.Texts.{text-again}
use Rattle.byte_format.proofs.Turns.{many-again}
use Rattle.log_model.specs.Field.{Field}
use Rattle.block_model.specs.Columns.{Column}
use Rattle.block_model.specs.declared.keys.Key.{Key}
use Rattle.word_filter.specs.Words.{counted_filter, filter_of}
use Rattle.word_filter.proofs.Again.{are-narrow, few-of-values, filter-again, number-again}
use Rattle.block_format.specs.Columns.{column, column_bytes, column_steps}
use Rattle.block_format.specs.Found.{Found}
use Rattle.block_format.specs.Keys.{batch_bytes, keys, keys_bytes, keys_steps, place_bytes, time_bytes, zipped}
use Rattle.block_format.specs.Labels.{IsShortLabel, label, label_bytes, label_steps, labels, labels_bytes, labels_steps}
use Rattle.block_format.specs.Parts.{parts, parts_bytes, parts_steps}
use Rattle.block_format.proofs.Steps.{column-steps, keys-steps, label-steps, labels-steps, parts-steps}

-- ---- labels

-- a label that can be written, in UTF-8
pub record IsLabel (label : Field) : Type 0 where
  pub short : IsShortLabel label
  pub name : IsUtf8 label.0
  pub content : IsUtf8 label.1

label-again : (l : Field) (rest : List ℕ) → IsLabel l → front label (label_bytes l ++ rest) ≡ Ok (l, rest)
unfolding label_bytes label_steps
label-again l rest h =
    let regrouped : label_bytes l ++ rest ≡ text_bytes w16 l.0 ++ (text_bytes w32 l.1 ++ rest) =
    append_assoc (text_bytes w16 l.0) (text_bytes w32 l.1) rest in
    let name : front (text w16) (text_bytes w16 l.0 ++ (text_bytes w32 l.1 ++ rest))
    ≡ Ok (l.0, text_bytes w32 l.1 ++ rest) = text-again w16 l.0 (text_bytes w32 l.1 ++ rest) refl
    (from_le_bytes-to_le_bytes_2 (length l.0) h.short.name) h.name in
    let content : front (text w32) (text_bytes w32 l.1 ++ rest) ≡ Ok (l.1, rest) = text-again w32 l.1 rest refl
    (from_le_bytes-to_le_bytes_4 (length l.1) h.short.content) h.content in
    ap (front label) regrouped ∙ label-steps (text_bytes w16 l.0 ++ (text_bytes w32 l.1 ++ rest))
    ∙ rw (name, content) refl

labels-again : (ls : List Field) (rest : List ℕ) → length ls < 2 ^ 16 → AllByRecursion IsLabel ls
    → front labels (labels_bytes ls ++ rest) ≡ Ok (ls, rest)
unfolding labels_bytes labels_steps
labels-again ls rest few h =
    let regrouped : labels_bytes ls ++ rest ≡ to_le_bytes w16 (length ls) ++ (flat_map label_bytes ls ++ rest) =
    append_assoc (to_le_bytes w16 (length ls)) (flat_map label_bytes ls) rest in
    let count : front (number w16) (to_le_bytes w16 (length ls) ++ (flat_map label_bytes ls ++ rest))
    ≡ Ok (length ls, flat_map label_bytes ls ++ rest) = number-again w16 (length ls) (flat_map label_bytes ls ++ rest)
    refl (from_le_bytes-to_le_bytes_2 (length ls) few) in
    ap (front labels) regrouped ∙ labels-steps (to_le_bytes w16 (length ls) ++ (flat_map label_bytes ls ++ rest))
    ∙ rw count (many-again label label_bytes IsLabel (λ l r g. label-again l r g) ls rest h)

-- ---- keys

pub record IsKey (key : Key) : Type 0 where
  pub time : FitsSigned w64 key.time
  pub batch : key.batch < 2 ^ 64
  pub place : key.place < 2 ^ 32

signed-again : (n : ℤ) (rest : List ℕ) → FitsSigned w64 n → front signed (signed_bytes n ++ rest) ≡ Ok (n, rest)
signed-again n rest fits =
    let back : from_le_bytes w64 (to_le_bytes w64 (of_z w64 n)) ≡ of_z w64 n =
    from_le_bytes-to_le_bytes_8 (of_z w64 n) (omega (arith, ints)) in
    front-item (exactly 8) any_bytes (λ bytes. value (signed_in bytes)) (signed_bytes n) rest refl refl
    ∙ ap (λ (z : ℤ). Ok (z, rest)) (ap (to_z w64) back ∙ to_z-of_z w64 n fits)

abbrev times : List Key → List ℤ
times ks = map (λ (key : Key). key.time) ks

abbrev batches : List Key → List ℕ
batches ks = map (λ (key : Key). key.batch) ks

abbrev places : List Key → List ℕ
places ks = map (λ (key : Key). key.place) ks

by-part : {X : Type 0} (put : X → List ℕ) (part : Key → X) (ks : List Key)
    → flat_map (λ key. put (part key)) ks ≡ flat_map put (map part ks)
by-part put part [] = refl
by-part put part (k ∷ ks) =
    flat_map-cons (λ key. put (part key)) k ks ∙ ap (λ (l : List ℕ). put (part k) ++ l) (by-part put part ks)
    ∙ sym (flat_map-cons put (part k) (map part ks))

zipped-again : (ks : List Key) → zipped (times ks) (batches ks) (places ks) ≡ ks
zipped-again [] = refl
zipped-again (k ∷ ks) = ap (λ (l : List Key). k ∷ l) (zipped-again ks)

fits : (ks : List Key) → AllByRecursion IsKey ks → AllByRecursion (FitsSigned w64) (times ks)
fits [] h = tt
fits (k ∷ ks) h = (h.0.time, fits ks h.1)

small-batches : (ks : List Key) → AllByRecursion IsKey ks → AllByRecursion (λ n. n < 2 ^ 64) (batches ks)
small-batches [] h = tt
small-batches (k ∷ ks) h = (h.0.batch, small-batches ks h.1)

small-places : (ks : List Key) → AllByRecursion IsKey ks → AllByRecursion (λ n. n < 2 ^ 32) (places ks)
small-places [] h = tt
small-places (k ∷ ks) h = (h.0.place, small-places ks h.1)

times-again : (ks : List Key) (rest : List ℕ) → AllByRecursion IsKey ks
    → front (many (length ks) signed) (flat_map time_bytes ks ++ rest) ≡ Ok (times ks, rest)
times-again ks rest h =
    ap (λ (b : List ℕ). front (many (length ks) signed) (b ++ rest)) (by-part signed_bytes (λ key. key.time) ks)
    ∙ ap (λ (n : ℕ). front (many n signed) (flat_map signed_bytes (times ks) ++ rest)) (sym (length-map ks (λ
    (key : Key). key.time)))
    ∙ many-again signed signed_bytes (FitsSigned w64) (λ n r g. signed-again n r g) (times ks) rest (fits ks h)

batches-again : (ks : List Key) (rest : List ℕ) → AllByRecursion IsKey ks
    → front (many (length ks) (number w64)) (flat_map batch_bytes ks ++ rest) ≡ Ok (batches ks, rest)
batches-again ks rest h =
    ap (λ (b : List ℕ). front (many (length ks) (number w64)) (b ++ rest)) (by-part (to_le_bytes w64) (λ key.
    key.batch) ks)
    ∙ ap (λ (n : ℕ). front (many n (number w64)) (flat_map (to_le_bytes w64) (batches ks) ++ rest)) (sym (length-map ks
    (λ (key : Key). key.batch)))
    ∙ many-again (number w64) (to_le_bytes w64) (λ n. n < 2 ^ 64) (λ n r g. number-again w64 n r refl
    (from_le_bytes-to_le_bytes_8 n g)) (batches ks) rest (small-batches ks h)

places-again : (ks : List Key) (rest : List ℕ) → AllByRecursion IsKey ks
    → front (many (length ks) (number w32)) (flat_map place_bytes ks ++ rest) ≡ Ok (places ks, rest)
places-again ks rest h =
    ap (λ (b : List ℕ). front (many (length ks) (number w32)) (b ++ rest)) (by-part (to_le_bytes w32) (λ key.
    key.place) ks)
    ∙ ap (λ (n : ℕ). front (many n (number w32)) (flat_map (to_le_bytes w32) (places ks) ++ rest)) (sym (length-map ks
    (λ (key : Key). key.place)))
    ∙ many-again (number w32) (to_le_bytes w32) (λ n. n < 2 ^ 32) (λ n r g. number-again w32 n r refl
    (from_le_bytes-to_le_bytes_4 n g)) (places ks) rest (small-places ks h)

keys-again : (ks : List Key) (rest : List ℕ) → AllByRecursion IsKey ks
    → front (keys (length ks)) (keys_bytes ks ++ rest) ≡ Ok (ks, rest)
unfolding keys_bytes keys_steps
keys-again ks rest h =
    let all_times : List ℕ = flat_map time_bytes ks in
    let all_batches : List ℕ = flat_map batch_bytes ks in
    let all_places : List ℕ = flat_map place_bytes ks in
    let regrouped : keys_bytes ks ++ rest ≡ flat_map time_bytes ks ++ (flat_map batch_bytes ks
    ++ (flat_map place_bytes ks ++ rest)) =
    append_assoc (flat_map time_bytes ks) (flat_map batch_bytes ks ++ flat_map place_bytes ks) rest
    ∙ ap (λ (l : List ℕ). flat_map time_bytes ks ++ l) (append_assoc (flat_map batch_bytes ks)
    (flat_map place_bytes ks) rest) in
    ap (front (keys (length ks))) regrouped
    ∙ keys-steps (length ks) (flat_map time_bytes ks ++ (flat_map batch_bytes ks ++ (flat_map place_bytes ks ++ rest)))
    ∙ rw (
      times-again ks (flat_map batch_bytes ks ++ (flat_map place_bytes ks ++ rest)) h,
      batches-again ks (flat_map place_bytes ks ++ rest) h,
      places-again ks rest h,
    )
    (ap (λ (l : List Key). Ok (l, rest)) (zipped-again ks))

-- ---- columns

-- a column of this many rows that can be written, in UTF-8
pub record IsColumn (rows : ℕ) (column : Column) : Type 0 where
  pub name : length column.0 < 2 ^ 16
  pub name_utf8 : IsUtf8 column.0
  pub count : length column.1 ≡ rows
  pub utf8 : list_all is_utf8 column.1 ≡ true
  pub small : sum_by length column.1 < 2 ^ 32

column-again : (rows : ℕ) (c : Column) (rest : List ℕ) → IsColumn rows c
    → front (column rows) (column_bytes c ++ rest) ≡ Ok (c, rest)
unfolding column_bytes column_steps
column-again rows c rest h =
    let name : List ℕ = text_bytes w16 c.0 in
    let kind : List ℕ = code_of_kind (kind_of c.1) ∷ [] in
    let filter : List ℕ = counted_filter (filter_of c.1) in
    let held : List ℕ = body_of (kind_of c.1) c.1 in
    let regrouped : column_bytes c ++ rest ≡ text_bytes w16 c.0 ++ ((code_of_kind (kind_of c.1) ∷ [])
    ++ (counted_filter (filter_of c.1) ++ (body_of (kind_of c.1) c.1 ++ rest))) =
    append_assoc name (kind ++ (filter ++ held)) rest
    ∙ ap (λ (l : List ℕ). name ++ l) (append_assoc kind (filter ++ held) rest)
    ∙ ap (λ (l : List ℕ). name ++ (kind ++ l)) (append_assoc filter held rest) in
    let first : front (text w16) (text_bytes w16 c.0 ++ ((code_of_kind (kind_of c.1) ∷ []) ++ (counted_filter (filter_of
    c.1) ++ (body_of (kind_of c.1) c.1 ++ rest)))) ≡ Ok (
      c.0,
      (code_of_kind (kind_of c.1) ∷ []) ++ (counted_filter
          (filter_of c.1) ++ (body_of (kind_of c.1) c.1 ++ rest)),
    ) =
    text-again w16 c.0 ((code_of_kind (kind_of c.1) ∷ []) ++ (counted_filter (filter_of c.1)
    ++ (body_of (kind_of c.1) c.1 ++ rest))) refl (from_le_bytes-to_le_bytes_2 (length c.0) h.name) h.name_utf8 in
    let second = kind-again (kind_of c.1) (counted_filter (filter_of c.1) ++ (body_of (kind_of c.1) c.1 ++ rest)) in
    let third = filter-again (filter_of c.1) (body_of (kind_of c.1) c.1 ++ rest) (are-narrow c.1)
    (few-of-values c.1 h.utf8 h.small) in
    let last : front (body rows (code_of_kind (kind_of c.1))) (body_of (kind_of c.1) c.1 ++ rest) ≡ Ok (c.1, rest) =
    ap (λ (n : ℕ). front (body n (code_of_kind (kind_of c.1))) (body_of (kind_of c.1) c.1 ++ rest)) (sym h.count)
    ∙ body-again c.1 rest h.utf8 h.small in
    ap (front (column rows)) regrouped
    ∙ column-steps rows (name ++ (kind ++ (filter ++ (held ++ rest))))
    ∙ rw (first, second, third, last) refl

-- ---- all parts

pub record IsWritable (found : Found) : Type 0 where
  pub labels_few : length found.labels < 2 ^ 16
  pub labels : AllByRecursion IsLabel found.labels
  pub rows_few : length found.keys < 2 ^ 16
  pub keys : AllByRecursion IsKey found.keys
  pub columns_few : length found.columns < 2 ^ 16
  pub columns : AllByRecursion (IsColumn (length found.keys)) found.columns

pub parts-again : (found : Found) (rest : List ℕ) → IsWritable found
    → front parts (parts_bytes found ++ rest) ≡ Ok (found, rest)
unfolding parts_bytes parts_steps
parts-again found rest h =
    let ls : List ℕ = labels_bytes found.labels in
    let rows : List ℕ = to_le_bytes w16 (length found.keys) in
    let count : List ℕ = to_le_bytes w16 (length found.columns) in
    let ks : List ℕ = keys_bytes found.keys in
    let cs : List ℕ = flat_map column_bytes found.columns in
    let regrouped : parts_bytes found ++ rest ≡ ls ++ (rows ++ (count ++ (ks ++ (cs ++ rest)))) =
    append_assoc ls (rows ++ (count ++ (ks ++ cs))) rest
    ∙ ap (λ (l : List ℕ). ls ++ l) (append_assoc rows (count ++ (ks ++ cs)) rest)
    ∙ ap (λ (l : List ℕ). ls ++ (rows ++ l)) (append_assoc count (ks ++ cs) rest)
    ∙ ap (λ (l : List ℕ). ls ++ (rows ++ (count ++ l))) (append_assoc ks cs rest) in
    ap (front parts) regrouped
    ∙ parts-steps (ls ++ (rows ++ (count ++ (ks ++ (cs ++ rest)))))
    ∙ rw (
      labels-again found.labels (rows ++ (count ++ (ks ++ (cs ++ rest)))) h.labels_few h.labels,
      number-again w16 (length found.keys) (count ++ (ks ++ (cs ++ rest))) refl (from_le_bytes-to_le_bytes_2 (length
          found.keys) h.rows_few),
      number-again w16 (length found.columns) (ks ++ (cs ++ rest)) refl (from_le_bytes-to_le_bytes_2 (length
          found.columns) h.columns_few),
      keys-again found.keys (cs ++ rest) h.keys,
      many-again (column (length found.keys)) column_bytes (IsColumn (length found.keys)) (λ c r g. column-again (length
          found.keys) c r g) found.columns rest h.columns,
    ) refl

-- all of the bytes say the parts
pub whole-again : (found : Found) → IsWritable found → whole parts (parts_bytes found) ≡ Ok found
whole-again found h =
    ap (whole parts) (sym (append-nil (parts_bytes found)))
    ∙ ap (λ (r : Result (Found × List ℕ) ℕ). r >>= ended) (parts-again found [] h)
