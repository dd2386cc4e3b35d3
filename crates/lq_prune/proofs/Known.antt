-- What is known of a block is true of each of its rows.
use Rattle.std.proofs.Common.{◌≡◌, ℕ, pos, zero, suc, ◌<◌, ◌≤ℤ◌, Bool, true, false, cond, List, [], ◌∷◌, length, map}
use Rattle.std.proofs.Common.{get_or, refl, sym, ap, subst, ◌∙◌, arith}
use Rattle.std.specs.Prelude.{◌||◌, Some, bytes_eq, flat_map, unwrap_or}
use Rattle.std.specs.List.{AllByRecursion, list_all, list_any}
use Rattle.std.specs.Map.{lookup}
use Rattle.std.specs.Str.{IsUtf8}
use Rattle.std.proofs.lemmas.Bool.{and_parts}
use Rattle.std.proofs.lemmas.List.{get_or-map, length-map}
use Rattle.std.proofs.lemmas.List.Concat.{flat_map-cons}
use Rattle.std.proofs.lemmas.List.Elements.{All-from_recursion, recursion_from_All}
use Rattle.std.proofs.lemmas.List.Folds.{list_any-append}
use Rattle.std.proofs.lemmas.Slice.Eq.{bytes_eq-Decides}
use Rattle.std.proofs.lemmas.Str.{IsUtf8-from_is_utf8, IsUtf8-nil}
use Rattle.log_model.specs.Field.{Field, field_value}
use Rattle.log_model.specs.History.{Numbered}
use Rattle.log_model.specs.Row.{Row}
use Rattle.token_bloom.specs.Filter.{may_have}
use Rattle.word_tokens.specs.Runs.{IsOneOfWords, words_of}
use Rattle.block_model.specs.Columns.{names_in, names_of, values_of}
use Rattle.block_model.specs.Texts.{is_text_field, is_text_row}
use Rattle.block_model.proofs.Distinct.{itself, right_true}
use Rattle.block_model.proofs.Same.{distinct-listed}
use Rattle.word_filter.specs.Words.{HasWords, filter_of}
use Rattle.word_filter.proofs.Kept.{leaves_none_out}
use Rattle.block_format.specs.Rows.{labels_of}
use Rattle.block_body.specs.Outline.{Outline}
use Rattle.block_body.specs.Outlines.{filter_named, outline_of}
use Rattle.block_body.proofs.SpanLaws.{span}
use Rattle.lq_prune.specs.Need.{admits, column_word, may_have_word}
use Rattle.lq_prune.specs.Pruning.{IsTextBlock}
use Rattle.lq_prune.proofs.WordLaws.{filled, one-text}

-- What is known of a block, as far as needs ask for it, is true of the row.
pub record IsKnown (outline : Outline) (row : Row) : Type 0 where
  pub labels : row.labels ≡ outline.labels
  pub least : outline.min ≤ℤ pos row.moment
  pub greatest : pos row.moment ≤ℤ outline.max
  pub texts : (name : List ℕ) → IsUtf8 (field_value row.fields name)
  pub words : (name word : List ℕ) → IsOneOfWords (field_value row.fields name) word
      → admits (column_word name word) outline ≡ true

-- ---- texts

text-value : (fields : List Field) (name : List ℕ) → list_all is_text_field fields ≡ true
    → IsUtf8 (field_value fields name)
text-value [] name e = IsUtf8-nil
text-value (f ∷ fs) name e =
    let parts = and_parts (is_text_field f) (list_all is_text_field fs) e in
    by (bytes_eq name f.0) (IsUtf8-from_is_utf8 f.1 (and_parts _ _ parts.0).1) (text-value fs name parts.1)
  where
    by : (b : Bool) → IsUtf8 f.1 → IsUtf8 (field_value fs name)
        → IsUtf8 (unwrap_or (cond b (Some f.1) (lookup (bytes_eq name) fs)) [])
    by true here later = here
    by false here later = later

text-rows : (rows : List Numbered) → list_all is_text_row rows ≡ true
    → AllByRecursion (λ (n : Numbered). list_all is_text_field n.row.fields ≡ true) rows
text-rows [] e = tt
text-rows (n ∷ ns) e =
    let parts = and_parts (is_text_row n) (list_all is_text_row ns) e in (parts.0, text-rows ns parts.1)

-- ---- columns

-- a field with a value is listed
listed-name : (fields : List Field) (name : List ℕ) → 0 < length (field_value fields name)
    → list_any (bytes_eq name) (names_in fields) ≡ true
listed-name [] name some = absurd (omega (arith, some))
listed-name (f ∷ fs) name some = by (bytes_eq name f.0) some (listed-name fs name)
  where
    by : (b : Bool) → 0 < length (unwrap_or (cond b (Some f.1) (lookup (bytes_eq name) fs)) [])
        → (0 < length (field_value fs name) → list_any (bytes_eq name) (names_in fs) ≡ true)
        → (b || list_any (bytes_eq name) (names_in fs)) ≡ true
    by true some later = refl
    by false some later = later some

abbrev names_in_row : Numbered → List (List ℕ)
names_in_row numbered = names_in numbered.row.fields

listed-row : (rows : List Numbered) (k : ℕ) (d : Numbered) (name : List ℕ) → k < length rows
    → list_any (bytes_eq name) (names_in_row (get_or rows k d)) ≡ true
    → list_any (bytes_eq name) (flat_map names_in_row rows) ≡ true
listed-row [] k d name lt e = absurd (omega (arith, lt))
listed-row (n ∷ ns) zero d name lt e =
    ap (list_any (bytes_eq name)) (flat_map-cons names_in_row n ns)
    ∙ list_any-append (bytes_eq name) (names_in_row n) (flat_map names_in_row ns)
    ∙ ap (λ b. b || list_any (bytes_eq name) (flat_map names_in_row ns)) e
listed-row (n ∷ ns) (suc k) d name lt e =
    ap (list_any (bytes_eq name)) (flat_map-cons names_in_row n ns)
    ∙ list_any-append (bytes_eq name) (names_in_row n) (flat_map names_in_row ns)
    ∙ right_true (list_any (bytes_eq name) (names_in_row n)) (list_any (bytes_eq name) (flat_map names_in_row ns))
    (listed-row ns k d name (omega arith) e)

-- the filter of the column of a listed name is asked
asked : (rows : List Numbered) (names : List (List ℕ)) (name word : List ℕ)
    → list_any (bytes_eq name) names ≡ true → may_have (filter_of (values_of rows name)) word ≡ true
    → list_any (may_have_word name word) (map (filter_named rows) names) ≡ true
asked rows [] name word listed has = absurd cc
asked rows (n ∷ ns) name word listed has =
    by (bytes_eq name n) refl listed (λ later. asked rows ns name word later has)
  where
    by : (b : Bool) → bytes_eq name n ≡ b → (b || list_any (bytes_eq name) ns) ≡ true
        → (list_any (bytes_eq name) ns ≡ true
        → list_any (may_have_word name word) (map (filter_named rows) ns) ≡ true)
        → (may_have_word name word (filter_named rows n)
        || list_any (may_have_word name word) (map (filter_named rows) ns)) ≡ true
    by true same h later =
        let equal : n ≡ name = sym ((bytes_eq-Decides name n).0 same) in
        rw (equal, itself name, has) refl
    by false same h later =
        right_true (may_have_word name word (filter_named rows n))
        (list_any (may_have_word name word) (map (filter_named rows) ns)) (later h)

-- the filter of a column has the words of each row's value
has-words : (rows : List Numbered) (k : ℕ) (d : Numbered) (name : List ℕ) → k < length rows
    → HasWords (filter_of (values_of rows name)) (field_value (get_or rows k d).row.fields name)
has-words rows k d name lt =
    let value : Numbered → List ℕ = λ numbered. field_value numbered.row.fields name in
    subst (HasWords (filter_of (values_of rows name)))
    (get_or-map value rows k d (value d) lt)
    (leaves_none_out (values_of rows name) k (value d) (omega (arith, lt, length-map rows value)))

word-known : (rows : List Numbered) (k : ℕ) (d : Numbered) (name word : List ℕ) → k < length rows
    → IsOneOfWords (field_value (get_or rows k d).row.fields name) word
    → admits (column_word name word) (outline_of rows) ≡ true
word-known rows k d name word lt any =
    let fields = (get_or rows k d).row.fields in
    let value = field_value fields name in
    let listed : list_any (bytes_eq name) (names_of rows) ≡ true =
    distinct-listed name (flat_map names_in_row rows)
    ∙ listed-row rows k d name lt (listed-name fields name (filled value word any)) in
    asked rows (names_of rows) name word listed
    (one-text (λ w. may_have (filter_of (values_of rows name)) w ≡ true) value (words_of value) word
    (has-words rows k d name lt) any)

-- ---- all rows

pub known : (rows : List Numbered) → IsTextBlock rows → AllByRecursion (λ n. IsKnown (outline_of rows) n.row) rows
known rows block =
    recursion_from_All (λ n. IsKnown (outline_of rows) n.row) rows (λ k d lt.
    let times = span rows block.block in
    record {
      labels = All-from_recursion (λ (n : Numbered). n.row.labels ≡ labels_of rows) rows block.block.stream k d lt;
      least = times.least k d lt;
      greatest = times.greatest k d lt;
      texts = λ name. text-value (get_or rows k d).row.fields name
          (All-from_recursion (λ (n : Numbered). list_all is_text_field n.row.fields ≡ true) rows
          (text-rows rows block.texts) k d lt);
      words = λ name word any. word-known rows k d name word lt any;
    })
