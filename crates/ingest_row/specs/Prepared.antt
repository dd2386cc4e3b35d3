-- Lists of options, prepared so that the fields of a line are looked up and no list is walked for each line.
use Rattle.std.specs.Prelude.{◌≡◌, ℕ, false, List, [], length, map, min, fold, not, bytes_eq, unwrap_or}
use Rattle.std.specs.List.{AllByRecursion, prefix_len}
use Rattle.std.specs.BTreeMap.{get_by_text}
use Rattle.log_model.specs.Field.{Field, set_all}
use Rattle.vl_row.specs.Names.{is_among}
use Rattle.ingest_row.specs.declared.prepared.Prepared.{Prepared}

-- the first place of a name in a list, and the list's length where it is not listed
abbrev pub place_in : List (List ℕ) → List ℕ → ℕ
place_in names name = prefix_len (λ listed. not (bytes_eq listed name)) names

-- the least place in a list that the name of a field has, and the list's length where no field is listed
abbrev pub least_place : List (List ℕ) → List Field → ℕ
least_place names fields = fold (λ least field. min least (place_in names field.0)) (length names) fields

abbrev pub names_of : List Field → List (List ℕ)
names_of fields = map (λ field. field.0) fields

-- no name is one of both lists
abbrev pub AreApart : List Field → List Field → Type 0
AreApart fields others =
    AllByRecursion (λ other. AllByRecursion (λ field. bytes_eq other.0 field.0 ≡ false) fields) others

-- what these lists are prepared as: names are found as in the lists, and each added name has the last of its values
pub record IsPrepared (stream_fields message_fields ignored_fields : List (List ℕ)) (extra_fields : List Field)
    (prepared : Prepared) : Type 0 where
  pub labels : (name : List ℕ) → is_among prepared.labels name ≡ is_among stream_fields name
  pub ignored : (name : List ℕ) → is_among prepared.ignored name ≡ is_among ignored_fields name
  pub places : (name : List ℕ)
      → unwrap_or (get_by_text prepared.places name) (length message_fields) ≡ place_in message_fields name
  pub replaced : (name : List ℕ) → is_among prepared.replaced name ≡ is_among (names_of extra_fields) name
  pub added : prepared.added ≡ set_all [] extra_fields
