-- What becomes of the fields, of the names and of the texts that are put together.
use Rattle.std.proofs.Common.{◌≡◌, ℕ, zero, suc, ◌≤◌, List, [], ◌∷◌, ◌++◌, length, take, drop, Option, Some, None}
use Rattle.std.proofs.Common.{Result, Ok, Err, refl, sym, ap, subst, ◌∙◌, append_assoc, arith}
use Rattle.std.specs.Prelude.{OnOk, IfOk, IfSome, option_map, unwrap_or}
use Rattle.std.specs.Str.{IsUtf8}
use Rattle.std.proofs.lemmas.List.{append-nil, length-append, take-append-drop, take-take, take_at, take_all}
use Rattle.std.proofs.lemmas.Str.{IsCharBoundary-from_take}
use Rattle.log_model.specs.Field.{Field, set_all}
use Rattle.jsonline_in.specs.Near.{Noted, note, note_all}
use Rattle.log_model.specs.Token.{Character, string, string_text, Scalar, scalar_text}
use Rattle.log_model.specs.Value.{Kind, array, object, closing, Label, Value, scalar, nested, Items, nothing, tokens}
use Rattle.log_model.specs.Value.{member_name, field_name, value_fields, member_fields}
use Rattle.jsonline_in.specs.declared.scan_fault.ScanFault.{ScanFault}
use Rattle.jsonline_in.specs.Reading.{after_space, past, Fault, ◌>>=◌, expect, flat_at, label_at, items_at, value_at}
use Rattle.jsonline_in.specs.Reading.{nested_at, put_item}
use Rattle.std.specs.String.Boundary.{IsSplitPoint}
use Rattle.jsonline_in.proofs.ValueSteps.{value_flat, flat_square, quoted_mapped, bare_mapped}
use Rattle.jsonline_in.specs.Clauses.{Fails, ReadsAs, mapped, compact, flat_text, value_set, or_empty, or_kept}
use Rattle.jsonline_in.proofs.Copies.{mapped_ok}
use Rattle.jsonline_in.proofs.Decoding.{fails_too}
use Rattle.jsonline_in.proofs.Loops.{Continued, closed, not_closed}

-- ---- texts that may be borrowed

kept_text : {S : Type 0} (now : S → List ℕ) (piece : Option S) (new : List ℕ) → IfSome piece (λ _. new ≡ []) → new
    ++ or_empty (option_map now piece) ≡ or_kept (option_map now piece) new
kept_text now None new kept = append-nil new
kept_text now (Some text) new kept = ap (λ (t : List ℕ). t ++ now text) kept

empty_before : (a : Result (List Character × List ℕ) Fault) (old : List ℕ) → old ≡ []
    → mapped (λ characters. old ++ string_text characters) a ≡ mapped string_text a
empty_before a old e = ap (λ (t : List ℕ). mapped (λ (characters : List Character). t ++ string_text characters) a) e

still : {S : Type 0} (piece : Option S) (old new : List ℕ) → old ≡ [] → IfSome piece (λ _. new ≡ old)
    → IfSome piece (λ _. new ≡ [])
still None old new e k = tt
still (Some text) old new e k = k ∙ e

pub string_flat : {S R : Type 0} (now : S → List ℕ) (left : R → List ℕ) (r : Result (Option S × R) ScanFault)
    (old new : List ℕ) (a : Result (List Character × List ℕ) Fault) → old ≡ []
    → ReadsAs (λ x. (new ++ or_empty (option_map now x.0), left x.1)) r
    (mapped (λ characters. old ++ string_text characters) a) → IfOk r (λ x. IfSome x.0 (λ _. new ≡ old))
    → ReadsAs (λ x. (or_kept (option_map now x.0) new, left x.1)) r (mapped string_text a)
string_flat now left (Ok x) old new a e g kept = sym (empty_before a old e) ∙ g
    ∙ ap (λ (t : List ℕ). Ok (t, left x.1)) (kept_text now x.0 new (still x.0 old new e kept))
string_flat now left (Err stop) old new a e g kept = subst (Fails stop) (empty_before a old e) g

-- ---- values that are not objects

nested_flat : (depth : ℕ) (kind : Kind) (bytes : List ℕ)
    → mapped flat_text (nested_at depth kind bytes) ≡ mapped (λ value. compact (tokens value))
    (nested_at depth kind bytes)
unfolding nested_at
nested_flat zero kind bytes = refl
nested_flat (suc depth) kind bytes = by_case (items_at (nested_at depth) kind bytes)
  where
    by_case : (r : Result (Items × List ℕ) Fault) → mapped flat_text (r >>= λ x. Ok (nested kind x.0, x.1)) ≡ mapped
        (λ value. compact (tokens value)) (r >>= λ x. Ok (nested kind x.0, x.1))
    by_case (Ok x) = refl
    by_case (Err fault) = refl

pub array_flat : (depth : ℕ) (bytes old : List ℕ) → old ≡ []
    → mapped flat_text (nested_at depth array bytes) ≡ mapped (λ value. old ++ compact (tokens value))
    (nested_at depth array bytes)
array_flat depth bytes old e = nested_flat depth array bytes
    ∙ ap (λ (t : List ℕ). mapped (λ (value : Value). t ++ compact (tokens value)) (nested_at depth array bytes))
    (sym e)

-- what becomes of a value that is not an object, where its text says all
module _ {X : Type 0} (whole : Value → X) (one : List ℕ → X)
    (of_scalar : (token : Scalar) → whole (scalar token) ≡ one (scalar_text token))
    (of_array : (items : Items) → whole (nested array items) ≡ one (compact (tokens (nested array items)))) where
  abbrev one_of_text : Value → X
  one_of_text value = one (flat_text value)

  nested_one : (depth : ℕ) (bytes : List ℕ) → mapped whole (nested_at depth array bytes) ≡ mapped one_of_text
      (nested_at depth array bytes)
  unfolding nested_at
  nested_one zero bytes = refl
  nested_one (suc depth) bytes = by_case (items_at (nested_at depth) array bytes)
    where
      by_case : (r : Result (Items × List ℕ) Fault) → mapped whole (r >>= λ x. Ok (nested array x.0, x.1)) ≡ mapped
          one_of_text (r >>= λ x. Ok (nested array x.0, x.1))
      by_case (Ok x) = ap (λ (y : X). Ok (y, x.1)) (of_array x.0)
      by_case (Err fault) = refl

  flat_one : (depth : ℕ) (text : List ℕ) (o p : Option (List ℕ)) → past 34 text ≡ o → past 91 text ≡ p
      → mapped whole (flat_at (nested_at depth) text) ≡ mapped one_of_text (flat_at (nested_at depth) text)
  flat_one depth text (Some inside) p e f =
      let by_text : List Character → X = λ characters. one (string_text characters) in
      quoted_mapped (nested_at depth) text whole inside by_text e (λ characters. of_scalar (string characters))
      ∙ sym (quoted_mapped (nested_at depth) text one_of_text inside by_text e (λ characters. refl))
  flat_one depth text None (Some inside) e f =
      let here = flat_square (nested_at depth) text inside e f in
      ap (mapped whole) here ∙ nested_one depth inside ∙ ap (mapped one_of_text) (sym here)
  flat_one depth text None None e f =
      let by_text : Scalar → X = λ token. one (scalar_text token) in
      bare_mapped (nested_at depth) text whole by_text e f of_scalar
      ∙ sym (bare_mapped (nested_at depth) text one_of_text by_text e f (λ token. refl))

  mapped_twice : (r : Result (Value × List ℕ) Fault) (text rest : List ℕ) → mapped flat_text r ≡ Ok (text, rest)
      → mapped one_of_text r ≡ Ok (one text, rest)
  mapped_twice (Ok x) text rest e = ap (mapped one) e
  mapped_twice (Err fault) text rest e = absurd cc

  pub flat_made : (depth : ℕ) (text rest value : List ℕ) → past 123 text ≡ None
      → mapped flat_text (flat_at (nested_at depth) text) ≡ Ok (value, rest)
      → mapped whole (value_at (nested_at depth) text) ≡ Ok (one value, rest)
  flat_made depth text rest value none e =
      ap (mapped whole) (value_flat (nested_at depth) text none)
      ∙ flat_one depth text (past 34 text) (past 91 text) refl refl
      ∙ mapped_twice (flat_at (nested_at depth) text) value rest e

-- the field of this text is set
pub value_is_set : (old : Noted) (name : List ℕ) (depth : ℕ) (text rest value kept : List ℕ) (new : Noted)
    → past 123 text ≡ None → mapped flat_text (flat_at (nested_at depth) text) ≡ Ok (value, rest) → kept ≡ value
    → new ≡ note old (field_name name) kept → mapped (value_set old name) (value_at (nested_at depth) text) ≡ Ok
    (new, rest)
value_is_set old name depth text rest value kept new none e f g =
    flat_made (value_set old name) (note old (field_name name)) (λ token. refl) (λ items. refl) depth text rest
    value none e
    ∙ ap (λ (noted : Noted). Ok (noted, rest)) (ap (note old (field_name name)) (sym f) ∙ sym g)

-- the field of this text is listed
pub value_is_listed : (old : List Field) (name : List ℕ) (depth : ℕ) (text rest value : List ℕ) (new : List Field)
    → past 123 text ≡ None → mapped flat_text (flat_at (nested_at depth) text) ≡ Ok (value, rest)
    → new ≡ old ++ (field_name name, value) ∷ [] → mapped (λ value. old ++ value_fields name value)
    (value_at (nested_at depth) text) ≡ Ok (new, rest)
value_is_listed old name depth text rest value new none e f =
    flat_made (λ value. old ++ value_fields name value) (λ text. old ++ (field_name name, text) ∷ []) (λ token. refl)
    (λ items. refl) depth text rest value none e
    ∙ ap (λ (fields : List Field). Ok (fields, rest)) (sym f)

-- ---- names

-- the name that was there stays before what is added
pub prefix_kept : {S : Type 0} (now : S → List ℕ) (old mid text rest : List ℕ) (piece : Option S)
    → IfSome piece (λ _. mid ≡ old) → mapped (λ label. old ++ member_name label) (label_at object text) ≡ Ok
    (mid ++ or_empty (option_map now piece), rest)
    → (tail : List ℕ) × (mid ≡ old ++ tail)
prefix_kept now old mid text rest None kept e =
    let m = mapped_ok (λ (label : Label). old ++ member_name label) (label_at object text) (mid ++ []) rest e in
    (member_name m.0, sym (append-nil mid) ∙ m.2)
prefix_kept now old mid text rest (Some name) kept e = ([], kept ∙ sym (append-nil old))

pub cut_back : (old mid new tail : List ℕ) → mid ≡ old ++ tail → take (length mid) new ≡ mid
    → take (length old) new ≡ old
cut_back old mid new tail e f =
    sym (take-take (length old) (length mid) new (omega (arith, ap length e, length-append old tail)))
    ∙ ap (take (length old)) (f ∙ e) ∙ take_at old tail (length old) refl

pub split_back : (old new : List ℕ) → take (length old) new ≡ old → IsUtf8 old → IsUtf8 new
    → IsSplitPoint new (length old)
split_back old new e utf8 all =
    let short : length old ≤ length new = omega (
      arith,
      ap length e,
      ap length (take-append-drop (length old) new),
      length-append (take (length old) new) (drop (length old) new),
    ) in
    let b = IsCharBoundary-from_take new (length old) all short (subst IsUtf8 (sym e) utf8) in
    (b.0, λ some less high. b.1 less high)

pub unwrapped : {S : Type 0} (now : S → List ℕ) (piece : Option S) (kept result : S) (text : List ℕ)
    → result ≡ unwrap_or piece kept → now kept ≡ text → now result ≡ or_kept (option_map now piece) text
unwrapped now None kept result text e f = ap now e ∙ f
unwrapped now (Some piece) kept result text e f = ap now e

-- ---- members

all_of_two : (old : Noted) (a b : List Field) → note_all old (a ++ b) ≡ note_all (note_all old a) b
all_of_two old [] b = refl
all_of_two old (x ∷ a) b = all_of_two (note old x.0 x.1) a b

pub member_set : (old now : Noted) (names : List ℕ) (x : Label × Value) (more : Items)
    → now ≡ note_all old (value_fields (names ++ member_name x.0) x.1)
    → note_all old (member_fields names (put_item x more)) ≡ note_all now (member_fields names more)
member_set old now names x more e = all_of_two old (value_fields (names ++ member_name x.0) x.1)
    (member_fields names more) ∙ ap (λ (noted : Noted). note_all noted (member_fields names more)) (sym e)

pub member_listed : (old now : List Field) (before : List ℕ) (x : Label × Value) (more : Items) → now ≡ old
    ++ value_fields (before ++ member_name x.0) x.1 → old ++ member_fields before (put_item x more) ≡ now
    ++ member_fields before more
member_listed old now before x more e = sym (append_assoc old (value_fields (before ++ member_name x.0) x.1)
    (member_fields before more)) ∙ ap (λ (fields : List Field). fields ++ member_fields before more) (sym e)

-- all fields that were listed are set
pub listed_set : (r : Result (Items × List ℕ) Fault) (old now listed items : List Field) (rest : List ℕ) (i : ℕ)
    → mapped (member_fields []) r ≡ Ok (listed, rest) → items ≡ listed → length items ≤ i
    → now ≡ set_all old (take i items)
    → mapped (λ members. set_all old (member_fields [] members)) r ≡ Ok (now, rest)
listed_set (Ok x) old now listed items rest i e f end g =
    let all : set_all old (member_fields [] x.0) ≡ now = ap (set_all old)
    (ap (fields_or []) e ∙ sym f ∙ sym (take_all i items end)) ∙ sym g in
    let left : x.1 ≡ rest = ap (rest_or []) e in
    ap (λ (fields : List Field). Ok (fields, x.1)) all ∙ ap (λ (t : List ℕ). Ok (now, t)) left
  where
    fields_or : List Field → Result (List Field × List ℕ) Fault → List Field
    fields_or other (Ok y) = y.0
    fields_or other (Err fault) = other

    rest_or : List ℕ → Result (List Field × List ℕ) Fault → List ℕ
    rest_or other (Ok y) = y.1
    rest_or other (Err fault) = other
listed_set (Err fault) old now listed items rest i e f end g = absurd cc

-- ---- the end of an object

pub on_ok : {A E : Type 0} (r : Result A E) (P : Type 0) → P → OnOk r P
on_ok (Ok x) P p = p
on_ok (Err e) P p = tt

pub closed_by : {S X : Type 0} (view : S → List ℕ) (r : Result S ScanFault) (depth : ℕ) (kind : Kind)
    (whole left : Items → X) (rest : List ℕ) (total : Result (Items × List ℕ) Fault)
    → Continued depth kind whole left rest total
    → (here : List ℕ) (now : X) → here ≡ after_space rest → past 44 here ≡ None → now ≡ left nothing
    → ReadsAs (λ x. (tt, view x)) r (expect (closing kind) here) → ReadsAs (λ x. (now, view x)) r (mapped whole total)
closed_by view (Ok x) depth kind whole left rest total c here now space none last g =
    closed depth kind whole left rest total c here space (view x) now none g last
closed_by view (Err stop) depth kind whole left rest total c here now space none last g =
    fails_too (expect (closing kind) here) (mapped whole total) stop
    (λ fault h. ap (mapped whole) (not_closed depth kind whole left rest total c here space fault none h)) g
