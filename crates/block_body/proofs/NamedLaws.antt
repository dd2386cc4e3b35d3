-- Rows whose fields have the same names, one after another.
use Rattle.std.proofs.Common.{◌≡◌, ℕ, ◌+◌, ◌<◌, Bool, true, List, [], ◌∷◌, ◌++◌, length, take, get_or, refl, sym, ap, subst}
use Rattle.std.proofs.Common.{◌∙◌, arith, Ok, Err, IfOk, Result, Bor, map}
use Rattle.std.specs.Prelude.{◌&&◌, IsUtf8}
use Rattle.std.specs.BTreeSet.{insert_key}
use Rattle.std.specs.List.{AllByRecursion, flat_map, fold, list_all}
use Rattle.std.specs.List.Sorted.{IsBinarySearchResult}
use Rattle.std.proofs.lemmas.Map.Lookups.{exact_bytes}
use Rattle.std.proofs.lemmas.List.{map_more, take_more}
use Rattle.std.proofs.lemmas.List.Concat.{flat_map-cons}
use Rattle.std.proofs.lemmas.List.Folds.{list_all_more}
use Rattle.std.proofs.lemmas.List.Sums.{fold-append}
use Rattle.std.proofs.lemmas.Str.{is_utf8-from_IsUtf8}
use Rattle.block_model.specs.Columns.{names_in, names_of}
use Rattle.block_model.specs.Distinct.{distinct}
use Rattle.block_model.specs.Texts.{is_text_field, is_text_row}
use Rattle.block_model.proofs.Rising.{IsRising, distinct-rising, put-twice}
use Rattle.block_model.proofs.Same.{distinct-listed, same-rising}
use Rattle.log_model.specs.Field.{Field, bytes_cmp}
use Rattle.log_model.specs.History.{Numbered}
use Rattle.log_model.specs.Row.{IsRow}

-- The row keeps the rules of rows, and its fields have these names.
abbrev pub HasNames : List (List ℕ) → Numbered → Type 0
HasNames names n = (names_in n.row.fields ≡ names) × IsRow n.row

abbrev put_all : List (List ℕ) → List (List ℕ) → List (List ℕ)
put_all names texts = fold (insert_key bytes_cmp) names texts

abbrev names_at : Numbered → List (List ℕ)
names_at n = names_in n.row.fields

-- names in order are their distinct ones
distinct-is : (names : List (List ℕ)) → IsRising names → distinct names ≡ names
distinct-is names rising =
    same-rising (distinct names) names (distinct-rising names) rising (λ t. distinct-listed t names)

put-own : (names : List (List ℕ)) → IsRising names → put_all names names ≡ names
put-own names rising =
    subst (λ (l : List (List ℕ)). put_all l names ≡ l) (distinct-is names rising) (put-twice names [] (distinct-rising []))

others-add-none : (rows : List Numbered) (names : List (List ℕ)) → IsRising names
    → AllByRecursion (HasNames names) rows → put_all names (flat_map names_at rows) ≡ names
others-add-none [] names rising h = refl
others-add-none (n ∷ ns) names rising h =
    ap (put_all names) (flat_map-cons names_at n ns)
    ∙ fold-append (insert_key bytes_cmp) names (names_at n) (flat_map names_at ns)
    ∙ ap (λ (l : List (List ℕ)). put_all (put_all names l) (flat_map names_at ns)) h.0.0
    ∙ ap (λ (l : List (List ℕ)). put_all l (flat_map names_at ns)) (put-own names rising)
    ∙ others-add-none ns names rising h.1

-- names that each row has are those of all rows
pub names-are : (rows : List Numbered) (names : List (List ℕ)) → 0 < length rows → AllByRecursion (HasNames names) rows
    → names_of rows ≡ names
names-are [] names some h = absurd (omega (arith, some))
names-are (n ∷ ns) names some h =
    let rising : IsRising names = subst IsRising h.0.0 h.0.1.fields.ordered in
    ap distinct (flat_map-cons names_at n ns)
    ∙ fold-append (insert_key bytes_cmp) [] (names_at n) (flat_map names_at ns)
    ∙ ap (λ (l : List (List ℕ)). put_all (distinct l) (flat_map names_at ns)) h.0.0
    ∙ ap (λ (l : List (List ℕ)). put_all l (flat_map names_at ns)) (distinct-is names rising)
    ∙ others-add-none ns names rising h.1

-- ---- one more

all-push : {X : Type 0} (P : X → Type 0) (xs : List X) (x : X) → AllByRecursion P xs → P x
    → AllByRecursion P (xs ++ x ∷ [])
all-push P [] x h p = (p, tt)
all-push P (y ∷ ys) x h p = (h.0, all-push P ys x h.1 p)

pub row-more : (names : List (List ℕ)) (rows : List Numbered) (i : ℕ) (n : Numbered) → i < length rows
    → n ≡ get_or rows i n → AllByRecursion (HasNames names) (take i rows) → HasNames names n
    → AllByRecursion (HasNames names) (take (i + 1) rows)
row-more names rows i n lt is before here =
    let more : take (i + 1) rows ≡ take i rows ++ n ∷ [] = take_more rows i n lt
    ∙ ap (λ (x : Numbered). take i rows ++ x ∷ []) (sym is) in
    subst (AllByRecursion (HasNames names)) (sym more) (all-push (HasNames names) (take i rows) n before here)

pub name-more : (fields : List Field) (names : List (List ℕ)) (i : ℕ) (field : Field) (name : List ℕ)
    → i < length fields → i < length names → field ≡ get_or fields i field → name ≡ get_or names i name
    → names_in (take i fields) ≡ take i names → field.0 ≡ name
    → names_in (take (i + 1) fields) ≡ take (i + 1) names
name-more fields names i field name lt also is is_name before same =
    map_more (λ (f : Field). f.0) fields i field lt
    ∙ ap (λ (l : List (List ℕ)). l ++ (get_or fields i field).0 ∷ []) before
    ∙ ap (λ (n : List ℕ). take i names ++ n ∷ []) (ap (λ (f : Field). f.0) (sym is) ∙ same ∙ is_name)
    ∙ sym (take_more names i name also)

pub text-more : (names : List (List ℕ)) (texts : List (Bor (List ℕ))) (i : ℕ) (name : List ℕ) (d : Bor (List ℕ))
    → i < length names → i < length texts → name ≡ get_or names i name → take i names ≡ map (λ t. t.now) (take i texts)
    → name ≡ (get_or texts i d).now → take (i + 1) names ≡ map (λ t. t.now) (take (i + 1) texts)
text-more names texts i name d lt also is before same =
    take_more names i name lt
    ∙ ap (λ (l : List (List ℕ)). l ++ get_or names i name ∷ []) before
    ∙ ap (λ (n : List ℕ). map (λ t. t.now) (take i texts) ++ n ∷ []) (sym is ∙ same)
    ∙ sym (map_more (λ (t : Bor (List ℕ)). t.now) texts i d also)

-- ---- texts

pub text-field : (field : Field) → IsUtf8 field.0 → IsUtf8 field.1 → is_text_field field ≡ true
text-field field name content =
    rw (is_utf8-from_IsUtf8 field.0 name, is_utf8-from_IsUtf8 field.1 content) refl

-- one more passes the test
pub passes-more : {X : Type 0} (p : X → Bool) (xs : List X) (i : ℕ) (x : X) → i < length xs → x ≡ get_or xs i x
    → list_all p (take i xs) ≡ true → p x ≡ true → list_all p (take (i + 1) xs) ≡ true
passes-more p xs i x lt is before here =
    list_all_more p xs i x lt
    ∙ ap (λ (b : Bool). b && p (get_or xs i x)) before
    ∙ ap p (sym is)
    ∙ here

-- ---- the only row

pub one-named : (rows : List Numbered) (n : Numbered) (names : List (List ℕ)) → length rows ≡ 1 → n ≡ get_or rows 0 n
    → names ≡ names_in n.row.fields → IsRow n.row → names ≡ names_of rows
one-named [] n names one is same row = absurd (omega (arith, one))
one-named (x ∷ []) n names one is same row =
    let named : HasNames names x = (ap names_at (sym is) ∙ sym same, subst (λ (y : Numbered). IsRow y.row) is row) in
    sym (names-are (x ∷ []) names (omega arith) (named, tt))
one-named (x ∷ y ∷ ys) n names one is same row = absurd (omega (arith, one))

pub one-text : (rows : List Numbered) (n : Numbered) → length rows ≡ 1 → n ≡ get_or rows 0 n
    → list_all is_text_field n.row.fields ≡ true → list_all is_text_row rows ≡ true
one-text [] n one is e = absurd (omega (arith, one))
one-text (x ∷ []) n one is e =
    let text : is_text_row x ≡ true = ap is_text_row (sym is) ∙ e in
    rw text refl
one-text (x ∷ y ∷ ys) n one is e = absurd (omega (arith, one))

-- ---- names that were sought

pub found-is : (known : List (List ℕ)) (text : List ℕ) (r : Result ℕ ℕ)
    → IsBinarySearchResult (λ name. bytes_cmp name text) known r → IfOk r (λ i. get_or known i [] ≡ text)
found-is known text (Ok i) h = exact_bytes (get_or known i []) text (h [])
found-is known text (Err i) h = tt
