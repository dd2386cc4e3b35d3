-- Adding one header field.
use Rattle.std.specs.Prelude.{not, ◌==◌}
use Rattle.std.proofs.Common.{◌≡◌, ℕ, Bool, true, false, ◌&&◌, ◌||◌, cond, List, [], ◌∷◌, ◌++◌, refl, ap, sym, ◌∙◌}
use Rattle.std.proofs.Common.{append-nil}
use Rattle.std.specs.Prelude.{None, Some, codes, bytes_eq, option_map}
use Rattle.std.specs.List.{list_all, list_any}
use Rattle.std.proofs.lemmas.Grind.{flat_map-append}
use Rattle.std.proofs.lemmas.List.Folds.{list_all-append, list_any-append}
use Rattle.http1.specs.Fields.{Header, elements_named, has_option, is_number, known_fields, values_named}
use Rattle.http1.specs.Text.{eq_ignore_case}
use Rattle.http_said.specs.Fields.{agree, asks_to_close, begins_form, coding_of, first_of, is_large, content_types}
use Rattle.http_said.specs.HeadFields.{HoldsFields}
use Rattle.http_said.specs.declared.framing.Coding.{Coding}
use Rattle.http_said.specs.declared.fields.HeadFields.{HeadFields}
use Rattle.http1.specs.declared.fields.KnownFields.{KnownFields}
use Rattle.http_said.specs.declared.framing.Coding.TheVariants as codings

values_push : (name : List ℕ) (before : List Header) (h : Header) (named : Bool) → eq_ignore_case h.0 name ≡ named
    → values_named name (before ++ h ∷ []) ≡ values_named name before ++ cond named (h.1 ∷ []) []
values_push name before h named is =
    flat_map-append (λ (x : Header). cond (eq_ignore_case x.0 name) (x.1 ∷ []) []) before (h ∷ [])
    ∙ ap (λ l. values_named name before ++ l)
    (append-nil (cond (eq_ignore_case h.0 name) (h.1 ∷ []) []) ∙ ap (λ t. cond t (h.1 ∷ []) []) is)

-- a field of this name
pub pushed : (name : List ℕ) (before : List Header) (n v : List ℕ) → eq_ignore_case n name ≡ true
    → values_named name (before ++ (n, v) ∷ []) ≡ values_named name before ++ v ∷ []
pushed name before n v is = values_push name before (n, v) true is

-- a field of another name
pub passed : (name : List ℕ) (before : List Header) (n v : List ℕ) → eq_ignore_case n name ≡ false
    → values_named name (before ++ (n, v) ∷ []) ≡ values_named name before
passed name before n v is = values_push name before (n, v) false is ∙ append-nil (values_named name before)

pub no_first : (values : List (List ℕ)) → first_of values ≡ None → values ≡ []
no_first [] e = refl
no_first (v ∷ vs) e = cc

or_false : (b : Bool) → (b || false) ≡ b
or_false true = refl
or_false false = refl

and_true : (b : Bool) → (b && true) ≡ b
and_true true = refl
and_true false = refl

and_assoc : (a b c : Bool) → (a && (b && c)) ≡ ((a && b) && c)
and_assoc true b c = refl
and_assoc false b c = refl

pub large_push : (values : List (List ℕ)) (v : List ℕ)
    → list_any is_large (values ++ v ∷ []) ≡ (list_any is_large values || is_large v)
large_push values v = list_any-append is_large values (v ∷ []) ∙ ap (λ t. list_any is_large values || t)
    (or_false (is_large v))

pub agree_one : (v : List ℕ) → agree (v ∷ []) ≡ is_number v
agree_one v = and_true (is_number v)

pub agree_push : (values : List (List ℕ)) (first v : List ℕ) → first_of values ≡ Some first
    → agree (values ++ v ∷ []) ≡ (agree values && bytes_eq first v)
agree_push [] first v e = cc
agree_push (a ∷ vs) first v e =
    let same : a ≡ first = cc in
    ap (λ t. is_number a && t)
    (list_all-append (bytes_eq a) vs (v ∷ []) ∙ ap (λ t. list_all (bytes_eq a) vs && t) (and_true (bytes_eq a v)))
    ∙ and_assoc (is_number a) (list_all (bytes_eq a) vs) (bytes_eq a v)
    ∙ ap (λ x. (is_number a && list_all (bytes_eq a) vs) && bytes_eq x v) same

pub first_push : (values : List (List ℕ)) (first v : List ℕ) → first_of values ≡ Some first
    → first_of (values ++ v ∷ []) ≡ Some first
first_push [] first v e = cc
first_push (a ∷ vs) first v e = e

-- the first coding
pub coding_first : (values : List (List ℕ)) (v : List ℕ) → coding_of values ≡ codings.Absent
    → coding_of (values ++ v ∷ []) ≡ cond (eq_ignore_case v (codes "chunked")) codings.Chunked codings.Other
coding_first [] v e = refl
coding_first (a ∷ []) v e = by_test (eq_ignore_case a (codes "chunked")) e
  where
    by_test : (t : Bool) → cond t codings.Chunked codings.Other ≡ codings.Absent
        → coding_of (a ∷ v ∷ []) ≡ cond (eq_ignore_case v (codes "chunked")) codings.Chunked codings.Other
    by_test true e = cc
    by_test false e = cc
coding_first (a ∷ b ∷ vs) v e = cc

-- a coding after another one
pub coding_second : (values : List (List ℕ)) (v : List ℕ) (c : Coding) → coding_of values ≡ c → (c ≡ codings.Absent → ⊥)
    → coding_of (values ++ v ∷ []) ≡ codings.Other
coding_second [] v c e some = absurd (some (sym e))
coding_second (a ∷ []) v c e some = refl
coding_second (a ∷ b ∷ vs) v c e some = refl

pub any_push : (p : List ℕ → Bool) (values : List (List ℕ)) (v : List ℕ)
    → list_any p (values ++ v ∷ []) ≡ (list_any p values || p v)
any_push p values v = list_any-append p values (v ∷ []) ∙ ap (λ t. list_any p values || t) (or_false (p v))

pub form_first : (values : List (List ℕ)) (v : List ℕ) → option_map begins_form (first_of values) ≡ None
    → option_map begins_form (first_of (values ++ v ∷ [])) ≡ Some (begins_form v)
form_first [] v e = refl
form_first (a ∷ vs) v e = cc

pub form_again : (values : List (List ℕ)) (v : List ℕ) (form : Bool)
    → option_map begins_form (first_of values) ≡ Some form
    → option_map begins_form (first_of (values ++ v ∷ [])) ≡ Some form
form_again [] v form e = cc
form_again (a ∷ vs) v form e = e

pub form_pushed : (before : List Header) (n v : List ℕ) → eq_ignore_case n (codes "content-type") ≡ true
    → None ≡ option_map begins_form (first_of (content_types before))
    → Some (begins_form v) ≡ option_map begins_form (first_of (content_types (before ++ (n, v) ∷ [])))
form_pushed before n v is none =
    sym (ap (λ l. option_map begins_form (first_of l)) (pushed (codes "content-type") before n v is)
    ∙ form_first (content_types before) v (sym none))

pub form_passed : (before : List Header) (n v : List ℕ) → eq_ignore_case n (codes "content-type") ≡ false
    → None ≡ option_map begins_form (first_of (content_types before))
    → None ≡ option_map begins_form (first_of (content_types (before ++ (n, v) ∷ [])))
form_passed before n v is none =
    none ∙ sym (ap (λ l. option_map begins_form (first_of l)) (passed (codes "content-type") before n v is))

pub form_kept : (before : List Header) (n v : List ℕ) (form : Bool)
    → Some form ≡ option_map begins_form (first_of (content_types before))
    → Some form ≡ option_map begins_form (first_of (content_types (before ++ (n, v) ∷ [])))
form_kept before n v form is = by_test (eq_ignore_case n (codes "content-type")) refl
  where
    by_test : (named : Bool) → eq_ignore_case n (codes "content-type") ≡ named
        → Some form ≡ option_map begins_form (first_of (content_types (before ++ (n, v) ∷ [])))
    by_test true named =
        sym (ap (λ l. option_map begins_form (first_of l)) (pushed (codes "content-type") before n v named)
        ∙ form_again (content_types before) v form (sym is))
    by_test false named =
        is ∙ sym (ap (λ l. option_map begins_form (first_of l)) (passed (codes "content-type") before n v named))

known_close : (k : KnownFields) (fields : List Header) → k ≡ known_fields fields
    → k.close ≡ has_option (codes "close") (elements_named (codes "connection") fields)
unfolding known_fields
known_close k fields e = ap (λ (x : KnownFields). x.close) e

known_keep : (k : KnownFields) (fields : List Header) → k ≡ known_fields fields
    → k.keep_alive ≡ has_option (codes "keep-alive") (elements_named (codes "connection") fields)
unfolding known_fields
known_keep k fields e = ap (λ (x : KnownFields). x.keep_alive) e

-- the collected fields tell whether the connection closes
pub closes_as_asked : (collected : HeadFields) (fields : List Header) (minor : ℕ) → HoldsFields collected fields
    → (collected.known.close || ((minor == 0) && not collected.known.keep_alive)) ≡ asks_to_close minor fields
closes_as_asked collected fields minor is =
    ap (λ t. t || ((minor == 0) && not collected.known.keep_alive)) (known_close collected.known fields is.known)
    ∙ ap (λ t. has_option (codes "close") (elements_named (codes "connection") fields) || ((minor == 0) && not t))
    (known_keep collected.known fields is.known)
