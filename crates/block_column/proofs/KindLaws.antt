-- Values in the first kind that fits.
use Rattle.std.proofs.Common.{◌≡◌, ℕ, zero, suc, ◌+◌, ◌<◌, ◌≤◌, ◌^◌, true, false, leb, ltb, List, [], ◌∷◌}
use Rattle.std.proofs.Common.{◌++◌, length, get_or, take, map, Option, Some, None, ℤ, pos, refl, sym, ap, subst, ◌∙◌}
use Rattle.std.proofs.Common.{arith}
use Rattle.std.specs.Prelude.{◌&&◌, not, bytes_eq, is_some, unwrap_or, replicate, sum_by}
use Rattle.std.specs.List.{list_all}
use Rattle.std.specs.Fmt.{signed_decimal}
use Rattle.std.specs.Int.{w32}
use Rattle.std.proofs.lemmas.Bool.{leb-true}
use Rattle.std.proofs.lemmas.List.{length-replicate, map_more, map-append}
use Rattle.std.proofs.lemmas.List.Folds.{list_all-map}
use Rattle.std.proofs.lemmas.List.Sums.{sum_by-cons}
use Rattle.std.proofs.lemmas.Slice.Eq.{bytes_eq-Decides}
use Rattle.byte_format.proofs.Cases.{both_true}
use Rattle.byte_format.specs.Written.{text_bytes}
use Rattle.col_codec.specs.Ints.{is_i64, int_spelling}
use Rattle.col_codec.specs.Ranges.{fits-is_i64, is_i64-fits}
use Rattle.log_model.specs.Field.{is_empty}
use Rattle.log_model.specs.Order.{number_of}
use Rattle.log_model.proofs.ValueOrder.{number_of-is, number_of-some}
use Rattle.block_column.specs.Kinds.{Kind, constant, integers, dictionary, plain, kind_of, is_constant, are_integers}
use Rattle.block_model.specs.Distinct.{code_of, codes_of, distinct, is_short, text_at}
use Rattle.block_column.specs.Kinds.{is_number, fits_dictionary, first_of, integer_of, integers_in}
use Rattle.block_column.specs.Kinds.{body_of, dictionary_bytes}
use Rattle.block_column.specs.Cells.{IsFirst, texts_of}
use Rattle.block_column.specs.declared.cells.Cells.TheVariants as cells
use Rattle.block_model.proofs.Distinct.{codes-stand, codes-stand-below, distinct-pass, itself}
use Rattle.block_model.proofs.Distinct.{one-text-fails, one-text-more}

all-same : (t : List ℕ) (ts : List (List ℕ)) → list_all (bytes_eq t) ts ≡ true → replicate (length ts) t ≡ ts
all-same t [] e = refl
all-same t (u ∷ ts) e =
    let p = both_true (bytes_eq t u) (list_all (bytes_eq t) ts) e in
    ap (λ (x : List ℕ). x ∷ replicate (length ts) t) ((bytes_eq-Decides t u).0 p.0)
    ∙ ap (λ (l : List (List ℕ)). u ∷ l) (all-same t ts p.1)

-- all are the first
pub constant-is : (ts : List (List ℕ)) → is_constant ts ≡ true → replicate (length ts) (first_of ts) ≡ ts
constant-is [] e = absurd cc
constant-is (t ∷ ts) e =
    let p = both_true (not (is_empty t)) (list_all (bytes_eq t) ts) e in
    ap (λ (l : List (List ℕ)). t ∷ l) (all-same t ts p.1)

pub first-small : (ts : List (List ℕ)) → length (first_of ts) ≤ sum_by length ts
first-small [] = omega arith
first-small (t ∷ ts) = omega (arith, sum_by-cons length t ts)

decimal-of : (t : List ℕ) (o : Option ℤ) → number_of t ≡ o → is_some o ≡ true
    → (signed_decimal (unwrap_or o (pos 0)) ≡ t) × (is_i64 (unwrap_or o (pos 0)) ≡ true)
decimal-of t None p q = absurd cc
decimal-of t (Some z) p q =
    let h = number_of-some t z p in
    (sym h.spelled, is_i64-fits z h.fits)

-- the decimal texts of the integers are the texts
pub integers-are : (ts : List (List ℕ)) → are_integers ts ≡ true
    → (map signed_decimal (integers_in ts) ≡ ts) × (list_all is_i64 (integers_in ts) ≡ true)
integers-are [] e = (refl, refl)
integers-are (t ∷ ts) e =
    let p = both_true (is_number t) (are_integers ts) e in
    let one = decimal-of t (number_of t) refl p.0 in
    let more = integers-are ts p.1 in (
      ap (λ (x : List ℕ). x ∷ map signed_decimal (integers_in ts)) one.0
          ∙ ap (λ (l : List (List ℕ)). t ∷ l) more.0,
      rw (one.1, more.1) refl,
    )

-- which kind it is
pub is-constant : (ts : List (List ℕ)) → is_constant ts ≡ true → kind_of ts ≡ constant
unfolding kind_of
is-constant ts e = rw e refl

pub is-integers : (ts : List (List ℕ)) → is_constant ts ≡ false → are_integers ts ≡ true → kind_of ts ≡ integers
unfolding kind_of
is-integers ts e f = rw (e, f) refl

pub is-dictionary : (ts : List (List ℕ)) → is_constant ts ≡ false → are_integers ts ≡ false
    → fits_dictionary ts ≡ true → kind_of ts ≡ dictionary
unfolding kind_of
is-dictionary ts e f g = rw (e, f, g) refl

pub is-plain : (ts : List (List ℕ)) → is_constant ts ≡ false → are_integers ts ≡ false
    → fits_dictionary ts ≡ false → kind_of ts ≡ plain
unfolding kind_of
is-plain ts e f g = rw (e, f, g) refl

-- ---- how each kind holds them

pub filled-constant : (ts : List (List ℕ)) → is_constant ts ≡ true → 0 < length ts
filled-constant [] e = absurd cc
filled-constant (t ∷ ts) e = omega arith

all-alike : (t : List ℕ) (n : ℕ) → list_all (bytes_eq t) (replicate n t) ≡ true
all-alike t zero = refl
all-alike t (suc n) = rw (itself t) (all-alike t n)

pub first-constant : (ts : List (List ℕ)) (t : List ℕ) (n : ℕ) → is_constant ts ≡ true → first_of ts ≡ t
    → n ≡ length ts → sum_by length ts < 2 ^ 32
    → (texts_of (cells.Constant t n) ≡ ts) × IsFirst (cells.Constant t n)
unfolding body_of
first-constant ts t n e f k small =
    let texts : replicate n t ≡ ts = ap (λ (m : ℕ). replicate m t) k ∙ ap (replicate (length ts)) (sym f)
    ∙ constant-is ts e in (
      texts,
      record {
        codes = tt;
        narrow = omega (arith, ap length f, first-small ts, small);
        each = omega (arith, k, filled-constant ts e);
        kind = sym (ap kind_of texts ∙ is-constant ts e);
        body = sym (ap (λ (l : List (List ℕ)). body_of (kind_of l) l) texts
            ∙ ap (λ (kind : Kind). body_of kind ts) (is-constant ts e) ∙ ap (text_bytes w32) f);
      },
    )

-- a text in each row
pub first-alike : (t : List ℕ) (n : ℕ) → 0 < n → is_empty t ≡ false → sum_by length (replicate n t) < 2 ^ 32
    → IsFirst (cells.Constant t n)
first-alike t zero some filled small = absurd (omega (arith, some))
first-alike t (suc n) some filled small =
    let alike : list_all (bytes_eq t) (replicate n t) ≡ true = all-alike t n in
    let one : is_constant (replicate (suc n) t) ≡ true = rw (filled, alike) refl in
    let rows : suc n ≡ length (replicate (suc n) t) = sym (length-replicate (suc n) t) in
    (first-constant (replicate (suc n) t) t (suc n) one refl rows small).1

pub first-integers : (ts : List (List ℕ)) (ints : List ℤ) → is_constant ts ≡ false → are_integers ts ≡ true
    → ints ≡ integers_in ts
    → (texts_of (cells.Integers ints) ≡ ts) × IsFirst (cells.Integers ints)
unfolding body_of
first-integers ts ints e f k =
    let texts : map signed_decimal ints ≡ ts = ap (map signed_decimal) k ∙ (integers-are ts f).0 in (
      texts,
      record {
        codes = ap (list_all is_i64) k ∙ (integers-are ts f).1;
        narrow = tt;
        each = tt;
        kind = sym (ap kind_of texts ∙ is-integers ts e f);
        body = sym (ap (λ (l : List (List ℕ)). body_of (kind_of l) l) texts
            ∙ ap (λ (kind : Kind). body_of kind ts) (is-integers ts e f) ∙ ap int_spelling (sym k));
      },
    )

pub first-plain : (ts : List (List ℕ)) → is_constant ts ≡ false → are_integers ts ≡ false
    → fits_dictionary ts ≡ false → IsFirst (cells.Plain ts)
unfolding body_of
first-plain ts e f g =
    record {
      codes = tt;
      narrow = tt;
      each = tt;
      kind = sym (is-plain ts e f g);
      body = sym (ap (λ (kind : Kind). body_of kind ts) (is-plain ts e f g));
    }

-- what a dictionary of the distinct texts is
pub record IsDictionary (ts held : List (List ℕ)) (codes : List ℕ) : Type 0 where
  pub texts : map (text_at held) codes ≡ ts
  pub below : list_all (λ code. ltb code (length held)) codes ≡ true
  pub few : length held ≤ 255
  pub short : list_all is_short held ≡ true
  pub each : held ≡ distinct (map (text_at held) codes)
  pub kind : dictionary ≡ kind_of (map (text_at held) codes)
  pub body : dictionary_bytes held codes ≡ body_of (kind_of (map (text_at held) codes)) (map (text_at held) codes)

dictionary-is : (ts : List (List ℕ)) → is_constant ts ≡ false → are_integers ts ≡ false
    → fits_dictionary ts ≡ true → IsDictionary ts (distinct ts) (codes_of ts)
unfolding body_of
dictionary-is ts e f g =
    let parts = both_true (leb (length (distinct ts)) 255) (list_all is_short ts) g in
    let texts = codes-stand ts in
    record {
      texts = texts;
      below = codes-stand-below ts;
      few = leb-true (length (distinct ts)) 255 parts.0;
      short = distinct-pass is_short ts parts.1;
      each = ap distinct (sym texts);
      kind = sym (ap kind_of texts ∙ is-dictionary ts e f g);
      body = sym (ap (λ (l : List (List ℕ)). body_of (kind_of l) l) texts
          ∙ ap (λ (kind : Kind). body_of kind ts) (is-dictionary ts e f g));
    }

pub first-dictionary : (ts held : List (List ℕ)) (codes : List ℕ) → is_constant ts ≡ false → are_integers ts ≡ false
    → fits_dictionary ts ≡ true → held ≡ distinct ts → codes ≡ map (code_of held) ts → IsDictionary ts held codes
first-dictionary ts held codes e f g h k =
    let same : codes_of ts ≡ codes = ap (λ (l : List (List ℕ)). map (code_of l) ts) (sym h) ∙ sym k in
    subst (λ (c : List ℕ). IsDictionary ts held c) same (subst (λ (l : List (List ℕ)). IsDictionary ts l (codes_of ts))
    (sym h) (dictionary-is ts e f g))

-- the decimal texts of integers of 64 bits
pub decimals-are : (ints : List ℤ) → list_all is_i64 ints ≡ true
    → (are_integers (map signed_decimal ints) ≡ true) × (ints ≡ integers_in (map signed_decimal ints))
decimals-are [] e = (refl, refl)
decimals-are (z ∷ zs) e =
    let parts = both_true (is_i64 z) (list_all is_i64 zs) e in
    let more = decimals-are zs parts.1 in
    let one : number_of (signed_decimal z) ≡ Some z = number_of-is (signed_decimal z) z (record {
      spelled = refl;
      fits = fits-is_i64 z parts.0;
    }) in
    let value : integer_of (signed_decimal z) ≡ z = ap (λ (o : Option ℤ). unwrap_or o (pos 0)) one in (
      rw (ap is_some one) more.0,
      ap (λ (x : ℤ). x ∷ zs) (sym value) ∙ ap (λ (l : List ℤ). integer_of (signed_decimal z) ∷ l) more.1,
    )

-- the test of a constant asks the first value too
pub constant-tested : {X : Type 0} (f : X → List ℕ) (xs : List X) (d : X) → f d ≡ []
    → is_constant (map f xs)
    ≡ (not (is_empty (f (get_or xs 0 d))) && list_all (λ x. bytes_eq (f (get_or xs 0 d)) (f x)) xs)
constant-tested f [] d none = rw none refl
constant-tested f (x ∷ xs) d none =
    rw (itself (f x)) (ap (λ b. not (is_empty (f x)) && b) (list_all-map (bytes_eq (f x)) f xs))

pub first-is : {X : Type 0} (f : X → List ℕ) (xs : List X) (d : X) → f d ≡ []
    → first_of (map f xs) ≡ f (get_or xs 0 d)
first-is f [] d none = sym none
first-is f (x ∷ xs) d none = refl

pub sizes : {X : Type 0} (f : X → List ℕ) (xs : List X) → sum_by length (map f xs) ≡ sum_by (λ x. length (f x)) xs
sizes f [] = refl
sizes f (x ∷ xs) =
    omega (arith, sizes f xs, sum_by-cons length (f x) (map f xs), sum_by-cons (λ y. length (f y)) x xs)

-- one integer more
pub integers-more : {X : Type 0} (f : X → List ℕ) (xs : List X) (i : ℕ) (d : X) (ints : List ℤ) (z : ℤ) → i < length xs
    → list_all is_number (map f (take i xs)) ≡ true → ints ≡ integers_in (map f (take i xs))
    → number_of (f (get_or xs i d)) ≡ Some z
    → (list_all is_number (map f (take (i + 1) xs)) ≡ true) × (ints ++ z ∷ [] ≡ integers_in (map f (take (i + 1) xs)))
integers-more f xs i d ints z lt all so_far one =
    let is : is_number (f (get_or xs i d)) ≡ true = ap is_some one in
    let value : integer_of (f (get_or xs i d)) ≡ z = ap (λ (o : Option ℤ). unwrap_or o (pos 0)) one in (
      one-text-more f is_number xs i d lt all is,
      ap (λ (l : List ℤ). l ++ z ∷ []) so_far
          ∙ ap (λ (y : ℤ). integers_in (map f (take i xs)) ++ y ∷ []) (sym value)
          ∙ sym (map-append integer_of (map f (take i xs)) (f (get_or xs i d) ∷ []))
          ∙ ap integers_in (sym (map_more f xs i d lt)),
    )

pub no-integer : {X : Type 0} (f : X → List ℕ) (xs : List X) (i : ℕ) (d : X) → i < length xs
    → number_of (f (get_or xs i d)) ≡ None → are_integers (map f xs) ≡ false
no-integer f xs i d lt none = one-text-fails f is_number xs i d lt (ap is_some none)
