-- One row: its fields, and that nothing is wrong with it.
use Rattle.std.proofs.Common.{◌≡◌, ℕ, ◌/◌, ◌%◌, ◌^◌, ◌<◌, ◌≤◌, ◌==◌, Bool, true, false, cond, List, [], ◌∷◌, ◌++◌}
use Rattle.std.proofs.Common.{length, codes, decimal, pos, None, refl, arith, length-append}
use Rattle.std.proofs.lemmas.Bool.{le-ltb}
use Rattle.std.proofs.lemmas.Fmt.{decimal_nonempty, length-decimal-le}
use Rattle.log_model.specs.Field.{Field, set_field, weight}
use Rattle.log_model.specs.Row.{Row}
use Rattle.vl_row.specs.Faults.{labels_of, row_fault, stored}
use Rattle.vl_trial.specs.Trial.{app_of, fields_of, level_of, message_of, millis_of, moment_of, row_of}

abbrev pub IsRowAt : ℕ → List Field → List Field → Row → Type 0
IsRowAt moment labels fields row = record { moment = moment; labels = labels; fields = fields } ≡ row

record IsShort (text : List ℕ) (most : ℕ) : Type 0 where
  pub some : 0 < length text
  pub few : length text ≤ most

first_level : (first second third : Bool)
    → IsShort (cond first (codes "debug") (cond second (codes "info") (cond third (codes "warn") (codes "error")))) 5
first_level true second third = record { some = omega arith; few = omega arith }
first_level false true third = record { some = omega arith; few = omega arith }
first_level false false true = record { some = omega arith; few = omega arith }
first_level false false false = record { some = omega arith; few = omega arith }

level_short : (draw : ℕ) → IsShort (level_of draw) 5
level_short draw = first_level (draw % 4 == 0) (draw % 4 == 1) (draw % 4 == 2)

first_app : (first second : Bool) → IsShort (cond first (codes "api") (cond second (codes "db") (codes "web"))) 3
first_app true second = record { some = omega arith; few = omega arith }
first_app false true = record { some = omega arith; few = omega arith }
first_app false false = record { some = omega arith; few = omega arith }

app_short : (draw : ℕ) → IsShort (app_of draw) 3
app_short draw = first_app (draw / 4 % 3 == 0) (draw / 4 % 3 == 1)

decimal_short : (n : ℕ) → n < 2 ^ 64 → IsShort (decimal n) 20
decimal_short n small = record {
  some = decimal_nonempty n small;
  few = length-decimal-le 20 n (omega arith) (omega arith) small;
}

-- the fields that are set one after another
abbrev pub four_fields : List ℕ → List ℕ → List ℕ → List ℕ → List Field
four_fields message app level millis =
    let first = set_field [] (codes "_msg") message in
    let second = set_field first (codes "app") app in
    let third = set_field second (codes "level") level in
    set_field third (codes "ms") millis

four_set : (message app level millis : List ℕ) → 0 < length message → 0 < length app → 0 < length level
    → 0 < length millis → four_fields message app level millis
    ≡ (codes "_msg", message) ∷ (codes "app", app) ∷ (codes "level", level) ∷ (codes "ms", millis) ∷ []
four_set [] app level millis m a l s = absurd (omega arith)
four_set (byte ∷ message) [] level millis m a l s = absurd (omega arith)
four_set (byte ∷ message) (b ∷ app) [] millis m a l s = absurd (omega arith)
four_set (byte ∷ message) (b ∷ app) (c ∷ level) [] m a l s = absurd (omega arith)
four_set (byte ∷ message) (b ∷ app) (c ∷ level) (d ∷ millis) m a l s = refl

pub fields_set : (number draw : ℕ)
    → four_fields (message_of number draw) (app_of draw) (level_of draw) (decimal (millis_of draw))
    ≡ fields_of number draw
unfolding fields_of
fields_set number draw =
    four_set (message_of number draw) (app_of draw) (level_of draw) (decimal (millis_of draw)) (omega arith)
    (app_short draw).some (level_short draw).some (decimal_short (millis_of draw) (omega arith)).some

pub stored_all : (number draw : ℕ) → stored (fields_of number draw) ≡ fields_of number draw
unfolding fields_of
stored_all number draw = refl

pub label_is_app : (number draw : ℕ)
    → labels_of (codes "app" ∷ []) (fields_of number draw) ≡ (codes "app", app_of draw) ∷ []
unfolding fields_of
label_is_app number draw = refl

pub weight_small : (number draw : ℕ) → number < 2 ^ 64 → weight (fields_of number draw) ≤ 100
unfolding fields_of
weight_small number draw small =
    let level = level_short draw in
    let app = app_short draw in
    let digits = decimal_short number small in
    let millis = decimal_short (millis_of draw) (omega arith) in
    let behind = codes " " ++ level_of draw in
    omega (arith, length-append (codes "request ") (decimal number ++ behind), length-append (decimal number) behind)

pub faultless : (time number draw : ℕ) → number < 2 ^ 64 → row_fault (pos time) (fields_of number draw) ≡ None
unfolding fields_of
faultless time number draw small =
    let light = weight_small number draw small in
    rw (le-ltb time 0 (omega arith), le-ltb 262_144 (weight (fields_of number draw)) (omega arith)) refl

pub row_drawn : (number draw : ℕ)
    → IsRowAt (moment_of number) (labels_of (codes "app" ∷ []) (fields_of number draw)) (stored (fields_of number draw))
    (row_of number draw)
unfolding row_of fields_of
row_drawn number draw = refl
