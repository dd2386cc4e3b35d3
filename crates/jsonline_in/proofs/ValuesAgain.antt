-- What is spelled is read: values, where they nest no deeper than is read.
use Rattle.std.proofs.Common.{◌≡◌, ℕ, zero, suc, Bool, true, false, cond, eqb, ◌&&◌, ◌||◌, List, [], ◌∷◌, ◌++◌, Some}
use Rattle.std.proofs.Common.{None, Result, Ok, Err, refl, sym, ap, subst, ◌∙◌, append_assoc, arith}
use Rattle.std.specs.Prelude.{flat_map}
use Rattle.std.proofs.lemmas.Bool.{and_cases, or_cases, leb-true, eqb-true, false_from_ne_true}
use Rattle.log_model.specs.Json.{is_space, IsSpace}
use Rattle.log_model.specs.Token.{Character, are_characters, source, Scalar, string, number, literal, Literal, truth}
use Rattle.log_model.specs.Token.{falsehood, null, IsScalarToken, scalar_source}
use Rattle.log_model.specs.Value.{Kind, array, object, Label, unnamed, named, Value, scalar, nested, Items, nothing}
use Rattle.log_model.specs.Value.{item, suits, IsValue, AreItems, nests_within, all_within, opening, closing}
use Rattle.log_model.specs.Value.{label_tokens, tokens, series, IsSpelled}
use Rattle.jsonline_in.specs.Reading.{after_space, past, Fault, deep, Reader, ◌>>=◌, expect, bare_at, value_of_string}
use Rattle.jsonline_in.specs.Reading.{flat_at, value_at, name_at, item_at, put_item, others_at, first_at, items_at}
use Rattle.jsonline_in.specs.Reading.{nested_at}
use Rattle.jsonline_in.proofs.Steps.{space_again, space_ends}
use Rattle.jsonline_in.proofs.Good.{past_again}
use Rattle.jsonline_in.proofs.Decoding.{done}
use Rattle.jsonline_in.proofs.ValueSteps.{value_flat, flat_bare}
use Rattle.jsonline_in.proofs.Again.{past_other, characters_again, Calm, is_numeric, expects, begins_number}
use Rattle.jsonline_in.proofs.Again.{number_begins, not_number, number_bare, literal_bare}
use Rattle.jsonline_in.proofs.Loops.{some_items, no_items, other_read, end_read, one_by, put_prefix}

-- what reading gives of a value that nests no deeper than is read, and of another
abbrev pub fits : {A : Type 0} → Bool → A → List ℕ → Result (A × List ℕ) Fault
fits within x rest = cond within (Ok (x, rest)) (Err deep)

made_fits : {A B : Type 0} (made : A → B) (within : Bool) (x : A) (rest : List ℕ)
    → (fits within x rest >>= λ y. Ok (made y.0, y.1)) ≡ fits within (made x) rest
made_fits made true x rest = refl
made_fits made false x rest = refl

both_fit : {A B : Type 0} (f : A × List ℕ → Result (B × List ℕ) Fault) (a b : Bool) (x : A) (mid : List ℕ) (y : B)
    (rest : List ℕ) → f (x, mid) ≡ fits b y rest → (fits a x mid >>= f) ≡ fits (a && b) y rest
both_fit f true b x mid y rest e = e
both_fit f false b x mid y rest e = refl

-- ---- the first token

pub spelled_split : (a b : List (List ℕ)) (x : List ℕ) → IsSpelled (a ++ b) x → (y : List ℕ) × (z : List ℕ)
    × IsSpelled a y × IsSpelled b z × (x ≡ y ++ z)
spelled_split [] b x p = ([], x, refl, p, refl)
spelled_split (token ∷ a) b x p =
    let s = spelled_split a b p.1 p.4 in (
      p.0 ++ (token ++ s.0),
      s.1,
      (p.0, s.0, p.2, refl, s.2),
      s.3,
      p.3 ∙ ap (λ (t : List ℕ). p.0 ++ (token ++ t)) s.4 ∙ ap (λ (t : List ℕ). p.0 ++ t)
          (sym (append_assoc token s.0 s.1)) ∙ sym (append_assoc p.0 (token ++ s.0) s.1),
    )

module _ (byte : ℕ) (token : List ℕ) (more : List (List ℕ)) (x rest : List ℕ)
    (p : IsSpelled ((byte ∷ token) ∷ more) x) where
  pub here : is_space byte ≡ false → after_space (x ++ rest) ≡ byte ∷ (token ++ (p.1 ++ rest))
  here solid =
      ap (λ (t : List ℕ). after_space (t ++ rest)) p.3 ∙ ap after_space
      (append_assoc p.0 (byte ∷ (token ++ p.1)) rest) ∙ space_again p.0 ((byte ∷ (token ++ p.1)) ++ rest) p.2
      ∙ ap (λ (t : List ℕ). after_space (byte ∷ t)) (append_assoc token p.1 rest)
      ∙ space_ends byte (token ++ (p.1 ++ rest)) solid

  calm_token : is_numeric byte ≡ false → Calm (x ++ rest)
  calm_token calm = subst (λ (t : List ℕ). Calm (t ++ rest)) (sym p.3) (by_space p.0 p.2)
    where
      space_calm : (first : ℕ) → is_space first ≡ true → is_numeric first ≡ false
      space_calm first s = false_from_ne_true (is_numeric first)
          (λ (d : is_numeric first ≡ true). grind (arith, and_cases, or_cases, leb-true, eqb-true))

      first_of : (a b : Bool) → (a && b) ≡ true → a ≡ true
      first_of true b e = refl
      first_of false b e = absurd cc

      by_space : (space : List ℕ) → IsSpace space → Calm ((space ++ ((byte ∷ token) ++ p.1)) ++ rest)
      by_space [] s = calm
      by_space (first ∷ space) s = space_calm first (first_of (is_space first) _ s)

closing_solid : (kind : Kind) → (is_space (closing kind) ≡ false) × (is_numeric (closing kind) ≡ false)
closing_solid array = (refl, refl)
closing_solid object = (refl, refl)

opening_solid : (kind : Kind) → is_space (opening kind) ≡ false
opening_solid array = refl
opening_solid object = refl

calm_series : (kind : Kind) (items : Items) (x rest : List ℕ) → IsSpelled (series kind ((44 ∷ []) ∷ []) items) x
    → Calm (x ++ rest)
calm_series kind nothing x rest p = calm_token (closing kind) [] [] x rest p (closing_solid kind).1
calm_series kind (item label value more) x rest p = calm_token 44 []
    (label_tokens label ++ (tokens value ++ series kind ((44 ∷ []) ∷ []) more)) x rest p refl

-- ---- scalars

number_solid : (byte : ℕ) → begins_number byte ≡ true → is_space byte ≡ false
number_solid byte e = false_from_ne_true (is_space byte)
    (λ (s : is_space byte ≡ true). grind (arith, and_cases, or_cases, leb-true, eqb-true))

-- a token by itself, with white space before it
alone : (byte : ℕ) (token x rest : List ℕ) → IsSpelled ((byte ∷ token) ∷ []) x → is_space byte ≡ false
    → after_space (x ++ rest) ≡ byte ∷ (token ++ rest)
alone byte token x rest p solid = here byte token [] x rest p solid
    ∙ ap (λ (t : List ℕ). byte ∷ (token ++ (t ++ rest))) p.4

literal_here : (word : Literal) (x rest : List ℕ) → IsSpelled (scalar_source (literal word) ∷ []) x
    → after_space (x ++ rest) ≡ scalar_source (literal word) ++ rest
literal_here truth x rest p = alone 116 (114 ∷ 117 ∷ 101 ∷ []) x rest p refl
literal_here falsehood x rest p = alone 102 (97 ∷ 108 ∷ 115 ∷ 101 ∷ []) x rest p refl
literal_here null x rest p = alone 110 (117 ∷ 108 ∷ 108 ∷ []) x rest p refl

literal_free : (byte : ℕ) (word : Literal) (rest : List ℕ) → (eqb 116 byte || (eqb 102 byte || eqb 110 byte)) ≡ false
    → past byte (scalar_source (literal word) ++ rest) ≡ None
literal_free byte truth rest e = past_other byte 116 ((114 ∷ 117 ∷ 101 ∷ []) ++ rest) (first (eqb 116 byte) _ e)
  where
    first : (a b : Bool) → (a || b) ≡ false → a ≡ false
    first true b e = e
    first false b e = refl
literal_free byte falsehood rest e = past_other byte 102 ((97 ∷ 108 ∷ 115 ∷ 101 ∷ []) ++ rest)
    (second (eqb 116 byte) (eqb 102 byte) (eqb 110 byte) e)
  where
    second : (a b c : Bool) → (a || (b || c)) ≡ false → b ≡ false
    second true b c e = absurd cc
    second false true c e = e
    second false false c e = refl
literal_free byte null rest e = past_other byte 110 ((117 ∷ 108 ∷ 108 ∷ []) ++ rest)
    (third (eqb 116 byte) (eqb 102 byte) (eqb 110 byte) e)
  where
    third : (a b c : Bool) → (a || (b || c)) ≡ false → c ≡ false
    third true b c e = absurd cc
    third false true c e = absurd cc
    third false false c e = e

abbrev as_scalar : Result (Scalar × List ℕ) Fault → Result (Value × List ℕ) Fault
as_scalar r = r >>= λ x. Ok (scalar x.0, x.1)

module _ (inner : Kind → Reader Value) where
  bare_value : (text rest : List ℕ) (token : Scalar) → past 123 text ≡ None → past 34 text ≡ None
      → past 91 text ≡ None → bare_at text ≡ Ok (token, rest) → value_at inner text ≡ Ok (scalar token, rest)
  bare_value text rest token a b c e = value_flat inner text a ∙ flat_bare inner text b c ∙ ap as_scalar e

  scalar_again : (token : Scalar) (x rest : List ℕ) → IsScalarToken token → IsSpelled (scalar_source token ∷ []) x
      → Calm rest → value_at inner (after_space (x ++ rest)) ≡ Ok (scalar token, rest)
  unfolding value_at flat_at
  scalar_again (string name) x rest is p calm =
      ap (value_at inner) (alone 34 (flat_map source name ++ 34 ∷ []) x rest p refl)
      ∙ ap (λ (r : Result (List Character × List ℕ) Fault). r >>= λ y. Ok (value_of_string y.0, y.1))
      (characters_again name rest is)
  scalar_again (number token) x rest is p calm =
      let b = number_begins token is in
      let q : IsSpelled ((b.byte ∷ b.rest) ∷ []) x = subst (λ (t : List ℕ). IsSpelled (t ∷ []) x) b.spelled p in
      let start : after_space (x ++ rest) ≡ token ++ rest = alone b.byte b.rest x rest q (number_solid b.byte b.is)
      ∙ ap (λ (t : List ℕ). t ++ rest) (sym b.spelled) in
      ap (value_at inner) start ∙ bare_value (token ++ rest) rest (number token) (not_number 123 token rest b refl)
      (not_number 34 token rest b refl) (not_number 91 token rest b refl) (number_bare token rest is calm)
  scalar_again (literal word) x rest is p calm =
      ap (value_at inner) (literal_here word x rest p) ∙ bare_value (scalar_source (literal word) ++ rest) rest
      (literal word) (literal_free 123 word rest refl) (literal_free 34 word rest refl)
      (literal_free 91 word rest refl) (literal_bare word rest)

  value_opens : (kind : Kind) (rest : List ℕ) → value_at inner (opening kind ∷ rest) ≡ inner kind rest
  unfolding value_at flat_at
  value_opens array rest = refl
  value_opens object rest = refl

-- ---- items

abbrev as_item : Label → Result (Value × List ℕ) Fault → Result ((Label × Value) × List ℕ) Fault
as_item label r = r >>= λ value. Ok ((label, value.0), value.1)

module _ (n : ℕ) (value : Value) (within : Bool) (rest : List ℕ)
    (read : (y : List ℕ) → IsSpelled (tokens value) y → value_at (nested_at n) (after_space (y ++ rest)) ≡ fits within
    value rest) where
  named_again : (name : List Character) (x : List ℕ) → are_characters name ≡ true
      → IsSpelled (label_tokens (named name) ++ tokens value) x
      → item_at (nested_at n) object (after_space (x ++ rest)) ≡ fits within (named name, value) rest
  unfolding item_at name_at
  named_again name x are p =
      let quoted = flat_map source name ++ 34 ∷ [] in
      let q = p.4 in
      let start = here 34 quoted ((58 ∷ []) ∷ tokens value) x rest p refl in
      let colon = here 58 [] (tokens value) p.1 rest q refl in
      let a = expects 34 (quoted ++ (p.1 ++ rest)) in
      let b = characters_again name (p.1 ++ rest) are in
      let c : expect 58 (after_space (p.1 ++ rest)) ≡ done (q.1 ++ rest) = ap (expect 58) colon
      ∙ expects 58 (q.1 ++ rest) in
      let d = read q.1 q.4 in
      ap (item_at (nested_at n) object) start ∙ rw (a, b, c)
      (ap (as_item (named name)) d ∙ made_fits (λ v. (named name, v)) within value rest)

  pub item_again : (kind : Kind) (label : Label) (x : List ℕ) → suits kind label ≡ true
      → IsSpelled (label_tokens label ++ tokens value) x → item_at (nested_at n) kind (after_space (x ++ rest)) ≡ fits
      within (label, value) rest
  unfolding item_at
  item_again array unnamed x s p = ap (as_item unnamed) (read x p) ∙ made_fits (λ v. (unnamed, v)) within value rest
  item_again array (named name) x s p = absurd cc
  item_again object unnamed x s p = absurd cc
  item_again object (named name) x s p = named_again name x s p

-- no item begins as its bracket closes
value_begins : (value : Value) (more : List (List ℕ)) (x rest : List ℕ) → IsValue value
    → IsSpelled (tokens value ++ more) x → past 93 (after_space (x ++ rest)) ≡ None
value_begins (scalar (string name)) more x rest is p = ap (past 93)
    (here 34 (flat_map source name ++ 34 ∷ []) more x rest p refl)
value_begins (scalar (number token)) more x rest is p =
    let b = number_begins token is in
    let q : IsSpelled ((b.byte ∷ b.rest) ∷ more) x = subst (λ (t : List ℕ). IsSpelled (t ∷ more) x) b.spelled p in
    ap (past 93) (here b.byte b.rest more x rest q (number_solid b.byte b.is))
    ∙ not_number 93 (b.byte ∷ []) (b.rest ++ (q.1 ++ rest))
    (record { byte = b.byte; rest = []; is = b.is; spelled = refl }) refl
value_begins (scalar (literal truth)) more x rest is p = ap (past 93)
    (here 116 (114 ∷ 117 ∷ 101 ∷ []) more x rest p refl)
value_begins (scalar (literal falsehood)) more x rest is p = ap (past 93)
    (here 102 (97 ∷ 108 ∷ 115 ∷ 101 ∷ []) more x rest p refl)
value_begins (scalar (literal null)) more x rest is p = ap (past 93)
    (here 110 (117 ∷ 108 ∷ 108 ∷ []) more x rest p refl)
value_begins (nested array items) more x rest is p = ap (past 93)
    (here 91 [] (series array [] items ++ more) x rest p refl)
value_begins (nested object items) more x rest is p = ap (past 93)
    (here 123 [] (series object [] items ++ more) x rest p refl)

item_begins : (kind : Kind) (label : Label) (value : Value) (more : List (List ℕ)) (x rest : List ℕ)
    → suits kind label ≡ true → IsValue value → IsSpelled (label_tokens label ++ (tokens value ++ more)) x
    → past (closing kind) (after_space (x ++ rest)) ≡ None
item_begins array unnamed value more x rest s is p = value_begins value more x rest is p
item_begins array (named name) value more x rest s is p = absurd cc
item_begins object unnamed value more x rest s is p = absurd cc
item_begins object (named name) value more x rest s is p = ap (past 125)
    (here 34 (flat_map source name ++ 34 ∷ []) ((58 ∷ []) ∷ (tokens value ++ more)) x rest p refl)

module _ (n : ℕ) (kind : Kind) (label : Label) (value : Value) (more : Items) (rest : List ℕ)
    (s : suits kind label ≡ true) (is : IsValue value)
    (read : (y after : List ℕ) → IsSpelled (tokens value) y → Calm after
    → value_at (nested_at n) (after_space (y ++ after)) ≡ fits (nests_within n value) value after)
    (others : (y : List ℕ) → IsSpelled (series kind ((44 ∷ []) ∷ []) more) y
    → others_at (nested_at n) kind (y ++ rest) ≡ fits (all_within n more) more rest) where
  abbrev tail : List (List ℕ)
  tail = series kind ((44 ∷ []) ∷ []) more

  -- the item at the start, and where the others begin
  prefix_item : (x : List ℕ) → IsSpelled (label_tokens label ++ (tokens value ++ tail)) x
      → (z : List ℕ) × IsSpelled tail z × (item_at (nested_at n) kind (after_space (x ++ rest)) ≡ fits
      (nests_within n value) (label, value) (z ++ rest))
  prefix_item x p =
      let q : IsSpelled ((label_tokens label ++ tokens value) ++ tail) x = subst
      (λ (ts : List (List ℕ)). IsSpelled ts x) (sym (append_assoc (label_tokens label) (tokens value) tail)) p in
      let parts = spelled_split (label_tokens label ++ tokens value) tail x q in
      let calm = calm_series kind more parts.1 rest parts.3 in (
        parts.1,
        parts.3,
        ap (λ (t : List ℕ). item_at (nested_at n) kind (after_space t))
            (ap (λ (t : List ℕ). t ++ rest) parts.4 ∙ append_assoc parts.0 parts.1 rest)
            ∙ item_again n value (nests_within n value) (parts.1 ++ rest) (λ y p. read y (parts.1 ++ rest) p calm)
            kind label parts.0 s parts.2,
      )

  pub first_again : (x : List ℕ) → IsSpelled (series kind [] (item label value more)) x
      → items_at (nested_at n) kind (x ++ rest) ≡ fits (nests_within n value && all_within n more)
      (item label value more) rest
  unfolding first_at
  first_again x p =
      let f = prefix_item x p in
      some_items n kind (x ++ rest) (after_space (x ++ rest)) refl (item_begins kind label value tail x rest s is p)
      ∙ ap (λ (r : Result ((Label × Value) × List ℕ) Fault). r >>= λ y. others_at (nested_at n) kind y.1 >>= λ more.
      Ok (put_item y.0 more.0, more.1)) f.2
      ∙ both_fit (λ y. others_at (nested_at n) kind y.1 >>= λ more. Ok (put_item y.0 more.0, more.1))
      (nests_within n value) (all_within n more) (label, value) (f.0 ++ rest) (item label value more) rest
      (ap (λ (r : Result (Items × List ℕ) Fault). r >>= λ more. Ok (put_item (label, value) more.0, more.1))
      (others f.0 f.1) ∙ made_fits (put_item (label, value)) (all_within n more) more rest)

  pub other_again : (x : List ℕ) → IsSpelled (series kind ((44 ∷ []) ∷ []) (item label value more)) x
      → others_at (nested_at n) kind (x ++ rest) ≡ fits (nests_within n value && all_within n more)
      (item label value more) rest
  other_again x p =
      let start = here 44 [] (label_tokens label ++ (tokens value ++ tail)) x rest p refl in
      let f = prefix_item p.1 p.4 in
      other_read n kind (x ++ rest) (after_space (x ++ rest)) (p.1 ++ rest) refl
      (ap (past 44) start ∙ past_again 44 (p.1 ++ rest)) ∙ ap (one_by n kind) f.2
      ∙ both_fit (λ y. others_at (nested_at n) kind y.1 >>= put_prefix (y.0 ∷ [])) (nests_within n value)
      (all_within n more) (label, value) (f.0 ++ rest) (item label value more) rest
      (ap (λ (r : Result (Items × List ℕ) Fault). r >>= put_prefix ((label, value) ∷ [])) (others f.0 f.1)
      ∙ made_fits (put_item (label, value)) (all_within n more) more rest)

-- ---- values, and the items after the first

abbrev as_nested : Kind → Result (Items × List ℕ) Fault → Result (Value × List ℕ) Fault
as_nested kind r = r >>= λ x. Ok (nested kind x.0, x.1)

module _ (kind : Kind) (items : Items) (x rest : List ℕ) (p : IsSpelled (tokens (nested kind items)) x) where
  -- after the opening bracket
  pub nested_again : (n : ℕ) → ((m : ℕ) → items_at (nested_at m) kind (p.1 ++ rest) ≡ fits (all_within m items) items
      rest) → value_at (nested_at n) (after_space (x ++ rest)) ≡ fits (nests_within n (nested kind items))
      (nested kind items) rest
  unfolding nested_at
  nested_again n inside = ap (value_at (nested_at n)) (here (opening kind) [] (series kind [] items) x rest p
      (opening_solid kind)) ∙ value_opens (nested_at n) kind (p.1 ++ rest) ∙ by_depth n
    where
      by_depth : (n : ℕ) → nested_at n kind (p.1 ++ rest) ≡ fits (nests_within n (nested kind items))
          (nested kind items) rest
      by_depth zero = refl
      by_depth (suc m) = ap (as_nested kind) (inside m) ∙ made_fits (nested kind) (all_within m items) items rest

pub empty_again : (m : ℕ) (kind : Kind) (x rest : List ℕ) → IsSpelled (series kind [] nothing) x
    → items_at (nested_at m) kind (x ++ rest) ≡ Ok (nothing, rest)
empty_again m kind x rest p =
    let start = alone (closing kind) [] x rest p (closing_solid kind).0 in
    no_items m kind (x ++ rest) (after_space (x ++ rest)) refl rest
    (ap (past (closing kind)) start ∙ past_again (closing kind) rest)

closed_again : (n : ℕ) (kind : Kind) (x rest : List ℕ) → IsSpelled ((closing kind ∷ []) ∷ []) x
    → others_at (nested_at n) kind (x ++ rest) ≡ Ok (nothing, rest)
closed_again n kind x rest p =
    let start = alone (closing kind) [] x rest p (closing_solid kind).0 in
    end_read n kind (x ++ rest) (closing kind ∷ rest) (sym start) (no_comma kind) (Some rest)
    (past_again (closing kind) rest)
  where
    no_comma : (kind : Kind) → past 44 (closing kind ∷ rest) ≡ None
    no_comma array = refl
    no_comma object = refl

mutual
  pub value_again : (value : Value) (n : ℕ) (x rest : List ℕ) → IsValue value → IsSpelled (tokens value) x → Calm rest
      → value_at (nested_at n) (after_space (x ++ rest)) ≡ fits (nests_within n value) value rest
  value_again (scalar token) n x rest is p calm = scalar_again (nested_at n) token x rest is p calm
  value_again (nested kind nothing) n x rest is p calm = nested_again kind nothing x rest p n
      (λ m. empty_again m kind p.1 rest p.4)
  value_again (nested kind (item label value more)) n x rest is p calm =
      nested_again kind (item label value more) x rest p n
      (λ m. first_again m kind label value more rest is.0 is.1 (λ y after q c. value_again value m y after is.1 q c)
      (λ y q. others_again more m kind y rest is.2 q) p.1 p.4)

  pub others_again : (items : Items) (n : ℕ) (kind : Kind) (x rest : List ℕ) → AreItems kind items
      → IsSpelled (series kind ((44 ∷ []) ∷ []) items) x → others_at (nested_at n) kind (x ++ rest) ≡ fits
      (all_within n items) items rest
  others_again nothing n kind x rest are p = closed_again n kind x rest p
  others_again (item label value more) n kind x rest are p =
      other_again n kind label value more rest are.0 are.1 (λ y after q c. value_again value n y after are.1 q c)
      (λ y q. others_again more n kind y rest are.2 q) x p
