-- Reading a value or an item step by step.
use Rattle.std.proofs.Common.{◌≡◌, ℕ, zero, suc, ◌-◌, List, [], ◌∷◌, ◌++◌, Option, Some, None, Result, Ok, Err, refl}
use Rattle.std.proofs.Common.{sym, ap, subst, ◌∙◌, append_assoc, arith}
use Rattle.std.proofs.lemmas.List.{append-nil}
use Rattle.log_model.specs.Token.{Character, string, Scalar}
use Rattle.log_model.specs.Value.{Kind, array, object, opening, closing, Label, Value, scalar, nested, Items, tokens}
use Rattle.log_model.specs.Value.{series, label_tokens}
use Rattle.jsonline_in.specs.declared.scan_fault.ScanFault.{ScanFault}
use Rattle.jsonline_in.specs.Reading.{past, Fault, deep, Reader, ◌>>=◌, chosen_by, made_by, bare_at, characters_at}
use Rattle.jsonline_in.specs.Reading.{value_of_string, flat_at, value_at, label_at, item_at, items_at, nested_at}
use Rattle.jsonline_in.specs.Clauses.{ReadsAs, mapped, compact}

pub gives_same : {X Y : Type 0} (view : X → Y) (r : Result X ScanFault) (a b : Result Y Fault) → a ≡ b
    → ReadsAs view r b → ReadsAs view r a
gives_same view r a b e g = subst (ReadsAs view r) (sym e) g

pub mapped_same : {A B : Type 0} (f g : A → B) → ((x : A) → f x ≡ g x) → (r : Result (A × List ℕ) Fault)
    → mapped f r ≡ mapped g r
mapped_same f g same (Ok x) = ap (λ y. Ok (y, x.1)) (same x.0)
mapped_same f g same (Err fault) = refl

-- ---- values

module _ (inner : Kind → Reader Value) (text : List ℕ) where
  pub value_curly : (inside : List ℕ) → past 123 text ≡ Some inside → value_at inner text ≡ inner object inside
  unfolding value_at
  value_curly inside e = ap (chosen_by (inner object) (flat_at inner) text) e

  pub value_flat : past 123 text ≡ None → value_at inner text ≡ flat_at inner text
  unfolding value_at
  value_flat e = ap (chosen_by (inner object) (flat_at inner) text) e

  abbrev by_square : Option (List ℕ) → Result (Value × List ℕ) Fault
  by_square o = chosen_by (inner array) (made_by scalar bare_at) text o

  abbrev by_quote : Option (List ℕ) → Result (Value × List ℕ) Fault
  by_quote o = chosen_by (made_by value_of_string characters_at)
      (λ bytes. chosen_by (inner array) (made_by scalar bare_at) bytes (past 91 bytes)) text o

  pub flat_quote : (inside : List ℕ) → past 34 text ≡ Some inside
      → flat_at inner text ≡ made_by value_of_string characters_at inside
  unfolding flat_at
  flat_quote inside e = ap by_quote e

  pub flat_square : (inside : List ℕ) → past 34 text ≡ None → past 91 text ≡ Some inside
      → flat_at inner text ≡ inner array inside
  unfolding flat_at
  flat_square inside e f = ap by_quote e ∙ ap by_square f

  pub flat_bare : past 34 text ≡ None → past 91 text ≡ None → flat_at inner text ≡ made_by scalar bare_at text
  unfolding flat_at
  flat_bare e f = ap by_quote e ∙ ap by_square f

  module _ {X : Type 0} (whole : Value → X) where
    twice : {A : Type 0} (made : A → Value) (r : Result (A × List ℕ) Fault)
        → mapped whole (r >>= λ x. Ok (made x.0, x.1)) ≡ mapped (λ x. whole (made x)) r
    twice made (Ok x) = refl
    twice made (Err fault) = refl

    pub quoted_mapped : (inside : List ℕ) (f : List Character → X) → past 34 text ≡ Some inside
        → ((characters : List Character) → whole (scalar (string characters)) ≡ f characters)
        → mapped whole (flat_at inner text) ≡ mapped f (characters_at inside)
    quoted_mapped inside f e same =
        ap (mapped whole) (flat_quote inside e) ∙ twice value_of_string (characters_at inside)
        ∙ mapped_same (λ characters. whole (scalar (string characters))) f same (characters_at inside)

    pub bare_mapped : (f : Scalar → X) → past 34 text ≡ None → past 91 text ≡ None
        → ((token : Scalar) → whole (scalar token) ≡ f token)
        → mapped whole (flat_at inner text) ≡ mapped f (bare_at text)
    bare_mapped f e g same =
        ap (mapped whole) (flat_bare e g) ∙ twice scalar (bare_at text)
        ∙ mapped_same (λ token. whole (scalar token)) f same (bare_at text)

-- a value of one token, copied
pub token_copied : (old token : List ℕ) → old ++ compact (token ∷ []) ≡ old ++ token
token_copied old token = ap (λ (t : List ℕ). old ++ t) (append-nil token)

-- ---- nested values

pub nested_deep : (depth : ℕ) (kind : Kind) (text : List ℕ) → depth ≡ 0 → nested_at depth kind text ≡ Err deep
unfolding nested_at
nested_deep zero kind text e = refl
nested_deep (suc depth) kind text e = absurd (omega arith)

pub nested_mapped : {X : Type 0} (depth : ℕ) (kind : Kind) (text : List ℕ) (whole : Value → X) (f : Items → X)
    → (depth ≡ 0 → ⊥) → ((items : Items) → whole (nested kind items) ≡ f items)
    → mapped whole (nested_at depth kind text) ≡ mapped f (items_at (nested_at (depth - 1)) kind text)
unfolding nested_at
nested_mapped zero kind text whole f some same = absurd (some refl)
nested_mapped (suc depth) kind text whole f some same =
    let less : depth ≡ suc depth - 1 = omega arith in
    twice (items_at (nested_at depth) kind text) ∙ mapped_same (λ items. whole (nested kind items)) f same
    (items_at (nested_at depth) kind text)
    ∙ ap (λ (d : ℕ). mapped f (items_at (nested_at d) kind text)) less
  where
    twice : (r : Result (Items × List ℕ) Fault) → mapped whole (r >>= λ x. Ok (nested kind x.0, x.1)) ≡ mapped
        (λ items. whole (nested kind items)) r
    twice (Ok x) = refl
    twice (Err fault) = refl

-- ---- items

module _ (inner : Kind → Reader Value) (kind : Kind) (text : List ℕ) where
  pub no_label : (fault : Fault) → label_at kind text ≡ Err fault → item_at inner kind text ≡ Err fault
  unfolding item_at
  no_label fault e = rw e refl

  pub item_mapped : {X : Type 0} (label : Label) (rest : List ℕ) (whole : Label × Value → X) (f : Value → X)
      → label_at kind text ≡ Ok (label, rest) → ((value : Value) → whole (label, value) ≡ f value)
      → mapped whole (item_at inner kind text) ≡ mapped f (value_at inner rest)
  unfolding item_at
  item_mapped {X} label rest whole f e same =
      ap (λ (r : Result (Label × List ℕ) Fault). mapped whole
      (r >>= λ label. value_at inner label.1 >>= λ value. Ok ((label.0, value.0), value.1))) e
      ∙ twice (value_at inner rest) ∙ mapped_same (λ value. whole (label, value)) f same (value_at inner rest)
    where
      twice : (r : Result (Value × List ℕ) Fault) → mapped whole (r >>= λ value. Ok ((label, value.0), value.1)) ≡
          mapped (λ value. whole (label, value)) r
      twice (Ok x) = refl
      twice (Err fault) = refl

-- ---- copies

pub compact_join : (a b : List (List ℕ)) → compact (a ++ b) ≡ compact a ++ compact b
compact_join [] b = refl
compact_join (token ∷ a) b = ap (λ (t : List ℕ). token ++ t) (compact_join a b)
    ∙ sym (append_assoc token (compact a) (compact b))

pub bracket_copied : (old now pushed : List ℕ) (kind : Kind) (items : Items) → now ≡ old ++ pushed
    → pushed ≡ opening kind ∷ [] → old ++ compact (tokens (nested kind items)) ≡ now ++ compact (series kind [] items)
bracket_copied old now pushed kind items e f =
    sym (append_assoc old (opening kind ∷ []) (compact (series kind [] items)))
    ∙ ap (λ (t : List ℕ). t ++ compact (series kind [] items)) (sym (e ∙ ap (λ (t : List ℕ). old ++ t) f))

-- the closing bracket after what was copied
pub closing_copied : (old now pushed : List ℕ) (kind : Kind) → now ≡ old ++ pushed → pushed ≡ closing kind ∷ []
    → now ≡ old ++ closing kind ∷ []
closing_copied old now pushed kind e f = e ∙ ap (λ (t : List ℕ). old ++ t) f

pub label_and_value : (old now label : List ℕ) (value : Value) → now ≡ old ++ label → old
    ++ (label ++ compact (tokens value)) ≡ now ++ compact (tokens value)
label_and_value old now label value e = sym (append_assoc old label (compact (tokens value)))
    ∙ ap (λ (t : List ℕ). t ++ compact (tokens value)) (sym e)

-- the items after one that was copied
pub item_copied : (old now : List ℕ) (kind : Kind) (x : Label × Value) (more : Items) → now ≡ old
    ++ (compact (label_tokens x.0) ++ compact (tokens x.1))
    → old ++ compact (label_tokens x.0 ++ (tokens x.1 ++ series kind ((44 ∷ []) ∷ []) more)) ≡ now
    ++ compact (series kind ((44 ∷ []) ∷ []) more)
item_copied old now kind x more e =
    let rest = compact (series kind ((44 ∷ []) ∷ []) more) in
    ap (λ (t : List ℕ). old ++ t) (compact_join (label_tokens x.0) (tokens x.1 ++ series kind ((44 ∷ []) ∷ []) more)
    ∙ ap (λ (t : List ℕ). compact (label_tokens x.0) ++ t)
    (compact_join (tokens x.1) (series kind ((44 ∷ []) ∷ []) more))
    ∙ sym (append_assoc (compact (label_tokens x.0)) (compact (tokens x.1)) rest))
    ∙ sym (append_assoc old (compact (label_tokens x.0) ++ compact (tokens x.1)) rest)
    ∙ ap (λ (t : List ℕ). t ++ rest) (sym e)

pub comma_copied : (old mid now : List ℕ) (kind : Kind) (x : Label × Value) (more : Items) → mid ≡ old ++ 44 ∷ []
    → now ≡ mid ++ (compact (label_tokens x.0) ++ compact (tokens x.1))
    → old ++ compact ((44 ∷ []) ∷ (label_tokens x.0 ++ (tokens x.1 ++ series kind ((44 ∷ []) ∷ []) more))) ≡ now
    ++ compact (series kind ((44 ∷ []) ∷ []) more)
comma_copied old mid now kind x more e f =
    let tail = compact (label_tokens x.0 ++ (tokens x.1 ++ series kind ((44 ∷ []) ∷ []) more)) in
    sym (append_assoc old (44 ∷ []) tail) ∙ ap (λ (t : List ℕ). t ++ tail) (sym e) ∙ item_copied mid now kind x more f
