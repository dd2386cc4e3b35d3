-- The value of a field, and what is asked of it.
use Rattle.std.proofs.Common.{◌≡◌, ℕ, Bool, true, false, ◌||◌, List, cond, codes, refl}
use Rattle.std.proofs.Common.{not, None, Some}
use Rattle.std.specs.Prelude.{bytes_eq}
use Rattle.std.proofs.lemmas.Slice.Eq.{bytes_eq-Decides}
use Rattle.log_model.specs.Field.{field_value}
use Rattle.log_model.specs.Moment.{moment_text}
use Rattle.log_model.specs.Row.{Row, value_of}
use Rattle.log_model.specs.Stream.{label_text, stream_id}
use Rattle.lq_ast.specs.Holds.{is_met}
use Rattle.lq_ast.specs.Subject.{Subject}
use Rattle.lq_filter.specs.Computed.{computed_text, is_source}
use Rattle.lq_filter.specs.declared.computed.Computed.{Computed}
use Rattle.lq_filter.specs.declared.computed.Computed.TheVariants as by
use Rattle.lq_filter.specs.Value.{condition_on, value_holds}
use Rattle.lq_filter.specs.declared.value.ValueTest.{ValueTest}
use Rattle.lq_filter.specs.declared.value.ValueTest.TheVariants as test

last_of : (a b c : Bool) (t s i v : List ℕ) → not (a || (b || c)) ≡ true → v ≡ cond a t (cond b s (cond c i v))
last_of true b c t s i v e = let bad : ⊥ = cc in absurd bad
last_of false true c t s i v e = let bad : ⊥ = cc in absurd bad
last_of false false true t s i v e = let bad : ⊥ = cc in absurd bad
last_of false false false t s i v e = refl

-- the value of a field that is not computed is stored
pub stored_value : (row : Row) (name : List ℕ) → is_source None name ≡ true
    → field_value row.fields name ≡ value_of row name
stored_value row name e =
    last_of (bytes_eq name (codes "_time")) (bytes_eq name (codes "_stream")) (bytes_eq name (codes "_stream_id"))
    (moment_text row.moment) (label_text row.labels) (stream_id row.labels) (field_value row.fields name) e

named : (name wanted : List ℕ) → bytes_eq name wanted ≡ true → name ≡ wanted
named name wanted e = (bytes_eq-Decides name wanted).0 e

-- the value of one that is computed
pub computed_value : (row : Row) (name : List ℕ) (computed : Computed) → is_source (Some computed) name ≡ true
    → computed_text computed row ≡ value_of row name
computed_value row name by.Time e = rw (named name (codes "_time") e) refl
computed_value row name by.Stream e = rw (named name (codes "_stream") e) refl
computed_value row name by.StreamId e = rw (named name (codes "_stream_id") e) refl

-- what is asked of the value of a field is so where its condition is met
pub value_holds-is_met : (s : Subject) (name : List ℕ) (asked : ValueTest)
    → value_holds asked (s.value name) ≡ is_met (condition_on name asked) s
value_holds-is_met s name test.Filled = refl
value_holds-is_met s name test.Missing = refl
value_holds-is_met s name (test.Phrase text) = refl
value_holds-is_met s name (test.Prefix text) = refl
value_holds-is_met s name (test.Exact text) = refl
value_holds-is_met s name (test.ExactPrefix text) = refl
value_holds-is_met s name (test.OneOf texts) = refl
value_holds-is_met s name (test.Pattern text) = refl
value_holds-is_met s name (test.Folded text) = refl
value_holds-is_met s name (test.Sequence texts) = refl
value_holds-is_met s name (test.Length low high) = refl
value_holds-is_met s name (test.Between low high) = refl
value_holds-is_met s name (test.Number low high) = refl
