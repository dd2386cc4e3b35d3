-- A line that has no row is refused for one reason.
use Rattle.std.proofs.Common.{◌≡◌, ◌≢◌, inl, inr, ℕ, ℤ, ◌<◌, List, Some, refl, sym, ap, subst, ◌∙◌, arith}
use Rattle.std.proofs.Common.{◌++◌, ◌∷◌, append_assoc, length}
use Rattle.std.specs.Prelude.{IsUtf8, option_map}
use Rattle.log_model.specs.Field.{Field}
use Rattle.log_model.specs.ObjectLine.{IsObjectLine, IsTooDeep, OpensObject}
use Rattle.log_model.specs.Value.{Items, IsObjectText}
use Rattle.vl_row.specs.Faults.{row_fault}
use Rattle.vl_row.specs.declared.row.RowFault.{RowFault}
use Rattle.vl_row.specs.declared.row.RowFault.TheVariants as row
use Rattle.jsonline_in.specs.Faults.{SaysNothing}
use Rattle.ingest_row.specs.Ingest.{Options, Says, row_fields, time_text}
use Rattle.ingest_row.specs.Refusal.{IsFieldsFault, IsLineFault, IsRefused, IsRowFault, IsShort}
use Rattle.ingest_row.specs.declared.kind.LineKind.{LineKind}
use Rattle.ingest_row.specs.declared.kind.LineKind.TheVariants.{LineLong, NotUtf8, NotObject, TooDeep, NotJson}
use Rattle.ingest_row.specs.declared.kind.LineKind.TheVariants.{BadTime, NameLong, ManyFields, RowLarge, Empty}
use Rattle.ingest_row.specs.declared.kind.LineKind.TheVariants.{Memory}
use Rattle.ingest_row.proofs.OnlyRow.{one_fields, one_time}

-- ---- lines that say no fields

-- Each cause comes with what denies the causes before it.
data Cause (line : List ℕ) (kind : LineKind) : Type 0 where
  is_long : kind ≡ LineLong → 1_048_576 < length line → Cause line kind
  is_not_utf8 : kind ≡ NotUtf8 → IsShort line → (IsUtf8 line → ⊥) → Cause line kind
  is_not_object : kind ≡ NotObject → IsShort line → IsUtf8 line → (OpensObject line → ⊥) → Cause line kind
  is_too_deep : kind ≡ TooDeep → IsShort line → IsUtf8 line → OpensObject line → IsTooDeep line → Cause line kind
  is_not_json : kind ≡ NotJson → IsShort line → IsUtf8 line → OpensObject line → (IsTooDeep line → ⊥)
      → SaysNothing line → Cause line kind

cause_of : (line : List ℕ) (kind : LineKind) → kind ≢ Memory → IsLineFault kind line → Cause line kind
cause_of line LineLong other is = is_long refl is
cause_of line NotUtf8 other is = is_not_utf8 refl is.0 is.2.0
cause_of line NotObject other is = is_not_object refl is.0 is.1.0 is.1.1
cause_of line TooDeep other is = is_too_deep refl is.0 is.1.0 is.1.1 is.1.2
cause_of line NotJson other is = is_not_json refl is.0 is.3.0 is.3.1 is.3.2 is.1
cause_of line BadTime other is = absurd is
cause_of line NameLong other is = absurd is
cause_of line ManyFields other is = absurd is
cause_of line RowLarge other is = absurd is
cause_of line Empty other is = absurd is
cause_of line Memory other is = absurd (other refl)

long_and_short : (line : List ℕ) → 1_048_576 < length line → IsShort line → ⊥
long_and_short line long short = omega arith

one_cause : (line : List ℕ) (one other : LineKind) → Cause line one → Cause line other → one ≡ other
one_cause line one other (is_long e l) (is_long f m) = e ∙ sym f
one_cause line one other (is_long e l) (is_not_utf8 f s n) = absurd (long_and_short line l s)
one_cause line one other (is_long e l) (is_not_object f s u n) = absurd (long_and_short line l s)
one_cause line one other (is_long e l) (is_too_deep f s u o d) = absurd (long_and_short line l s)
one_cause line one other (is_long e l) (is_not_json f s u o n v) = absurd (long_and_short line l s)
one_cause line one other (is_not_utf8 e s n) (is_long f l) = absurd (long_and_short line l s)
one_cause line one other (is_not_utf8 e s n) (is_not_utf8 f t m) = e ∙ sym f
one_cause line one other (is_not_utf8 e s n) (is_not_object f t u m) = absurd (n u)
one_cause line one other (is_not_utf8 e s n) (is_too_deep f t u o d) = absurd (n u)
one_cause line one other (is_not_utf8 e s n) (is_not_json f t u o m v) = absurd (n u)
one_cause line one other (is_not_object e s u n) (is_long f l) = absurd (long_and_short line l s)
one_cause line one other (is_not_object e s u n) (is_not_utf8 f t m) = absurd (m u)
one_cause line one other (is_not_object e s u n) (is_not_object f t v m) = e ∙ sym f
one_cause line one other (is_not_object e s u n) (is_too_deep f t v o d) = absurd (n o)
one_cause line one other (is_not_object e s u n) (is_not_json f t v o m w) = absurd (n o)
one_cause line one other (is_too_deep e s u o d) (is_long f l) = absurd (long_and_short line l s)
one_cause line one other (is_too_deep e s u o d) (is_not_utf8 f t m) = absurd (m u)
one_cause line one other (is_too_deep e s u o d) (is_not_object f t v m) = absurd (m o)
one_cause line one other (is_too_deep e s u o d) (is_too_deep f t v p c) = e ∙ sym f
one_cause line one other (is_too_deep e s u o d) (is_not_json f t v p m w) = absurd (m d)
one_cause line one other (is_not_json e s u o n v) (is_long f l) = absurd (long_and_short line l s)
one_cause line one other (is_not_json e s u o n v) (is_not_utf8 f t m) = absurd (m u)
one_cause line one other (is_not_json e s u o n v) (is_not_object f t w m) = absurd (m o)
one_cause line one other (is_not_json e s u o n v) (is_too_deep f t w p d) = absurd (n d)
one_cause line one other (is_not_json e s u o n v) (is_not_json f t w p m x) = e ∙ sym f

opens_object : (text : List ℕ) (members : Items) → IsObjectText text members → OpensObject text
opens_object text members is =
    let p = is.spelled in (
      p.0,
      p.1 ++ is.behind,
      p.2,
      is.parts ∙ ap (λ (t : List ℕ). t ++ is.behind) p.3 ∙ append_assoc p.0 (123 ∷ p.1) is.behind,
    )

-- of an object that is not too deep no front has only deep ones after it
not_too_deep : (line : List ℕ) (fields : List Field) → IsObjectLine line fields → IsTooDeep line → ⊥
not_too_deep line fields is deep =
    let is_deep = deep.deep deep.rest is.members
    (subst (λ (t : List ℕ). IsObjectText t is.members) deep.parts is.is_object) in
    let is_shallow_too = is.shallow in
    absurd cc

-- a line that says fields has no such cause
no_cause : (line : List ℕ) (fields : List Field) (kind : LineKind) → Says line fields → Cause line kind → ⊥
no_cause line fields kind says (is_long e l) = long_and_short line l says.short
no_cause line fields kind says (is_not_utf8 e s n) = n says.is_object.utf8
no_cause line fields kind says (is_not_object e s u n) =
    n (opens_object line says.is_object.members says.is_object.is_object)
no_cause line fields kind says (is_too_deep e s u o d) = not_too_deep line says.members says.is_object d
no_cause line fields kind says (is_not_json e s u o n v) = v says.members says.is_object

-- ---- lines that say fields

abbrev kind_of_row : RowFault → LineKind
kind_of_row row.TimeRange = Memory
kind_of_row row.NameLong = NameLong
kind_of_row row.ManyFields = ManyFields
kind_of_row row.RowLarge = RowLarge
kind_of_row row.Empty = Empty
kind_of_row row.Memory = Memory

row_kind : (kind : LineKind) (time : ℤ) (made : List Field) → kind ≢ Memory → IsRowFault kind time made
    → option_map kind_of_row (row_fault time made) ≡ Some kind
row_kind NameLong time made other is = ap (option_map kind_of_row) is
row_kind ManyFields time made other is = ap (option_map kind_of_row) is
row_kind RowLarge time made other is = ap (option_map kind_of_row) is
row_kind Empty time made other is = ap (option_map kind_of_row) is
row_kind LineLong time made other is = absurd is
row_kind NotUtf8 time made other is = absurd is
row_kind NotObject time made other is = absurd is
row_kind TooDeep time made other is = absurd is
row_kind NotJson time made other is = absurd is
row_kind BadTime time made other is = absurd is
row_kind Memory time made other is = absurd (other refl)

some_only : {A : Type 0} (one other : A) → Some one ≡ Some other → one ≡ other
some_only one other same = cc

one_fields_fault : (o : Options) (now : ℤ) (fields : List Field) (one other : LineKind) → one ≢ Memory
    → other ≢ Memory → IsFieldsFault one o now fields → IsFieldsFault other o now fields → one ≡ other
one_fields_fault o now fields one other n m (inl bad) (inl bad_too) = bad.0 ∙ sym bad_too.0
one_fields_fault o now fields one other n m (inl bad) (inr faulty) = absurd (bad.1 faulty.time faulty.is_time)
one_fields_fault o now fields one other n m (inr faulty) (inl bad) = absurd (bad.1 faulty.time faulty.is_time)
one_fields_fault o now fields one other n m (inr faulty) (inr faulty_too) =
    let made = row_fields o fields in
    let same = one_time now (time_text o fields) faulty.time faulty_too.time faulty.is_time faulty_too.is_time in
    some_only one other
    (sym (row_kind one faulty.time made n faulty.at_fault)
    ∙ ap (λ (t : ℤ). option_map kind_of_row (row_fault t made)) same
    ∙ row_kind other faulty_too.time made m faulty_too.at_fault)

-- ---- any lines

pub one_kind : (o : Options) (now : ℤ) (line : List ℕ) (one other : LineKind) → one ≢ Memory → other ≢ Memory
    → IsRefused one o now line → IsRefused other o now line → one ≡ other
one_kind o now line one other n m (inl fault) (inl fault_too) =
    one_cause line one other (cause_of line one n fault) (cause_of line other m fault_too)
one_kind o now line one other n m (inl fault) (inr said) =
    absurd (no_cause line said.0 one said.1 (cause_of line one n fault))
one_kind o now line one other n m (inr said) (inl fault) =
    absurd (no_cause line said.0 other said.1 (cause_of line other m fault))
one_kind o now line one other n m (inr said) (inr said_too) =
    one_fields_fault o now said.0 one other n m said.2
    (subst (λ (f : List Field). IsFieldsFault other o now f) (one_fields line said_too.0 said.0 said_too.1 said.1)
    said_too.2)
