-- The row of fields that say a moment, and why there is none.
use Rattle.std.proofs.Common.{◌≡◌, ◌≢◌, inr, ℕ, ℤ, List, Option, Some, None, Result, Ok, Err, IfOk, IfErr, ap, ◌∙◌}
use Rattle.std.proofs.Common.{sym, subst, refl}
use Rattle.std.specs.Result.{IsErrAnd}
use Rattle.log_model.specs.Field.{Field}
use Rattle.log_model.specs.Row.{Row}
use Rattle.vl_row.specs.Faults.{row_fault}
use Rattle.ingest_row.specs.Ingest.{Options, IsRowOf, IsTimeOf, time_text, row_at, row_fields}
use Rattle.ingest_row.specs.Refusal.{IsFieldsFault, IsRowFault}
use Rattle.ingest_row.specs.declared.kind.LineKind.{LineKind}
use Rattle.ingest_row.specs.declared.kind.LineKind.TheVariants.{LineLong, NotUtf8, NotObject, TooDeep, NotJson}
use Rattle.ingest_row.specs.declared.kind.LineKind.TheVariants.{BadTime, NameLong, ManyFields, RowLarge, Empty}
use Rattle.ingest_row.specs.declared.kind.LineKind.TheVariants.{Memory}

-- The fields say this moment and no other, and the row is to be made of these.
pub record SaysMoment (options : Options) (now : ℤ) (fields : List Field) (time : ℤ) (others : List Field) : Type 0
  where
    pub is_time : IsTimeOf now (time_text options fields) time
    pub only : (other : ℤ) → IsTimeOf now (time_text options fields) other → other ≡ time
    pub made : others ≡ row_fields options fields

-- what the text of the moment says, at the moment `at` that is `now`
pub says_it : (o : Options) (now at : ℤ) (fields : List Field) (text : List ℕ) (time : ℤ) (made : List Field)
    → at ≡ now → text ≡ time_text o fields → made ≡ row_fields o fields
    → IsTimeOf at text time → ((other : ℤ) → IsTimeOf at text other → other ≡ time) → SaysMoment o now fields time made
says_it o now at fields text time made now_is text_is made_is is only = record {
  is_time = subst (λ n. IsTimeOf n (time_text o fields) time) now_is (subst (λ t. IsTimeOf at t time) text_is is);
  only = λ other other_is.
      only other (subst (λ t. IsTimeOf at t other) (sym text_is)
      (subst (λ n. IsTimeOf n (time_text o fields) other) (sym now_is) other_is));
  made = made_is;
}

pub is_row : (o : Options) (now : ℤ) (fields : List Field) (time : ℤ) (made : List Field) (result : Result Row LineKind)
    → SaysMoment o now fields time made → IfOk result (λ row. row_fault time made ≡ None)
    → IfOk result (λ row. row ≡ row_at o.stream_fields time made) → IfOk result (IsRowOf o now fields)
is_row o now fields time made (Ok row) says faultless row_is = record {
  time = time;
  is_time = says.is_time;
  faultless = subst (λ f. row_fault time f ≡ None) says.made faultless;
  is_row = subst (λ f. row ≡ row_at o.stream_fields time f) says.made row_is;
}
is_row o now fields time made (Err kind) says faultless row_is = tt

pub only_row : (o : Options) (now : ℤ) (fields : List Field) (time : ℤ) (made : List Field)
    (result : Result Row LineKind)
    → SaysMoment o now fields time made → IfOk result (λ row. row ≡ row_at o.stream_fields time made)
    → IfOk result (λ row. (other : Row) → IsRowOf o now fields other → other ≡ row)
only_row o now fields time made (Ok row) says row_is = λ other is.
    is.is_row
    ∙ ap (λ t. row_at o.stream_fields t (row_fields o fields)) (says.only is.time is.is_time)
    ∙ ap (row_at o.stream_fields time) (sym says.made)
    ∙ sym row_is
only_row o now fields time made (Err kind) says row_is = tt

some_not_none : {A : Type 0} (fault : A) (found : Option A) → found ≡ Some fault → found ≢ None
some_not_none fault found is none = cc

-- each fault but out of memory is one of the row
pub faulty : (kind : LineKind) (time : ℤ) (made : List Field) → kind ≢ Memory → IsRowFault kind time made
    → row_fault time made ≢ None
faulty NameLong time made other is = some_not_none _ _ is
faulty ManyFields time made other is = some_not_none _ _ is
faulty RowLarge time made other is = some_not_none _ _ is
faulty Empty time made other is = some_not_none _ _ is
faulty Memory time made other is = absurd (other refl)
faulty LineLong time made other is = absurd is
faulty NotUtf8 time made other is = absurd is
faulty NotObject time made other is = absurd is
faulty TooDeep time made other is = absurd is
faulty NotJson time made other is = absurd is
faulty BadTime time made other is = absurd is

pub no_row : (o : Options) (now : ℤ) (fields : List Field) (time : ℤ) (made : List Field) (result : Result Row LineKind)
    → SaysMoment o now fields time made → IfErr result (λ kind. IsRowFault kind time made)
    → IfErr result (λ kind. kind ≢ Memory → (row : Row) → IsRowOf o now fields row → ⊥)
no_row o now fields time made (Ok row) says fault = tt
no_row o now fields time made (Err kind) says fault = λ other row is.
    faulty kind time made other fault
    (ap (row_fault time) says.made ∙ ap (λ t. row_fault t (row_fields o fields)) (sym (says.only is.time is.is_time))
    ∙ is.faultless)

pub has_fault : (o : Options) (now : ℤ) (fields : List Field) (time : ℤ) (made : List Field)
    (result : Result Row LineKind)
    → SaysMoment o now fields time made → IfErr result (λ kind. IsRowFault kind time made)
    → IfErr result (λ kind. IsFieldsFault kind o now fields)
has_fault o now fields time made (Ok row) says fault = tt
has_fault o now fields time made (Err kind) says fault = inr (record {
  time = time;
  is_time = says.is_time;
  at_fault = subst (IsRowFault kind time) says.made fault;
})

-- that memory ran out can be said of any fields with a moment
pub out_of_memory : (o : Options) (now : ℤ) (fields : List Field) (time : ℤ) (made : List Field)
    (result : Result Row LineKind)
    → SaysMoment o now fields time made → IsErrAnd result (λ kind. kind ≡ Memory)
    → IfErr result (λ kind. IsFieldsFault kind o now fields)
out_of_memory o now fields time made (Ok row) says memory = tt
out_of_memory o now fields time made (Err kind) says memory = inr (record {
  time = time;
  is_time = says.is_time;
  at_fault = subst (λ k. IsRowFault k time (row_fields o fields)) (sym memory) tt;
})
