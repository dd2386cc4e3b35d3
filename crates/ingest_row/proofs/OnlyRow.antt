-- A line says one list of fields, which say one moment, and so has one row.
use Rattle.std.proofs.Common.{◌≡◌, inl, inr, ℕ, ℤ, Bool, true, false, List, [], Result, Ok, Err, sym, ap}
use Rattle.std.proofs.Common.{subst, ◌∙◌}
use Rattle.log_model.specs.Field.{Field, set_all}
use Rattle.log_model.specs.ObjectLine.{IsObjectLine, is_shallow}
use Rattle.log_model.specs.Row.{Row}
use Rattle.log_model.specs.Value.{Items, IsObjectText, member_fields}
use Rattle.jsonline_in.specs.Reading.{Fault}
use Rattle.jsonline_in.proofs.Objects.{object_again}
use Rattle.jsonline_in.proofs.ValuesAgain.{fits}
use Rattle.time_text.proofs.Spelling.{is_only}
use Rattle.ingest_row.specs.Ingest.{IsRowOf, IsRowOfLine, IsTimeOf, Options, Says, row_at, row_fields, says_now}
use Rattle.ingest_row.specs.Ingest.{time_text}
use Rattle.ingest_row.proofs.Times.{true_not_false}

abbrev members_or : Items → Result (Items × List ℕ) Fault → Items
members_or other (Ok x) = x.0
members_or other (Err fault) = other

fits_only : (a b : Bool) (one other : Items) → a ≡ true → b ≡ true → fits a one [] ≡ fits b other [] → one ≡ other
fits_only true true one other shallow shallow_too same = ap (members_or one) same
fits_only true false one other shallow deep same = absurd cc
fits_only false b one other deep shallow same = absurd cc

pub one_object : (text : List ℕ) (one other : Items) → IsObjectText text one → IsObjectText text other
    → is_shallow one ≡ true → is_shallow other ≡ true → one ≡ other
one_object text one other is is_too shallow shallow_too =
    fits_only (is_shallow one) (is_shallow other) one other shallow shallow_too
    (sym (object_again text one is) ∙ object_again text other is_too)

pub one_members : (line : List ℕ) (one other : List Field) → IsObjectLine line one → IsObjectLine line other
    → one ≡ other
one_members line one other is is_too =
    is.flat
    ∙ ap (member_fields []) (one_object line is.members is_too.members is.is_object is_too.is_object is.shallow
    is_too.shallow)
    ∙ sym is_too.flat

pub one_fields : (line : List ℕ) (one other : List Field) → Says line one → Says line other → one ≡ other
one_fields line one other says says_too =
    says.set ∙ ap (set_all []) (one_members line says.members says_too.members says.is_object says_too.is_object)
    ∙ sym says_too.set

pub one_time : (now : ℤ) (text : List ℕ) (one other : ℤ) → IsTimeOf now text one → IsTimeOf now text other
    → one ≡ other
one_time now text one other (inl own) (inl own_too) = own.1 ∙ sym own_too.1
one_time now text one other (inl own) (inr said) = absurd (true_not_false (says_now text) own.0 said.0)
one_time now text one other (inr said) (inl own) = absurd (true_not_false (says_now text) own.0 said.0)
one_time now text one other (inr said) (inr said_too) = is_only text one other said.1 said_too.1

pub one_row_of : (o : Options) (now : ℤ) (fields : List Field) (one other : Row) → IsRowOf o now fields one
    → IsRowOf o now fields other → one ≡ other
one_row_of o now fields one other is is_too =
    is.is_row
    ∙ ap (λ (t : ℤ). row_at o.stream_fields t (row_fields o fields))
    (one_time now (time_text o fields) is.time is_too.time is.is_time is_too.is_time)
    ∙ sym is_too.is_row

pub one_row : (o : Options) (now : ℤ) (line : List ℕ) (one other : Row) → IsRowOfLine o now line one
    → IsRowOfLine o now line other → one ≡ other
one_row o now line one other is is_too =
    one_row_of o now is.fields one other is.is_row
    (subst (λ (f : List Field). IsRowOf o now f other)
    (one_fields line is_too.fields is.fields is_too.says is.says) is_too.is_row)
