-- What was read of a line, and what is noted of it.
use Rattle.std.proofs.Common.{◌≡◌, ◌≢◌, ℕ, ◌<◌, Bool, true, false, cond, ◌||◌, List, [], ◌∷◌, ◌++◌, length, filter}
use Rattle.std.proofs.Common.{Option, Some, None, Result, Ok, Err, refl, sym, ap, subst, ◌∙◌, arith, IsTrue, IsFalse}
use Rattle.std.proofs.Common.{lit<}
use Rattle.std.specs.Prelude.{MatchOption, IfOk, IfErr, OnOk}
use Rattle.std.specs.List.{list_all}
use Rattle.std.proofs.lemmas.Bool.{and_parts, false≢true}
use Rattle.log_model.specs.Field.{Field, IsFieldList, field_value, set_all, set_field}
use Rattle.log_model.specs.ObjectLine.{IsObjectLine}
use Rattle.log_model.specs.Value.{Value, scalar, nested, Items, nothing, item, array, object, Label, member_name}
use Rattle.log_model.specs.Value.{field_name, member_fields, value_fields}
use Rattle.vl_row.proofs.Sorted.{IsFieldList-nil, all_append}
use Rattle.field_setter.proofs.Setting.{or_none}
use Rattle.jsonline_in.specs.Reading.{Fault, text_at}
use Rattle.jsonline_in.specs.Clauses.{Fails, Opens, ReadsAs, mapped}
use Rattle.jsonline_in.specs.Near.{AreKnown, Noted, is_kept, is_short, note_all, start}
use Rattle.jsonline_in.specs.declared.scan_fault.ScanFault.{ScanFault}
use Rattle.jsonline_in.specs.declared.scan_fault.ScanFault.TheVariants.{TooDeep, Stuck, Memory}
use Rattle.jsonline_in.proofs.Copies.{mapped_ok, mapped_err}
use Rattle.jsonline_in.proofs.Notes.{AreNamed, StandsFor, kept_value, rules_all, stands_all}
use Rattle.jsonline_in.proofs.Objects.{line_read}

-- ---- each field has a name

field_named : (name : List ℕ) → 0 < length (field_name name)
field_named [] = lit< tt
field_named (byte ∷ bytes) = omega arith

mutual
  value_named : (name : List ℕ) (value : Value) → AreNamed (value_fields name value)
  value_named name (scalar token) = (field_named name, tt)
  value_named name (nested array items) = (field_named name, tt)
  value_named name (nested object items) = members_named (name ++ 46 ∷ []) items

  members_named : (before : List ℕ) (items : Items) → AreNamed (member_fields before items)
  members_named before nothing = tt
  members_named before (item label value more) =
      all_append (λ (field : Field). 0 < length field.0) (value_fields (before ++ member_name label) value)
      (member_fields before more) (value_named (before ++ member_name label) value) (members_named before more)

-- ---- where all is kept

pub all_noted : (fields : List Field) (far : Option (List ℕ)) (sure : Bool) (more : List Field)
    → note_all (record { all = true; fields = fields; far = far; sure = sure }) more
    ≡ record { all = true; fields = set_all fields more; far = far; sure = sure }
all_noted fields far sure [] = refl
all_noted fields far sure (x ∷ xs) = all_noted (set_field fields x.0 x.1) far sure xs

-- ---- what is known

keep_first : (e : Field) (xs ys : List Field) (t : Bool) → t ≡ true → xs ≡ ys → cond t (e ∷ xs) xs ≡ e ∷ ys
keep_first e xs ys true h same = ap (λ (l : List Field). e ∷ l) same
keep_first e xs ys false h same = absurd (false≢true h)

keeps_all : (p : Field → Bool) (fields : List Field) → list_all p fields ≡ true → filter p fields ≡ fields
keeps_all p [] h = refl
keeps_all p (e ∷ es) h =
    let parts = and_parts (p e) (list_all p es) h in
    keep_first e (filter p es) es (p e) parts.0 (keeps_all p es parts.1)

or_true : (a b : Bool) → b ≡ true → (a || b) ≡ true
or_true true b h = refl
or_true false b h = h

known_of : (noted : Noted) (whole : List Field) (far : Option (List ℕ))
    → noted.fields ≡ filter (λ field. is_kept noted field.0) whole
    → MatchOption far (IsTrue (list_all (λ field. is_kept noted field.0) whole))
    (λ name. (is_kept noted name ≡ false) × (field_value whole name ≢ []))
    → MatchOption far (noted.fields ≡ whole) (λ name. IsFalse (is_short name) × (field_value whole name ≢ [])
    × ((q : List ℕ) → IsTrue (is_short q) → field_value noted.fields q ≡ field_value whole q))
known_of noted whole None fields known = fields ∙ keeps_all (λ field. is_kept noted field.0) whole known
known_of noted whole (Some name) fields known = (
  (or_none noted.all (is_short name) known.0).1,
  known.1,
  λ q short. ap (λ (f : List Field). field_value f q) fields ∙ kept_value (is_kept noted) whole q
      ∙ ap (λ t. cond t (field_value whole q) []) (or_true noted.all (is_short q) short),
)

-- no name is noted where all are asked for
none_far : (all : Bool) (more : List Field) → all ≡ true → (note_all (start all) more).far ≡ None
none_far all more e =
    ap (λ (b : Bool). (note_all (start b) more).far) e ∙ ap (λ (n : Noted). n.far) (all_noted [] None true more)

start_stands : (all : Bool) → StandsFor (start all) []
start_stands all = record { fields = refl; known = λ sure. refl }

known_members : (all : Bool) (members : Items) → (note_all (start all) (member_fields [] members)).sure ≡ true
    → AreKnown all (set_all [] (member_fields [] members)) (note_all (start all) (member_fields [] members)).fields
    (note_all (start all) (member_fields [] members)).far
known_members all members sure =
    let more = member_fields [] members in
    let noted = note_all (start all) more in
    let named = members_named [] members in
    let stands = stands_all (start all) [] more IsFieldList-nil named (start_stands all) in
    record {
      rules = rules_all [] more IsFieldList-nil named;
      none = none_far all more;
      found = known_of noted (set_all [] more) noted.far stands.fields (stands.known sure);
    }

-- What was read is known, where the noted fields and name are those of the members.
abbrev pub IsReadAs : Bool → List ℕ → List Field → Option (List ℕ) → Type 0
IsReadAs all inside fields far =
    (members : Items) × (text_at inside ≡ Ok (members, []))
    × AreKnown all (set_all [] (member_fields [] members)) fields far

pub read_sure : (inside : List ℕ) (all : Bool) (noted : Noted) (fields : List Field) (far : Option (List ℕ))
    → (members : Items) × (text_at inside ≡ Ok (members, []))
    × (noted ≡ note_all (start all) (member_fields [] members))
    → noted.sure ≡ true → (fields ≡ noted.fields) × (far ≡ noted.far) → IsReadAs all inside fields far
read_sure inside all noted fields far read sure found =
    let members = read.0 in
    let known = known_members all members (sym (ap (λ (n : Noted). n.sure) read.2) ∙ sure) in
    let same_fields : (note_all (start all) (member_fields [] members)).fields ≡ fields =
    sym (ap (λ (n : Noted). n.fields) read.2) ∙ sym found.0 in
    let same_far : (note_all (start all) (member_fields [] members)).far ≡ far =
    sym (ap (λ (n : Noted). n.far) read.2) ∙ sym found.1 in (
      members,
      read.1,
      subst (λ (f : Option (List ℕ)). AreKnown all (set_all [] (member_fields [] members)) fields f) same_far
          (subst (λ (f : List Field). AreKnown all (set_all [] (member_fields [] members)) f
          (note_all (start all) (member_fields [] members)).far) same_fields known),
    )

pub all_sure : (noted : Noted) (more : List Field) → noted ≡ note_all (start true) more → noted.sure ≡ true
all_sure noted more e = ap (λ (n : Noted). n.sure) (e ∙ all_noted [] None true more)

-- ---- of a line

module _ (all : Bool) (line inside : List ℕ) (opens : Opens line inside) (fields : List Field) (far : Option (List ℕ))
    (read : IsReadAs all inside fields far) where
  pub line_known : (members : List Field) × IsObjectLine line members × AreKnown all (set_all [] members) fields far
  line_known = (member_fields [] read.0, line_read line inside opens.brace read.0 read.1 opens.utf8, read.2)

-- ---- faults

pub fails_mapped : {A B : Type 0} (stop : ScanFault) (made : A → B) (r : Result (A × List ℕ) Fault)
    → Fails stop (mapped made r) → Fails stop r
fails_mapped TooDeep made r h = mapped_err made r _ h
fails_mapped (Stuck left) made r h = mapped_err made r _ h
fails_mapped Memory made r h = tt

pub fails_again : {A B : Type 0} (stop : ScanFault) (made : A → B) (r : Result (A × List ℕ) Fault)
    → Fails stop r → Fails stop (mapped made r)
fails_again TooDeep made r h = ap (mapped made) h
fails_again (Stuck left) made r h = ap (mapped made) h
fails_again Memory made r h = tt

pub fails_memory : {Y : Type 0} (stop : ScanFault) (r : Result Y Fault) → stop ≡ Memory → Fails stop r
fails_memory stop r e = subst (λ (s : ScanFault). Fails s r) (sym e) tt

-- what was read where these were set on what was noted at the start
module _ (r : Result (Items × List ℕ) Fault) (first noted : Noted) (all : Bool) (given : List Field)
    (begins : first ≡ record { all = all; fields = given; far = None; sure = true })
    (e : mapped (λ members. note_all first (member_fields [] members)) r ≡ Ok (noted, [])) where
  noted_members : (members : Items) × (r ≡ Ok (members, []))
      × (noted ≡ note_all (record { all = all; fields = given; far = None; sure = true }) (member_fields [] members))
  noted_members =
      let m = mapped_ok (λ (members : Items). note_all first (member_fields [] members)) r noted [] e in (
        m.0,
        m.1,
        m.2 ∙ ap (λ (n : Noted). note_all n (member_fields [] m.0)) begins,
      )

  pub read_noted : given ≡ [] → (members : Items) × (r ≡ Ok (members, []))
      × (noted ≡ note_all (start all) (member_fields [] members))
  read_noted none =
      let m = noted_members in (
        m.0,
        m.1,
        m.2 ∙ ap (λ (f : List Field). note_all (record { all = all; fields = f; far = None; sure = true })
            (member_fields [] m.0)) none,
      )

  -- the fields that were set, where all is noted
  pub set_noted : (old new : List Field) → all ≡ true → given ≡ old → new ≡ noted.fields
      → mapped (λ members. set_all old (member_fields [] members)) r ≡ Ok (new, [])
  set_noted old new whole was is =
      let m = noted_members in
      let more = member_fields [] m.0 in
      let fields : set_all old more ≡ new =
      sym (is ∙ ap (λ (n : Noted). n.fields)
      (m.2
      ∙ ap (λ (b : Bool). note_all (record { all = b; fields = given; far = None; sure = true }) more) whole
      ∙ all_noted given None true more) ∙ ap (λ (f : List Field). set_all f more) was) in
      ap (mapped (λ (members : Items). set_all old (member_fields [] members))) m.1
      ∙ ap (λ (f : List Field). Ok (f, [])) fields

-- the fields that were set are finished, unless memory ran out
pub whole_reads : (result : Result (List Field) ScanFault) (r : Result (Items × List ℕ) Fault) (first noted : Noted)
    (old : List Field) → first ≡ record { all = true; fields = old; far = None; sure = true }
    → mapped (λ members. note_all first (member_fields [] members)) r ≡ Ok (noted, [])
    → IfOk result (λ fields. fields ≡ noted.fields) → IfErr result (λ stop. stop ≡ Memory)
    → ReadsAs (λ new. (new, [])) result (mapped (λ members. set_all old (member_fields [] members)) r)
whole_reads (Ok new) r first noted old begins e ok err = set_noted r first noted true old begins e old new refl refl ok
whole_reads (Err stop) r first noted old begins e ok err =
    fails_memory stop (mapped (λ (members : Items). set_all old (member_fields [] members)) r) err

-- what was finished is read, unless memory ran out
pub finished_reads : {S : Type 0} (fields_of : S → List Field) (far_of : S → Option (List ℕ)) (inside : List ℕ)
    (all : Bool) (noted : Noted) (result : Result S ScanFault)
    → (members : Items) × (text_at inside ≡ Ok (members, []))
    × (noted ≡ note_all (start all) (member_fields [] members))
    → noted.sure ≡ true → IfOk result (λ said. (fields_of said ≡ noted.fields) × (far_of said ≡ noted.far))
    → IfOk result (λ said. IsReadAs all inside (fields_of said) (far_of said))
finished_reads fields_of far_of inside all noted (Ok said) read sure found =
    read_sure inside all noted (fields_of said) (far_of said) read sure found
finished_reads fields_of far_of inside all noted (Err stop) read sure found = tt

pub memory_fails : {X Y : Type 0} (result : Result X ScanFault) (read : Result Y Fault)
    → IfErr result (λ stop. stop ≡ Memory) → IfErr result (λ stop. Fails stop read)
memory_fails (Ok x) read h = tt
memory_fails (Err stop) read h = fails_memory stop read h

pub all_members_sure : (inside : List ℕ) (noted : Noted)
    → (members : Items) × (text_at inside ≡ Ok (members, []))
    × (noted ≡ note_all (start true) (member_fields [] members))
    → noted.sure ≡ true
all_members_sure inside noted read = all_sure noted (member_fields [] read.0) read.2

-- what is known where all are asked for is known in any case
pub any_reads : {S : Type 0} (fields_of : S → List Field) (far_of : S → Option (List ℕ)) (inside : List ℕ) (all : Bool)
    (result : Result S ScanFault) → IfOk result (λ said. IsReadAs true inside (fields_of said) (far_of said))
    → IfOk result (λ said. IsReadAs all inside (fields_of said) (far_of said))
any_reads fields_of far_of inside all (Ok said) read = (
  read.0,
  read.1,
  record { rules = read.2.rules; none = λ e. read.2.none refl; found = read.2.found },
)
any_reads fields_of far_of inside all (Err stop) read = tt
