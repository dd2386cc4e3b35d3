-- Replies to inserts.
use Rattle.std.proofs.Common.{◌≡◌, ℕ, ◌^◌, ◌<◌, ◌-◌, min, List, [], ◌∷◌, ◌++◌, length, map, take, drop, get_or, codes, decimal, flat_map, refl, ap, sym, ◌∙◌, arith}
use Rattle.std.proofs.Common.{append-nil, append_assoc}
use Rattle.std.proofs.lemmas.Fmt.{decimal_nonempty}
use Rattle.std.proofs.lemmas.Grind.{flat_map-append}
use Rattle.std.proofs.lemmas.List.{take_all, take_min}
use Rattle.std.specs.List.{join_with_byte}
use Rattle.json.specs.Print.{escape, escape_byte}
use Rattle.log_model.specs.Field.{Field}
use Rattle.log_model.specs.Print.{line_text, member_text, object_text}
use Rattle.ingest_row.specs.Refusal.{kind_text}
use Rattle.ingest_row.specs.declared.body.LineFault.{LineFault}
use Rattle.ingest_row.specs.declared.kind.LineKind.{LineKind}
use Rattle.ingest_row.specs.declared.kind.LineKind.TheVariants.{LineLong, NotUtf8, NotObject, TooDeep, NotJson, BadTime, NameLong, ManyFields, RowLarge, Empty, Memory}
use Rattle.vl_session.specs.Incoming.{filled}
use Rattle.vl_session.specs.Insert.{fault_fields, joined, named_limit, named_line}
use Rattle.vl_session.specs.Said.{first_member, later_line, later_member, refused_text}
use Rattle.vl_session.proofs.StatusLemmas.{decimal_plain}

-- ---- a record as its members

later_step : (before name value rest end : List ℕ)
    → (before ++ 34 ∷ []) ++ ((44 ∷ ((34 ∷ (name ++ 34 ∷ [])) ++ 58 ∷ 34 ∷ (value ++ 34 ∷ [])) ++ rest) ++ end)
    ≡ ((before ++ (34 ∷ 44 ∷ 34 ∷ (name ++ 34 ∷ 58 ∷ 34 ∷ value))) ++ 34 ∷ []) ++ (rest ++ end)
later_step before name value rest end = simp append_assoc

members_from : (before : List ℕ) (fields : List Field)
    → (before ++ 34 ∷ []) ++ (flat_map (λ field. 44 ∷ member_text field) fields ++ 125 ∷ 10 ∷ [])
    ≡ before ++ (flat_map later_member fields ++ 34 ∷ 125 ∷ 10 ∷ [])
members_from before [] = append_assoc before (34 ∷ []) (125 ∷ 10 ∷ [])
members_from before (field ∷ fields) =
    later_step before (escape field.0) (escape field.1) (flat_map (λ field. 44 ∷ member_text field) fields)
    (125 ∷ 10 ∷ [])
    ∙ members_from (before ++ later_member field) fields
    ∙ append_assoc before (later_member field) _
    ∙ ap (λ l. before ++ l) (sym (append_assoc (later_member field) (flat_map later_member fields) _))

joined_from : (field : Field) (fields : List Field)
    → join_with_byte 44 (map member_text (field ∷ fields))
    ≡ member_text field ++ flat_map (λ field. 44 ∷ member_text field) fields
joined_from field [] = sym (append-nil (member_text field))
joined_from field (next ∷ fields) = ap (λ l. member_text field ++ 44 ∷ l) (joined_from next fields)

first_step : (name value rest : List ℕ)
    → ((((34 ∷ (name ++ 34 ∷ [])) ++ 58 ∷ 34 ∷ (value ++ 34 ∷ [])) ++ rest) ++ 125 ∷ []) ++ 10 ∷ []
    ≡ ((34 ∷ (name ++ 34 ∷ 58 ∷ 34 ∷ value)) ++ 34 ∷ []) ++ (rest ++ 125 ∷ 10 ∷ [])
first_step name value rest = simp append_assoc

pub line_members : (field : Field) (fields : List Field)
    → line_text (field ∷ fields) ≡ first_member field ++ (flat_map later_member fields ++ codes "\"}\n")
unfolding object_text
line_members field fields =
    ap (λ l. 123 ∷ ((l ++ 125 ∷ []) ++ 10 ∷ [])) (joined_from field fields)
    ∙ ap (λ l. 123 ∷ l) (first_step (escape field.0) (escape field.1)
    (flat_map (λ field. 44 ∷ member_text field) fields))
    ∙ members_from (first_member field) fields

-- ---- numbers

pub accepted_is : (accepted : ℕ) → accepted < 2 ^ 64
    → first_member (codes "accepted", decimal accepted) ≡ codes "{\"accepted\":\"" ++ decimal accepted
unfolding escape_byte
accepted_is accepted few = ap (λ l. codes "{\"accepted\":\"" ++ l) (decimal_plain accepted few)

pub batch_is : (number : ℕ) → number < 2 ^ 64
    → later_member (codes "batch", decimal number) ≡ codes "\",\"batch\":\"" ++ decimal number
unfolding escape_byte
batch_is number few = ap (λ l. codes "\",\"batch\":\"" ++ l) (decimal_plain number few)

filled_text : (name text : List ℕ) → 0 < length text → filled name text ≡ (name, text) ∷ []
filled_text name [] some = absurd (omega (arith, some))
filled_text name (byte ∷ bytes) some = refl

pub filled_number : (number : ℕ) → number < 2 ^ 64
    → filled (codes "batch") (decimal number) ≡ (codes "batch", decimal number) ∷ []
filled_number number few = filled_text (codes "batch") (decimal number) (decimal_nonempty number few)

-- ---- refused lines

kind_plain : (kind : LineKind) → escape (kind_text kind) ≡ kind_text kind
unfolding escape_byte
kind_plain LineLong = refl
kind_plain NotUtf8 = refl
kind_plain NotObject = refl
kind_plain TooDeep = refl
kind_plain NotJson = refl
kind_plain BadTime = refl
kind_plain NameLong = refl
kind_plain ManyFields = refl
kind_plain RowLarge = refl
kind_plain Empty = refl
kind_plain Memory = refl

space_plain : (text : List ℕ) → escape (32 ∷ text) ≡ 32 ∷ escape text
unfolding escape_byte
space_plain text = refl

-- the name of a line stands for itself
pub named_plain : (fault : LineFault) → fault.line < 2 ^ 64 → escape (named_line fault) ≡ named_line fault
named_plain fault few =
    flat_map-append escape_byte (decimal fault.line) (32 ∷ kind_text fault.kind)
    ∙ ap (λ l. l ++ escape (32 ∷ kind_text fault.kind)) (decimal_plain fault.line few)
    ∙ ap (λ l. decimal fault.line ++ l) (space_plain (kind_text fault.kind) ∙ ap (λ l. 32 ∷ l) (kind_plain fault.kind))

comma_plain : (text : List ℕ) → escape (44 ∷ 32 ∷ text) ≡ 44 ∷ 32 ∷ escape text
unfolding escape_byte
comma_plain text = refl

others_escaped : (text : List ℕ) (faults : List LineFault)
    → escape (text ++ flat_map (λ next. codes ", " ++ next) (map named_line faults))
    ≡ escape text ++ flat_map later_line faults
others_escaped text [] = flat_map-append escape_byte text []
others_escaped text (fault ∷ faults) =
    flat_map-append escape_byte text _
    ∙ ap (λ l. escape text ++ l) (comma_plain _ ∙ ap (λ l. 44 ∷ 32 ∷ l) (others_escaped (named_line fault) faults))

-- the names of refused lines, one after another
pub faults_named : (fault : LineFault) (faults : List LineFault)
    → flat_map later_member (fault_fields (fault ∷ faults))
    ≡ codes "\",\"faults\":\"" ++ (escape (named_line fault) ++ flat_map later_line (take 15 faults))
unfolding escape_byte
faults_named fault faults =
    append-nil (later_member (codes "faults", joined (map named_line (take named_limit (fault ∷ faults)))))
    ∙ ap (λ l. codes "\",\"faults\":\"" ++ l) (others_escaped (named_line fault) (take 15 faults))

-- the same, in the order of the code
pub faults_from : (refused : List LineFault) (none : LineFault) (count : ℕ) → 0 < length refused
    → count ≡ min (length (take (length refused - 1) (drop 1 refused))) 15
    → flat_map later_member (fault_fields refused)
    ≡ codes "\",\"faults\":\"" ++ (escape (named_line (get_or refused 0 none))
    ++ flat_map later_line (take count (take (length refused - 1) (drop 1 refused))))
faults_from [] none count some is = absurd (omega (arith, some))
faults_from (fault ∷ faults) none count some is =
    let others : take (length (fault ∷ faults) - 1) faults ≡ faults = take_all _ faults (omega arith) in
    let few : count ≡ min 15 (length faults) =
    is ∙ ap (λ (l : List LineFault). min (length l) 15) others ∙ omega arith in
    faults_named fault faults
    ∙ ap (λ (l : List LineFault). codes "\",\"faults\":\"" ++ (escape (named_line fault) ++ flat_map later_line l))
    (sym (ap (take count) others ∙ ap (λ n. take n faults) few ∙ take_min 15 faults))

end_step : (faults name count end : List ℕ)
    → (faults ++ ((name ++ count) ++ [])) ++ end ≡ faults ++ (name ++ (count ++ end))
end_step faults name count end = ap (λ l. (faults ++ l) ++ end) (append-nil (name ++ count)) ∙ simp append_assoc

-- the end of the reply
pub refused_is : (faults : List LineFault) → length faults < 2 ^ 64
    → refused_text faults ≡ flat_map later_member (fault_fields faults)
    ++ (codes "\",\"refused\":\"" ++ (decimal (length faults) ++ codes "\"}\n"))
unfolding escape_byte
refused_is faults few =
    ap (λ l. l ++ codes "\"}\n") (flat_map-append later_member (fault_fields faults) _
    ∙ ap (λ l. flat_map later_member (fault_fields faults) ++ ((codes "\",\"refused\":\"" ++ l) ++ []))
    (decimal_plain (length faults) few))
    ∙ end_step (flat_map later_member (fault_fields faults)) (codes "\",\"refused\":\"") (decimal (length faults))
    (codes "\"}\n")
