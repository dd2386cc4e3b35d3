-- Messages by their header, their structured data and what follows.
use Rattle.std.proofs.Common.{◌≡◌, ℕ, ◌-◌, ◌≤◌, ◌<◌, List, [], ◌∷◌, ◌++◌, length, Option, Some, None, ℤ, true, refl}
use Rattle.std.proofs.Common.{sym, ap, subst}
use Rattle.std.proofs.Common.{arith, ◌∙◌, ◌≢◌, Result, Ok, Err}
use Rattle.std.specs.Prelude.{codes, IfErr}
use Rattle.std.specs.Str.Lossy.{utf8_lossy}
use Rattle.std.proofs.lemmas.Bool.{eqb-true}
use Rattle.std.proofs.lemmas.List.{length-append}
use Rattle.std.proofs.lemmas.List.Sums.{fold-append}
use Rattle.std.proofs.lemmas.Option.{none-some}
use Rattle.log_model.specs.Field.{Field, set_field, set_all}
use Rattle.syslog_in.specs.Message.{NameTexts, Header, IsHeader, AreNameTexts, header_source, names_source, Element}
use Rattle.syslog_in.specs.Message.{data_source, msg_source, msg_bytes, msg_field, header_fields, data_fields}
use Rattle.syslog_in.specs.Message.{IsMessage, IsTime, IsName}
use Rattle.syslog_in.specs.Parts.{version, timestamp, names, IsPart, Behind, Stands, AreParts}
use Rattle.syslog_in.specs.Parts.{LacksData}
use Rattle.syslog_in.specs.DataReading.{FindsOne, FindsAny, SpellsData, is_end}
use Rattle.syslog_in.specs.HeaderReading.{AreNames, IsNamed, HeaderAt, msg_at}
use Rattle.syslog_in.specs.declared.fault.MessageFault.{MessageFault}
use Rattle.syslog_in.specs.declared.fault.MessageFault.TheVariants.{Memory}
use Rattle.time_text.proofs.Counts.{some_is}
use Rattle.syslog_in.proofs.Headers.{time_part, pri_fits, parts_fit}
use Rattle.syslog_in.proofs.NamesRead.{names_from}
use Rattle.syslog_in.proofs.Standing.{behind_end}

-- ---- a part with a blank after it

blank_behind : (after rest : List ℕ) → Behind after rest → 0 < length rest → after ≡ 32 ∷ rest
blank_behind [] rest h some = absurd (omega (arith, ap length h))
blank_behind (byte ∷ bytes) rest h some =
    ap (λ (c : ℕ). c ∷ bytes) h.0 ∙ ap (λ (t : List ℕ). 32 ∷ t) h.1

part_source : (IsSo : List ℕ → Type 0) (text rest : List ℕ) (h : Stands IsSo text rest) → 0 < length rest
    → text ≡ h.part ++ 32 ∷ rest
part_source IsSo text rest h some =
    h.spelled ∙ ap (λ (t : List ℕ). h.part ++ t) (blank_behind h.after rest h.behind some)

named_source : (most : ℕ) (name text rest : List ℕ) → Stands (IsNamed most name) text rest → 0 < length rest
    → text ≡ name ++ 32 ∷ rest
named_source most name text rest h some =
    part_source (IsNamed most name) text rest h some ∙ ap (λ (n : List ℕ). n ++ 32 ∷ rest) h.is_so.1

some_source : (name rest text : List ℕ) → text ≡ name ++ 32 ∷ rest → 0 < length text
some_source name rest text is = omega (arith, ap length is, length-append name (32 ∷ rest))

-- names that stand before something are spelled so
names_spelled : (texts : NameTexts) (text rest : List ℕ) → AreNames text texts rest → 0 < length rest
    → (text ≡ names_source texts rest) × AreNameTexts texts
names_spelled texts text rest h some =
    let four = named_source 32 texts.msg_id h.third rest h.msg_id some in
    let three = named_source 128 texts.proc_id h.second h.third h.proc_id
    (some_source texts.msg_id rest h.third four) in
    let two = named_source 48 texts.app_name h.first h.second h.app_name
    (some_source texts.proc_id h.third h.second three) in
    let one = named_source 255 texts.hostname text h.first h.hostname
    (some_source texts.app_name h.second h.first two) in (
      one ∙ ap (λ (t : List ℕ). texts.hostname ++ 32 ∷ t) (two ∙ ap (λ (t : List ℕ). texts.app_name ++ 32 ∷ t)
          (three ∙ ap (λ (t : List ℕ). texts.proc_id ++ 32 ∷ t) four)),
      record {
        hostname = subst (IsName 255) h.hostname.is_so.1 h.hostname.is_so.0;
        app_name = subst (IsName 48) h.app_name.is_so.1 h.app_name.is_so.0;
        proc_id = subst (IsName 128) h.proc_id.is_so.1 h.proc_id.is_so.0;
        msg_id = subst (IsName 32) h.msg_id.is_so.1 h.msg_id.is_so.0;
      },
    )

names_some : (texts : NameTexts) (rest text : List ℕ) → text ≡ names_source texts rest → 0 < length text
names_some texts rest text is =
    some_source texts.hostname _ text is

-- the header that was read, as it is spelled
pub header_spelled : (text : List ℕ) (priority : ℕ) (time : Option ℤ) (texts : NameTexts) (rest : List ℕ)
    → HeaderAt text priority time texts rest → 0 < length rest
    → (header : Header) × IsHeader header × (text ≡ header_source header rest) × (header.priority ≡ priority)
    × (header.time ≡ time) × (header.names ≡ texts)
header_spelled text priority time texts rest h some =
    let spelled = names_spelled texts h.third rest h.are_names some in
    let third = names_some texts rest h.third spelled.0 in
    let time_is = part_source (λ part. IsTime part time) h.second h.third h.is_time third in
    let version_is = part_source (IsPart version) h.first h.second h.is_version
    (some_source h.is_time.part h.third h.second time_is)
    ∙ ap (λ (v : List ℕ). v ++ 32 ∷ h.second) h.is_version.is_so in (
      record {
        priority_text = h.pri.digits;
        priority = h.pri.priority;
        time_text = h.is_time.part;
        time = time;
        names = texts;
      },
      record { priority = h.pri.is_priority; time = h.is_time.is_so; names = spelled.1 },
      h.pri.spelled ∙ ap (λ (t : List ℕ). 60 ∷ (h.pri.digits ++ 62 ∷ t)) (version_is
          ∙ ap (λ (t : List ℕ). 49 ∷ 32 ∷ t) (time_is ∙ ap (λ (t : List ℕ). h.is_time.part ++ 32 ∷ t) spelled.0)),
      h.priority_is,
      refl,
      refl,
    )

-- a part that is spelled with a blank after it stands there
stands_spelled : (IsSo : List ℕ → Type 0) (part rest : List ℕ) → IsSo part → Stands IsSo (part ++ 32 ∷ rest) rest
stands_spelled IsSo part rest so = record {
  part = part;
  after = 32 ∷ rest;
  is_so = so;
  spelled = refl;
  behind = (refl, refl);
}

-- a header that is spelled is there
pub header_at : (text rest : List ℕ) (header : Header) → IsHeader header → text ≡ header_source header rest
    → HeaderAt text header.priority header.time header.names rest
header_at text rest header h spelled =
    let n = header.names in
    let fourth = n.msg_id ++ 32 ∷ rest in
    let third = n.proc_id ++ 32 ∷ fourth in
    let second = n.app_name ++ 32 ∷ third in
    let first = names_source n rest in
    record {
      first = 49 ∷ 32 ∷ (header.time_text ++ 32 ∷ first);
      second = header.time_text ++ 32 ∷ first;
      third = first;
      pri = record {
        digits = header.priority_text;
        priority = header.priority;
        is_priority = h.priority;
        spelled = spelled;
      };
      priority_is = refl;
      is_version = stands_spelled (IsPart version) (49 ∷ []) (header.time_text ++ 32 ∷ first) refl;
      is_time = stands_spelled (λ part. IsTime part header.time) header.time_text first h.time;
      are_names = record {
        first = second;
        second = third;
        third = fourth;
        hostname = stands_spelled (IsNamed 255 n.hostname) n.hostname second (h.names.hostname, refl);
        app_name = stands_spelled (IsNamed 48 n.app_name) n.app_name third (h.names.app_name, refl);
        proc_id = stands_spelled (IsNamed 128 n.proc_id) n.proc_id fourth (h.names.proc_id, refl);
        msg_id = stands_spelled (IsNamed 32 n.msg_id) n.msg_id rest (h.names.msg_id, refl);
      };
    }

-- ---- what follows structured data

msg_is : (rest : List ℕ) → is_end rest ≡ true → rest ≡ msg_source (msg_at rest)
msg_is [] e = refl
msg_is (byte ∷ msg) e = ap (λ (c : ℕ). c ∷ msg) (eqb-true byte 32 e)

pub msg_ends : (msg : Option (List ℕ)) → is_end (msg_source msg) ≡ true
msg_ends None = refl
msg_ends (Some msg) = refl

msg_again : (msg : Option (List ℕ)) → msg_at (msg_source msg) ≡ msg
msg_again None = refl
msg_again (Some msg) = refl

data-some : (elements : List Element) (rest : List ℕ) → 0 < length (data_source elements ++ rest)
data-some [] rest = omega arith
data-some (e ∷ elements) rest = omega arith

-- ---- the whole

-- A message by what was read of it.
pub record ReadsMessage (text : List ℕ) (priority : ℕ) (time : Option ℤ) (texts : NameTexts) (rest after : List ℕ)
    (elements : List Element) : Type 0 where
  pub header : HeaderAt text priority time texts rest
  pub «data» : SpellsData rest elements after

abbrev pub fields_of : ℕ → NameTexts → List Element → List ℕ → List Field
fields_of priority texts elements after =
    set_field (set_all (set_all [] (header_fields priority texts)) (data_fields elements)) (codes "_msg")
    (utf8_lossy (msg_bytes (msg_at after)))

fields_are : (priority : ℕ) (texts : NameTexts) (elements : List Element) (after : List ℕ) (msg : Option (List ℕ))
    → msg_at after ≡ msg → fields_of priority texts elements after
    ≡ set_all [] (header_fields priority texts ++ (data_fields elements ++ msg_field msg ∷ []))
fields_are priority texts elements after msg is =
    let first = header_fields priority texts in
    let more = data_fields elements in
    let last = msg_field msg ∷ [] in
    ap (λ (m : Option (List ℕ)). set_all (set_all (set_all [] first) more) (msg_field m ∷ [])) is
    ∙ sym (fold-append put (set_all [] first) more last)
    ∙ sym (fold-append put [] first (more ++ last))
  where
    put : List Field → Field → List Field
    put old field = set_field old field.0 field.1

pub message_is : (text : List ℕ) (priority : ℕ) (time : Option ℤ) (texts : NameTexts) (rest after : List ℕ)
    (elements : List Element) (fields : List Field) → HeaderAt text priority time texts rest
    → SpellsData rest elements after → fields ≡ fields_of priority texts elements after → IsMessage text time fields
message_is text priority time texts rest after elements fields h d is =
    let some : 0 < length rest = omega (arith, ap length d.spelled, data-some elements after) in
    let header = header_spelled text priority time texts rest h some in
    record {
      header = header.0;
      elements = elements;
      msg = msg_at after;
      is_header = header.1;
      are_elements = d.are_elements;
      spelled = header.2 ∙ ap (header_source header.0) (d.spelled
          ∙ ap (λ (t : List ℕ). data_source elements ++ t) (msg_is after d.ends));
      time_is = sym header.4;
      fields_are = is ∙ fields_are priority texts elements after (msg_at after) refl
          ∙ ap (λ (p : ℕ). set_all [] (header_fields p texts ++ (data_fields elements ++ msg_field
          (msg_at after) ∷ [])))
          (sym header.3)
          ∙ ap (λ (n : NameTexts). set_all [] (header_fields header.0.priority n
          ++ (data_fields elements ++ msg_field (msg_at after) ∷ []))) (sym header.5);
    }

-- what is spelled as a message, by its parts
pub message_parts : (text : List ℕ) (time : Option ℤ) (fields : List Field) (h : IsMessage text time fields)
    → HeaderAt text h.header.priority h.header.time h.header.names (data_source h.elements ++ msg_source h.msg)
    × SpellsData (data_source h.elements ++ msg_source h.msg) h.elements (msg_source h.msg)
    × (fields ≡ fields_of h.header.priority h.header.names h.elements (msg_source h.msg))
message_parts text time fields h = (
  header_at text (data_source h.elements ++ msg_source h.msg) h.header h.is_header h.spelled,
  record { are_elements = h.are_elements; spelled = refl; ends = msg_ends h.msg },
  h.fields_are ∙ sym (fields_are h.header.priority h.header.names h.elements (msg_source h.msg) h.msg
      (msg_again h.msg)),
)

-- ---- why bytes are not a message

pub header_fits : (text : List ℕ) (priority : ℕ) (time : Option ℤ) (texts : NameTexts) (rest : List ℕ)
    → HeaderAt text priority time texts rest → length rest ≤ length text
header_fits text priority time texts rest h =
    let parts : AreParts (version ∷ timestamp ∷ names) h.first rest = (
      h.second,
      h.is_version,
      (h.third, time_part h.second h.third time h.is_time, names_from texts h.third rest h.are_names),
    ) in
    omega (arith, pri_fits text h.first h.pri, parts_fit (version ∷ timestamp ∷ names) h.first rest parts)

pub no_header : {X : Type 0} (result : Result X MessageFault) (text : List ℕ)
    → ((priority : ℕ) (time : Option ℤ) (texts : NameTexts) (rest : List ℕ) → HeaderAt text priority time texts rest
    → ⊥)
    → IfErr result (λ fault. fault ≢ Memory → (time : Option ℤ) (fields : List Field) → IsMessage text time fields → ⊥)
no_header (Ok x) text none = tt
no_header (Err fault) text none = λ other time fields h.
    none h.header.priority h.header.time h.header.names _ (message_parts text time fields h).0

-- the header that was read is the only one
abbrev pub IsOnly : List ℕ → ℕ → Option ℤ → NameTexts → List ℕ → Type 0
IsOnly text priority time texts rest =
    (p : ℕ) (other : Option ℤ) (others : NameTexts) (left : List ℕ) → HeaderAt text p other others left
    → (p ≡ priority) × (other ≡ time) × (others ≡ texts) × (left ≡ rest)

module _ (text : List ℕ) (priority : ℕ) (time : Option ℤ) (texts : NameTexts) (rest : List ℕ)
    (only : IsOnly text priority time texts rest) (old new : List Field) where
  pub no_data : FindsAny (SpellsData rest) data_fields old new None
      → (other : Option ℤ) (fields : List Field) → IsMessage text other fields → ⊥
  no_data any other fields h =
      let parts = message_parts text other fields h in
      let same = only h.header.priority h.header.time h.header.names _ parts.0 in
      absurd (none-some _ (any h.elements (msg_source h.msg)
      (subst (λ (t : List ℕ). SpellsData t h.elements (msg_source h.msg)) same.3 parts.1)).0)

  pub lacks_data : HeaderAt text priority time texts rest → FindsAny (SpellsData rest) data_fields old new None
      → LacksData text (length text - length rest)
  lacks_data h any = record {
    start = h.first;
    rest = rest;
    pri = h.pri;
    parts = (
      h.second,
      h.is_version,
      (h.third, time_part h.second h.third time h.is_time, names_from texts h.third rest h.are_names),
    );
    lacks = λ d. absurd (none-some _ (any d.elements d.after (record {
      are_elements = d.are_elements;
      spelled = d.spelled;
      ends = behind_end d.after d.rest d.behind;
    })).0);
    at_is = refl;
  }

  pub only_message : (after : List ℕ) (found : List Field) → old ≡ set_all [] (header_fields priority texts)
      → FindsAny (SpellsData rest) data_fields old new (Some after)
      → found ≡ set_field new (codes "_msg") (utf8_lossy (msg_bytes (msg_at after)))
      → (other : Option ℤ) (fields : List Field) → IsMessage text other fields → (other ≡ time) × (fields ≡ found)
  only_message after found old_is any found_is other fields h =
      let parts = message_parts text other fields h in
      let same = only h.header.priority h.header.time h.header.names _ parts.0 in
      let got = any h.elements (msg_source h.msg)
      (subst (λ (t : List ℕ). SpellsData t h.elements (msg_source h.msg)) same.3 parts.1) in
      let after_is : after ≡ msg_source h.msg = some_is after (msg_source h.msg) got.0 in
      let last : List ℕ → List Field
      → List Field = λ end set. set_field set (codes "_msg") (utf8_lossy (msg_bytes (msg_at end))) in (
        h.time_is ∙ same.1,
        parts.2
            ∙ ap (λ (p : ℕ). fields_of p h.header.names h.elements (msg_source h.msg)) same.0
            ∙ ap (λ (n : NameTexts). fields_of priority n h.elements (msg_source h.msg)) same.2
            ∙ ap (λ (f : List Field). last (msg_source h.msg) (set_all f (data_fields h.elements))) (sym old_is)
            ∙ ap (last (msg_source h.msg)) (sym got.1)
            ∙ ap (λ (t : List ℕ). last t new) (sym after_is)
            ∙ sym found_is,
      )

  pub whole_message : (after : List ℕ) (found : List Field) → HeaderAt text priority time texts rest
      → old ≡ set_all [] (header_fields priority texts)
      → FindsOne (SpellsData rest) data_fields old new (Some after)
      → found ≡ set_field new (codes "_msg") (utf8_lossy (msg_bytes (msg_at after))) → IsMessage text time found
  whole_message after found h old_is one found_is =
      message_is text priority time texts rest after one.0 found h one.1
      (found_is ∙ ap (λ (f : List Field). set_field f (codes "_msg") (utf8_lossy (msg_bytes (msg_at after))))
      (one.2 ∙ ap (λ (f : List Field). set_all f (data_fields one.0)) old_is))
