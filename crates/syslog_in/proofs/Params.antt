-- Names and parameters are read as they are spelled.
use Rattle.std.proofs.Common.{◌≡◌, ℕ, false, ◌&&◌, nat_le, List, ◌∷◌}
use Rattle.std.proofs.Common.{◌++◌, length}
use Rattle.std.proofs.Common.{take, drop, Option, Some, None, refl, sym, ap, subst, arith, ◌∙◌}
use Rattle.std.specs.Prelude.{flat_map, IsTrue}
use Rattle.std.specs.List.{list_all}
use Rattle.std.specs.Str.Lossy.{utf8_lossy}
use Rattle.std.proofs.lemmas.Bool.{and_parts, and_from, leb-true, le-leb}
use Rattle.std.proofs.lemmas.List.{append_assoc, take-append-drop, take_at, drop_at, length-take-le}
use Rattle.std.proofs.lemmas.List.Sums.{prefix_len-le-length}
use Rattle.std.proofs.lemmas.Option.{none-some}
use Rattle.time_text.proofs.Counts.{some_is, test_some}
use Rattle.log_model.specs.Field.{Field, set_field}
use Rattle.syslog_in.specs.Message.{is_name_byte, IsDataName, Param, value_source}
use Rattle.syslog_in.specs.Message.{character_text}
use Rattle.syslog_in.specs.DataReading.{name_len, name_at, value_at, SetsValue, FindsOne, FindsAny, SpellsParam}
use Rattle.syslog_in.specs.DataReading.{param_fields}
use Rattle.syslog_in.specs.HeaderReading.{past}
use Rattle.syslog_in.proofs.Runs.{all_taken, run_then}
use Rattle.syslog_in.proofs.Priorities.{past_some, past_again}
use Rattle.syslog_in.proofs.Values.{pair, value_again, value_takes}

abbrev pub found : List ℕ → List ℕ → Option (List ℕ × List ℕ)
found a b = Some (pair a b)

-- ---- names

pub name_takes : (text name rest : List ℕ) → name_at text ≡ found name rest → IsDataName name × (text ≡ name ++ rest)
unfolding name_at
name_takes text name rest e =
    let n = name_len text in
    let parts = test_some (nat_le 1 n && nat_le n 32) (found (take n text) (drop n text)) (pair name rest) e in
    let tests = and_parts (nat_le 1 n) (nat_le n 32) parts.0 in
    let same = some_is (pair (take n text) (drop n text)) (pair name rest) parts.1 in
    let front : take n text ≡ name = ap (λ (p : List ℕ × List ℕ). p.0) same in
    let back : drop n text ≡ rest = ap (λ (p : List ℕ × List ℕ). p.1) same in
    let count = length-take-le n text (prefix_len-le-length is_name_byte text) in
    let long = ap length front in (
      record {
        some = omega (arith, long, count, leb-true 1 n tests.0);
        few = omega (arith, long, count, leb-true n 32 tests.1);
        each = subst (λ (t : List ℕ). IsTrue (list_all is_name_byte t)) front (all_taken is_name_byte text);
      },
      sym (take-append-drop n text) ∙ ap (λ (t : List ℕ). t ++ drop n text) front ∙ ap (λ (t : List ℕ). name ++ t) back,
    )

pub name_again : (name rest : List ℕ) (byte : ℕ) → IsDataName name → is_name_byte byte ≡ false
    → name_at (name ++ byte ∷ rest) ≡ found name (byte ∷ rest)
unfolding name_at
name_again name rest byte h stop =
    let len = run_then is_name_byte name rest byte h.each stop in
    let test = and_from (nat_le 1 (length name)) (nat_le (length name) 32) (le-leb 1 (length name) (omega
    (arith, h.some)))
    (le-leb (length name) 32 h.few) in
    rw (len, test, take_at name (byte ∷ rest) (length name) refl, drop_at name (byte ∷ rest) (length name) refl) refl

-- ---- what a value gave

-- ---- parameters

-- what is read of a parameter
record ReadsParam (text : List ℕ) (param : Param) (rest : List ℕ) : Type 0 where
  values : List ℕ
  name : name_at text ≡ found param.name (61 ∷ 34 ∷ values)
  value : value_at values ≡ found (flat_map character_text param.value) rest

param_reads : (text rest : List ℕ) (param : Param) → SpellsParam text param rest → ReadsParam text param rest
param_reads text rest param h =
    let values = value_source param.value ++ rest in
    let is : text ≡ param.name ++ 61 ∷ 34 ∷ values =
    ap (drop 1) h.spelled ∙ append_assoc param.name (61 ∷ 34 ∷ value_source param.value) rest in
    record {
      values = values;
      name = ap name_at is ∙ name_again param.name (34 ∷ values) 61 h.is_param.name refl;
      value = value_again param.value rest h.is_param.value;
    }

abbrev fields_with : List Field → List ℕ → List ℕ → List ℕ → List Field
fields_with old id name value = set_field old (id ++ 46 ∷ name) (utf8_lossy value)

-- the parts of a parameter, as they were read
pub record PartsOf (text name inside value after : List ℕ) : Type 0 where
  pub rest : List ℕ
  pub quoted : List ℕ
  pub name_is : found name rest ≡ name_at text
  pub equals : Some quoted ≡ past 61 rest
  pub quote : Some inside ≡ past 34 quoted
  pub value_is : value_at inside ≡ found value after

module _ (id text : List ℕ) (old new : List Field) where
  pub param_one : (name inside value after : List ℕ) → PartsOf text name inside value after
      → new ≡ fields_with old id name value → FindsOne (SpellsParam text) (param_fields id) old new (Some after)
  param_one name inside value after h set =
      let is_name = name_takes text name h.rest (sym h.name_is) in
      let value_h = value_takes inside value after h.value_is in
      let rest_is = past_some 61 h.rest h.quoted (sym h.equals) in
      let quoted_is = past_some 34 h.quoted inside (sym h.quote) in
      let param : Param = record { name = name; value = value_h.value } in (
        param,
        record {
          is_param = record { name = is_name.0; value = value_h.is_value };
          spelled = ap (λ (t : List ℕ). 32 ∷ t) (is_name.1
              ∙ ap (λ (t : List ℕ). name ++ t) (rest_is ∙ ap (λ (t : List ℕ). 61 ∷ t) (quoted_is
              ∙ ap (λ (t : List ℕ). 34 ∷ t) value_h.spelled))
              ∙ sym (append_assoc name (61 ∷ 34 ∷ value_source value_h.value) after));
        },
        set ∙ ap (λ (v : List ℕ). fields_with old id name v) value_h.text_is,
      )

  pub param_any : (name inside value after : List ℕ) → PartsOf text name inside value after
      → new ≡ fields_with old id name value → FindsAny (SpellsParam text) (param_fields id) old new (Some after)
  param_any name inside value after h set = λ param rest spells.
      let reads = param_reads text rest param spells in
      let names = some_is (pair name h.rest) (pair param.name (61 ∷ 34 ∷ reads.values)) (h.name_is ∙ reads.name) in
      let same : name ≡ param.name = ap (λ (p : List ℕ × List ℕ). p.0) names in
      let rest_is : h.rest ≡ 61 ∷ 34 ∷ reads.values = ap (λ (p : List ℕ × List ℕ). p.1) names in
      let quoted_is : h.quoted ≡ 34 ∷ reads.values =
      some_is h.quoted (34 ∷ reads.values) (h.equals ∙ ap (past 61) rest_is ∙ past_again 61 (34 ∷ reads.values)) in
      let inside_is : inside ≡ reads.values =
      some_is inside reads.values (h.quote ∙ ap (past 34) quoted_is ∙ past_again 34 reads.values) in
      let values = some_is (pair value after) (pair (flat_map character_text param.value) rest)
      (sym h.value_is ∙ ap value_at inside_is ∙ reads.value) in (
        ap Some (ap (λ (p : List ℕ × List ℕ). p.1) values),
        set ∙ ap (λ (n : List ℕ). fields_with old id n value) same
            ∙ ap (λ (v : List ℕ). fields_with old id param.name v) (ap (λ (p : List ℕ × List ℕ). p.0) values),
      )

  pub no_name : None ≡ name_at text → FindsAny (SpellsParam text) (param_fields id) old new None
  no_name none = λ param rest spells.
      absurd (none-some _ (none ∙ (param_reads text rest param spells).name))

  pub no_equals : (name rest : List ℕ) → found name rest ≡ name_at text → None ≡ past 61 rest
      → FindsAny (SpellsParam text) (param_fields id) old new None
  no_equals name rest name_is none = λ param after spells.
      let reads = param_reads text after param spells in
      let names = some_is (pair name rest) (pair param.name (61 ∷ 34 ∷ reads.values)) (name_is ∙ reads.name) in
      absurd (none-some (34 ∷ reads.values) (none ∙ ap (past 61) (ap (λ (p : List ℕ × List ℕ). p.1) names)
      ∙ past_again 61 (34 ∷ reads.values)))

  pub no_quote : (name rest quoted : List ℕ) → found name rest ≡ name_at text → Some quoted ≡ past 61 rest
      → None ≡ past 34 quoted → FindsAny (SpellsParam text) (param_fields id) old new None
  no_quote name rest quoted name_is equals none = λ param after spells.
      let reads = param_reads text after param spells in
      let names = some_is (pair name rest) (pair param.name (61 ∷ 34 ∷ reads.values)) (name_is ∙ reads.name) in
      let quoted_is : quoted ≡ 34 ∷ reads.values =
      some_is quoted (34 ∷ reads.values) (equals ∙ ap (past 61) (ap (λ (p : List ℕ × List ℕ). p.1) names)
      ∙ past_again 61 (34 ∷ reads.values)) in
      absurd (none-some reads.values (none ∙ ap (past 34) quoted_is ∙ past_again 34 reads.values))

  no_value : (name rest quoted inside : List ℕ) → found name rest ≡ name_at text → Some quoted ≡ past 61 rest
      → Some inside ≡ past 34 quoted → value_at inside ≡ None → (left : Option (List ℕ))
      → FindsAny (SpellsParam text) (param_fields id) old new left
  no_value name rest quoted inside name_is equals quote none left = λ param after spells.
      let reads = param_reads text after param spells in
      let names = some_is (pair name rest) (pair param.name (61 ∷ 34 ∷ reads.values)) (name_is ∙ reads.name) in
      let quoted_is : quoted ≡ 34 ∷ reads.values =
      some_is quoted (34 ∷ reads.values) (equals ∙ ap (past 61) (ap (λ (p : List ℕ × List ℕ). p.1) names)
      ∙ past_again 61 (34 ∷ reads.values)) in
      let inside_is : inside ≡ reads.values =
      some_is inside reads.values (quote ∙ ap (past 34) quoted_is ∙ past_again 34 reads.values) in
      absurd (none-some _ (sym none ∙ ap value_at inside_is ∙ reads.value))

  -- where the field of the value is set, that of the parameter is
  module _ (name rest quoted inside field : List ℕ) (left : Option (List ℕ)) (name_is : found name rest ≡ name_at text)
      (equals : Some quoted ≡ past 61 rest) (quote : Some inside ≡ past 34 quoted) (field_is : field ≡ id ++ 46 ∷ name)
    where
      parts : (value after : List ℕ) → value_at inside ≡ found value after → PartsOf text name inside value after
      parts value after is =
          record { rest = rest; quoted = quoted; name_is = name_is; equals = equals; quote = quote; value_is = is }

      renamed : (value : List ℕ) → new ≡ set_field old field (utf8_lossy value) → new ≡ fields_with old id name value
      renamed value set = set ∙ ap (λ (n : List ℕ). set_field old n (utf8_lossy value)) field_is

      pub value_one : SetsValue (value_at inside) field old new left
          → FindsOne (SpellsParam text) (param_fields id) old new left
      value_one = by_case (value_at inside) refl
        where
          by_case : (o : Option (List ℕ × List ℕ)) → value_at inside ≡ o → SetsValue o field old new left
              → FindsOne (SpellsParam text) (param_fields id) old new left
          by_case None is sets = subst (FindsOne (SpellsParam text) (param_fields id) old new) (sym sets) tt
          by_case (Some x) is sets =
              subst (FindsOne (SpellsParam text) (param_fields id) old new) (sym sets.0)
              (param_one name inside x.0 x.1 (parts x.0 x.1 is) (renamed x.0 sets.1))

      pub value_any : SetsValue (value_at inside) field old new left
          → FindsAny (SpellsParam text) (param_fields id) old new left
      value_any = by_case (value_at inside) refl
        where
          by_case : (o : Option (List ℕ × List ℕ)) → value_at inside ≡ o → SetsValue o field old new left
              → FindsAny (SpellsParam text) (param_fields id) old new left
          by_case None is sets = no_value name rest quoted inside name_is equals quote is left
          by_case (Some x) is sets =
              subst (FindsAny (SpellsParam text) (param_fields id) old new) (sym sets.0)
              (param_any name inside x.0 x.1 (parts x.0 x.1 is) (renamed x.0 sets.1))
