-- Parameters one after another, elements one after another, and structured data.
use Rattle.std.proofs.Common.{◌≡◌, ℕ, ◌<◌, true, false, List, [], ◌∷◌, ◌++◌, length, map, drop, get_or}
use Rattle.std.proofs.Common.{Option, Some, None, refl, sym, ap, subst, arith, ◌∙◌}
use Rattle.std.specs.Prelude.{flat_map}
use Rattle.std.specs.List.{AllByRecursion}
use Rattle.std.proofs.lemmas.Bool.{eqb-true, false≢true}
use Rattle.std.proofs.lemmas.Grind.{flat_map-append}
use Rattle.std.proofs.lemmas.List.{append_assoc, append-nil, length-append, map-append}
use Rattle.std.proofs.lemmas.List.Sums.{fold-append}
use Rattle.std.proofs.lemmas.Option.{none-some}
use Rattle.vl_row.proofs.Sorted.{all_append}
use Rattle.time_text.proofs.Counts.{some_is}
use Rattle.log_model.specs.Field.{Field, set_field, set_all}
use Rattle.syslog_in.specs.Message.{Param, IsParam, param_source, param_field, Element, IsElement, element_source}
use Rattle.syslog_in.specs.Message.{data_source}
use Rattle.syslog_in.specs.Message.{data_fields}
use Rattle.syslog_in.specs.DataReading.{FindsOne, FindsAny, SpellsParam, SpellsParams, param_fields, params_fields}
use Rattle.syslog_in.specs.DataReading.{SpellsElement}
use Rattle.syslog_in.specs.DataReading.{element_fields, SpellsElements, SpellsParameters, SpellsData, IsNoBracket}
use Rattle.syslog_in.specs.DataReading.{is_end, name_at}
use Rattle.syslog_in.specs.HeaderReading.{past}
use Rattle.syslog_in.proofs.Priorities.{past_some, past_again}
use Rattle.syslog_in.proofs.Params.{found, name_takes, name_again}
use Rattle.syslog_in.proofs.Values.{pair}

-- fields that are set one after another
set_more : (old first more : List Field) → set_all old (first ++ more) ≡ set_all (set_all old first) more
set_more old first more = fold-append (λ fields field. set_field fields field.0 field.1) old first more

-- ---- parameters

-- So far these parameters were read. Whatever parameters the text has, the others are left.
pub record ParamsSoFar (id text rest : List ℕ) (old new : List Field) : Type 0 where
  pub params : List Param
  pub are_params : AllByRecursion IsParam params
  pub spelled : text ≡ flat_map param_source params ++ rest
  pub set : new ≡ set_all old (params_fields id params)
  pub left :
      (all : List Param) (end : List ℕ) → SpellsParams text all end
      → (more : List Param) × SpellsParams rest more end
      × (set_all old (params_fields id all) ≡ set_all new (params_fields id more))

pub no_params : (id text : List ℕ) (old : List Field) → ParamsSoFar id text text old old
no_params id text old = record {
  params = [];
  are_params = tt;
  spelled = refl;
  set = refl;
  left = λ all end spells. (all, spells, refl);
}

-- the first of parameters, where a blank stands
first_param : (param : List ℕ) (more : List Param) (end : List ℕ) → SpellsParams (32 ∷ param) more end
    → (p : Param) × (others : List Param) × (more ≡ p ∷ others)
    × SpellsParam param p (flat_map param_source others ++ 93 ∷ end)
    × AllByRecursion IsParam others
first_param param [] end h = absurd (let wrong = ap (λ (t : List ℕ). get_or t 0 0) h.spelled in omega arith)
first_param param (p ∷ others) end h = (
  p,
  others,
  refl,
  record {
    is_param = h.are_params.0;
    spelled = h.spelled ∙ append_assoc (param_source p) (flat_map param_source others) (93 ∷ end);
  },
  h.are_params.1,
)

-- no parameter is left where no blank stands
no_blank : (rest : List ℕ) (more : List Param) (end : List ℕ) → None ≡ past 32 rest → SpellsParams rest more end
    → (more ≡ []) × (rest ≡ 93 ∷ end)
no_blank rest [] end none h = (refl, h.spelled)
no_blank rest (p ∷ others) end none h =
    let blank = ap (past 32) (h.spelled ∙ append_assoc (param_source p) (flat_map param_source others) (93 ∷ end)) in
    absurd (none-some _ (none ∙ blank ∙ past_again 32 _))

module _ (id text rest : List ℕ) (old new : List Field) (h : ParamsSoFar id text rest old new) where
  pub one_param : (param after : List ℕ) (next : List Field) → Some param ≡ past 32 rest
      → FindsOne (SpellsParam param) (param_fields id) new next (Some after)
      → FindsAny (SpellsParam param) (param_fields id) new next (Some after)
      → ParamsSoFar id text after old next
  one_param param after next blank one any =
      let rest_is : rest ≡ 32 ∷ param = past_some 32 rest param (sym blank) in
      let p = one.0 in
      record {
        params = h.params ++ p ∷ [];
        are_params = all_append IsParam h.params (p ∷ []) h.are_params (one.1.is_param, tt);
        spelled = h.spelled ∙ ap (λ (t : List ℕ). flat_map param_source h.params ++ t) (rest_is ∙ one.1.spelled
            ∙ ap (λ (t : List ℕ). t ++ after) (sym (append-nil (param_source p))))
            ∙ sym (append_assoc (flat_map param_source h.params) (flat_map param_source (p ∷ [])) after)
            ∙ ap (λ (t : List ℕ). t ++ after) (sym (flat_map-append param_source h.params (p ∷ [])));
        set = one.2 ∙ ap (λ (f : List Field). set_all f (param_fields id p)) h.set
            ∙ sym (set_more old (params_fields id h.params) (param_fields id p))
            ∙ ap (set_all old) (sym (map-append (param_field id) h.params (p ∷ [])));
        left = λ all end spells.
            let others = h.left all end spells in
            let first = first_param param others.0 end (subst (λ
            (t : List ℕ). SpellsParams t others.0 end) rest_is others.1) in
            let same = any first.0 (flat_map param_source first.1 ++ 93 ∷ end) first.3 in (
              first.1,
              record { are_params = first.4; spelled = some_is after _ same.0 },
              others.2 ∙ ap (λ (ps : List Param). set_all new (params_fields id ps)) first.2
                  ∙ ap (λ (f : List Field). set_all f (params_fields id first.1)) (sym same.1),
            );
      }

  pub last_one : (found_end : Option (List ℕ)) → None ≡ past 32 rest → found_end ≡ past 93 rest
      → FindsOne (SpellsParams text) (params_fields id) old new found_end
  last_one None none is = tt
  last_one (Some end) none is = (
    h.params,
    record {
      are_params = h.are_params;
      spelled = h.spelled ∙ ap (λ (t : List ℕ). flat_map param_source h.params ++ t) (past_some 93 rest end (sym is));
    },
    h.set,
  )

  pub last_any : (found_end : Option (List ℕ)) → None ≡ past 32 rest → found_end ≡ past 93 rest
      → FindsAny (SpellsParams text) (params_fields id) old new found_end
  last_any found_end none is = λ all end spells.
      let others = h.left all end spells in
      let end_is = no_blank rest others.0 end none others.1 in (
        is ∙ ap (past 93) end_is.1 ∙ past_again 93 end,
        sym (others.2 ∙ ap (λ (ps : List Param). set_all new (params_fields id ps)) end_is.0),
      )

  pub stuck_any : (param : List ℕ) (next : List Field) → Some param ≡ past 32 rest
      → FindsAny (SpellsParam param) (param_fields id) new next None
      → FindsAny (SpellsParams text) (params_fields id) old next None
  stuck_any param next blank any = λ all end spells.
      let rest_is : rest ≡ 32 ∷ param = past_some 32 rest param (sym blank) in
      let others = h.left all end spells in
      let first = first_param param others.0 end (subst (λ
      (t : List ℕ). SpellsParams t others.0 end) rest_is others.1) in
      absurd (none-some _ (any first.0 (flat_map param_source first.1 ++ 93 ∷ end) first.3).0)

  pub param_shorter : (param after : List ℕ) (next : List Field) → Some param ≡ past 32 rest
      → FindsOne (SpellsParam param) (param_fields id) new next (Some after) → length after < length rest
  param_shorter param after next blank one =
      let rest_is = past_some 32 rest param (sym blank) in
      let spelled = one.1.spelled in
      omega (arith, ap length rest_is, ap length spelled, length-append (param_source one.0) after)

-- ---- elements

-- the id of an element, and the parameters after it
element_reads : (text rest : List ℕ) (element : Element) → SpellsElement text element rest
    → (behind : List ℕ) × (name_at text ≡ found element.id behind) × SpellsParams behind element.params rest
element_reads text rest element h =
    let is : text ≡ element.id ++ (flat_map param_source element.params ++ 93 ∷ rest) =
    ap (drop 1) h.spelled ∙ append_assoc element.id (flat_map param_source element.params ++ 93 ∷ []) rest
    ∙ ap (λ (t : List ℕ). element.id ++ t) (append_assoc (flat_map param_source element.params) (93 ∷ []) rest) in (
      flat_map param_source element.params ++ 93 ∷ rest,
      ap name_at is ∙ named element.params,
      record { are_params = h.is_element.params; spelled = refl },
    )
  where
    named : (params : List Param) → name_at (element.id ++ (flat_map param_source params ++ 93 ∷ rest))
        ≡ found element.id (flat_map param_source params ++ 93 ∷ rest)
    named [] = name_again element.id rest 93 h.is_element.id refl
    named (p ∷ params) =
        let behind = append_assoc (param_source p) (flat_map param_source params) (93 ∷ rest) in
        ap (λ (t : List ℕ). name_at (element.id ++ t)) behind
        ∙ name_again element.id _ 32 h.is_element.id refl ∙ ap (found element.id) (sym behind)

module _ (text : List ℕ) (old new : List Field) where
  pub element_one : (id rest : List ℕ) (found_end : Option (List ℕ)) → found id rest ≡ name_at text
      → FindsOne (SpellsParams rest) (params_fields id) old new found_end
      → FindsOne (SpellsElement text) element_fields old new found_end
  element_one id rest None name one = tt
  element_one id rest (Some end) name one =
      let is_name = name_takes text id rest (sym name) in (
        record { id = id; params = one.0 },
        record {
          is_element = record { id = is_name.0; params = one.1.are_params };
          spelled = ap (λ (t : List ℕ). 91 ∷ t) (is_name.1 ∙ ap (λ (t : List ℕ). id ++ t) (one.1.spelled
              ∙ sym (append_assoc (flat_map param_source one.0) (93 ∷ []) end))
              ∙ sym (append_assoc id (flat_map param_source one.0 ++ 93 ∷ []) end));
        },
        one.2,
      )

  pub element_any : (id rest : List ℕ) (found_end : Option (List ℕ)) → found id rest ≡ name_at text
      → FindsAny (SpellsParams rest) (params_fields id) old new found_end
      → FindsAny (SpellsElement text) element_fields old new found_end
  element_any id rest found_end name any = λ element end spells.
      let reads = element_reads text end element spells in
      let names = some_is (pair id rest) (pair element.id reads.0) (name ∙ reads.1) in
      let same : id ≡ element.id = ap (λ (p : List ℕ × List ℕ). p.0) names in
      let rest_is : rest ≡ reads.0 = ap (λ (p : List ℕ × List ℕ). p.1) names in
      let got = any element.params end (subst (λ (t : List ℕ). SpellsParams t element.params end)
      (sym rest_is) reads.2) in
      (got.0, got.1 ∙ ap (λ (n : List ℕ). set_all old (params_fields n element.params)) same)

  pub element_none : None ≡ name_at text → FindsAny (SpellsElement text) element_fields old new None
  element_none none = λ element end spells. absurd (none-some _ (none ∙ (element_reads text end element spells).1))

-- ---- elements one after another

-- So far these elements were read, and another one begins. Whatever elements the text has, the others are left.
pub record ElementsSoFar (text inside : List ℕ) (old new : List Field) : Type 0 where
  pub elements : List Element
  pub are_elements : AllByRecursion IsElement elements
  pub spelled : 91 ∷ text ≡ flat_map element_source elements ++ 91 ∷ inside
  pub set : new ≡ set_all old (data_fields elements)
  pub left :
      (all : List Element) (end : List ℕ) → SpellsElements text all end
      → (more : List Element) × SpellsElements inside more end
      × (set_all old (data_fields all) ≡ set_all new (data_fields more))

pub no_elements : (text : List ℕ) (old : List Field) → ElementsSoFar text text old old
no_elements text old = record {
  elements = [];
  are_elements = tt;
  spelled = refl;
  set = refl;
  left = λ all end spells. (all, spells, refl);
}

-- the first of elements
first_element : (inside : List ℕ) (more : List Element) (end : List ℕ) → SpellsElements inside more end
    → (e : Element) × (others : List Element) × (more ≡ e ∷ others)
    × SpellsElement inside e (flat_map element_source others ++ end) × AllByRecursion IsElement others
first_element inside [] end h = absurd (no_end end h.spelled h.no_more)
  where
    no_end : (rest : List ℕ) → 91 ∷ inside ≡ rest → IsNoBracket rest → ⊥
    no_end [] e b = cc
    no_end (byte ∷ bytes) e b = b (sym (ap (λ (t : List ℕ). get_or t 0 0) e))
first_element inside (e ∷ others) end h = (
  e,
  others,
  refl,
  record {
    is_element = h.are_elements.0;
    spelled = h.spelled ∙ append_assoc (element_source e) (flat_map element_source others) end;
  },
  h.are_elements.1,
)

data_more : (old : List Field) (first : List Element) (e : Element)
    → set_all old (data_fields (first ++ e ∷ [])) ≡ set_all (set_all old (data_fields first)) (element_fields e)
data_more old first e =
    ap (set_all old) (flat_map-append (λ (x : Element). map (param_field x.id) x.params) first (e ∷ [])
    ∙ ap (λ (f : List Field). data_fields first ++ f) (append-nil (element_fields e)))
    ∙ set_more old (data_fields first) (element_fields e)

no_bracket_past : (rest : List ℕ) → None ≡ past 91 rest → IsNoBracket rest
no_bracket_past [] none = tt
no_bracket_past (byte ∷ bytes) none = λ is.
    absurd (none-some bytes (none ∙ ap (λ (c : ℕ). past 91 (c ∷ bytes)) is ∙ past_again 91 bytes))

past_no_bracket : (rest next : List ℕ) → Some next ≡ past 91 rest → IsNoBracket rest → ⊥
past_no_bracket [] next some no_more = cc
past_no_bracket (byte ∷ bytes) next some no_more =
    no_more (ap (λ (t : List ℕ). get_or t 0 0) (past_some 91 (byte ∷ bytes) next (sym some)))

module _ (text inside : List ℕ) (old new : List Field) (h : ElementsSoFar text inside old new) where
  spelled_more : (e : Element) (rest : List ℕ) → SpellsElement inside e rest
      → 91 ∷ text ≡ flat_map element_source (h.elements ++ e ∷ []) ++ rest
  spelled_more e rest spells =
      h.spelled ∙ ap (λ (t : List ℕ). flat_map element_source h.elements ++ t) (spells.spelled
      ∙ ap (λ (t : List ℕ). t ++ rest) (sym (append-nil (element_source e))))
      ∙ sym (append_assoc (flat_map element_source h.elements) (flat_map element_source (e ∷ [])) rest)
      ∙ ap (λ (t : List ℕ). t ++ rest) (sym (flat_map-append element_source h.elements (e ∷ [])))

  set_one : (e : Element) (next : List Field) → next ≡ set_all new (element_fields e)
      → next ≡ set_all old (data_fields (h.elements ++ e ∷ []))
  set_one e next is =
      is ∙ ap (λ (f : List Field). set_all f (element_fields e)) h.set ∙ sym (data_more old h.elements e)

  -- whatever elements the text has, the first of those left is the one that was read
  others_left : (rest : List ℕ) (next : List Field)
      → FindsAny (SpellsElement inside) element_fields new next (Some rest)
      → (all : List Element) (end : List ℕ) → SpellsElements text all end
      → (others : List Element) × (rest ≡ flat_map element_source others ++ end) × AllByRecursion IsElement others
      × (set_all old (data_fields all) ≡ set_all next (data_fields others))
  others_left rest next any all end spells =
      let left = h.left all end spells in
      let first = first_element inside left.0 end left.1 in
      let same = any first.0 (flat_map element_source first.1 ++ end) first.3 in (
        first.1,
        some_is rest _ same.0,
        first.4,
        left.2 ∙ ap (λ (es : List Element). set_all new (data_fields es)) first.2
            ∙ set_more new (element_fields first.0) (data_fields first.1)
            ∙ ap (λ (f : List Field). set_all f (data_fields first.1)) (sym same.1),
      )

  pub one_element : (rest after : List ℕ) (next : List Field) → Some after ≡ past 91 rest
      → FindsOne (SpellsElement inside) element_fields new next (Some rest)
      → FindsAny (SpellsElement inside) element_fields new next (Some rest)
      → ElementsSoFar text after old next
  one_element rest after next bracket one any =
      let rest_is : rest ≡ 91 ∷ after = past_some 91 rest after (sym bracket) in
      record {
        elements = h.elements ++ one.0 ∷ [];
        are_elements = all_append IsElement h.elements (one.0 ∷ []) h.are_elements (one.1.is_element, tt);
        spelled = spelled_more one.0 rest one.1
            ∙ ap (λ (t : List ℕ). flat_map element_source (h.elements ++ one.0 ∷ []) ++ t) rest_is;
        set = set_one one.0 next one.2;
        left = λ all end spells.
            let left = others_left rest next any all end spells in (
              left.0,
              record {
                are_elements = left.2;
                spelled = sym rest_is ∙ left.1;
                no_more = spells.no_more;
              },
              left.3,
            );
      }

  pub end_one : (rest : List ℕ) (next : List Field) → None ≡ past 91 rest
      → FindsOne (SpellsElement inside) element_fields new next (Some rest)
      → FindsOne (SpellsElements text) data_fields old next (Some rest)
  end_one rest next bracket one = (
    h.elements ++ one.0 ∷ [],
    record {
      are_elements = all_append IsElement h.elements (one.0 ∷ []) h.are_elements (one.1.is_element, tt);
      spelled = spelled_more one.0 rest one.1;
      no_more = no_bracket_past rest bracket;
    },
    set_one one.0 next one.2,
  )

  pub end_any : (rest : List ℕ) (next : List Field) → None ≡ past 91 rest
      → FindsAny (SpellsElement inside) element_fields new next (Some rest)
      → FindsAny (SpellsElements text) data_fields old next (Some rest)
  end_any rest next bracket any = λ all end spells.
      let left = others_left rest next any all end spells in
      last all end left.0 left.1 left.3
    where
      last : (all : List Element) (end : List ℕ) (others : List Element) → rest ≡ flat_map element_source others ++ end
          → set_all old (data_fields all) ≡ set_all next (data_fields others)
          → (Some rest ≡ Some end) × (next ≡ set_all old (data_fields all))
      last all end [] is set = (ap Some is, sym set)
      last all end (e ∷ others) is set = absurd (none-some _ (bracket ∙ ap (past 91) is ∙ past_again 91 _))

  pub stuck_elements : (next : List Field) → FindsAny (SpellsElement inside) element_fields new next None
      → FindsAny (SpellsElements text) data_fields old next None
  stuck_elements next any = λ all end spells.
      let left = h.left all end spells in
      let first = first_element inside left.0 end left.1 in
      absurd (none-some _ (any first.0 (flat_map element_source first.1 ++ end) first.3).0)

  pub element_shorter : (rest after : List ℕ) (next : List Field) → Some after ≡ past 91 rest
      → FindsOne (SpellsElement inside) element_fields new next (Some rest) → length after < length inside
  element_shorter rest after next bracket one =
      let rest_is = past_some 91 rest after (sym bracket) in
      let whole = ap length one.1.spelled in
      let id = length-append one.0.id (flat_map param_source one.0.params ++ 93 ∷ []) in
      omega (
        arith,
        ap length rest_is,
        whole,
        length-append (element_source one.0) rest,
        id,
        length-append (flat_map param_source one.0.params) (93 ∷ []),
      )

-- ---- structured data

brackets : (inside : List ℕ) (elements : List Element) (rest : List ℕ) → SpellsElements inside elements rest
    → flat_map element_source elements ≡ data_source elements
brackets inside [] rest h = absurd (first_none rest h.spelled h.no_more)
  where
    first_none : (bytes : List ℕ) → 91 ∷ inside ≡ bytes → IsNoBracket bytes → ⊥
    first_none [] e b = cc
    first_none (byte ∷ more) e b = b (sym (ap (λ (t : List ℕ). get_or t 0 0) e))
brackets inside (e ∷ elements) rest h = refl

module _ (text : List ℕ) (old : List Field) where
  pub nil_one : (found_end : Option (List ℕ)) → found_end ≡ past 45 text
      → FindsOne (SpellsParameters text) data_fields old old found_end
  nil_one None is = tt
  nil_one (Some rest) is = ([], record { are_elements = tt; spelled = past_some 45 text rest (sym is) }, refl)

  pub nil_any : (found_end : Option (List ℕ)) → None ≡ past 91 text → found_end ≡ past 45 text
      → FindsAny (SpellsData text) data_fields old old found_end
  nil_any found_end none is = λ elements rest spells. by_elements elements rest spells.spelled
    where
      by_elements : (elements : List Element) (rest : List ℕ) → text ≡ data_source elements ++ rest
          → (found_end ≡ Some rest) × (old ≡ set_all old (data_fields elements))
      by_elements [] rest spelled = (is ∙ ap (past 45) spelled ∙ past_again 45 rest, refl)
      by_elements (e ∷ elements) rest spelled =
          absurd (none-some _ (none ∙ ap (past 91) spelled ∙ past_again 91 _))

  pub data_one : (inside : List ℕ) (new : List Field) (found_end : Option (List ℕ)) → Some inside ≡ past 91 text
      → FindsOne (SpellsElements inside) data_fields old new found_end
      → FindsOne (SpellsParameters text) data_fields old new found_end
  data_one inside new None bracket one = tt
  data_one inside new (Some rest) bracket one = (
    one.0,
    record {
      are_elements = one.1.are_elements;
      spelled = past_some 91 text inside (sym bracket) ∙ one.1.spelled
          ∙ ap (λ (t : List ℕ). t ++ rest) (brackets inside one.0 rest one.1);
    },
    one.2,
  )

  pub data_any : (inside : List ℕ) (new : List Field) (found_end : Option (List ℕ)) → Some inside ≡ past 91 text
      → FindsAny (SpellsElements inside) data_fields old new found_end
      → FindsAny (SpellsData text) data_fields old new found_end
  data_any inside new found_end bracket any = λ elements rest spells.
      let text_is = past_some 91 text inside (sym bracket) in
      by_elements elements rest spells (sym text_is ∙ spells.spelled)
    where
      no_bracket : (rest : List ℕ) → is_end rest ≡ true → IsNoBracket rest
      no_bracket [] e = tt
      no_bracket (byte ∷ bytes) e = λ is. absurd (omega (arith, eqb-true byte 32 e, is))

      by_elements : (elements : List Element) (rest : List ℕ) → SpellsData text elements rest
          → 91 ∷ inside ≡ data_source elements ++ rest
          → (found_end ≡ Some rest) × (new ≡ set_all old (data_fields elements))
      by_elements [] rest spells spelled =
          absurd (let wrong = ap (λ (t : List ℕ). get_or t 0 0) spelled in omega arith)
      by_elements (e ∷ elements) rest spells spelled =
          any (e ∷ elements) rest (record {
            are_elements = spells.are_elements;
            spelled = spelled;
            no_more = no_bracket rest spells.ends;
          })

  pub whole_one : (new : List Field) (rest : List ℕ) → is_end rest ≡ true
      → FindsOne (SpellsParameters text) data_fields old new (Some rest)
      → FindsOne (SpellsData text) data_fields old new (Some rest)
  whole_one new rest ends one =
      (one.0, record { are_elements = one.1.are_elements; spelled = one.1.spelled; ends = ends }, one.2)

  pub no_end_any : (new : List Field) (rest : List ℕ) → is_end rest ≡ false
      → FindsAny (SpellsData text) data_fields old new (Some rest)
      → FindsAny (SpellsData text) data_fields old new None
  no_end_any new rest no_end any = λ elements end spells.
      let same = some_is rest end (any elements end spells).0 in
      absurd (false≢true (sym (sym (ap is_end same) ∙ no_end) ∙ spells.ends))
