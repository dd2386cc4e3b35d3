-- Names that stand one after another.
use Rattle.std.proofs.Common.{◌≡◌, ℕ, List, [], ◌∷◌, ◌++◌, length, refl, sym, ap, subst, ◌∙◌, Result, Ok, Err}
use Rattle.std.specs.Prelude.{IfErr}
use Rattle.std.specs.List.{AllByRecursion}
use Rattle.std.specs.Result.{IsErrAnd}
use Rattle.syslog_in.specs.Message.{IsName, NameTexts}
use Rattle.syslog_in.specs.Parts.{Part, version, timestamp, hostname, app_name, proc_id, msg_id, IsPart, names, Stands}
use Rattle.syslog_in.specs.Parts.{AreParts}
use Rattle.syslog_in.specs.DataReading.{first_part, behind_part}
use Rattle.syslog_in.specs.HeaderReading.{IsNamed, AreNames, LacksNameIn}
use Rattle.syslog_in.proofs.Standing.{stands_only, visible_no_blanks}

-- a name that stands, as the part that it is
pub as_named : (most : ℕ) (text name rest : List ℕ) → Stands (IsName most) text rest → name ≡ first_part text
    → Stands (IsNamed most name) text rest
as_named most text name rest h is = record {
  part = h.part;
  after = h.after;
  is_so = (h.is_so, (stands_only (IsName most) text rest h (visible_no_blanks h.part h.is_so.visible)).0 ∙ sym is);
  spelled = h.spelled;
  behind = h.behind;
}

pub named_only : (most : ℕ) (text name rest : List ℕ) → Stands (IsNamed most name) text rest
    → (name ≡ first_part text) × (rest ≡ behind_part text)
named_only most text name rest h =
    let same = stands_only (IsNamed most name) text rest h (visible_no_blanks h.part h.is_so.0.visible) in
    (sym h.is_so.1 ∙ same.0, same.1)

pub as_name : (most : ℕ) (text name rest : List ℕ) → Stands (IsNamed most name) text rest
    → Stands (IsName most) text rest
as_name most text name rest h = record {
  part = h.part;
  after = h.after;
  is_so = h.is_so.0;
  spelled = h.spelled;
  behind = h.behind;
}

-- why the names are missing, handed on
pub handed_on : {X : Type 0} (result : Result X ℕ) (text : List ℕ) (left : ℕ) → LacksNameIn text left
    → IsErrAnd result (λ e. e ≡ left) → IfErr result (λ e. LacksNameIn text e)
handed_on (Ok x) text left lacks same = tt
handed_on (Err e) text left lacks same = subst (LacksNameIn text) (sym same) lacks

module _ (text first second third left : List ℕ) where
  pub no_hostname : (n : ℕ) → ((rest : List ℕ) → Stands (IsName 255) text rest → ⊥) → n ≡ length text
      → LacksNameIn text n
  no_hostname n lacks is = record {
    before = [];
    part = hostname;
    after = app_name ∷ proc_id ∷ msg_id ∷ [];
    is_name = refl;
    rest = text;
    parts = refl;
    lacks = lacks;
    left_is = is;
  }

  pub no_app_name : (n : ℕ) → Stands (IsName 255) text first → ((rest : List ℕ) → Stands (IsName 48) first rest → ⊥)
      → n ≡ length first → LacksNameIn text n
  no_app_name n one lacks is = record {
    before = hostname ∷ [];
    part = app_name;
    after = proc_id ∷ msg_id ∷ [];
    is_name = refl;
    rest = first;
    parts = (first, one, refl);
    lacks = lacks;
    left_is = is;
  }

  pub no_proc_id : (n : ℕ) → Stands (IsName 255) text first → Stands (IsName 48) first second
      → ((rest : List ℕ) → Stands (IsName 128) second rest → ⊥) → n ≡ length second → LacksNameIn text n
  no_proc_id n one two lacks is = record {
    before = hostname ∷ app_name ∷ [];
    part = proc_id;
    after = msg_id ∷ [];
    is_name = refl;
    rest = second;
    parts = (first, one, (second, two, refl));
    lacks = lacks;
    left_is = is;
  }

  pub no_msg_id : (n : ℕ) → Stands (IsName 255) text first → Stands (IsName 48) first second
      → Stands (IsName 128) second third → ((rest : List ℕ) → Stands (IsName 32) third rest → ⊥) → n ≡ length third
      → LacksNameIn text n
  no_msg_id n one two three lacks is = record {
    before = hostname ∷ app_name ∷ proc_id ∷ [];
    part = msg_id;
    after = [];
    is_name = refl;
    rest = third;
    parts = (first, one, (second, two, (third, three, refl)));
    lacks = lacks;
    left_is = is;
  }

abbrev made : List ℕ → List ℕ → List ℕ → List ℕ → NameTexts
made hostname_text app_name_text proc_id_text msg_id_text = record {
  hostname = hostname_text;
  app_name = app_name_text;
  proc_id = proc_id_text;
  msg_id = msg_id_text;
}

-- the rests and the names are those at the start, one after another
pub names_only : (text : List ℕ) (texts others : NameTexts) (rest left : List ℕ) → AreNames text texts rest
    → AreNames text others left → (texts ≡ others) × (rest ≡ left)
names_only text texts others rest left h k =
    let h1 = named_only 255 text texts.hostname h.first h.hostname in
    let k1 = named_only 255 text others.hostname k.first k.hostname in
    let one : h.first ≡ k.first = h1.1 ∙ sym k1.1 in
    let h2 = named_only 48 h.first texts.app_name h.second h.app_name in
    let k2 = named_only 48 k.first others.app_name k.second k.app_name in
    let two : h.second ≡ k.second = h2.1 ∙ ap behind_part one ∙ sym k2.1 in
    let h3 = named_only 128 h.second texts.proc_id h.third h.proc_id in
    let k3 = named_only 128 k.second others.proc_id k.third k.proc_id in
    let three : h.third ≡ k.third = h3.1 ∙ ap behind_part two ∙ sym k3.1 in
    let h4 = named_only 32 h.third texts.msg_id rest h.msg_id in
    let k4 = named_only 32 k.third others.msg_id left k.msg_id in (
      same (h1.0 ∙ sym k1.0) (h2.0 ∙ ap first_part one ∙ sym k2.0) (h3.0 ∙ ap first_part two ∙ sym k3.0)
          (h4.0 ∙ ap first_part three ∙ sym k4.0),
      h4.1 ∙ ap behind_part three ∙ sym k4.1,
    )
  where
    same : texts.hostname ≡ others.hostname → texts.app_name ≡ others.app_name → texts.proc_id ≡ others.proc_id
        → texts.msg_id ≡ others.msg_id → texts ≡ others
    same a b c d =
        ap (λ (n : List ℕ). made n texts.app_name texts.proc_id texts.msg_id) a
        ∙ ap (λ (n : List ℕ). made others.hostname n texts.proc_id texts.msg_id) b
        ∙ ap (λ (n : List ℕ). made others.hostname others.app_name n texts.msg_id) c
        ∙ ap (λ (n : List ℕ). made others.hostname others.app_name others.proc_id n) d

part_only : (most : ℕ) (text rest other : List ℕ) → Stands (IsName most) text rest → Stands (IsName most) text other
    → rest ≡ other
part_only most text rest other h k =
    (stands_only (IsName most) text rest h (visible_no_blanks h.part h.is_so.visible)).1
    ∙ sym (stands_only (IsName most) text other k (visible_no_blanks k.part k.is_so.visible)).1

-- ---- where one is missing, they do not stand

-- parts that stand in a text, as far as they are the first of the names
pub names_from : (texts : NameTexts) (text rest : List ℕ) → AreNames text texts rest
    → AreParts names text rest
names_from texts text rest h = (
  h.first,
  as_name 255 text texts.hostname h.first h.hostname,
  (
    h.second,
    as_name 48 h.first texts.app_name h.second h.app_name,
    (
      h.third,
      as_name 128 h.second texts.proc_id h.third h.proc_id,
      (rest, as_name 32 h.third texts.msg_id rest h.msg_id, refl),
    ),
  ),
)

is_name_part : Part → Type 0
is_name_part version = ⊥
is_name_part timestamp = ⊥
is_name_part hostname = Unit {0}
is_name_part app_name = Unit {0}
is_name_part proc_id = Unit {0}
is_name_part msg_id = Unit {0}

-- a name stands in one way
name_part_only : (part : Part) (text rest other : List ℕ) → is_name_part part → Stands (IsPart part) text rest
    → Stands (IsPart part) text other → rest ≡ other
unfolding is_name_part
name_part_only version text rest other n h k = absurd n
name_part_only timestamp text rest other n h k = absurd n
name_part_only hostname text rest other n h k = part_only 255 text rest other h k
name_part_only app_name text rest other n h k = part_only 48 text rest other h k
name_part_only proc_id text rest other n h k = part_only 128 text rest other h k
name_part_only msg_id text rest other n h k = part_only 32 text rest other h k

are_name_parts : AllByRecursion is_name_part names
unfolding is_name_part
are_name_parts = (tt, (tt, (tt, (tt, tt))))

-- where a list of names stands, none of them is missing after those before it
none_missing : (all before after : List Part) (part : Part) (text rest middle : List ℕ) → all ≡ before ++ part ∷ after
    → AllByRecursion is_name_part all → AreParts all text rest → AreParts before text middle
    → ((more : List ℕ) → Stands (IsPart part) middle more → ⊥) → ⊥
none_missing [] [] after part text rest middle is each stand before_stand lacks = cc
none_missing [] (b ∷ before) after part text rest middle is each stand before_stand lacks = cc
none_missing (a ∷ all) [] after part text rest middle is each stand before_stand lacks =
    let same : a ≡ part = cc in
    lacks stand.0 (subst (λ (p : Part). Stands (IsPart p) middle stand.0) same
    (subst (λ (t : List ℕ). Stands (IsPart a) t stand.0) before_stand stand.1))
none_missing (a ∷ all) (b ∷ before) after part text rest middle is each stand before_stand lacks =
    let head : a ≡ b = cc in
    let tail : all ≡ before ++ part ∷ after = cc in
    let first = subst (λ (p : Part). Stands (IsPart p) text before_stand.0) (sym head) before_stand.1 in
    let same = name_part_only a text stand.0 before_stand.0 each.0 stand.1 first in
    none_missing all before after part before_stand.0 rest middle tail each.1
    (subst (λ (t : List ℕ). AreParts all t rest) same stand.2) before_stand.2 lacks

pub names_missing : (text : List ℕ) (texts : NameTexts) (rest : List ℕ) (left : ℕ) → AreNames text texts rest
    → LacksNameIn text left → ⊥
names_missing text texts rest left stand h =
    none_missing names h.before h.after h.part text rest h.rest h.is_name are_name_parts
    (names_from texts text rest stand)
    h.parts h.lacks
