-- Headers by their parts.
use Rattle.std.proofs.Common.{◌≡◌, ℕ, ◌-◌, ◌≤◌, List, [], ◌∷◌, length, Option, Some, None, ℤ, refl, sym, ap}
use Rattle.std.proofs.Common.{subst}
use Rattle.std.proofs.Common.{arith, ◌∙◌}
use Rattle.std.specs.List.{list_all}
use Rattle.std.proofs.lemmas.List.{length-append}
use Rattle.std.proofs.lemmas.Option.{none-some}
use Rattle.time_text.proofs.Counts.{some_is}
use Rattle.syslog_in.specs.Message.{IsTime, NameTexts}
use Rattle.syslog_in.specs.Parts.{Part, version, timestamp, IsPart, Behind, Stands, AreParts, BeginsWithPri, LacksPart}
use Rattle.syslog_in.specs.Parts.{LacksName}
use Rattle.syslog_in.specs.DataReading.{is_no_blank}
use Rattle.syslog_in.specs.HeaderReading.{priority_at, AreNames, LacksNameIn, HeaderAt}
use Rattle.syslog_in.proofs.Standing.{stands_only}
use Rattle.syslog_in.proofs.NamesRead.{names_missing}
use Rattle.syslog_in.proofs.Priorities.{pair, priority_takes, priority_again}

abbrev pub pri_of : ℕ → List ℕ → Option (ℕ × List ℕ)
pri_of priority rest = Some (pair priority rest)

-- ---- places

behind_fits : (after rest : List ℕ) → Behind after rest → length rest ≤ length after
behind_fits [] rest h = omega (arith, ap length h)
behind_fits (byte ∷ bytes) rest h = omega (arith, ap length h.1)

stands_fits : (IsSo : List ℕ → Type 0) (text rest : List ℕ) → Stands IsSo text rest → length rest ≤ length text
stands_fits IsSo text rest h =
    omega (arith, ap length h.spelled, length-append h.part h.after, behind_fits h.after rest h.behind)

pub parts_fit : (parts : List Part) (text rest : List ℕ) → AreParts parts text rest → length rest ≤ length text
parts_fit [] text rest h = omega (arith, ap length h)
parts_fit (part ∷ parts) text rest h =
    omega (arith, stands_fits (IsPart part) text h.0 h.1, parts_fit parts h.0 rest h.2)

pub pri_fits : (text rest : List ℕ) → BeginsWithPri text rest → length rest ≤ length text
pri_fits text rest h = omega (arith, ap length h.spelled, length-append h.digits (62 ∷ rest))

-- ---- PRI

pub no_pri : (text : List ℕ) → None ≡ priority_at text → (rest : List ℕ) → BeginsWithPri text rest → ⊥
no_pri text none rest h = absurd (none-some _ (none ∙ priority_again text rest h))

pub has_pri : (text rest : List ℕ) (priority : ℕ) → pri_of priority rest ≡ priority_at text
    → (pri : BeginsWithPri text rest) × (pri.priority ≡ priority)
has_pri text rest priority e = priority_takes text (pair priority rest) (sym e)

pri_only : (text rest other : List ℕ) (priority : ℕ) → pri_of priority rest ≡ priority_at text
    → (pri : BeginsWithPri text other) → (pri.priority ≡ priority) × (other ≡ rest)
pri_only text rest other priority e pri =
    let same = some_is (pair priority rest) (pair pri.priority other) (e ∙ priority_again text other pri) in
    (sym (ap (λ (p : ℕ × List ℕ). p.0) same), sym (ap (λ (p : ℕ × List ℕ). p.1) same))

-- ---- the version

pub version_only : (text rest other : List ℕ) → Stands (IsPart version) text rest → Stands (IsPart version) text other
    → other ≡ rest
version_only text rest other h k =
    let one = stands_only (IsPart version) text rest h (ap (list_all is_no_blank) h.is_so) in
    let two = stands_only (IsPart version) text other k (ap (list_all is_no_blank) k.is_so) in
    two.1 ∙ sym one.1

-- ---- all of it

pub time_part : (text rest : List ℕ) (time : Option ℤ) → Stands (λ part. IsTime part time) text rest
    → Stands (IsPart timestamp) text rest
time_part text rest time h = record {
  part = h.part;
  after = h.after;
  is_so = (time, h.is_so);
  spelled = h.spelled;
  behind = h.behind;
}

module _ (text first : List ℕ) (priority : ℕ) (pri : pri_of priority first ≡ priority_at text) where
  at_version : (p : ℕ) (time : Option ℤ) (texts : NameTexts) (rest : List ℕ) (h : HeaderAt text p time texts rest)
      → (p ≡ priority) × Stands (IsPart version) first h.second
  at_version p time texts rest h =
      let same = pri_only text first h.first priority pri h.pri in (
        sym h.priority_is ∙ same.0,
        subst (λ (t : List ℕ). Stands (IsPart version) t h.second) same.1 h.is_version,
      )

  pub no_version : ((rest : List ℕ) → Stands (IsPart version) first rest → ⊥)
      → (p : ℕ) (time : Option ℤ) (texts : NameTexts) (rest : List ℕ) → HeaderAt text p time texts rest → ⊥
  no_version none p time texts rest h = none h.second (at_version p time texts rest h).1

  pub lacks_version : ((rest : List ℕ) → Stands (IsPart version) first rest → ⊥)
      → (at : ℕ) × LacksPart text [] version at
  lacks_version none = (
    length text - length first,
    record {
      start = first;
      rest = first;
      pri = (has_pri text first priority pri).0;
      parts = refl;
      lacks = none;
      at_is = refl;
    },
  )

  module _ (second : List ℕ) (is_version : Stands (IsPart version) first second) where
    at_time : (p : ℕ) (time : Option ℤ) (texts : NameTexts) (rest : List ℕ) (h : HeaderAt text p time texts rest)
        → Stands (λ part. IsTime part time) second h.third
    at_time p time texts rest h =
        let same = version_only first second h.second is_version (at_version p time texts rest h).1 in
        subst (λ (t : List ℕ). Stands (λ part. IsTime part time) t h.third) same h.is_time

    pub no_time : ((rest : List ℕ) → Stands (IsPart timestamp) second rest → ⊥)
        → (p : ℕ) (time : Option ℤ) (texts : NameTexts) (rest : List ℕ) → HeaderAt text p time texts rest → ⊥
    no_time none p time texts rest h = none h.third (time_part second h.third time (at_time p time texts rest h))

    pub lacks_time : ((rest : List ℕ) → Stands (IsPart timestamp) second rest → ⊥)
        → (at : ℕ) × LacksPart text (version ∷ []) timestamp at
    lacks_time none = (
      length text - length second,
      record {
        start = first;
        rest = second;
        pri = (has_pri text first priority pri).0;
        parts = (second, is_version, refl);
        lacks = none;
        at_is = refl;
      },
    )

    module _ (third : List ℕ) (time : Option ℤ) (is_time : Stands (λ part. IsTime part time) second third)
        (only : (other : Option ℤ) (rest : List ℕ) → Stands (λ part. IsTime part other) second rest
        → (other ≡ time) × (rest ≡ third)) where
      pub header_here : (texts : NameTexts) (rest : List ℕ) → AreNames third texts rest
          → HeaderAt text priority time texts rest
      header_here texts rest names =
          let found = has_pri text first priority pri in
          record {
            first = first;
            second = second;
            third = third;
            pri = found.0;
            priority_is = found.1;
            is_version = is_version;
            is_time = is_time;
            are_names = names;
          }

      at_names : (p : ℕ) (other : Option ℤ) (texts : NameTexts) (rest : List ℕ) → HeaderAt text p other texts rest
          → (other ≡ time) × AreNames third texts rest
      at_names p other texts rest h =
          let same = only other h.third (at_time p other texts rest h) in
          (same.0, subst (λ (t : List ℕ). AreNames t texts rest) same.1 h.are_names)

      pub header_only : (texts : NameTexts) (rest : List ℕ)
          → ((others : NameTexts) (left : List ℕ) → AreNames third others left → (others ≡ texts) × (left ≡ rest))
          → (p : ℕ) (other : Option ℤ) (others : NameTexts) (left : List ℕ) → HeaderAt text p other others left
          → (p ≡ priority) × (other ≡ time) × (others ≡ texts) × (left ≡ rest)
      header_only texts rest same p other others left h =
          let names = at_names p other others left h in
          let found = same others left names.1 in
          ((at_version p other others left h).0, names.0, found.0, found.1)

      pub names_fit : (left : ℕ) → LacksNameIn third left → left ≤ length text
      names_fit left h =
          omega (
            arith,
            h.left_is,
            parts_fit h.before third h.rest h.parts,
            stands_fits (λ part. IsTime part time) second third is_time,
            stands_fits (IsPart version) first second is_version,
            pri_fits text first (has_pri text first priority pri).0,
          )

      pub lacks_name : (left : ℕ) → LacksNameIn third left → LacksName text (length text - left)
      lacks_name left h = record {
        before = h.before;
        part = h.part;
        after = h.after;
        is_name = h.is_name;
        lacks = record {
          start = first;
          rest = h.rest;
          pri = (has_pri text first priority pri).0;
          parts = (second, is_version, (third, time_part second third time is_time, h.parts));
          lacks = h.lacks;
          at_is = ap (λ (n : ℕ). length text - n) h.left_is;
        };
      }

      pub no_names : (left : ℕ) → LacksNameIn third left
          → (p : ℕ) (other : Option ℤ) (texts : NameTexts) (rest : List ℕ) → HeaderAt text p other texts rest → ⊥
      no_names left h p other texts rest header =
          names_missing third texts rest left (at_names p other texts rest header).1 h
