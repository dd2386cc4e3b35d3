-- Objects and lines: what is read says so, and where nothing is read no object goes on.
use Rattle.std.proofs.Common.{◌≡◌, ℕ, suc, ◌+◌, ◌-◌, ◌<◌, ◌≤◌, Bool, true, false, List, [], ◌∷◌, ◌++◌, length, take}
use Rattle.std.proofs.Common.{drop, Some, None, Result, Ok, Err, refl, sym, ap, subst, ◌∙◌, append_assoc, arith, inl}
use Rattle.std.proofs.Common.{inr}
use Rattle.std.specs.Prelude.{IsUtf8}
use Rattle.std.proofs.lemmas.Bool.{cases_lt}
use Rattle.std.proofs.lemmas.List.{length-append, append-nil, take_at, take-append-drop, take-append-le}
use Rattle.log_model.specs.Field.{Field, set_all}
use Rattle.log_model.specs.Json.{IsSpace}
use Rattle.log_model.specs.Value.{object, Items, nothing, item, AreItems, all_within, series, IsSpelled, IsObjectText}
use Rattle.log_model.specs.Value.{member_fields}
use Rattle.log_model.specs.ObjectLine.{is_shallow, IsObjectLine, OpensObject, BeginsObject, IsTooDeep, IsLongestPrefix}
use Rattle.jsonline_in.specs.Reading.{after_space, past, Fault, deep, stuck, Reader, ◌>>=◌, fails, chosen_by, behind}
use Rattle.jsonline_in.specs.Reading.{items_at, nested_at, end_at, text_at}
use Rattle.jsonline_in.specs.Clauses.{mapped, Opens}
use Rattle.jsonline_in.specs.Faults.{SaysNothing}
use Rattle.jsonline_in.proofs.Copies.{mapped_ok}
use Rattle.jsonline_in.proofs.Good.{SameHead, Reach, shallow, any, Sticks, GoodAt, Good, good_both, good_made}
use Rattle.jsonline_in.proofs.Good.{good_behind, past_takes, past_again}
use Rattle.jsonline_in.proofs.Steps.{space_again, space_ends, space_at, good_space}
use Rattle.jsonline_in.proofs.Values.{AllNest, AreItemsText, good_items, good_nested}
use Rattle.jsonline_in.proofs.ValuesAgain.{fits, here, value_again, others_again, first_again, empty_again}

-- ---- an object, as readers take it

good_end : Good (λ reach x text. text ≡ []) end_at
unfolding end_at
good_end [] = record { text = []; parts = refl; inside = refl; again = at_end }
  where
    at_end : (other : List ℕ) → SameHead [] other → end_at other ≡ Ok (tt, other)
    at_end [] s = refl
    at_end (y ∷ other) s = absurd s
good_end (byte ∷ rest) = record {
  text = [];
  stop = byte ∷ rest;
  parts = refl;
  left_is = refl;
  x = tt;
  more = [];
  inside = refl;
  again = no_end;
}
  where
    no_end : (other : List ℕ) → SameHead (byte ∷ rest) other → end_at other ≡ Err (stuck (length other))
    no_end [] s = absurd s
    no_end (y ∷ other) s = refl

abbrev tail_of : Items → Reader Items
tail_of members bytes = end_at (after_space bytes) >>= λ end. Ok (members, end.1)

good_tail : (members : Items) → Good (λ reach x text. (x ≡ members) × IsSpace text) (tail_of members)
good_tail members = good_both (λ reach x text. IsSpace text) (λ o reach x text. (x ≡ members) × (text ≡ []))
    (λ reach x text. (x ≡ members) × IsSpace text)
    (record {
      join = λ reach x a y b p q. (
        q.0,
        subst (λ (t : List ℕ). IsSpace (a ++ t)) (sym q.1)
            (subst IsSpace (sym (append-nil a)) p),
      );
      widen = λ x a p. p;
      some = λ reach x a p. (members, [], (refl, refl));
    })
    space_at (λ x bytes. end_at bytes >>= λ end. Ok (members, end.1)) good_space
    (λ x. good_made (λ reach x text. text ≡ []) (λ reach x text. (x ≡ members) × (text ≡ [])) (λ end. members) end_at
    (λ reach x text e. (refl, e)) good_end)

-- what stands after an opening brace
pub record IsInside (reach : Reach) (members : Items) (text : List ℕ) : Type 0 where
  pub are : AreItems object members
  pub nest : AllNest 63 reach members
  pub prefix : List ℕ
  pub after : List ℕ
  pub spelled : IsSpelled (series object [] members) prefix
  pub space : IsSpace after
  pub parts : text ≡ prefix ++ after

good_text : Good IsInside text_at
unfolding text_at
good_text = good_both (AreItemsText 63 object []) (λ members reach x text. (x ≡ members) × IsSpace text) IsInside
    (record {
      join = λ reach members a x b p q. subst (λ (i : Items). IsInside reach i (a ++ b)) (sym q.0)
          (record {
            are = p.are;
            nest = p.nest;
            prefix = a;
            after = b;
            spelled = p.spelled;
            space = q.1;
            parts = refl;
          });
      widen = λ x a p. record { are = p.are; nest = tt; spelled = p.spelled };
      some = λ reach members a p. (members, [], (refl, refl));
    })
    (items_at (nested_at 63) object) tail_of (good_items 63 (nested_at 63) (good_nested 63) object) good_tail

-- an object with white space round it
pub record IsObjectHere (reach : Reach) (members : Items) (text : List ℕ) : Type 0 where
  pub nest : AllNest 63 reach members
  pub is_object : IsObjectText text members

abbrev pub object_at : Reader Items
object_at bytes = behind 123 text_at (after_space bytes)

object_text : (reach : Reach) (space text : List ℕ) (members : Items) → IsSpace space → IsInside reach members text
    → IsObjectHere reach members (space ++ 123 ∷ text)
object_text reach space text members is p = record {
  nest = p.nest;
  is_object = record {
    prefix = space ++ 123 ∷ p.prefix;
    behind = p.after;
    is_object = p.are;
    spelled = (space, p.prefix, is, refl, p.spelled);
    space = p.space;
    parts = ap (λ (t : List ℕ). space ++ 123 ∷ t) p.parts ∙ sym (append_assoc space (123 ∷ p.prefix) p.after);
  };
}

empty_inside : (reach : Reach) → IsInside reach nothing (125 ∷ [])
empty_inside reach = record {
  are = tt;
  nest = none reach;
  prefix = 125 ∷ [];
  after = [];
  spelled =
      ([], [], refl, refl, refl);
  space = refl;
  parts = refl;
}
  where
    none : (reach : Reach) → AllNest 63 reach nothing
    none shallow = refl
    none any = tt

good_object : Good IsObjectHere object_at
good_object = good_both (λ reach x text. IsSpace text)
    (λ x reach members text. (inside : List ℕ) × (text ≡ 123 ∷ inside) × IsInside reach members inside) IsObjectHere
    (record {
      join = λ reach x a members b p q. subst (λ (t : List ℕ). IsObjectHere reach members (a ++ t)) (sym q.1)
          (object_text reach a q.0 members p q.2);
      widen = λ x a p. p;
      some = λ reach x a p. (nothing, 123 ∷ 125 ∷ [], (125 ∷ [], refl, empty_inside reach));
    })
    space_at (λ x. behind 123 text_at) good_space
    (λ x. good_behind 123 IsInside (λ reach members text. (inside : List ℕ) × (text ≡ 123 ∷ inside)
    × IsInside reach members inside) text_at (λ reach members text p. (text, refl, p)) nothing (125 ∷ [])
    (empty_inside shallow) good_text)

-- ---- what is an object is read, if it is not too deep

items_again : (members : Items) (m : ℕ) (x rest : List ℕ) → AreItems object members
    → IsSpelled (series object [] members) x → items_at (nested_at m) object (x ++ rest) ≡ fits (all_within m members)
    members rest
items_again nothing m x rest are p = empty_again m object x rest p
items_again (item label value more) m x rest are p =
    first_again m object label value more rest are.0 are.1 (λ y after q c. value_again value m y after are.1 q c)
    (λ y q. others_again more m object y rest are.2 q) x p

abbrev then_tail : Result (Items × List ℕ) Fault → Result (Items × List ℕ) Fault
then_tail r = r >>= λ members. end_at (after_space members.1) >>= λ end. Ok (members.0, end.1)

text_again : (members : Items) (x after : List ℕ) → AreItems object members → IsSpelled (series object [] members) x
    → IsSpace after → text_at (x ++ after) ≡ fits (all_within 63 members) members []
unfolding text_at end_at after_space
text_again members x after are p space = ap then_tail (items_again members 63 x after are p)
    ∙ by_depth (all_within 63 members)
  where
    spaces : after_space after ≡ []
    spaces = ap after_space (sym (append-nil after)) ∙ space_again after [] space

    by_depth : (b : Bool) → then_tail (fits b members after) ≡ fits b members []
    by_depth true = ap (λ (t : List ℕ). end_at t >>= λ end. Ok (members, end.1)) spaces
    by_depth false = refl

pub object_again : (text : List ℕ) (members : Items) → IsObjectText text members
    → object_at text ≡ fits (is_shallow members) members []
object_again text members o =
    let p = o.spelled in
    let start : after_space text ≡ 123 ∷ (p.1 ++ o.behind) = ap after_space o.parts
    ∙ here 123 [] (series object [] members) o.prefix o.behind p refl in
    ap (behind 123 text_at) start ∙ ap (chosen_by text_at fails (123 ∷ (p.1 ++ o.behind)))
    (past_again 123 (p.1 ++ o.behind)) ∙ text_again members p.1 o.behind o.is_object p.4 o.space

-- an object is read, or it is too deep
never_stuck : (text : List ℕ) (members : Items) (left : ℕ) → IsObjectText text members
    → object_at text ≡ Err (stuck left) → ⊥
never_stuck text members left o e = by_depth (is_shallow members) (sym (object_again text members o) ∙ e)
  where
    by_depth : (b : Bool) → fits b members [] ≡ Err (stuck left) → ⊥
    by_depth true h = absurd cc
    by_depth false h = absurd cc

deep_only : (text : List ℕ) (members : Items) → IsObjectText text members → object_at text ≡ Err deep
    → is_shallow members ≡ false
deep_only text members o e = by_depth (is_shallow members) refl (sym (object_again text members o) ∙ e)
  where
    by_depth : (b : Bool) → is_shallow members ≡ b → fits b members [] ≡ Err deep → is_shallow members ≡ false
    by_depth true same h = absurd cc
    by_depth false same h = same

shallow_read : (text : List ℕ) (members : Items) → IsObjectText text members → is_shallow members ≡ true
    → object_at text ≡ Ok (members, [])
shallow_read text members o s = object_again text members o ∙ ap (λ (b : Bool). fits b members []) s

-- ---- fronts

take_more : (a b : List ℕ) (k : ℕ) → take (length a + k) (a ++ b) ≡ a ++ take k b
take_more [] b k = ap (λ (n : ℕ). take n b) (omega arith)
take_more (x ∷ a) b k = let more : suc (length a) + k ≡ suc (length a + k) = omega arith in ap
    (λ (n : ℕ). take n (x ∷ (a ++ b))) more ∙ ap (λ (t : List ℕ). x ∷ t) (take_more a b k)

prefix_is : (prefix rest line : List ℕ) → line ≡ prefix ++ rest → prefix ≡ take (length prefix) line
prefix_is prefix rest line e = sym (ap (λ (t : List ℕ). take (length prefix) t) e
    ∙ take_at prefix rest (length prefix) refl)

-- a longer prefix goes on with the next byte
longer_prefix : (text stop : List ℕ) (n : ℕ) (line : List ℕ) → line ≡ text ++ stop → length text < n → n ≤ length line
    → (more : List ℕ) → (other : List ℕ) × (take n line ++ more ≡ text ++ other) × SameHead stop other
longer_prefix text [] n line e low high more = absurd (omega (arith, ap length e, length-append text []))
longer_prefix text (byte ∷ stop) n line e low high more =
    let text' = text ++ byte ∷ [] in
    let whole : line ≡ text' ++ stop = e ∙ sym (append_assoc text (byte ∷ []) stop) in
    let k = n - length text' in
    let n_is : n ≡ length text' + k = omega (arith, length-append text (byte ∷ [])) in
    let prefix : take n line ≡ text' ++ take k stop = ap (λ (t : List ℕ). take n t) whole
    ∙ ap (λ (i : ℕ). take i (text' ++ stop)) n_is ∙ take_more text' stop k in (
      byte ∷ (take k stop ++ more),
      ap (λ (t : List ℕ). t ++ more) prefix ∙ append_assoc text' (take k stop) more
          ∙ append_assoc text (byte ∷ []) (take k stop ++ more),
      refl,
    )

-- a shallow object that goes on after a prefix of only deep ones
too_short : (text stop more : List ℕ) (members : Items) {line : List ℕ} → line ≡ text ++ stop
    → IsObjectHere shallow members (text ++ more) → (d : IsTooDeep line) → length d.prefix ≤ length text → ⊥
too_short text stop more members {line} parts here d short =
    let n = length d.prefix in
    let prefix : d.prefix ≡ take n text = prefix_is d.prefix d.rest line d.parts ∙ ap (λ (t : List ℕ). take n t) parts
    ∙ take-append-le n text stop short in
    let same : text ++ more ≡ d.prefix ++ (drop n text ++ more) = ap (λ (t : List ℕ). t ++ more)
    (sym (take-append-drop n text)) ∙ append_assoc (take n text) (drop n text) more
    ∙ ap (λ (t : List ℕ). t ++ (drop n text ++ more)) (sym prefix) in
    let is_deep = d.deep (drop n text ++ more) members (subst (λ (t : List ℕ). IsObjectText t members) same
    here.is_object) in
    let is_shallow_too = here.nest in
    absurd cc

-- ---- a line

module _ (line inside : List ℕ) (opens : past 123 (after_space line) ≡ Some inside) where
  whole_is : (r : Result (Items × List ℕ) Fault) → text_at inside ≡ r → object_at line ≡ r
  whole_is r e = ap (chosen_by text_at fails (after_space line)) opens ∙ e

  pub line_opens : OpensObject line
  line_opens = let s = good_space line in (
    s.text,
    inside,
    s.inside,
    s.parts
        ∙ ap (λ (t : List ℕ). s.text ++ t) (past_takes 123 (after_space line) inside opens),
  )

  pub line_read : (members : Items) → text_at inside ≡ Ok (members, []) → IsUtf8 line
      → IsObjectLine line (member_fields [] members)
  line_read members e utf8 =
      let g : GoodAt IsObjectHere object_at line (Ok (members, [])) = subst (GoodAt IsObjectHere object_at line)
      (whole_is (Ok (members, [])) e) (good_object line) in
      record {
        utf8 = utf8;
        members = members;
        is_object = subst (λ (t : List ℕ). IsObjectText t members) (sym (g.parts ∙ append-nil g.text))
            g.inside.is_object;
        shallow = g.inside.nest;
        flat = refl;
      }

  pub line_only : (members : Items) (rest : List ℕ) (fields : List Field) → text_at inside ≡ Ok (members, rest)
      → IsObjectLine line fields → fields ≡ member_fields [] members
  line_only members rest fields e is =
      let same : is.members ≡ members = ap (members_or members)
      (sym (shallow_read line is.members is.is_object is.shallow) ∙ whole_is (Ok (members, rest)) e) in
      is.flat ∙ ap (member_fields []) same
    where
      members_or : Items → Result (Items × List ℕ) Fault → Items
      members_or other (Ok x) = x.0
      members_or other (Err fault) = other

  pub nothing_said : (fault : Fault) → text_at inside ≡ Err fault → SaysNothing line
  nothing_said fault e fields is = absurd (let read = sym (shallow_read line is.members is.is_object is.shallow)
      ∙ whole_is (Err fault) e in cc)

  pub line_deep : text_at inside ≡ Err deep → IsTooDeep line
  line_deep e =
      let g : GoodAt IsObjectHere object_at line (Err deep) = subst (GoodAt IsObjectHere object_at line)
      (whole_is (Err deep) e) (good_object line) in
      record {
        prefix = g.text;
        rest = g.stop;
        parts = g.parts;
        begins = (g.more, g.x, g.inside.is_object);
        deep = λ more members o. deep_only (g.text ++ more) members o (g.again more);
      }

  module _ (left : ℕ) (e : text_at inside ≡ Err (stuck left)) where
    stuck_at : Sticks IsObjectHere object_at line left
    stuck_at = subst (GoodAt IsObjectHere object_at line) (whole_is (Err (stuck left)) e) (good_object line)

    pub left_within : left ≤ length line
    left_within = let g = stuck_at in omega (arith, ap length g.parts, length-append g.text g.stop, g.left_is)

    -- no object begins with a longer prefix
    none_longer : (n : ℕ) → length line - left < n → n ≤ length line → BeginsObject (take n line) → ⊥
    none_longer n low high begins =
        let g = stuck_at in
        let at : length line - left ≡ length g.text = omega
        (arith, ap length g.parts, length-append g.text g.stop, g.left_is) in
        let long = longer_prefix g.text g.stop n line g.parts (omega (arith, at)) high begins.0 in
        never_stuck (take n line ++ begins.0) begins.1 (length long.0) begins.2
        (ap object_at long.1 ∙ g.again long.0 long.2)

    pub line_stuck : IsLongestPrefix line (length line - left)
    line_stuck =
        let g = stuck_at in
        let at : length g.text ≡ length line - left = omega
        (arith, ap length g.parts, length-append g.text g.stop, g.left_is) in
        let prefix : g.text ≡ take (length line - left) line = sym
        (ap (λ (t : List ℕ). take (length line - left) t) g.parts ∙ take_at g.text g.stop (length line - left) at)
        in
        record {
          inside = omega arith;
          begins = subst BeginsObject prefix (g.more, g.x, g.inside.is_object);
          longest =
              none_longer;
        }

    pub not_deep : IsTooDeep line → ⊥
    not_deep d =
        let g = stuck_at in
        let at : length line - left ≡ length g.text = omega
        (arith, ap length g.parts, length-append g.text g.stop, g.left_is) in
        elim (cases_lt (length g.text) (length d.prefix)) [
          | inl longer ↦ none_longer (length d.prefix) (omega (arith, at))
              (omega (arith, ap length d.parts, length-append d.prefix d.rest))
              (subst BeginsObject (prefix_is d.prefix d.rest line d.parts) d.begins)
          | inr shorter ↦ too_short g.text g.stop g.more g.x g.parts g.inside d (omega arith)
        ]

-- the fields with those of its members over them
module _ (line inside : List ℕ) (opens : Opens line inside) (old new : List Field)
    (set : mapped (λ members. set_all old (member_fields [] members)) (text_at inside) ≡ Ok (new, [])) where
  pub line_set : (fields : List Field) × IsObjectLine line fields × (new ≡ set_all old fields)
  line_set =
      let m = mapped_ok (λ (members : Items). set_all old (member_fields [] members)) (text_at inside) new [] set in
      (member_fields [] m.0, line_read line inside opens.brace m.0 m.1 opens.utf8, m.2)

  pub line_set_only : (fields : List Field) → IsObjectLine line fields → new ≡ set_all old fields
  line_set_only fields is =
      let m = mapped_ok (λ (members : Items). set_all old (member_fields [] members)) (text_at inside) new [] set in
      m.2 ∙ ap (set_all old) (sym (line_only line inside opens.brace m.0 [] fields m.1 is))

-- ---- a line that opens no object

pub not_opened : (line : List ℕ) → past 123 (after_space line) ≡ None → OpensObject line → ⊥
not_opened line none o =
    absurd (let some : past 123 (after_space line) ≡ Some o.1 = ap (λ (t : List ℕ). past 123 (after_space t)) o.3
    ∙ ap (past 123) (space_again o.0 (123 ∷ o.1) o.2 ∙ space_ends 123 o.1 refl) ∙ past_again 123 o.1 in cc)

pub nothing_opened : (line : List ℕ) → past 123 (after_space line) ≡ None → SaysNothing line
nothing_opened line none fields is =
    let o = is.is_object in
    let p = o.spelled in
    not_opened line none (
      p.0,
      p.1 ++ o.behind,
      p.2,
      o.parts ∙ ap (λ (t : List ℕ). t ++ o.behind) p.3
          ∙ append_assoc p.0 (123 ∷ p.1) o.behind,
    )
