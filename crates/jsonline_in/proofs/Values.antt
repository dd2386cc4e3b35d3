-- Values, as readers take them.
use Rattle.std.proofs.Common.{◌≡◌, ℕ, zero, suc, ◌<◌, true, List, [], ◌∷◌, ◌++◌, length, Option, Some, None, Ok, refl}
use Rattle.std.proofs.Common.{sym, ap, subst, ◌∙◌, append_assoc, arith}
use Rattle.std.proofs.lemmas.Bool.{and_from}
use Rattle.std.proofs.lemmas.List.{length-append, append-nil}
use Rattle.log_model.specs.Json.{IsSpace}
use Rattle.log_model.specs.Token.{Character, are_characters, string_source, Scalar, string, number, Literal, literal}
use Rattle.log_model.specs.Token.{truth, falsehood, null, IsScalarToken, scalar_source, literal_source}
use Rattle.log_model.specs.Value.{Kind, array, object, Label, unnamed, named, Value, scalar, nested, Items, nothing}
use Rattle.log_model.specs.Value.{item, suits, IsValue, AreItems, nests_within, all_within, opening, closing}
use Rattle.log_model.specs.Value.{label_tokens, tokens, series, IsSpelled}
use Rattle.jsonline_in.specs.Reading.{after_space, past, Reader, ◌>>=◌, gives, fails, chosen, chosen_by, behind}
use Rattle.jsonline_in.specs.Reading.{expect, word_end, number_at, literal_of, made_by, bare_at, characters_at}
use Rattle.jsonline_in.specs.Reading.{value_of_string, flat_at, value_at, name_at, label_at, item_at, some_of}
use Rattle.jsonline_in.specs.Reading.{other_at, put_item, others_at, first_at, items_at, nested_at}
use Rattle.jsonline_in.proofs.Good.{Reach, shallow, any, GoodAt, Good, reads_of, good_both, good_gives, good_made}
use Rattle.jsonline_in.proofs.Good.{good_behind, good_chosen, past_takes, past_again, past_none}
use Rattle.jsonline_in.proofs.Steps.{good_expect, space_at, good_space, good_word}
use Rattle.jsonline_in.proofs.Numbers.{IsNumberToken, good_number}
use Rattle.jsonline_in.proofs.Texts.{IsTail, good_characters}
use Rattle.jsonline_in.proofs.Turns.{Shrinks, good_turns}

-- ---- scalars without quotation marks

pub record IsBare (token : Scalar) (text : List ℕ) : Type 0 where
  pub is : IsScalarToken token
  pub spelled : text ≡ scalar_source token

good_literal : (first : ℕ) (word : List ℕ) (which : Literal) → literal_source which ≡ first ∷ word
    → Good (λ reach. IsBare) (behind first (literal_of which (word_end word)))
good_literal first word which is = good_behind first (λ reach x text. (x ≡ literal which) × (text ≡ word))
    (λ reach. IsBare) (literal_of which (word_end word))
    (λ reach x text p. subst (λ (s : Scalar). IsBare s (first ∷ text)) (sym p.0)
    (record { is = tt; spelled = ap (λ (t : List ℕ). first ∷ t) p.1 ∙ sym is }))
    (literal which) word (refl, refl)
    (good_made (λ reach x text. text ≡ word) (λ reach x text. (x ≡ literal which) × (text ≡ word))
    (λ x. literal which) (word_end word) (λ reach x text e. (refl, e)) (good_word word))

pub good_bare : Good (λ reach. IsBare) bare_at
unfolding bare_at
good_bare =
    good_chosen 116 (λ reach. IsBare) (literal_of truth (word_end (114 ∷ 117 ∷ 101 ∷ []))) rest_f
    (good_literal 116 (114 ∷ 117 ∷ 101 ∷ []) truth refl) (λ bytes none.
    good_chosen 102 (λ reach. IsBare) (literal_of falsehood (word_end (97 ∷ 108 ∷ 115 ∷ 101 ∷ []))) rest_n
    (good_literal 102 (97 ∷ 108 ∷ 115 ∷ 101 ∷ []) falsehood refl) (λ bytes none.
    good_chosen 110 (λ reach. IsBare) (literal_of null (word_end (117 ∷ 108 ∷ 108 ∷ []))) (made_by number number_at)
    (good_literal 110 (117 ∷ 108 ∷ 108 ∷ []) null refl) (λ bytes none.
    good_made (λ reach. IsNumberToken) (λ reach. IsBare) number number_at
    (λ reach x text p. record { is = p.number; spelled = p.spelled }) good_number bytes) bytes) bytes)
  where
    rest_n : Reader Scalar
    rest_n = chosen 110 (literal_of null (word_end (117 ∷ 108 ∷ 108 ∷ []))) (made_by number number_at)

    rest_f : Reader Scalar
    rest_f = chosen 102 (literal_of falsehood (word_end (97 ∷ 108 ∷ 115 ∷ 101 ∷ []))) rest_n

-- ---- tokens with white space before each

pub spelled_join : (a b : List (List ℕ)) (x y : List ℕ) → IsSpelled a x → IsSpelled b y → IsSpelled (a ++ b) (x ++ y)
spelled_join [] b x y p q = subst (λ (t : List ℕ). IsSpelled b (t ++ y)) (sym p) q
spelled_join (token ∷ a) b x y p q = (
  p.0,
  p.1 ++ y,
  p.2,
  ap (λ (t : List ℕ). t ++ y) p.3
      ∙ append_assoc p.0 (token ++ p.1) y ∙ ap (λ (t : List ℕ). p.0 ++ t) (append_assoc token p.1 y),
  spelled_join a b
      p.1 y p.4 q,
)

-- The text begins with the first token, and any white space may stand before it.
abbrev pub Spaced : List (List ℕ) → List ℕ → Type 0
Spaced tokens text = (space : List ℕ) → IsSpace space → IsSpelled tokens (space ++ text)

pub spaced_token : (token : List ℕ) (more : List (List ℕ)) (text rest : List ℕ) → text ≡ token ++ rest
    → IsSpelled more rest → Spaced (token ∷ more) text
spaced_token token more text rest e p space is = (space, rest, is, ap (λ (t : List ℕ). space ++ t) e, p)

pub spaced_join : (a b : List (List ℕ)) (x y : List ℕ) → Spaced a x → IsSpelled b y → Spaced (a ++ b) (x ++ y)
spaced_join a b x y p q space is = subst (IsSpelled (a ++ b)) (append_assoc space x y)
    (spelled_join a b (space ++ x) y (p space is) q)

-- ---- how deep values nest

abbrev pub Nests : ℕ → Reach → Value → Type 0
Nests depth shallow value = nests_within depth value ≡ true
Nests depth any value = Unit {0}

abbrev pub AllNest : ℕ → Reach → Items → Type 0
AllNest depth shallow items = all_within depth items ≡ true
AllNest depth any items = Unit {0}

-- the value that is spelled here, read where this many brackets may be open
pub record IsValueText (depth : ℕ) (reach : Reach) (value : Value) (text : List ℕ) : Type 0 where
  pub is : IsValue value
  pub nests : Nests depth reach value
  pub spelled : Spaced (tokens value) text

-- what is spelled after an opening bracket
pub record AreItemsText (depth : ℕ) (kind : Kind) (before : List (List ℕ)) (reach : Reach) (items : Items)
    (text : List ℕ) : Type 0 where
  pub are : AreItems kind items
  pub nest : AllNest depth reach items
  pub spelled : IsSpelled (series kind before items) text

-- ---- the label of an item

-- What follows the label may have any white space before it, and so has then the label.
pub record IsLabel (kind : Kind) (label : Label) (text : List ℕ) : Type 0 where
  pub suits_it : suits kind label ≡ true
  pub before : (more : List (List ℕ)) (rest : List ℕ) → Spaced more rest
      → Spaced (label_tokens label ++ more) (text ++ rest)

good_unnamed : Good (λ reach. IsLabel array) (gives unnamed)
good_unnamed = good_gives (λ reach. IsLabel array) unnamed (record { suits_it = refl; before = λ more rest s. s })

pub record IsColon (name : List Character) (label : Label) (text : List ℕ) : Type 0 where
  pub is : label ≡ named name
  pub space : List ℕ
  pub is_space : IsSpace space
  pub spelled : text ≡ 58 ∷ space

pub record IsSpacedColon (name : List Character) (label : Label) (text : List ℕ) : Type 0 where
  pub is : label ≡ named name
  pub first : List ℕ
  pub second : List ℕ
  pub first_is : IsSpace first
  pub second_is : IsSpace second
  pub spelled : text ≡ first ++ 58 ∷ second

pub record IsNameTail (label : Label) (text : List ℕ) : Type 0 where
  pub name : List Character
  pub tail : List ℕ
  pub colon : List ℕ
  pub are : are_characters name ≡ true
  pub is : label ≡ named name
  pub quoted : 34 ∷ tail ≡ string_source name
  pub mark : IsSpacedColon name label colon
  pub spelled : text ≡ tail ++ colon

abbrev end_of : List Character → Reader Label
end_of name bytes = Ok (named name, after_space bytes)

good_end : (name : List Character) → Good (λ reach label text. (label ≡ named name) × IsSpace text) (end_of name)
good_end name = good_made (λ reach x text. IsSpace text) (λ reach label text. (label ≡ named name) × IsSpace text)
    (λ x. named name) space_at (λ reach x text s. (refl, s)) good_space

abbrev colon_of : List Character → Reader Label
colon_of name bytes = expect 58 bytes >>= λ x. end_of name x.1

good_colon : (name : List Character) → Good (λ reach. IsColon name) (colon_of name)
good_colon name = good_both (λ reach x text. text ≡ 58 ∷ [])
    (λ x reach label text. (label ≡ named name) × IsSpace text) (λ reach. IsColon name)
    (record {
      join = λ reach x a label b p q. record {
        is = q.0;
        space = b;
        is_space = q.1;
        spelled = ap
            (λ (t : List ℕ). t ++ b) p;
      };
      widen = λ x a p. p;
      some = λ reach x a p. (named name, [], (refl, refl));
    }) (expect 58) (λ x. end_of name) (good_expect 58) (λ x. good_end name)

abbrev spaced_colon_of : List Character → Reader Label
spaced_colon_of name bytes = space_at bytes >>= λ x. colon_of name x.1

good_spaced_colon : (name : List Character) → Good (λ reach. IsSpacedColon name) (spaced_colon_of name)
good_spaced_colon name = good_both (λ reach x text. IsSpace text) (λ x reach. IsColon name)
    (λ reach. IsSpacedColon name)
    (record {
      join = λ reach x a label b p q. record {
        is = q.is;
        first = a;
        second = q.space;
        first_is = p;
        second_is =
            q.is_space;
        spelled = ap (λ (t : List ℕ). a ++ t) q.spelled;
      };
      widen = λ x a p. p;
      some = λ reach x a p. (named name, 58 ∷ [], record { is = refl; space = []; is_space = refl; spelled = refl });
    }) space_at (λ x. colon_of name) good_space (λ x. good_colon name)

good_name_tail : Good (λ reach. IsNameTail) (λ bytes. characters_at bytes >>= λ x. spaced_colon_of x.0 x.1)
good_name_tail = good_both (λ reach. IsTail) (λ name reach. IsSpacedColon name) (λ reach. IsNameTail)
    (record {
      join = λ reach name a label b p q. record {
        name = name;
        tail = a;
        colon = b;
        are = p.are;
        is = q.is;
        quoted =
            ap (λ (t : List ℕ). 34 ∷ t) p.spelled;
        mark = q;
        spelled = refl;
      };
      widen = λ x a p. p;
      some = λ reach name a p. (
        named name,
        58 ∷ [],
        record
            { is = refl; first = []; second = []; first_is = refl; second_is = refl; spelled = refl },
      );
    }) characters_at (λ name. spaced_colon_of name) good_characters (λ name. good_spaced_colon name)

label_of : (label : Label) (text : List ℕ) → IsNameTail label text → IsLabel object label (34 ∷ text)
label_of label text n = record {
  suits_it = ap (suits object) n.is ∙ n.are;
  before = λ more rest s. subst (λ (l : Label). Spaced (label_tokens l ++ more) (34 ∷ (text ++ rest))) (sym n.is)
      (spaced_token (string_source n.name) ((58 ∷ []) ∷ more) (34 ∷ (text ++ rest)) (n.colon ++ rest)
      (ap (λ (t : List ℕ). 34 ∷ (t ++ rest)) n.spelled ∙ ap (λ (t : List ℕ). 34 ∷ t)
      (append_assoc n.tail n.colon rest) ∙ ap (λ (t : List ℕ). t ++ (n.colon ++ rest)) n.quoted) (
        n.mark.first,
        n.mark.second ++ rest,
        n.mark.first_is,
        ap (λ (t : List ℕ). t ++ rest) n.mark.spelled
            ∙ append_assoc n.mark.first (58 ∷ n.mark.second) rest,
        s n.mark.second n.mark.second_is,
      ));
}

empty_name : IsNameTail (named []) (34 ∷ 58 ∷ [])
empty_name = record {
  name = [];
  tail = 34 ∷ [];
  colon = 58 ∷ [];
  are = refl;
  is = refl;
  quoted = refl;
  mark = record
      { is = refl; first = []; second = []; first_is = refl; second_is = refl; spelled = refl };
  spelled = refl;
}

good_name : Good (λ reach. IsLabel object) name_at
unfolding name_at
good_name = good_both (λ reach x text. text ≡ 34 ∷ []) (λ x reach. IsNameTail) (λ reach. IsLabel object)
    (record {
      join = λ reach x a label b p q. subst (λ (t : List ℕ). IsLabel object label (t ++ b)) (sym p)
          (label_of label b q);
      widen = λ x a p. p;
      some = λ reach x a p. (named [], 34 ∷ 58 ∷ [], empty_name);
    }) (expect 34) (λ x bytes. characters_at bytes >>= λ y. spaced_colon_of y.0 y.1) (good_expect 34)
    (λ x. good_name_tail)

pub good_label : (kind : Kind) → Good (λ reach. IsLabel kind) (label_at kind)
good_label array = good_unnamed
good_label object = good_name

-- ---- values, where nested ones are read by inner

abbrev pub Solid : ℕ → (Kind → Reader Value) → Type 0
Solid depth inner = (kind : Kind) → Good (IsValueText depth) (behind (opening kind) (inner kind))

nests_scalar : (depth : ℕ) (reach : Reach) (token : Scalar) → Nests depth reach (scalar token)
nests_scalar depth shallow token = refl
nests_scalar depth any token = tt

scalar_text_of : (depth : ℕ) (reach : Reach) (token : Scalar) (text : List ℕ) → IsScalarToken token
    → text ≡ scalar_source token → IsValueText depth reach (scalar token) text
scalar_text_of depth reach token text is e = record {
  is = is;
  nests = nests_scalar depth reach token;
  spelled = spaced_token (scalar_source token) [] text [] (e ∙ sym (append-nil (scalar_source token))) refl;
}

pub empty_string : (depth : ℕ) (reach : Reach) → IsValueText depth reach (scalar (string [])) (34 ∷ 34 ∷ [])
empty_string depth reach = scalar_text_of depth reach (string []) (34 ∷ 34 ∷ []) refl refl

good_quoted : (depth : ℕ) → Good (IsValueText depth) (behind 34 (made_by value_of_string characters_at))
good_quoted depth = good_behind 34 (λ reach value text. IsValueText depth reach value (34 ∷ text)) (IsValueText depth)
    (made_by value_of_string characters_at)
    (λ reach x text p. p) (scalar (string [])) (34 ∷ []) (empty_string depth shallow)
    (good_made (λ reach. IsTail) (λ reach value text. IsValueText depth reach value (34 ∷ text)) value_of_string
    characters_at
    (λ reach x text p. scalar_text_of depth reach (string x) (34 ∷ text) p.are
    (ap (λ (t : List ℕ). 34 ∷ t) p.spelled)) good_characters)

good_scalar : (depth : ℕ) → Good (IsValueText depth) (made_by scalar bare_at)
good_scalar depth = good_made (λ reach. IsBare) (IsValueText depth) scalar bare_at
    (λ reach x text p. scalar_text_of depth reach x text p.is p.spelled) good_bare

module _ (depth : ℕ) (inner : Kind → Reader Value) (solid : Solid depth inner) where
  good_flat : Good (IsValueText depth) (flat_at inner)
  unfolding flat_at
  good_flat = good_chosen 34 (IsValueText depth) (made_by value_of_string characters_at)
      (chosen 91 (inner array) (made_by scalar bare_at)) (good_quoted depth)
      (λ bytes none. good_chosen 91 (IsValueText depth) (inner array) (made_by scalar bare_at) (solid array)
      (λ bytes none. good_scalar depth bytes) bytes)

  pub good_value : Good (IsValueText depth) (value_at inner)
  unfolding value_at
  good_value = good_chosen 123 (IsValueText depth) (inner object) (flat_at inner) (solid object)
      (λ bytes none. good_flat bytes)

  -- ---- items

  pub record IsItem (kind : Kind) (reach : Reach) (x : Label × Value) (text : List ℕ) : Type 0 where
    pub suits_it : suits kind x.0 ≡ true
    pub is : IsValue x.1
    pub nests : Nests depth reach x.1
    pub spelled : Spaced (label_tokens x.0 ++ tokens x.1) text

  pub good_item : (kind : Kind) → Good (IsItem kind) (item_at inner kind)
  unfolding item_at
  good_item kind = good_both (λ reach. IsLabel kind) (λ label reach x text. (x.0 ≡ label)
      × IsValueText depth reach x.1 text) (IsItem kind)
      (record {
        join = λ reach label a x b p q. record {
          suits_it = ap (suits kind) q.0 ∙ p.suits_it;
          is = q.1.is;
          nests = q.1.nests;
          spelled = subst (λ (l : Label). Spaced (label_tokens l ++ tokens x.1) (a ++ b)) (sym q.0)
              (p.before (tokens x.1) b q.1.spelled);
        };
        widen = λ label a p. p;
        some = λ reach label a p. ((label, scalar (string [])), 34 ∷ 34 ∷ [], (refl, empty_string depth reach));
      })
      (label_at kind) (λ label bytes. value_at inner bytes >>= λ value. Ok ((label, value.0), value.1))
      (good_label kind)
      (λ label. good_made (IsValueText depth) (λ reach x text. (x.0 ≡ label) × IsValueText depth reach x.1 text)
      (λ value. (label, value)) (value_at inner) (λ reach value text p. (refl, p)) good_value)

  widen_item : (kind : Kind) (x : Label × Value) (text : List ℕ) → IsItem kind shallow x text → IsItem kind any x text
  widen_item kind x text p = record { suits_it = p.suits_it; is = p.is; nests = tt; spelled = p.spelled }

  -- one more item after a comma, or the closing bracket
  abbrev pub IsOther : Kind → Reach → Option (Label × Value) → List ℕ → Type 0
  IsOther kind reach None text = IsSpelled ((closing kind ∷ []) ∷ []) text
  IsOther kind reach (Some x) text = (suits kind x.0 ≡ true) × IsValue x.1 × Nests depth reach x.1
      × IsSpelled ((44 ∷ []) ∷ (label_tokens x.0 ++ tokens x.1)) text

  -- the same with no white space before it
  abbrev IsOtherHere : Kind → Reach → Option (Label × Value) → List ℕ → Type 0
  IsOtherHere kind reach None text = text ≡ closing kind ∷ []
  IsOtherHere kind reach (Some x) text = (suits kind x.0 ≡ true) × IsValue x.1 × Nests depth reach x.1
      × Spaced ((44 ∷ []) ∷ (label_tokens x.0 ++ tokens x.1)) text

  sample_item : (kind : Kind) (reach : Reach) → (x : Label × Value) × (text : List ℕ) × IsItem kind reach x text
  sample_item array reach =
      let e = empty_string depth reach in (
        (unnamed, scalar (string [])),
        34 ∷ 34 ∷ [],
        record
            { suits_it = refl; is = e.is; nests = e.nests; spelled = e.spelled },
      )
  sample_item object reach =
      let e = empty_string depth reach in
      let l = label_of (named []) (34 ∷ 58 ∷ []) empty_name in (
        (named [], scalar (string [])),
        34 ∷ 34 ∷ 58 ∷ 34 ∷ 34 ∷ [],
        record {
          suits_it = refl;
          is = e.is;
          nests = e.nests;
          spelled = l.before (tokens (scalar (string [])))
              (34 ∷ 34 ∷ []) e.spelled;
        },
      )

  good_comma : (kind : Kind) → Good (IsOtherHere kind) (behind 44
      (λ rest. some_of (item_at inner kind) (after_space rest)))
  good_comma kind =
      let s = sample_item kind shallow in
      good_behind 44 (λ reach o text. IsOtherHere kind reach o (44 ∷ text)) (IsOtherHere kind)
      (λ rest. some_of (item_at inner kind) (after_space rest))
      (λ reach o text p. p) (Some s.0) s.1 (
        s.2.suits_it,
        s.2.is,
        s.2.nests,
        spaced_token (44 ∷ [])
            (label_tokens s.0.0 ++ tokens s.0.1) (44 ∷ s.1) s.1 refl (s.2.spelled [] refl),
      )
      (good_both (λ reach x text. IsSpace text) (λ x reach o text. (y : Label × Value) × (o ≡ Some y)
      × IsItem kind reach y text) (λ reach o text. IsOtherHere kind reach o (44 ∷ text))
      (record {
        join = λ reach x a o b p q. subst (λ (z : Option (Label × Value)). IsOtherHere kind reach z (44 ∷ (a ++ b)))
            (sym q.1) (
              q.2.suits_it,
              q.2.is,
              q.2.nests,
              spaced_token (44 ∷ []) (label_tokens q.0.0 ++ tokens q.0.1)
                  (44 ∷ (a ++ b)) (a ++ b) refl (q.2.spelled a p),
            );
        widen = λ x a p. p;
        some = λ reach x a p. let t = sample_item kind reach in (Some t.0, t.1, (t.0, refl, t.2));
      })
      space_at (λ x. some_of (item_at inner kind)) good_space
      (λ x. good_made (IsItem kind) (λ reach o text. (y : Label × Value) × (o ≡ Some y) × IsItem kind reach y text)
      Some (item_at inner kind) (λ reach y text p. (y, refl, p)) (good_item kind)))

  good_close : (kind : Kind) → Good (IsOtherHere kind) (behind (closing kind) (gives None))
  good_close kind = good_behind (closing kind) (λ reach o text. (o ≡ None) × (text ≡ [])) (IsOtherHere kind)
      (gives None)
      (λ reach o text p. subst (λ (z : Option (Label × Value)). IsOtherHere kind reach z (closing kind ∷ text))
      (sym p.0) (ap (λ (t : List ℕ). closing kind ∷ t) p.1)) None [] (refl, refl)
      (good_gives (λ reach o text. (o ≡ None) × (text ≡ [])) None (refl, refl))

  here_spaced : (kind : Kind) (reach : Reach) (o : Option (Label × Value)) (space text : List ℕ) → IsSpace space
      → IsOtherHere kind reach o text → IsOther kind reach o (space ++ text)
  here_spaced kind reach None space text is p = spaced_token (closing kind ∷ []) [] text [] p refl space is
  here_spaced kind reach (Some x) space text is p = (p.0, p.1, p.2, p.3 space is)

  pub good_other : (kind : Kind) → Good (IsOther kind) (other_at inner kind)
  unfolding other_at
  good_other kind = good_both (λ reach x text. IsSpace text) (λ x. IsOtherHere kind) (IsOther kind)
      (record {
        join = λ reach x a o b p q. here_spaced kind reach o a b p q;
        widen = λ x a p. p;
        some = λ reach x a p. (None, closing kind ∷ [], refl);
      })
      space_at (λ x. chosen 44 (λ rest. some_of (item_at inner kind) (after_space rest))
      (behind (closing kind) (gives None))) good_space
      (λ x. good_chosen 44 (IsOtherHere kind) (λ rest. some_of (item_at inner kind) (after_space rest))
      (behind (closing kind) (gives None)) (good_comma kind) (λ bytes none. good_close kind bytes))

  spelled_long : (byte : ℕ) (token : List ℕ) (more : List (List ℕ)) (text : List ℕ)
      → IsSpelled ((byte ∷ token) ∷ more) text → 0 < length text
  spelled_long byte token more text p = omega (arith, ap length p.3, length-append p.0 ((byte ∷ token) ++ p.1))

  pub other_shrinks : (kind : Kind) → Shrinks put_item nothing (other_at inner kind)
  other_shrinks kind bytes x rest e =
      let r = reads_of (IsOther kind) (other_at inner kind) (good_other kind) bytes (Some x) rest e in
      omega (
        arith,
        ap length r.parts,
        length-append r.text rest,
        spelled_long 44 [] (label_tokens x.0 ++ tokens x.1)
            r.text r.inside.3,
      )

  series_push : (kind : Kind) (reach : Reach) (x : Label × Value) (a : List ℕ) (xs : Items) (b : List ℕ)
      → IsOther kind reach (Some x) a → AreItemsText depth kind ((44 ∷ []) ∷ []) reach xs b
      → AreItemsText depth kind ((44 ∷ []) ∷ []) reach (put_item x xs) (a ++ b)
  series_push kind reach x a xs b p q = record {
    are = (p.0, p.1, q.are);
    nest = nest_both reach p.2 q.nest;
    spelled = subst (λ (ts : List (List ℕ)). IsSpelled ((44 ∷ []) ∷ ts) (a ++ b))
        (append_assoc (label_tokens x.0) (tokens x.1) (series kind ((44 ∷ []) ∷ []) xs))
        (spelled_join ((44 ∷ []) ∷ (label_tokens x.0 ++ tokens x.1)) (series kind ((44 ∷ []) ∷ []) xs) a b p.3
        q.spelled);
  }
    where
      nest_both : (reach : Reach) → Nests depth reach x.1 → AllNest depth reach xs
          → AllNest depth reach (item x.0 x.1 xs)
      nest_both shallow v r = and_from _ _ v r
      nest_both any v r = tt

  nest_none : (reach : Reach) → AllNest depth reach nothing
  nest_none shallow = refl
  nest_none any = tt

  pub good_others : (kind : Kind) → Good (AreItemsText depth kind ((44 ∷ []) ∷ [])) (others_at inner kind)
  unfolding others_at
  good_others kind = good_turns put_item nothing (other_at inner kind) (other_shrinks kind) (IsOther kind)
      (AreItemsText depth kind ((44 ∷ []) ∷ []))
      (λ reach text p. record { are = tt; nest = nest_none reach; spelled = p })
      (λ reach x a xs b p q. series_push kind reach x a xs b p q)
      (λ o a p. widen o a p)
      (λ reach. (
        nothing,
        closing kind ∷ [],
        record {
          are = tt;
          nest = nest_none reach;
          spelled =
              ([], [], refl, refl, refl);
        },
      ))
      (good_other kind)
    where
      widen : (o : Option (Label × Value)) (a : List ℕ) → IsOther kind shallow o a → IsOther kind any o a
      widen None a p = p
      widen (Some x) a p = (p.0, p.1, tt, p.3)

  -- items with no white space before them
  pub record AreItemsHere (kind : Kind) (reach : Reach) (items : Items) (text : List ℕ) : Type 0 where
    pub are : AreItems kind items
    pub nest : AllNest depth reach items
    pub spelled : Spaced (series kind [] items) text

  first_push : (kind : Kind) (reach : Reach) (x : Label × Value) (a : List ℕ) (xs : Items) (b : List ℕ)
      → IsItem kind reach x a → AreItemsText depth kind ((44 ∷ []) ∷ []) reach xs b
      → AreItemsHere kind reach (put_item x xs) (a ++ b)
  first_push kind reach x a xs b p q = record {
    are = (p.suits_it, p.is, q.are);
    nest = nest_both reach p.nests q.nest;
    spelled = subst (λ (ts : List (List ℕ)). Spaced ts (a ++ b))
        (append_assoc (label_tokens x.0) (tokens x.1) (series kind ((44 ∷ []) ∷ []) xs))
        (spaced_join (label_tokens x.0 ++ tokens x.1) (series kind ((44 ∷ []) ∷ []) xs) a b p.spelled q.spelled);
  }
    where
      nest_both : (reach : Reach) → Nests depth reach x.1 → AllNest depth reach xs
          → AllNest depth reach (item x.0 x.1 xs)
      nest_both shallow v r = and_from _ _ v r
      nest_both any v r = tt

  good_first : (kind : Kind) → Good (AreItemsHere kind) (first_at inner kind)
  unfolding first_at
  good_first kind = good_both (IsItem kind) (λ x reach items text. (xs : Items) × (items ≡ put_item x xs)
      × AreItemsText depth kind ((44 ∷ []) ∷ []) reach xs text) (AreItemsHere kind)
      (record {
        join = λ reach x a items b p q. subst (λ (i : Items). AreItemsHere kind reach i (a ++ b)) (sym q.1)
            (first_push kind reach x a q.0 b p q.2);
        widen = λ x a p. widen_item kind x a p;
        some = λ reach x a p. (
          put_item x nothing,
          closing kind ∷ [],
          (nothing, refl, record { are = tt; nest = nest_none reach; spelled = ([], [], refl, refl, refl) }),
        );
      })
      (item_at inner kind) (λ x bytes. others_at inner kind bytes >>= λ more. Ok (put_item x more.0, more.1))
      (good_item kind)
      (λ x. good_made (AreItemsText depth kind ((44 ∷ []) ∷ []))
      (λ reach items text. (xs : Items) × (items ≡ put_item x xs)
      × AreItemsText depth kind ((44 ∷ []) ∷ []) reach xs text) (put_item x) (others_at inner kind)
      (λ reach xs text p. (xs, refl, p)) (good_others kind))

  good_empty : (kind : Kind) → Good (AreItemsHere kind) (behind (closing kind) (gives nothing))
  good_empty kind = good_behind (closing kind) (λ reach items text. (items ≡ nothing) × (text ≡ []))
      (AreItemsHere kind) (gives nothing)
      (λ reach items text p. subst (λ (i : Items). AreItemsHere kind reach i (closing kind ∷ text)) (sym p.0)
      (record {
        are = tt;
        nest = nest_none reach;
        spelled = spaced_token (closing kind ∷ []) []
            (closing kind ∷ text) [] (ap (λ (t : List ℕ). closing kind ∷ t) p.1) refl;
      }))
      nothing [] (refl, refl) (good_gives (λ reach items text. (items ≡ nothing) × (text ≡ [])) nothing (refl, refl))

  pub good_items : (kind : Kind) → Good (AreItemsText depth kind []) (items_at inner kind)
  unfolding items_at
  good_items kind = good_both (λ reach x text. IsSpace text) (λ x. AreItemsHere kind) (AreItemsText depth kind [])
      (record {
        join = λ reach x a items b p q. record { are = q.are; nest = q.nest; spelled = q.spelled a p };
        widen = λ x a p. p;
        some = λ reach x a p. (
          nothing,
          closing kind ∷ [],
          record {
            are = tt;
            nest = nest_none reach;
            spelled = spaced_token (closing kind ∷ []) [] (closing kind ∷ []) []
                refl refl;
          },
        );
      })
      space_at (λ x. chosen (closing kind) (gives nothing) (first_at inner kind)) good_space
      (λ x. good_chosen (closing kind) (AreItemsHere kind) (gives nothing) (first_at inner kind) (good_empty kind)
      (λ bytes none. good_first kind bytes))

-- ---- by depth

nested_text : (depth : ℕ) (kind : Kind) (reach : Reach) (items : Items) (text : List ℕ)
    → AreItemsText depth kind [] reach items text → IsValueText (suc depth) reach (nested kind items)
    (opening kind ∷ text)
nested_text depth kind reach items text p = record {
  is = p.are;
  nests = by_reach reach p.nest;
  spelled = spaced_token (opening kind ∷ []) (series kind [] items) (opening kind ∷ text) text refl p.spelled;
}
  where
    by_reach : (reach : Reach) → AllNest depth reach items → Nests (suc depth) reach (nested kind items)
    by_reach shallow n = n
    by_reach any n = tt

pub good_nested : (depth : ℕ) → Solid depth (nested_at depth)
unfolding nested_at
good_nested zero kind bytes = by_past (past (opening kind) bytes) refl
  where
    empty_any : IsValueText zero any (nested kind nothing) (opening kind ∷ closing kind ∷ [])
    empty_any = record {
      is = tt;
      nests = tt;
      spelled = spaced_token (opening kind ∷ []) ((closing kind ∷ []) ∷ [])
          (opening kind ∷ closing kind ∷ []) (closing kind ∷ []) refl ([], [], refl, refl, refl);
    }

    by_past : (o : Option (List ℕ)) → past (opening kind) bytes ≡ o
        → GoodAt (IsValueText zero) (behind (opening kind) (nested_at zero kind)) bytes
        (chosen_by (nested_at zero kind) fails bytes o)
    by_past None e = record {
      text = [];
      stop = bytes;
      parts = refl;
      left_is = refl;
      x = scalar (string []);
      more = 34
          ∷ 34 ∷ [];
      inside = empty_string zero shallow;
      again = λ other s. ap
          (chosen_by (nested_at zero kind) fails other) (past_none (opening kind) bytes other s e);
    }
    by_past (Some rest) e = record {
      text = opening kind ∷ [];
      stop = rest;
      parts = past_takes (opening kind) bytes
          rest e;
      some = omega arith;
      x = nested kind nothing;
      more = closing kind ∷ [];
      inside = empty_any;
      again =
          λ other. ap (chosen_by (nested_at zero kind) fails (opening kind ∷ other)) (past_again (opening kind) other);
    }
good_nested (suc depth) kind bytes =
    good_behind (opening kind) (λ reach value text. IsValueText (suc depth) reach value (opening kind ∷ text))
    (IsValueText (suc depth)) (nested_at (suc depth) kind) (λ reach x text p. p)
    (nested kind nothing) (closing kind ∷ []) (nested_text depth kind shallow nothing (closing kind ∷ [])
    (record { are = tt; nest = refl; spelled = ([], [], refl, refl, refl) }))
    (good_made (AreItemsText depth kind []) (λ reach value text. IsValueText (suc depth) reach value
    (opening kind ∷ text)) (nested kind) (items_at (nested_at depth) kind)
    (λ reach items text p. nested_text depth kind reach items text p)
    (good_items depth (nested_at depth) (good_nested depth) kind)) bytes
