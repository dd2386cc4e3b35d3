-- What holds of a row needs only what is known of its block.
use Rattle.std.proofs.Common.{◌≡◌, ℕ, ℤ, pos, suc, ◌+◌, ◌-◌, ◌<◌, ◌≤ℤ◌, Bool, true, false, cond, List, [], ◌∷◌, ◌++◌}
use Rattle.std.proofs.Common.{length, map, chars, refl, sym, ap, subst, ◌∙◌, arith, nat_eq}
use Rattle.std.specs.Prelude.{◌&&◌, ◌||◌, ◌-ℤ◌, ◌+ℤ◌, bytes_eq, codes, flat_map, int_le, not}
use Rattle.std.specs.List.{AllByRecursion, list_all, list_any, range_with_len, starts_with}
use Rattle.std.specs.Str.{is_utf8}
use Rattle.std.proofs.lemmas.Bool.{and_parts, and_from, and_right}
use Rattle.std.proofs.lemmas.Int.{ints}
use Rattle.std.proofs.lemmas.List.Concat.{flat_map-cons}
use Rattle.std.proofs.lemmas.Slice.Eq.{bytes_eq-Decides}
use Rattle.std.proofs.lemmas.Str.{IsUtf8-from_is_utf8, chars-nil}
use Rattle.log_model.specs.Field.{field_value, is_empty, is_reserved}
use Rattle.log_model.specs.Moment.{moment_text}
use Rattle.log_model.specs.Row.{Row, value_of}
use Rattle.log_model.specs.Stream.{label_text, stream_id}
use Rattle.log_model.specs.Words.{begins_word, occurs, stands_at}
use Rattle.word_tokens.specs.Prefix.{occurs_as_prefix, stands_as_prefix}
use Rattle.word_tokens.specs.Runs.{words_of}
use Rattle.word_tokens.proofs.FirstPlace.{any_at, found_in}
use Rattle.word_tokens.proofs.PhraseLaws.{phrases-bring_words, prefixes-bring_words}
use Rattle.word_tokens.proofs.Standing.{occurs_as_prefix-empty}
use Rattle.block_model.proofs.Distinct.{right_true}
use Rattle.word_filter.specs.Words.{words_in}
use Rattle.lq_ast.specs.Condition.{Condition, Conditions}
use Rattle.lq_ast.specs.Condition as is
use Rattle.lq_ast.specs.Holds.{are_all_met, holds, is_met, is_recent, is_some_met, is_within, selects}
use Rattle.lq_ast.specs.Phrases.{in_order}
use Rattle.lq_ast.specs.Subject.{row_subject}
use Rattle.block_body.specs.Outline.{Outline}
use Rattle.lq_prune.specs.Need.{TheNeed, admits, all_needed, column_word, ended_words, field_need, need_of, needs_of}
use Rattle.lq_prune.specs.Need.{nothing, one_needed, text_needed, words_needed}
use Rattle.lq_prune.specs.Texts.{has_texts, have_texts}
use Rattle.lq_prune.proofs.Known.{IsKnown}
use Rattle.lq_prune.proofs.WordLaws.{all-ended, all-texts, both-lists, filled}

-- ---- fields

-- the column of the name may have the word
abbrev Admits : Outline → List ℕ → List ℕ → Type 0
Admits outline name word = admits (column_word name word) outline ≡ true

in-field : (outline : Outline) (name : List ℕ) (need : TheNeed)
    → (is_reserved name ≡ false → admits need outline ≡ true) → admits (field_need name need) outline ≡ true
in-field outline name need h = by (is_reserved name) refl
  where
    by : (b : Bool) → is_reserved name ≡ b → admits (cond b nothing need) outline ≡ true
    by true e = refl
    by false e = h e

fourth : (a b c : Bool) (w x y z : List ℕ) → (a || (b || c)) ≡ false → cond a w (cond b x (cond c y z)) ≡ z
fourth true b c w x y z e = absurd cc
fourth false true c w x y z e = absurd cc
fourth false false true w x y z e = absurd cc
fourth false false false w x y z e = refl

-- the value of a field that is not computed
stored : (row : Row) (name : List ℕ) → is_reserved name ≡ false → value_of row name ≡ field_value row.fields name
stored row name e =
    fourth (bytes_eq name (codes "_time")) (bytes_eq name (codes "_stream")) (bytes_eq name (codes "_stream_id"))
    (moment_text row.moment) (label_text row.labels) (stream_id row.labels) (field_value row.fields name) e

all-words : (outline : Outline) (name : List ℕ) (words : List (List ℕ)) → AllByRecursion (Admits outline name) words
    → admits (words_needed name words) outline ≡ true
all-words outline name [] h = refl
all-words outline name (word ∷ words) h =
    and_from (admits (column_word name word) outline) (admits (words_needed name words) outline) h.0
    (all-words outline name words h.1)

-- the empty prefix stands in each value
empty-prefix : (value text : List ℕ) → is_empty text ≡ true → occurs_as_prefix value text ≡ true
empty-prefix value text empty = sym (occurs_as_prefix-empty value text (grind arith))

-- a phrase that stands at a place occurs
stands : (value text : List ℕ) (place : ℕ) → place < suc (length value) → stands_at value text place ≡ true
    → occurs value text ≡ true
unfolding occurs
stands value text place within at =
    any_at (stands_at value text) 0 (suc (length value)) place (omega arith) (omega (arith, within)) at

either : (a b c d : Bool) → (a ≡ true → c ≡ true) → (b ≡ true → d ≡ true) → (a || b) ≡ true → (c || d) ≡ true
either true b c d first second e = ap (λ x. x || d) (first refl)
either false b c d first second e = right_true c d (second e)

-- ---- values

module _ (outline : Outline) (row : Row) (name : List ℕ) (known : IsKnown outline row) where
  abbrev value : List ℕ
  value = field_value row.fields name

  -- all words of a phrase
  phrase-words : (text : List ℕ) → is_utf8 text ≡ true → occurs value text ≡ true
      → AllByRecursion (Admits outline name) (words_in text)
  phrase-words text utf8 has =
      all-texts (Admits outline name) text (words_of text) (λ word any.
      known.words name word
      (phrases-bring_words value text word (known.texts name) (IsUtf8-from_is_utf8 text utf8) has any))

  -- those of a prefix that end before it does
  prefix-words : (text : List ℕ) → is_utf8 text ≡ true → occurs_as_prefix value text ≡ true
      → AllByRecursion (Admits outline name) (ended_words text)
  prefix-words text utf8 has =
      all-ended (Admits outline name) text (words_of text) (λ word any.
      known.words name word
      (prefixes-bring_words value text word (known.texts name) (IsUtf8-from_is_utf8 text utf8) has any))

  prefix-met : (text : List ℕ) → is_utf8 text ≡ true
      → cond (is_empty text) (not (is_empty value)) (occurs_as_prefix value text) ≡ true
      → AllByRecursion (Admits outline name) (ended_words text)
  prefix-met text utf8 met = by (is_empty text) refl met
    where
      by : (b : Bool) → is_empty text ≡ b → cond b (not (is_empty value)) (occurs_as_prefix value text) ≡ true
          → AllByRecursion (Admits outline name) (ended_words text)
      by true empty h = prefix-words text utf8 (empty-prefix value text empty)
      by false e h = prefix-words text utf8 h

  -- all words of the value itself
  own-words : (text : List ℕ) → bytes_eq value text ≡ true → AllByRecursion (Admits outline name) (words_in text)
  own-words text same =
      let equal : value ≡ text = (bytes_eq-Decides value text).0 same in
      subst (λ t. AllByRecursion (Admits outline name) (words_in t)) equal
      (all-texts (Admits outline name) value (words_of value) (λ word any. known.words name word any))

  -- a text that the value begins with stands in it
  begins : (text : List ℕ) → starts_with nat_eq value text ≡ true → occurs_as_prefix value text ≡ true
  unfolding occurs_as_prefix
  begins text starts =
      any_at (stands_as_prefix value text) 0 (suc (length value)) 0 (omega arith) (omega arith)
      (rw (starts, chars-nil, and_right (begins_word (chars text)) false refl) refl)

  -- a text without bytes has no words
  no-words : (text : List ℕ) → is_empty text ≡ true → AllByRecursion (Admits outline name) (words_in text)
  no-words text empty =
      all-texts (Admits outline name) text (words_of text) (λ word any.
      let some = filled text word any in absurd (grind arith))

  -- all words of phrases in order
  sequence-words : (texts : List (List ℕ)) (from : ℕ) → list_all is_utf8 texts ≡ true
      → in_order value from texts ≡ true → AllByRecursion (Admits outline name) (flat_map words_in texts)
  sequence-words [] from utf8 has = tt
  sequence-words (text ∷ texts) from utf8 has =
      let parts = and_parts (is_utf8 text) (list_all is_utf8 texts) utf8 in
      subst (AllByRecursion (Admits outline name)) (sym (flat_map-cons words_in text texts))
      (by (is_empty text) refl has parts.0 (λ start. sequence-words texts start parts.1))
    where
      by : (b : Bool) → is_empty text ≡ b
          → cond b (in_order value from texts)
          (list_any (λ place. stands_at value text place && in_order value (place + length text) texts)
          (range_with_len from (suc (length value) - from))) ≡ true
          → is_utf8 text ≡ true
          → ((start : ℕ) → in_order value start texts ≡ true
          → AllByRecursion (Admits outline name) (flat_map words_in texts))
          → AllByRecursion (Admits outline name) (words_in text ++ flat_map words_in texts)
      by true e h first later =
          both-lists (Admits outline name) (words_in text) (flat_map words_in texts) (no-words text e) (later from h)
      by false e h first later =
          let found = found_in (λ place. stands_at value text place && in_order value (place + length text) texts) from
          (suc (length value) - from) h in
          let here = and_parts (stands_at value text found.place)
          (in_order value (found.place + length text) texts) found.passes in
          both-lists (Admits outline name) (words_in text) (flat_map words_in texts)
          (phrase-words text first (stands value text found.place (omega (arith, found.low, found.high)) here.0))
          (later (found.place + length text) here.1)

  -- all words of one of the texts
  some-words : (texts : List (List ℕ)) → list_any (bytes_eq value) texts ≡ true
      → admits (one_needed (map (text_needed name) texts)) outline ≡ true
  some-words [] has = absurd cc
  some-words (text ∷ texts) has = by (bytes_eq value text) refl has (some-words texts)
    where
      by : (b : Bool) → bytes_eq value text ≡ b → (b || list_any (bytes_eq value) texts) ≡ true
          → (list_any (bytes_eq value) texts ≡ true
          → admits (one_needed (map (text_needed name) texts)) outline ≡ true)
          → (admits (text_needed name text) outline
          || admits (one_needed (map (text_needed name) texts)) outline) ≡ true
      by true e h later =
          ap (λ b. b || admits (one_needed (map (text_needed name) texts)) outline)
          (all-words outline name (words_in text) (own-words text e))
      by false e h later =
          right_true (admits (text_needed name text) outline)
          (admits (one_needed (map (text_needed name) texts)) outline) (later h)

-- ---- times

overlaps : (least greatest from to moment : ℤ) → is_within from to moment ≡ true → least ≤ℤ moment
    → moment ≤ℤ greatest → (int_le from greatest && int_le least to) ≡ true
overlaps least greatest from to moment within low high = grind (arith, ints)

recent : (least greatest now span moment : ℤ) → is_recent now span moment ≡ true → least ≤ℤ moment
    → moment ≤ℤ greatest → (int_le (now -ℤ span +ℤ pos 1) greatest && int_le least now) ≡ true
recent least greatest now span moment within low high = grind (arith, ints)

-- ---- conditions

module _ (now : ℤ) (outline : Outline) (row : Row) (known : IsKnown outline row) where
  abbrev AsStored : List ℕ → (List ℕ → Bool) → Type 0
  AsStored name test = is_reserved name ≡ false → test (field_value row.fields name) ≡ true

  as-stored : (name : List ℕ) (test : List ℕ → Bool) → test (value_of row name) ≡ true → AsStored name test
  as-stored name test met e = ap test (sym (stored row name e)) ∙ met

  mutual
    pub sound : (condition : Condition) → has_texts condition ≡ true → holds now condition row ≡ true
        → admits (need_of now condition) outline ≡ true
    sound is.always texts met = refl
    sound (is.some_value name) texts met = refl
    sound (is.no_value name) texts met = refl
    sound (is.phrase name text) texts met =
        in-field outline name (text_needed name text) (λ e. all-words outline name (words_in text)
        (phrase-words outline row name known text texts (as-stored name (λ v. occurs v text) met e)))
    sound (is.prefix name text) texts met =
        in-field outline name (words_needed name (ended_words text)) (λ e. all-words outline name (ended_words text)
        (prefix-met outline row name known text texts
        (as-stored name (λ v. cond (is_empty text) (not (is_empty v)) (occurs_as_prefix v text)) met e)))
    sound (is.exact name text) texts met =
        in-field outline name (text_needed name text) (λ e. all-words outline name (words_in text)
        (own-words outline row name known text (as-stored name (λ v. bytes_eq v text) met e)))
    sound (is.exact_prefix name text) texts met =
        in-field outline name (words_needed name (ended_words text)) (λ e. all-words outline name (ended_words text)
        (prefix-words outline row name known text texts (begins outline row name known text
        (as-stored name (λ v. starts_with nat_eq v text) met e))))
    sound (is.one_of name phrases) texts met =
        in-field outline name (one_needed (map (text_needed name) phrases)) (λ e.
        some-words outline row name known phrases (as-stored name (λ v. list_any (bytes_eq v) phrases) met e))
    sound (is.pattern name text) texts met = refl
    sound (is.folded name text) texts met = refl
    sound (is.sequence name phrases) texts met =
        in-field outline name (words_needed name (flat_map words_in phrases)) (λ e.
        all-words outline name (flat_map words_in phrases) (sequence-words outline row name known phrases 0 texts
        (as-stored name (λ v. in_order v 0 phrases) met e)))
    sound (is.length_in name low high) texts met = refl
    sound (is.text_in name low high) texts met = refl
    sound (is.number_in name low high) texts met = refl
    sound (is.last span) texts met =
        recent outline.min outline.max now span (pos row.moment) met known.least known.greatest
    sound (is.times from to) texts met =
        overlaps outline.min outline.max from to (pos row.moment) met known.least known.greatest
    sound (is.selected groups) texts met = ap (selects groups) (sym known.labels) ∙ met
    sound (is.negated condition) texts met = refl
    sound (is.all_of conditions) texts met = sound-all conditions texts met
    sound (is.any_of conditions) texts met = sound-some conditions texts met

    sound-all : (conditions : Conditions) → have_texts conditions ≡ true
        → are_all_met conditions (row_subject now row) ≡ true
        → admits (all_needed (needs_of now conditions)) outline ≡ true
    sound-all is.no_more texts met = refl
    sound-all (is.one_more condition conditions) texts met =
        let utf8 = and_parts (has_texts condition) (have_texts conditions) texts in
        let parts = and_parts (is_met condition (row_subject now row)) (are_all_met conditions (row_subject now row))
        met in
        and_from (admits (need_of now condition) outline) (admits (all_needed (needs_of now conditions)) outline)
        (sound condition utf8.0 parts.0) (sound-all conditions utf8.1 parts.1)

    sound-some : (conditions : Conditions) → have_texts conditions ≡ true
        → is_some_met conditions (row_subject now row) ≡ true
        → admits (one_needed (needs_of now conditions)) outline ≡ true
    sound-some is.no_more texts met = absurd cc
    sound-some (is.one_more condition conditions) texts met =
        let utf8 = and_parts (has_texts condition) (have_texts conditions) texts in
        either (is_met condition (row_subject now row)) (is_some_met conditions (row_subject now row))
        (admits (need_of now condition) outline) (admits (one_needed (needs_of now conditions)) outline)
        (sound condition utf8.0) (sound-some conditions utf8.1) met
