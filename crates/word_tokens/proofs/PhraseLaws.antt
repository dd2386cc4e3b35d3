-- Where a phrase stands in a text its words are words of the text.
use Rattle.std.proofs.Common.{◌≡◌, ◌<◌, ◌≤◌, ℕ, suc, ◌+◌, ◌-◌, Bool, true, false, not, ◌&&◌, List, [], ◌∷◌, ◌++◌}
use Rattle.std.proofs.Common.{length, take, drop, get_or, chars, nat_eq, refl, sym, ap, ◌∙◌, ⊎_elim, arith}
use Rattle.std.specs.List.{list_all, range_with_len, slice_range, starts_with}
use Rattle.std.specs.Str.{IsCharBoundary, IsUtf8}
use Rattle.std.proofs.Math.Seq.{take-add, take-length}
use Rattle.std.proofs.lemmas.Bool.{cases_lt}
use Rattle.std.proofs.lemmas.List.{drop-append-le, drop-drop, length-drop, length-take-le, take-append-le}
use Rattle.std.proofs.lemmas.List.Folds.{Any-from_list_any}
use Rattle.std.proofs.lemmas.Str.{IsUtf8-drop, IsUtf8-take, chars-append}
use Rattle.memchr.specs.Find.{OccursAt}
use Rattle.log_model.specs.Words.{begins_word, ends_word, is_word_char, occurs, stands_at}
use Rattle.word_tokens.specs.PhraseWords.{PhrasesBringWords, PrefixesBringWords}
use Rattle.word_tokens.specs.Prefix.{occurs_as_prefix, stands_as_prefix}
use Rattle.word_tokens.specs.Runs.{IsOneOfWords}
use Rattle.word_tokens.proofs.OneOfWords.{IsWord-listed, apart, listed-IsWord}
use Rattle.word_tokens.proofs.Places.{IsCharBoundary-OccursAt, IsCharBoundary-after_OccursAt, OccursAt-starts_with}
use Rattle.word_tokens.proofs.Places.{split_at}
use Rattle.word_tokens.proofs.WordRuns.{IsWord, IsWord-begins, both, chars-filled, words-end}

begins-front : (cs ds : List ℕ) → 0 < length cs → begins_word (cs ++ ds) ≡ begins_word cs
begins-front [] ds filled = absurd (omega arith)
begins-front (c ∷ cs) ds filled = refl

ends-back : (cs ds : List ℕ) → 0 < length ds → ends_word (cs ++ ds) ≡ ends_word ds
ends-back cs [] filled = absurd (omega arith)
ends-back [] (d ∷ ds) filled = refl
ends-back (c ∷ []) (d ∷ ds) filled = refl
ends-back (c ∷ e ∷ cs) (d ∷ ds) filled = ends-back (e ∷ cs) (d ∷ ds) filled

-- the bytes of a phrase stand at a place of a text, and no word goes on across their beginning
module _ (text phrase : List ℕ) (place : ℕ) (text_utf8 : IsUtf8 text) (utf8 : IsUtf8 phrase)
    (filled : 0 < length phrase) (found : OccursAt text phrase place)
    (begins_apart : not (begins_word (chars phrase) && ends_word (chars (take place text))) ≡ true) where
  abbrev rest : List ℕ
  rest = drop (place + length phrase) text

  front_cut : IsCharBoundary text place
  front_cut = IsCharBoundary-OccursAt text phrase place utf8 filled found

  front_utf8 : IsUtf8 (take place text)
  front_utf8 = IsUtf8-take text place text_utf8 front_cut

  end_cut : IsCharBoundary text (place + length phrase)
  end_cut = IsCharBoundary-after_OccursAt text phrase place text_utf8 utf8 filled found

  -- the text may be cut where the phrase may
  cut_at : (i : ℕ) → IsCharBoundary phrase i → IsCharBoundary text (place + i)
  cut_at i cut =
      ⊎_elim (λ (inside : i < length phrase).
      let same : get_or text (place + i) 0 ≡ get_or phrase i 0 = found.reads i inside in
      (omega (arith, found.fits), λ _ high. rw same (cut.1 inside (rw same at high))))
      (λ (past : length phrase ≤ i).
      let at_end : i ≡ length phrase = omega (arith, cut.0) in
      rw at_end end_cut)
      (cases_lt i (length phrase))

  drop_at : (i : ℕ) → i ≤ length phrase → drop (place + i) text ≡ drop i phrase ++ rest
  drop_at i within =
      sym (drop-drop i place text) ∙ ap (drop i) (split_at text phrase place found) ∙ drop-append-le i phrase _ within

  slice_at : (i j : ℕ) → i ≤ j → j ≤ length phrase
      → slice_range text (place + i) (place + j) ≡ slice_range phrase i j
  slice_at i j low high =
      let size : place + j - (place + i) ≡ j - i = omega arith in
      let within : j - i ≤ length (drop i phrase) = omega (arith, length-drop i phrase) in
      ap (λ n. take n (drop (place + i) text)) size
      ∙ ap (take (j - i)) (drop_at i (omega arith))
      ∙ take-append-le (j - i) (drop i phrase) _ within

  chars_before : (i : ℕ) → i ≤ length phrase
      → chars (take (place + i) text) ≡ chars (take place text) ++ chars (take i phrase)
  chars_before i within =
      ap chars (take-add place i text ∙ ap (λ l. take place text ++ l) (ap (take i) (split_at text phrase place found)
      ∙ take-append-le i phrase _ within))
      ∙ chars-append (take place text) (take i phrase) front_utf8

  chars_after : (i : ℕ) → IsCharBoundary phrase i → chars (drop (place + i) text) ≡ chars (drop i phrase) ++ chars rest
  chars_after i cut =
      ap chars (drop_at i cut.0) ∙ chars-append (drop i phrase) _ (IsUtf8-drop phrase i utf8 cut)

  module _ (start end : ℕ) (word : IsWord phrase start end) where
    apart_before : ends_word (chars (take (place + start) text)) ≡ false
    apart_before =
        ⊎_elim (λ (later : 0 < start).
        let front : IsUtf8 (take start phrase) = IsUtf8-take phrase start utf8 word.start_cut in
        let some : 0 < length (take start phrase) = omega (arith, length-take-le start phrase word.start_cut.0) in
        ap ends_word (chars_before start word.start_cut.0)
        ∙ ends-back (chars (take place text)) _ (chars-filled (take start phrase) front some)
        ∙ word.apart_before)
        (λ (first : start ≤ 0).
        let at_start : start ≡ 0 = omega arith in
        let here : place + start ≡ place = omega arith in
        let begins : begins_word (chars phrase) ≡ true =
        ap (λ n. begins_word (chars (drop n phrase))) (sym at_start) ∙ IsWord-begins phrase utf8 start end word in
        ap (λ n. ends_word (chars (take n text))) here ∙ apart _ _ begins begins_apart)
        (cases_lt 0 start)

    -- before the end of the phrase its own next character ends the word
    apart_inside : end < length phrase → begins_word (chars (drop (place + end) text)) ≡ false
    apart_inside inside =
        let back : IsUtf8 (drop end phrase) = IsUtf8-drop phrase end utf8 word.end_cut in
        let some : 0 < length (drop end phrase) = omega (arith, length-drop end phrase) in
        ap begins_word (chars_after end word.end_cut)
        ∙ begins-front _ (chars rest) (chars-filled (drop end phrase) back some)
        ∙ word.apart_after

    -- at its end what follows the phrase does
    apart_at_end : not (ends_word (chars phrase) && begins_word (chars rest)) ≡ true → length phrase ≤ end
        → begins_word (chars (drop (place + end) text)) ≡ false
    apart_at_end ends_apart past =
        let at_end : end ≡ length phrase = omega (arith, word.end_cut.0) in
        let ends : ends_word (chars phrase) ≡ true =
        ap (λ l. ends_word (chars l)) (sym (ap (λ n. take n phrase) at_end ∙ take-length phrase))
        ∙ words-end phrase utf8 start end word.start_cut word.end_cut word.before word.run in
        ap (λ n. begins_word (chars (drop (place + n) text))) at_end ∙ apart _ _ ends ends_apart

    listed : begins_word (chars (drop (place + end) text)) ≡ false → IsOneOfWords text (slice_range phrase start end)
    listed apart_after =
        let same : slice_range text (place + start) (place + end) ≡ slice_range phrase start end =
        slice_at start end (omega (arith, word.before)) word.end_cut.0 in
        let at = listed-IsWord text text_utf8 (place + start) (place + end) (record {
          start_cut = cut_at start word.start_cut;
          end_cut = cut_at end word.end_cut;
          before = omega (arith, word.before);
          run = ap (λ l. list_all is_word_char (chars l)) same ∙ word.run;
          apart_before = apart_before;
          apart_after = apart_after;
        }) in
        (at.0, (place + start, place + end), at.1, at.2, same)

filled-phrase : (phrase : List ℕ) (start end : ℕ) → IsWord phrase start end → 0 < length phrase
filled-phrase phrase start end word = omega (arith, word.before, word.end_cut.0)

pub phrases-bring_words : PhrasesBringWords
unfolding occurs
phrases-bring_words text phrase word text_utf8 utf8 has listed_word =
    let at = listed_word.1 in
    let is : IsWord phrase at.0 at.1 = IsWord-listed phrase utf8 listed_word.0 at listed_word.2 listed_word.3 in
    let filled = filled-phrase phrase at.0 at.1 is in
    let spot = Any-from_list_any (stands_at text phrase) (range_with_len 0 (suc (length text))) has in
    let parts = both (starts_with nat_eq (drop spot.1 text) phrase) _ spot.4 in
    let sides = both (not (begins_word (chars phrase) && ends_word (chars (take spot.1 text)))) _ parts.1 in
    let found : OccursAt text phrase spot.1 = OccursAt-starts_with text phrase spot.1 filled parts.0 in
    let apart_after : begins_word (chars (drop (spot.1 + at.1) text)) ≡ false =
    ⊎_elim (apart_inside text phrase spot.1 text_utf8 utf8 filled found sides.0 at.0 at.1 is)
    (apart_at_end text phrase spot.1 text_utf8 utf8 filled found sides.0 at.0 at.1 is sides.1)
    (cases_lt at.1 (length phrase)) in
    rw (← listed_word.4) (listed text phrase spot.1 text_utf8 utf8 filled found sides.0 at.0 at.1 is apart_after)

pub prefixes-bring_words : PrefixesBringWords
unfolding occurs_as_prefix
prefixes-bring_words text prefix word text_utf8 utf8 has listed_word =
    let at = listed_word.1 in
    let is : IsWord prefix at.0 at.1 = IsWord-listed prefix utf8 listed_word.0 at listed_word.2 listed_word.3 in
    let filled = filled-phrase prefix at.0 at.1 is in
    let spot = Any-from_list_any (stands_as_prefix text prefix) (range_with_len 0 (suc (length text))) has in
    let parts = both (starts_with nat_eq (drop spot.1 text) prefix) _ spot.4 in
    let found : OccursAt text prefix spot.1 = OccursAt-starts_with text prefix spot.1 filled parts.0 in
    let apart_after =
    apart_inside text prefix spot.1 text_utf8 utf8 filled found parts.1 at.0 at.1 is listed_word.4.0
    in
    rw (← listed_word.4.1) (listed text prefix spot.1 text_utf8 utf8 filled found parts.1 at.0 at.1 is apart_after)
