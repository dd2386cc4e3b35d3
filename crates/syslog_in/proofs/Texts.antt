-- Texts that lie among bytes.
use Rattle.std.proofs.Common.{◌≡◌, ℕ, zero, suc, ◌-◌, Bool, true, ◌&&◌, nat_le, List, [], ◌∷◌, ◌++◌, length}
use Rattle.std.proofs.Common.{take, drop}
use Rattle.std.proofs.Common.{refl, ap, arith, ◌∙◌}
use Rattle.std.specs.Prelude.{slice_range}
use Rattle.std.proofs.lemmas.Bool.{and_parts, and_from, leb-true, le-leb}
use Rattle.std.proofs.lemmas.List.{map-append, length-append, drop-append-le, take-append-le, drop_at, take_all}
use Rattle.std.proofs.lemmas.List.{length-drop}
use Rattle.std.proofs.lemmas.List.Folds.{list_all-append}
use Rattle.syslog_in.specs.declared.frames.FrameSpan.{FrameSpan}
use Rattle.syslog_in.specs.Spans.{texts_at, are_inside}

abbrev is_inside : List ℕ → FrameSpan → Bool
is_inside bytes span = nat_le span.start span.end && nat_le span.end (length bytes)

inside_more : (bytes text : List ℕ) (span : FrameSpan) → is_inside bytes span ≡ true
    → is_inside (bytes ++ text) span ≡ true
inside_more bytes text span h =
    let parts = and_parts (nat_le span.start span.end) _ h in
    and_from _ _ parts.0 (le-leb span.end (length (bytes ++ text))
    (omega (arith, leb-true span.end (length bytes) parts.1, length-append bytes text)))

all_inside_more : (bytes text : List ℕ) (spans : List FrameSpan) → are_inside bytes spans ≡ true
    → are_inside (bytes ++ text) spans ≡ true
all_inside_more bytes text [] h = refl
all_inside_more bytes text (span ∷ spans) h =
    let parts = and_parts (is_inside bytes span) _ h in
    and_from _ _ (inside_more bytes text span parts.0) (all_inside_more bytes text spans parts.1)

text_same : (bytes text : List ℕ) (span : FrameSpan) → is_inside bytes span ≡ true
    → slice_range (bytes ++ text) span.start span.end ≡ slice_range bytes span.start span.end
text_same bytes text span h =
    let parts = and_parts (nat_le span.start span.end) _ h in
    let order = leb-true span.start span.end parts.0 in
    let within = leb-true span.end (length bytes) parts.1 in
    ap (take (span.end - span.start)) (drop-append-le span.start bytes text (omega arith))
    ∙ take-append-le (span.end - span.start) (drop span.start bytes) text (omega (arith, length-drop span.start bytes))

pub texts_same : (bytes text : List ℕ) (spans : List FrameSpan) → are_inside bytes spans ≡ true
    → texts_at (bytes ++ text) spans ≡ texts_at bytes spans
texts_same bytes text [] h = refl
texts_same bytes text (span ∷ spans) h =
    let parts = and_parts (is_inside bytes span) _ h in
    ap (λ (t : List ℕ). t ∷ texts_at (bytes ++ text) spans) (text_same bytes text span parts.0)
    ∙ ap (λ (ts : List (List ℕ)). slice_range bytes span.start span.end ∷ ts) (texts_same bytes text spans parts.1)

last_text : (bytes text : List ℕ) → slice_range (bytes ++ text) (length bytes) (length (bytes ++ text)) ≡ text
last_text bytes text =
    ap (take (length (bytes ++ text) - length bytes)) (drop_at bytes text (length bytes) refl)
    ∙ take_all (length (bytes ++ text) - length bytes) text (omega (arith, length-append bytes text))

abbrev span_of : ℕ → ℕ → FrameSpan
span_of start end = record { start = start; end = end }

last_inside : (bytes text : List ℕ) → is_inside (bytes ++ text) (span_of (length bytes) (length (bytes ++ text))) ≡ true
last_inside bytes text =
    and_from _ _ (le-leb (length bytes) (length (bytes ++ text)) (omega (arith, length-append bytes text)))
    (le-leb (length (bytes ++ text)) (length (bytes ++ text)) (omega arith))

-- one text more, at the end
pub pushed : (bytes text more : List ℕ) (spans others : List FrameSpan) (start end : ℕ) → more ≡ bytes ++ text
    → others ≡ spans ++ span_of start end ∷ [] → start ≡ length bytes → end ≡ length more
    → are_inside bytes spans ≡ true
    → (texts_at more others ≡ texts_at bytes spans ++ text ∷ []) × (are_inside more others ≡ true)
pushed bytes text more spans others start end more_is others_is start_is end_is inside =
    rw (others_is, end_is, start_is, more_is) (
      map-append _ spans (span_of (length bytes) (length (bytes ++ text)) ∷ [])
          ∙ ap (λ (ts : List (List ℕ)). ts ++ slice_range (bytes ++ text) (length bytes) (length (bytes ++ text)) ∷ [])
          (texts_same bytes text spans inside)
          ∙ ap (λ (t : List ℕ). texts_at bytes spans ++ t ∷ []) (last_text bytes text),
      list_all-append (is_inside (bytes ++ text)) spans (span_of (length bytes) (length (bytes ++ text)) ∷ [])
          ∙ and_from _ _ (all_inside_more bytes text spans inside) (and_from _ _ (last_inside bytes text) refl),
    )

pub taken : (bytes : List ℕ) (spans : List FrameSpan) (count : ℕ) → are_inside bytes spans ≡ true
    → are_inside bytes (take count spans) ≡ true
taken bytes spans zero inside = refl
taken bytes [] (suc count) inside = refl
taken bytes (span ∷ spans) (suc count) inside =
    let parts = and_parts (is_inside bytes span) _ inside in
    and_from _ _ parts.0 (taken bytes spans count parts.1)

-- bytes that are not a text after the others
pub unused : (bytes text more : List ℕ) (spans others : List FrameSpan) → more ≡ bytes ++ text → others ≡ spans
    → are_inside bytes spans ≡ true
    → (texts_at more others ≡ texts_at bytes spans) × (are_inside more others ≡ true)
unused bytes text more spans others more_is others_is inside =
    rw (others_is, more_is) (texts_same bytes text spans inside, all_inside_more bytes text spans inside)
