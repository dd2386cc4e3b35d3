-- A head or a section that is cut before the line feed that ends a line too many.
use Rattle.std.proofs.Common.{◌≡◌, ◌⊎◌, ℕ, ◌+◌, ◌<◌, ◌≤◌, min, Bool, true, false, List, [], ◌∷◌, ◌++◌, take, drop}
use Rattle.std.proofs.Common.{length}
use Rattle.std.proofs.Common.{get_or, refl, ap, sym, subst, ◌∙◌, inl, inr, arith, append_assoc, append-nil}
use Rattle.std.specs.Prelude.{nat_le}
use Rattle.std.proofs.lemmas.Bool.Decides.{nat_tests}
use Rattle.std.proofs.lemmas.List.{length-take, take-append-drop, take_all, take_more}
use Rattle.httparse.specs.Ascii.{line_feed}
use Rattle.httparse.specs.Grammar.{HasNoRequest, HasNoSection, MayBecomeRequest, MayBecomeSection, NeverHasRequest}
use Rattle.httparse.specs.Grammar.{NeverHasSection}
use Rattle.httparse.specs.Spans.{RequestExceeds, SectionExceeds}
use Rattle.http_in.specs.Faults.{HasBadHead, HasBadSection, HasLargeHead, HasLargeSection, IsHeadFront, IsInSection}
use Rattle.http_in.specs.Faults.{IsSectionFront}
use Rattle.http_in.specs.Limits.{field_limit, head_limit}
use Rattle.http_in.specs.Lines.{EndsLine, GoesOver, IsFrontOf, lines_in}
use Rattle.http_in.proofs.CountLemmas.{request_lines, section_lines}

-- ---- what is cut

pub front_whole : (bytes : List ℕ) (n lines : ℕ) → n ≡ min (length bytes) head_limit → lines_in (take n bytes) ≤ lines
    → length bytes < head_limit → IsFrontOf bytes lines (take n bytes) false
front_whole bytes n lines is few small = record {
  later = drop n bytes;
  whole = sym (take-append-drop n bytes);
  short = omega (arith, length-take n bytes, is);
  few = few;
  all = λ _. (take_all n bytes (omega (arith, is, small)), small);
  limit = λ e. cc;
}

pub front_long : (bytes : List ℕ) (n lines : ℕ) → n ≡ min (length bytes) head_limit → lines_in (take n bytes) ≤ lines
    → head_limit ≤ length bytes → IsFrontOf bytes lines (take n bytes) true
front_long bytes n lines is few large =
    let at : n ≡ head_limit = omega (arith, is, large) in
    record {
      later = drop n bytes;
      whole = sym (take-append-drop n bytes);
      short = omega (arith, length-take n bytes, is);
      few = few;
      all = λ e. cc;
      limit = λ _. inr (large, ap (λ k. take k bytes) at);
    }

-- this many bytes are those up to the limit
up_to_limit : (bytes : List ℕ) (n : ℕ) → n ≡ min (length bytes) head_limit → take head_limit bytes ≡ take n bytes
up_to_limit bytes n is = by_test (nat_le head_limit (length bytes)) refl
  where
    by_test : (t : Bool) → nat_le head_limit (length bytes) ≡ t → take head_limit bytes ≡ take n bytes
    by_test true is_long =
        let long : head_limit ≤ length bytes = grind (arith, nat_tests) in
        ap (λ k. take k bytes) (let e : head_limit ≡ n = omega (arith, is, long) in e)
    by_test false is_short =
        let short : length bytes < head_limit = grind (arith, nat_tests) in
        take_all head_limit bytes (omega (arith, short)) ∙ sym (take_all n bytes (omega (arith, is, short)))

pub front_cut : (bytes : List ℕ) (n at lines : ℕ) → n ≡ min (length bytes) head_limit → EndsLine
    (take n bytes) lines at
    → IsFrontOf bytes lines (take at (take n bytes)) true
front_cut bytes n at lines is ends =
    let front : List ℕ = take n bytes in
    let split : front ≡ take at front ++ line_feed ∷ drop (at + 1) front =
    sym (take-append-drop (at + 1) front) ∙ ap (λ l. l ++ drop (at + 1) front) (take_more front at 0 ends.inside)
    ∙ append_assoc (take at front) (get_or front at 0 ∷ []) (drop (at + 1) front)
    ∙ ap (λ b. take at front ++ b ∷ drop (at + 1) front) ends.feed in
    record {
      later = drop at front ++ drop n bytes;
      whole = sym (take-append-drop n bytes) ∙ ap (λ l. l ++ drop n bytes) (sym (take-append-drop at front))
          ∙ append_assoc (take at front) (drop at front) (drop n bytes);
      short = omega (arith, length-take n bytes, length-take at front, is);
      few = ends.few;
      all = λ e. cc;
      limit = λ _. inl (record {
        later = drop (at + 1) front;
        whole = up_to_limit bytes n is ∙ split;
        many = ends.many;
      });
    }

-- ---- heads

-- so few lines are no more fields than there may be
pub no_more_fields : (front : List ℕ) → lines_in front ≤ field_limit + 1 → RequestExceeds field_limit front → ⊥
no_more_fields front few e = absurd (omega (arith, few, request_lines field_limit front e))

pub bad_head : (front : List ℕ) → length front ≤ head_limit → lines_in front ≤ field_limit + 1
    → NeverHasRequest front
    → HasBadHead front
bad_head front short few never = record {
  front = front;
  later = [];
  whole = sym (append-nil front);
  short = short;
  few = few;
  never = never;
}

head_front : (bytes front : List ℕ) (full : Bool) → IsFrontOf bytes (field_limit + 1) front full
    → HasNoRequest front × MayBecomeRequest front → IsHeadFront front
head_front bytes front full is o = record { none = o.0; may = o.1; few = is.few }

pub head_large : (bytes front : List ℕ) → IsFrontOf bytes (field_limit + 1) front true
    → HasNoRequest front × MayBecomeRequest front → HasLargeHead bytes
head_large bytes front is o = by_limit (is.limit refl)
  where
    by_limit : GoesOver (take head_limit bytes) front (field_limit + 1)
        ⊎ ((head_limit ≤ length bytes) × (front ≡ take head_limit bytes))
        → HasLargeHead bytes
    by_limit (inl over) = inr (record { front = front; is_front = head_front bytes front true is o; over = over })
    by_limit (inr long) = inl (long.0, subst IsHeadFront long.1 (head_front bytes front true is o))

pub head_open : (bytes front : List ℕ) → IsFrontOf bytes (field_limit + 1) front false
    → HasNoRequest front × MayBecomeRequest front → (length bytes < head_limit) × IsHeadFront bytes
head_open bytes front is o =
    let all = is.all refl in (all.1, subst IsHeadFront all.0 (head_front bytes front false is o))

-- ---- trailer sections

pub no_more_trailers : (front : List ℕ) → lines_in front ≤ field_limit → SectionExceeds field_limit front → ⊥
no_more_trailers front few e = absurd (omega (arith, few, section_lines field_limit front e))

pub bad_section : (bytes front : List ℕ) (full : Bool) → IsFrontOf bytes field_limit front full → NeverHasSection front
    → HasBadSection bytes
bad_section bytes front full is never = record {
  front = front;
  later = is.later;
  whole = is.whole;
  short = is.short;
  few = is.few;
  never = never;
}

section_front : (bytes front : List ℕ) (full : Bool) → IsFrontOf bytes field_limit front full → HasNoSection front
    → MayBecomeSection front → IsSectionFront front
section_front bytes front full is none may = record { none = none; may = may; few = is.few }

pub section_long : (bytes front : List ℕ) → IsFrontOf bytes field_limit front true
    → HasNoSection front → MayBecomeSection front → HasLargeSection bytes
section_long bytes front is none may = by_limit (is.limit refl)
  where
    by_limit : GoesOver (take head_limit bytes) front field_limit
        ⊎ ((head_limit ≤ length bytes) × (front ≡ take head_limit bytes))
        → HasLargeSection bytes
    by_limit (inl over) =
        inr (record { front = front; is_front = section_front bytes front true is none may; over = over })
    by_limit (inr long) = inl (long.0, subst IsSectionFront long.1 (section_front bytes front true is none may))

pub section_open : (bytes front : List ℕ) → IsFrontOf bytes field_limit front false
    → HasNoSection front → MayBecomeSection front → IsInSection bytes
section_open bytes front is none may =
    let all = is.all refl in (all.1, subst IsSectionFront all.0 (section_front bytes front false is none may))
