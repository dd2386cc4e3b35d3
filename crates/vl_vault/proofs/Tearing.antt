-- A write over bytes that were first made long enough.
use Rattle.std.proofs.Common.{◌≡◌, ◌≤◌, ◌<◌, ◌-◌, ◌+◌, ◌∙◌, ap, ℕ, List, ◌++◌, length, take, drop, get_or, arith}
use Rattle.std.specs.Prelude.{Result, IfOk, Ok, Err}
use Rattle.std.proofs.lemmas.List.{length-append, length-take, length-drop, get_or_append_left, get_or-take}
use Rattle.std.proofs.lemmas.List.{get_or-drop, get_or-append_right}
use Rattle.vl_vault.specs.Disk.{IsTorn}
use Rattle.vl_vault.specs.Calls.{overwritten}

module _ (left more front : List ℕ) (at size : ℕ) (gap : length more ≡ at - length left) (short : length front ≤
    size) where
  abbrev pub base : List ℕ
  base = left ++ more

  abbrev pub head : List ℕ
  head = take at base ++ front

  base_length : length base ≡ length left + length more
  base_length = length-append left more

  take_length : length (take at base) ≡ at
  take_length = omega (arith, length-take at base, base_length, gap)

  head_length : length head ≡ at + length front
  head_length = length-append (take at base) front ∙ ap (λ n. n + length front) take_length

  whole_length : length (overwritten base at front) ≡ length head + (length base - (at + length front))
  whole_length = length-append head (drop (at + length front) base)
      ∙ ap (λ n. length head + n) (length-drop (at + length front) base)

  below : (i : ℕ) → i < length left → i < at → get_or (overwritten base at front) i 0 ≡ get_or left i 0
  below i inside before =
      get_or_append_left head (drop (at + length front) base) 0 i (omega (arith, head_length))
      ∙ get_or_append_left (take at base) front 0 i (omega (arith, take_length))
      ∙ get_or-take at base i 0 before
      ∙ get_or_append_left left more 0 i inside

  above : (i : ℕ) → i < length left → at + size ≤ i → get_or (overwritten base at front) i 0 ≡ get_or left i 0
  above i inside after =
      let back : (at + length front) + (i - (at + length front)) ≡ i = omega (arith, short) in
      get_or-append_right head (drop (at + length front) base) (at + length front) i 0 head_length (omega (
        arith,
        short,
      ))
      ∙ get_or-drop (at + length front) base (i - (at + length front)) 0
      ∙ ap (λ k. get_or base k 0) back
      ∙ get_or_append_left left more 0 i inside

  pub torn_over : IsTorn at size left (overwritten base at front)
  torn_over = record {
    no_shorter = omega (arith, whole_length, head_length, base_length, gap);
    no_longer = omega (arith, whole_length, head_length, base_length, gap, short);
    below = below;
    above = above;
  }

pub if_ok : {X E : Type 0} {P Q : X → Type 0} (r : Result X E) → ((x : X) → P x → Q x) → IfOk r P → IfOk r Q
if_ok (Ok x) f p = f x p
if_ok (Err e) f p = p
