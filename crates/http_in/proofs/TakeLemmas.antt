-- A read into the end of a list.
use Rattle.std.proofs.Common.{◌≡◌, ℕ, ◌+◌, ◌≤◌, List, ◌++◌, take, drop, length, ap, sym, ◌∙◌, arith, length-append}
use Rattle.std.proofs.Math.Seq.{take-append-add, take-append_seam}
use Rattle.std.proofs.lemmas.List.{take-append-drop, take-append-le, length-take, take_all}

-- where a buffer is `front`, then what was read, then more, and is cut after the bytes that came
pub read_behind : (have count len : ℕ) (front piece more rest : List ℕ) → have ≡ length front → count ≤ length piece
    → have + count ≤ len
    → take (have + count) (take len (front ++ (piece ++ more) ++ rest)) ≡ front ++ take count piece
read_behind have count len front piece more rest is_len within fits =
    let all : List ℕ = front ++ (piece ++ more) ++ rest in
    let long : have + count ≤ length (front ++ (piece ++ more)) = omega
    (arith, length-append front (piece ++ more), length-append piece more) in
    let cut : have + count ≤ length (take len all) = omega
    (arith, length-take len all, length-append (front ++ (piece ++ more)) rest) in
    sym (take-append-le (have + count) (take len all) (drop len all) cut) ∙ ap (take (have + count))
    (take-append-drop len all)
    ∙ take-append-le (have + count) (front ++ (piece ++ more)) rest long
    ∙ ap (λ n. take (n + count) (front ++ (piece ++ more))) is_len ∙ take-append-add front (piece ++ more) count
    ∙ ap (λ l. front ++ l) (take-append-le count piece more within)

pub resized_front : (have most : ℕ) (old fill : List ℕ) → have ≡ length old → take have
    (take (have + most) old ++ fill) ≡ old
resized_front have most old fill is_len =
    ap (λ l. take have (l ++ fill)) (take_all (have + most) old (omega arith)) ∙ ap (λ n. take n (old ++ fill)) is_len
    ∙ take-append_seam old fill
