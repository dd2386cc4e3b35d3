use Rattle.std.proofs.Common.{◌≡◌, ◌+◌, ◌++◌, ◌∙◌, ℕ, zero, suc, List, [], ap, append_assoc, arith, sym}
use Rattle.std.specs.Prelude.{replicate}
use Rattle.std.specs.Int.{w64, to_le_bytes}
use Rattle.std.specs.List.{flat_map}
use Rattle.std.proofs.lemmas.List.{append-nil}
use Rattle.std.proofs.lemmas.List.Concat.{flat_map-cons}
use Rattle.block_body.proofs.body.put_same.Goals as goal

same-next : (n k : ℕ) → flat_map (to_le_bytes w64) (replicate (suc k) n)
    ≡ flat_map (to_le_bytes w64) (replicate k n) ++ to_le_bytes w64 n
same-next n zero = flat_map-cons (to_le_bytes w64) n [] ∙ append-nil (to_le_bytes w64 n)
same-next n (suc k) =
    flat_map-cons (to_le_bytes w64) n (replicate (suc k) n)
    ∙ ap (λ (l : List ℕ). to_le_bytes w64 n ++ l) (same-next n k)
    ∙ sym (append_assoc (to_le_bytes w64 n) (flat_map (to_le_bytes w64) (replicate k n)) (to_le_bytes w64 n))
    ∙ ap (λ (l : List ℕ). l ++ to_le_bytes w64 n) (sym (flat_map-cons (to_le_bytes w64) n (replicate k n)))

same-more : (n k : ℕ) → flat_map (to_le_bytes w64) (replicate k n) ++ to_le_bytes w64 n
    ≡ flat_map (to_le_bytes w64) (replicate (k + 1) n)
same-more n k =
    let next : suc k ≡ k + 1 = omega arith in
    sym (same-next n k) ∙ ap (λ (m : ℕ). flat_map (to_le_bytes w64) (replicate m n)) next

pub loop-preserved : goal.loop-preserved
loop-preserved c =
    let out : List ℕ = c.args.out.now.items in
    let before : List ℕ = flat_map (to_le_bytes w64) (replicate c.loop.counter c.args.number) in
    c.in_ok-extend_from_slice.ensures.items
    ∙ ap (λ (l : List ℕ). l ++ c.to_le_bytes.result) c.loop.invariant
    ∙ ap (λ (l : List ℕ). (out ++ before) ++ l) c.to_le_bytes.ensures
    ∙ append_assoc out before (to_le_bytes w64 c.args.number)
    ∙ ap (λ (l : List ℕ). out ++ l) (same-more c.args.number c.loop.counter)
