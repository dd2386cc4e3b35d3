use Rattle.std.proofs.Common.{◌≡◌, ◌++◌, ◌∙◌, List, ℕ, ap, append_assoc, arith, length, sym}
use Rattle.std.specs.Int.{w32, w64, to_le_bytes}
use Rattle.std.specs.List.{flat_map}
use Rattle.block_format.proofs.KeyLaws.{keys-written}
use Rattle.byte_format.specs.Written.{signed_bytes}
use Rattle.block_body.specs.Held.{numbers_in}
use Rattle.block_body.proofs.StoreLaws.{numbers-wide}
use Rattle.block_body.proofs.write.put_keys.Goals as goal

joined : (s a b c x y z : List ℕ) → x ≡ s ++ a → y ≡ x ++ b → z ≡ y ++ c → z ≡ s ++ (a ++ (b ++ c))
joined s a b c x y z p q r =
    r ∙ ap (λ (l : List ℕ). l ++ c) (q ∙ ap (λ (l : List ℕ). l ++ b) p) ∙ append_assoc (s ++ a) b c
    ∙ append_assoc s a (b ++ c)

pub returns : goal.returns
returns c =
    let out : List ℕ = c.args.out.now.items in
    let times = c.args.body.now.times.items in
    let places : List ℕ = c.args.body.now.places.items in
    let len : c.len.result ≡ length c.args.body.now.times.items = omega (arith, c.len.ensures) in
    let numbers : List ℕ = numbers_in c.len.result c.args.batches.now in
    joined c.args.out.now.items (flat_map signed_bytes c.as_slice.result.now) (flat_map (to_le_bytes w64) (numbers_in
    c.len.result c.args.batches.now)) (flat_map (to_le_bytes w32) c.as_slice-2.result.now) c.put_i64s.new.out.items
    c.put_batches.new.out.items c.put_u32s.new.out.items c.in_ok-put_i64s.ensures c.in_ok-put_batches.ensures
    c.in_ok-put_u32s.ensures
    ∙ ap (λ l. out ++ (flat_map signed_bytes l ++ (flat_map (to_le_bytes w64) numbers ++ flat_map (to_le_bytes w32)
    c.as_slice-2.result.now))) c.as_slice.ensures.value
    ∙ ap (λ (l : List ℕ). out ++ (flat_map signed_bytes times ++ (flat_map (to_le_bytes w64) numbers ++ flat_map
    (to_le_bytes w32) l))) c.as_slice-2.ensures.value
    ∙ ap (λ (n : ℕ). out ++ (flat_map signed_bytes times ++ (flat_map (to_le_bytes w64) (numbers_in n
    c.args.batches.now) ++ flat_map (to_le_bytes w32) places))) len
    ∙ ap (λ (l : List ℕ). out ++ l) (sym (keys-written c.args.body.now.times.items (numbers_in
    (length c.args.body.now.times.items) c.args.batches.now) c.args.body.now.places.items (numbers-wide (length
    c.args.body.now.times.items) c.args.batches.now c.requires.wide) c.requires.places))
