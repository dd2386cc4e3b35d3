use Rattle.std.proofs.Common.{◌∙◌, ◌++◌, ◌<◌, ◌^◌, ℕ, List, ap, sym}
use Rattle.std.proofs.lemmas.List.Elements.{recursion_from_All, All-from_get_or}
use Rattle.col_codec.proofs.LaneLaws.{bytes-spelled}
use Rattle.col_codec.proofs.lanes.put_u8s.Goals as goal

pub returns : goal.returns
returns c =
    let small = recursion_from_All (λ (n : ℕ). n < 2 ^ 8) c.args.numbers.now (All-from_get_or (λ (n : ℕ). n < 2 ^ 8)
    c.args.numbers.now 0 (λ i lt. (c.type_inv.numbers i).fits)) in
    c.in_ok-extend_from_slice.ensures.items
    ∙ ap (λ (l : List ℕ). c.args.out.now.items ++ l) (sym (bytes-spelled c.args.numbers.now small))
