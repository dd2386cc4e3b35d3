use Rattle.std.proofs.Common.{◌<◌, ◌^◌, ◌++◌, ◌∙◌, List, ap, length, subst, sym, ℕ}
use Rattle.std.specs.List.{list_all}
use Rattle.std.proofs.lemmas.List.{append_assoc}
use Rattle.log_model.specs.History.{Numbered}
use Rattle.part_model.specs.Filling.{AreFilled}
use Rattle.part_model.specs.Part.{IsPart}
use Rattle.part_file.specs.Blocks.{blocks_bytes}
use Rattle.part_file.specs.Format.{head_bytes, is_sized}
use Rattle.part_file.specs.TestLaws.{is-written, part-bytes, written-part}
use Rattle.part_file.proofs.part.Part.put.Goals as goal

pub returns-clause-bytes : goal.returns-clause-bytes
returns-clause-bytes c =
    let filled : AreFilled c.self.inside.blocks.items c.args.self.now = subst (AreFilled c.self.inside.blocks.items)
    c.self.view_is c.self.invariant.filled in
    c.in_ok-put_blocks.ensures.bytes
    ∙ ap (λ (l : List ℕ). l ++ blocks_bytes c.as_slice.result.now) c.in_ok-put_head.ensures
    ∙ append_assoc c.args.out.now.items head_bytes (blocks_bytes c.as_slice.result.now)
    ∙ ap (λ (b : List (List Numbered)). c.args.out.now.items ++ (head_bytes ++ blocks_bytes b)) c.as_slice.ensures.value
    ∙ ap (λ (l : List ℕ). c.args.out.now.items ++ l) (sym (part-bytes c.self.inside.blocks.items c.args.self.now filled))

pub returns-clause-written : goal.returns-clause-written
returns-clause-written c =
    let filled : AreFilled c.self.inside.blocks.items c.args.self.now = subst (AreFilled c.self.inside.blocks.items)
    c.self.view_is c.self.invariant.filled in
    is-written c.args.self.now (written-part c.self.inside.blocks.items c.args.self.now (subst IsPart c.self.view_is
    c.self.invariant.part) filled (ap (list_all is_sized) (sym c.as_slice.ensures.value)
    ∙ c.in_ok-put_blocks.ensures.sized) (subst (λ (b : List (List Numbered)). length b < 2 ^ 32) c.as_slice.ensures.value
    c.in_ok-put_blocks.ensures.few))
