use Rattle.std.proofs.Common.{◌≡◌, ◌∙◌, ℕ, zero, suc, List, ◌∷◌, ap, map, refl}
use Rattle.std.specs.Prelude.{replicate}
use Rattle.std.specs.List.{list_all}
use Rattle.block_model.specs.declared.recent.Entry.{Entry}
use Rattle.block_model.proofs.Slots.{all-same}
use Rattle.block_model.proofs.recent.Recent.new.Goals as goal

abbrev text_of : Entry → List ℕ
text_of s = s.text.now

alike : (n : ℕ) (entry : Entry) → map text_of (replicate n entry) ≡ replicate n (text_of entry)
alike zero entry = refl
alike (suc n) entry = ap (λ (l : List (List ℕ)). text_of entry ∷ l) (alike n entry)

pub returns-clause-slots : goal.returns-clause-slots
returns-clause-slots c =
    ap (map text_of) (c.in_ok-slots.ensures.items_if_clones_equal (λ y h. h))
    ∙ alike 512 (record { tag = c.tag_of-tag.result; text = c.args.text })

pub returns-clause-each : goal.returns-clause-each
returns-clause-each c p one =
    ap (λ (l : List Entry). list_all p (map text_of l)) (c.in_ok-slots.ensures.items_if_clones_equal (λ y h. h))
    ∙ all-same text_of p 512 (record { tag = c.tag_of-tag.result; text = c.args.text }) one
