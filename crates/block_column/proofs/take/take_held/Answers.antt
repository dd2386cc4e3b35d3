use Rattle.std.proofs.Common.{◌≡◌, ◌∙◌, ℕ, List, Bor, ap, length, map}
use Rattle.std.proofs.lemmas.List.{length-map}
use Rattle.block_column.proofs.take.take_held.Goals as goal

abbrev now_of : Bor (List ℕ) → List ℕ
now_of t = t.now

pub try_of-requires : goal.try_of-requires
try_of-requires c = rw c.as_slice.ensures.value c.in_ok-texts.ensures.small

pub returns-clause-value : goal.returns-clause-value
returns-clause-value c =
    let held : c.in_ok-held.held ≡ map now_of c.in_ok-texts.texts.items = c.in_ok-held.ensures
    ∙ ap (map now_of) c.as_slice.ensures.value in
    rw held c.in_ok-texts.ensures.value

pub returns-clause-count : goal.returns-clause-count
returns-clause-count c =
    let held : c.in_ok-held.held ≡ map now_of c.in_ok-texts.texts.items = c.in_ok-held.ensures
    ∙ ap (map now_of) c.as_slice.ensures.value in
    ap length held ∙ length-map c.in_ok-texts.texts.items now_of ∙ c.in_ok-texts.ensures.count
