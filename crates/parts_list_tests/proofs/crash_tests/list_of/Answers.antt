use Rattle.std.proofs.Common.{◌≡◌, ◌<◌, ◌≤◌, ◌^◌, ℕ, List, [], ◌∷◌, true, refl, subst, sym, arith}
use Rattle.std.proofs.lemmas.Bool.{le-leb, lt-ltb}
use Rattle.parts_list.specs.declared.list.Entry.{Entry}
use Rattle.parts_list.specs.Listing.{is_list}
use Rattle.parts_list_tests.proofs.crash_tests.list_of.Goals as goal

-- the list keeps the rules
rules : (g : ℕ) → 1 ≤ g → g < 100 → is_list (record {
  generation = g;
  front = g;
  next_file = 9;
  entries = record { day = 3; file = 7; bytes = g } ∷ record { day = 19000; file = 2; bytes = 1000000 } ∷ [];
}) ≡ true
rules g least most =
    let none : 0 ≤ g = omega arith in
    let small : g < 2 ^ 63 = omega arith in
    let fits : g < 2 ^ 64 = omega arith in
    rw (le-leb 1 g least, lt-ltb g (2 ^ 63) small, le-leb 0 g none, lt-ltb g (2 ^ 64) fits) refl

pub returns-clause-rules : goal.returns-clause-rules
returns-clause-rules c =
    let g = c.args.generation in
    subst (λ (es : List Entry). is_list (record { generation = g; front = g; next_file = 9; entries = es }) ≡ true)
    (sym c.in_ok-entries.ensures) (rules g c.requires.least c.requires.most)
