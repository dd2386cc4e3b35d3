-- Runs of bytes that pass a test.
use Rattle.std.proofs.Common.{◌≡◌, ℕ, ◌+◌, Bool, true, false, cond, List, [], ◌∷◌, ◌++◌, length, take}
use Rattle.std.proofs.Common.{drop}
use Rattle.std.proofs.Common.{refl, sym, ap, arith, ◌∙◌}
use Rattle.std.specs.List.{prefix_len, list_all}
use Rattle.std.proofs.Math.Numerals.{one-add}
use Rattle.std.proofs.lemmas.Bool.{and_parts, and_from, cond-true, cond-false}

pub all_taken : (test : ℕ → Bool) (bytes : List ℕ) → list_all test (take (prefix_len test bytes) bytes) ≡ true
all_taken test [] = refl
all_taken test (byte ∷ bytes) = by_case (test byte) refl (all_taken test bytes)
  where
    by_case : (b : Bool) → test byte ≡ b → list_all test (take (prefix_len test bytes) bytes) ≡ true
        → list_all test (take (cond b (1 + prefix_len test bytes) 0) (byte ∷ bytes)) ≡ true
    by_case true is more = rw (one-add (prefix_len test bytes)) (and_from _ _ is more)
    by_case false is more = refl

-- the byte after a run does not pass
pub stops : (test : ℕ → Bool) (bytes rest : List ℕ) (byte : ℕ) → drop (prefix_len test bytes) bytes ≡ byte ∷ rest
    → test byte ≡ false
stops test [] rest byte e = absurd cc
stops test (first ∷ bytes) rest byte e = by_case (test first) refl e (stops test bytes rest byte)
  where
    by_case : (b : Bool) → test first ≡ b → drop (cond b (1 + prefix_len test bytes) 0) (first ∷ bytes) ≡ byte ∷ rest
        → (drop (prefix_len test bytes) bytes ≡ byte ∷ rest → test byte ≡ false) → test byte ≡ false
    by_case true is same more = more (rw (one-add (prefix_len test bytes)) at same)
    by_case false is same more = let first_is : first ≡ byte = cc in ap test (sym first_is) ∙ is

pub run_again : (test : ℕ → Bool) (run rest : List ℕ) → list_all test run ≡ true
    → prefix_len test (run ++ rest) ≡ length run + prefix_len test rest
run_again test [] rest all = omega arith
run_again test (byte ∷ run) rest all =
    let parts = and_parts (test byte) _ all in
    cond-true (test byte) (1 + prefix_len test (run ++ rest)) 0 parts.0
    ∙ omega (arith, run_again test run rest parts.1)

-- a run, and after it a byte that does not pass
pub run_then : (test : ℕ → Bool) (run rest : List ℕ) (byte : ℕ) → list_all test run ≡ true → test byte ≡ false
    → prefix_len test (run ++ byte ∷ rest) ≡ length run
run_then test run rest byte all stop =
    run_again test run (byte ∷ rest) all
    ∙ omega (arith, cond-false (test byte) (1 + prefix_len test rest) 0 stop)

pub run_alone : (test : ℕ → Bool) (run : List ℕ) → list_all test run ≡ true → prefix_len test run ≡ length run
run_alone test [] all = refl
run_alone test (byte ∷ run) all =
    let parts = and_parts (test byte) _ all in
    cond-true (test byte) (1 + prefix_len test run) 0 parts.0 ∙ omega (arith, run_alone test run parts.1)
