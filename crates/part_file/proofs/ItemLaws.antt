-- Blocks that are read as their rows, and the version.
use Rattle.std.proofs.Common.{◌≡◌, ◌↔◌, ℕ, Bool, true, false, List, refl, sym}
use Rattle.std.proofs.Common.{IfNone, IfSome, IsTrue, MatchOption, Option, Some, None}
use Rattle.std.specs.List.{AllByRecursion, list_all}
use Rattle.std.proofs.lemmas.Bool.{both_ways}
use Rattle.byte_format.specs.Spelling.{HasSpelling}
use Rattle.log_model.specs.History.{Numbered}
use Rattle.block_model.specs.Keys.{IsNumbered}
use Rattle.block_model.specs.Texts.{is_text_row}
use Rattle.block_format.specs.Reading.{block_writing, has_spelling}
use Rattle.block_format.specs.Rows.{IsBlock}
use Rattle.block_format.specs.Spelling.{block_bytes}
use Rattle.block_format.proofs.ReadAgain.{is-none, is-written}
use Rattle.block_format.proofs.TestLaws.{is-block, not-block}

-- the test of rows that are known to keep the rules of rows
pub spelled-is : (holds : Bool) (rows : List Numbered) → (IsTrue holds ↔ IsBlock rows) → AllByRecursion IsNumbered rows
    → list_all is_text_row rows ≡ true → holds ≡ has_spelling rows
spelled-is true rows h each texts = sym (is-block rows (h.0 refl) each texts)
spelled-is false rows h each texts = sym (not-block rows (λ b. both_ways false refl (h.1 b)))

pub some-spelling : (rows : List Numbered) → has_spelling rows ≡ true → HasSpelling (block_writing rows)
some-spelling rows e = (block_bytes rows, is-written rows e)

-- rows that are no block are not written
pub never-written : (rows : List Numbered) (bytes : List ℕ) → (IsBlock rows → ⊥) → block_writing rows ≡ Some bytes → ⊥
never-written rows bytes h e = let none = is-none rows (not-block rows h) in cc

-- ---- what was found, or not

pub some-of : {X : Type 0} (found : Option X) (N : Type 0) (P Q : X → Type 0) → ((x : X) → P x → Q x)
    → MatchOption found N P → IfSome found Q
some-of None N P Q f h = tt
some-of (Some x) N P Q f h = f x h

pub none-of : {X : Type 0} (found : Option X) (N M : Type 0) (P : X → Type 0) → (N → M) → MatchOption found N P
    → IfNone found M
none-of None N M P f h = f h
none-of (Some x) N M P f h = tt
