-- Whether a regular expression is valid, and what it matches, from its text.
use Rattle.std.proofs.Common.{◌≡◌, ◌<◌, ◌≤◌, ℕ, Bool, false, List, length, None, Some, Option, is_some, refl, get_or}
use Rattle.std.proofs.Common.{◌⊎◌, inl, inr, ◌≢◌, arith}
use Rattle.std.specs.Prelude.{IsSomeAnd, IfSome}
use Rattle.std.specs.Option.{option_map_or}
use Rattle.regex.proofs.OnLiterals.{is_match_as_written, same_refl}
use Rattle.regex.specs.Patterns.{Re, Reads, Refuses, SameCaptures, default_config, find_str}
use Rattle.regex.specs.Strings.{IsReadFromSource, regex_config, regex_pattern, regex_source}
use Rattle.regex.specs.declared.string.regex.Regex.{Regex}
use Rattle.regex_syntax.specs.Brackets.{Nested}
use Rattle.regex_syntax.specs.Grammar.{Names, group_count}
use Rattle.regex_syntax.specs.Same.{SameTree}
use Rattle.regex_syntax.specs.declared.error.ErrorKind.{ErrorKind}
use Rattle.regex_syntax.specs.declared.error.ErrorKind.TheVariants.{OutOfMemory}
use Rattle.lq_ast.specs.Patterns.{IsReadable, is_found}

refused : (o : Option (Nested Re × Names)) (X : Type 0) (most : ℕ)
    → (o ≡ None) ⊎ (X × IfSome o (λ (re, _). most < re.depth)) → IsSomeAnd o (λ (re, _). re.depth ≤ most) → ⊥
refused None X most why can = can
refused (Some x) X most (inl none) can = let bad : ⊥ = cc in bad
refused (Some x) X most (inr deep) can = omega (arith, deep.1, can)

-- a text that is refused although memory is left is not valid
pub not_readable : (text : List ℕ) (kind : ErrorKind) → kind ≢ OutOfMemory → Refuses default_config text kind
    → IsReadable text → ⊥
unfolding Refuses
not_readable text kind other (inl memory) can = other memory
not_readable text kind other (inr why) can = refused _ _ _ why can

nested : (o : Option (Nested Re × Names)) (tree : Re) (names : Names) (most : ℕ)
    → IsSomeAnd o (λ (re, found). (re.depth ≤ most) × SameCaptures tree re.value × (names ≡ found)
    × (group_count tree ≤ length names))
    → IsSomeAnd o (λ (re, _). re.depth ≤ most)
nested None tree names most h = h
nested (Some x) tree names most h = h.0

-- a compiled text is valid
pub readable_as_read : (r : Regex) → regex_config r ≡ default_config → IsReadFromSource r → IsReadable (regex_source r)
unfolding Reads
readable_as_read r config is_read = nested _ _ _ _ (rw config at is_read)

by_reading : (o : Option (Nested Re × Names)) (Q : Nested Re × Names → Type 0) (b : Bool) (f : Re → Bool)
    → IsSomeAnd o Q
    → ((re : Re) → IsSomeAnd o (λ (found, _). SameTree found.value re) → b ≡ f re)
    → b ≡ option_map_or (λ (re, _). f re.value) o false
by_reading None Q b f p h = absurd p
by_reading (Some x) Q b f p h = h x.0.value (same_refl _)

-- a compiled text matches where its pattern does
pub found_as_read : (r : Regex) → regex_config r ≡ default_config → IsReadFromSource r → (value : List ℕ)
    → ((k : ℕ) → get_or value k 0 < 256) → is_some (find_str (regex_pattern r) value 0) ≡ is_found (regex_source r) value
unfolding Reads
found_as_read r config is_read value bytes =
    by_reading _ _ _ (λ re. is_some (find_str re value 0)) (rw config at is_read)
    (λ re written. is_match_as_written r (regex_source r) re refl config is_read written value bytes 0)
