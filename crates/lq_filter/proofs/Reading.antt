-- A regular expression as it is read from its text.
use Rattle.std.proofs.Common.{◌≡◌, ◌<◌, ◌≤◌, ℕ, Bool, false, List, length, None, Some, Option, is_some, refl}
use Rattle.std.proofs.Common.{◌⊎◌}
use Rattle.std.proofs.Common.{inl, inr, ◌≢◌, arith}
use Rattle.std.specs.Prelude.{IsSomeAnd, IfSome}
use Rattle.std.specs.Option.{option_map_or}
use Rattle.regex.proofs.OnLiterals.{is_match_as_written, same_refl}
use Rattle.regex.specs.Patterns.{Re, Reads, Refuses, SameCaptures, default_config, find_str}
use Rattle.regex.specs.Strings.{IsReadFromSource, regex_config, regex_pattern, regex_source}
use Rattle.regex.specs.declared.string.regex.Regex.{Regex}
use Rattle.regex_syntax.specs.Brackets.{Nested}
use Rattle.regex_syntax.specs.Grammar.{Names, group_count}
use Rattle.regex_syntax.specs.Same.{SameTree}
use Rattle.regex_syntax.specs.declared.error.ErrorKind.{ErrorKind}
use Rattle.regex_syntax.specs.declared.error.ErrorKind.TheVariants.{OutOfMemory}
use Rattle.lq_ast.specs.Patterns.{IsReadable}
use Rattle.lq_filter.specs.Reads.{FindsAs}

none_of : (o : Option (Nested Re × Names)) (X : Type 0) (n : ℕ) → (o ≡ None) ⊎ (X × IfSome o (λ (re, _). n < re.depth))
    → IsSomeAnd o (λ (re, _). re.depth ≤ n) → ⊥
none_of None X n h p = p
none_of (Some x) X n (inl e) p = let bad : ⊥ = cc in bad
none_of (Some x) X n (inr d) p = omega (arith, d.1, p)

-- a text that is refused for another reason than memory cannot be read
pub not_readable : (p : List ℕ) (k : ErrorKind) → k ≢ OutOfMemory → Refuses default_config p k → IsReadable p → ⊥
unfolding Refuses
not_readable p k other (inl m) q = other m
not_readable p k other (inr r) q = none_of _ _ _ r q

fits : (o : Option (Nested Re × Names)) (tree : Re) (names : Names) (n : ℕ)
    → IsSomeAnd o (λ (re, found). (re.depth ≤ n) × SameCaptures tree re.value × (names ≡ found)
    × (group_count tree ≤ length names))
    → IsSomeAnd o (λ (re, _). re.depth ≤ n)
fits None tree names n h = h
fits (Some x) tree names n h = h.0

-- what was read from a text shows that it can be
pub readable_as_read : (r : Regex) → regex_config r ≡ default_config → IsReadFromSource r
    → IsReadable (regex_source r)
unfolding Reads
readable_as_read r config is_read = fits _ _ _ _ (rw config at is_read)

by_reading : (o : Option (Nested Re × Names)) (Q : Nested Re × Names → Type 0) (b : Bool) (f : Re → Bool)
    → IsSomeAnd o Q
    → ((re : Re) → IsSomeAnd o (λ (found, _). SameTree found.value re) → b ≡ f re)
    → b ≡ option_map_or (λ (re, _). f re.value) o false
by_reading None Q b f p h = absurd p
by_reading (Some x) Q b f p h = h x.0.value (same_refl _)

-- what was read from a text is found where the text's pattern is
pub finds_as_read : (r : Regex) → regex_config r ≡ default_config → IsReadFromSource r
    → FindsAs (regex_pattern r) (regex_source r)
unfolding Reads
finds_as_read r config is_read = record {
  finds = λ v bytes. by_reading _ _ _ (λ re. is_some (find_str re v 0)) (rw config at is_read)
      (λ re written. is_match_as_written r (regex_source r) re refl config is_read written v bytes 0);
}
