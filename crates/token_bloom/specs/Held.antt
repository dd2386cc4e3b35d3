-- How the words of 64 bits of a filter are held.
use Rattle.std.specs.Prelude.{ℕ, ◌^◌, ◌<◌, ◌≤◌, List, [], ◌∷◌, length}
use Rattle.token_bloom.specs.declared.held.Held.{Held}
use Rattle.token_bloom.specs.declared.held.Held.TheVariants as held

abbrev pub words_in : Held → List ℕ
words_in held.None = []
words_in (held.One word) = word ∷ []
words_in (held.Many words) = words.items

-- A filter of more than one word has memory of its own. None has more than 2^30.
abbrev pub IsHeld : Held → Type 0
IsHeld held.None = Unit {0}
IsHeld (held.One word) = Unit {0}
IsHeld (held.Many words) = (1 < length words.items) × (length words.items ≤ 2 ^ 30)
