-- Texts with what they are compared by.
use Rattle.std.specs.Prelude.{ℕ, List}
use Rattle.lq_stats.specs.declared.keyed.KeyedText.{KeyedText}

abbrev pub keyed_text : KeyedText → List ℕ
keyed_text keyed = keyed.text.now
