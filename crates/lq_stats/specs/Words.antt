-- Each of many texts once.
use Rattle.std.specs.Prelude.{ℕ, List}
use Rattle.log_model.specs.Order.{value_cmp}
use Rattle.lq_tuple.specs.Once.{HasEachOnce}
use Rattle.lq_tuple.specs.Places.{AreKnown}
use Rattle.lq_stats.specs.declared.words.Words.{Words}

-- The words are these texts, each once.
pub record AreWords (words : Words) (texts : List (List ℕ)) : Type 0 where
  pub known : AreKnown words.places words.words.items
  pub once : HasEachOnce value_cmp words.words.items texts
