-- Values of parameters, as they are set.
use Rattle.std.proofs.Common.{◌≡◌, ℕ, List, [], ◌++◌, take, drop, Option, Some, None, refl, sym, ap, ◌∙◌}
use Rattle.std.specs.List.{prefix_len}
use Rattle.std.specs.Str.Lossy.{utf8_lossy}
use Rattle.std.proofs.lemmas.Option.{none-some}
use Rattle.log_model.specs.Field.{Field, set_field}
use Rattle.syslog_in.specs.DataReading.{is_plain, value_at, quote, ending_at, GivesValue, SetsValue}
use Rattle.syslog_in.proofs.Values.{plain_value}

module _ (name : List ℕ) (old new : List Field) where
  -- one without backslashes
  pub sets_plain : (bytes rest : List ℕ) → quote rest ≡ ending_at (drop (prefix_len is_plain bytes) bytes)
      → new ≡ set_field old name (utf8_lossy (take (prefix_len is_plain bytes) bytes))
      → SetsValue (value_at bytes) name old new (Some rest)
  sets_plain bytes rest ends set = rw (plain_value bytes rest ends) (refl, set)

  -- one that was put together
  pub sets_nothing : (o : Option (List ℕ × List ℕ)) (before out : List ℕ) → GivesValue o before out None
      → SetsValue o name old new None
  sets_nothing None before out gives = refl
  sets_nothing (Some x) before out gives = absurd (none-some x.1 gives.0)

  pub sets_given : (o : Option (List ℕ × List ℕ)) (before out after : List ℕ) → GivesValue o before out (Some after)
      → before ≡ [] → new ≡ set_field old name (utf8_lossy out) → SetsValue o name old new (Some after)
  sets_given None before out after gives empty set = absurd (none-some after (sym gives))
  sets_given (Some x) before out after gives empty set = (
    gives.0,
    set ∙ ap (λ (t : List ℕ). set_field old name (utf8_lossy t)) (gives.1 ∙ ap (λ (b : List ℕ). b ++ x.0) empty),
  )
