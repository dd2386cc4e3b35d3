-- Records, or the name of a function.
use Rattle.std.specs.Prelude.{List, ◌++◌, Result, Ok, Err}

-- prepends records to the result
abbrev pub prepend : {A E : Type 0} → List A → Result (List A) E → Result (List A) E
prepend before (Ok made) = Ok (before ++ made)
prepend before (Err name) = Err name
