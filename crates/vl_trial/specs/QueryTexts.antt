-- The texts of the three queries of a trial. `Questions` has what each asks.
use Rattle.std.specs.Prelude.{ℕ, List, codes}

-- how many rows there are
abbrev pub count_text : List ℕ
count_text = codes "* | stats count() as n"

-- for each `app`, how many rows have the word `error` in their message, and the sum of their `ms`
abbrev pub errors_text : List ℕ
errors_text = codes "error | stats by (app) count() as n, sum(ms) as s"

-- how many rows of one day, and of the streams of one app, have an `ms` above 500
abbrev pub slow_text : List ℕ
slow_text = codes "_time:2024-05-01Z {app=\"db\"} ms:>500 | stats count() as n"
