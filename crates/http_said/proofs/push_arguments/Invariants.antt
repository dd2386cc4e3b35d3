use Rattle.std.proofs.Common.{◌≡◌, ◌++◌, map}
use Rattle.form_urlencoded.specs.Parse.{raw_pairs_left}
use Rattle.http_said.specs.Arguments.{arguments, decode_text}
use Rattle.http_said.proofs.push_arguments.Given as goal

abbrev pub invariant-loop-name : goal.invariant-loop-name
invariant-loop-name l =
    l.args.items ++ map (λ pair. (decode_text pair.0, decode_text pair.1)) (raw_pairs_left l.name-iterator)
    ≡ l.initial.args.items ++ arguments l.form
