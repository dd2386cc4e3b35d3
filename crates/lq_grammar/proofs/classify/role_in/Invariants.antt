use Rattle.std.proofs.Common.{◌≡◌, drop, map}
use Rattle.std.specs.Str.{str_to_ascii_lowercase}
use Rattle.lq_grammar.specs.Items.{role_in, entry_of}
use Rattle.lq_grammar.proofs.classify.role_in.Given as goal

abbrev pub invariant-loop-word : goal.invariant-loop-word
invariant-loop-word l =
    role_in (map entry_of (drop l.word-index l.entries)) (str_to_ascii_lowercase l.span)
    ≡ role_in (map entry_of l.fn.entries) (str_to_ascii_lowercase l.span)
