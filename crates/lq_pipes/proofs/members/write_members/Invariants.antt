use Rattle.std.proofs.Common.{◌≡◌, ◌++◌, take}
use Rattle.lq_pipes.specs.Tokens.{members_tokens}
use Rattle.lq_pipes.proofs.members.write_members.Given as goal

abbrev pub invariant-loop-field : goal.invariant-loop-field
invariant-loop-field l =
    (l.writer.before ≡ l.initial.writer.before) ×
    (l.writer.tokens ≡ l.initial.writer.tokens ++ members_tokens (take l.field-index l.fields))
