use Rattle.std.proofs.Common.{string_bytes, sym, ◌∙◌}
use Rattle.jsonline_in.proofs.Decoding.{run_taken, no_run}
use Rattle.jsonline_in_plain.proofs.escape.push_plain.Goals as goal

pub returns-then-is_empty : goal.returns-then-is_empty
returns-then-is_empty c = no_run (string_bytes c.args.out.now) c.args.run.now c.args.before
    (sym c.is_empty.ensures ∙ c.if-is_empty.true)

pub returns : goal.returns
returns c =
    run_taken (string_bytes c.args.out.now) (string_bytes c.push_str.new.self) (string_bytes c.push_lone_surrogate.new.out)
    c.args.run.now c.args.before
    (sym c.is_empty.ensures ∙ c.if-is_empty.false) c.in_ok-push_lone_surrogate.ensures c.in_ok-push_str.ensures.bytes
