use Rattle.std.proofs.Common.{rules, string_bytes, sym, ◌++◌, ◌∷◌, []}
use Rattle.jsonline_in.specs.Reading.{expect, escape_at}
use Rattle.jsonline_in.specs.Clauses.{escape_of}
use Rattle.jsonline_in.proofs.Good.{reads_of}
use Rattle.jsonline_in.proofs.Texts.{IsBehind, good_escape}
use Rattle.jsonline_in.proofs.Decoding.{stops_at, no_more, stuck_run, stuck_escape, all_decoded, more_decoded}
use Rattle.jsonline_in.proofs.Decoding.{run_and_end, run_and_escape, run_shorter, run, run_step, two_steps}
use Rattle.jsonline_in.proofs.text.decode.Goals as goal

pub returns-in_err-expect : goal.returns-in_err-expect
returns-in_err-expect c =
    let rest = c.characters.rest.now in
    let after = c.split_run.result.1.now in
    stops_at _ c.from_residual-in_err-expect.result _ (expect 92 after) _ c.from_residual-in_err-expect.ensures.1
    (λ fault h. no_more _ _ _ rest _ c.characters.invariant.1 fault
    (stuck_run rest after c.split_run.ensures.rest fault (sym c.in_default.ensures) h)) c.in_err-expect.ensures

pub returns-in_err-escape : goal.returns-in_err-escape
returns-in_err-escape c =
    let rest = c.characters.rest.now in
    let after = c.split_run.result.1.now in
    let inner = c.in_ok-expect.field-0.now in
    stops_at _ c.from_residual-in_err-escape.result _ (escape_at inner) _ c.from_residual-in_err-escape.ensures.1
    (λ fault h. no_more _ _ _ rest _ c.characters.invariant.1 fault
    (stuck_escape rest after c.split_run.ensures.rest inner fault (sym c.in_default.ensures)
    c.in_ok-expect.ensures h)) c.in_err-escape.ensures

pub returns-in-Some : goal.returns-in-Some
returns-in-Some c =
    let rest = c.characters.rest.now in
    let after = c.split_run.result.1.now in
    all_decoded _ _ _ rest _ c.characters.invariant.1 (run rest after c.split_run.ensures.rest) c.in-Some.end.now
    (string_bytes c.push_run.new.out) (string_bytes c.push_alone.new.out) c.in_ok-unit.unit
    (run_and_end rest after c.split_run.ensures.rest c.in-Some.end.now (sym c.in-Some.ensures))
    (run_step rest c.split_run.result.0.now _ (string_bytes c.push_run.new.out) _ c.in_ok-unit.unit
    c.split_run.ensures.run c.in_ok-unit.ensures) c.in_ok-push_alone.ensures

pub push_escape-requires : goal.push_escape-requires
push_escape-requires c = (reads_of (λ reach. IsBehind (92 ∷ [])) escape_at good_escape c.in_ok-expect.field-0.now _ _
    c.in_ok-escape.ensures).inside.is

pub characters-smaller : goal.characters-smaller
characters-smaller c = run_shorter c.characters.rest.now c.split_run.result.1.now c.split_run.ensures.rest
    c.in_ok-expect.field-0.now _ _ c.in_ok-expect.ensures c.in_ok-escape.ensures

pub characters-preserved : goal.characters-preserved
characters-preserved c =
    let rest = c.characters.rest.now in
    let after = c.split_run.result.1.now in
    let read = run rest after c.split_run.ensures.rest in
    let character = escape_of c.in_ok-escape.escape in (
      search rules,
      more_decoded _ _ _ rest _ c.characters.invariant.1 (string_bytes c.push_escape.new.out) c.in_ok-before.before
          c.in_ok-escape.next.now (read ++ character ∷ [])
          (two_steps _ (string_bytes c.push_run.new.out) (string_bytes c.push_escape.new.out) _ c.in_ok-unit.unit
          c.in_ok-before.before read character
          (run_step rest c.split_run.result.0.now _ (string_bytes c.push_run.new.out) _ c.in_ok-unit.unit
          c.split_run.ensures.run c.in_ok-unit.ensures) c.in_ok-before.ensures)
          (run_and_escape rest after c.split_run.ensures.rest c.in_ok-expect.field-0.now c.in_ok-escape.next.now
          character (sym c.in_default.ensures) c.in_ok-expect.ensures c.in_ok-escape.ensures),
    )
