use Rattle.std.proofs.Common.{rules, string_bytes, sym, ap, take, drop, ◌∙◌, ◌++◌, ◌∷◌, []}
use Rattle.jsonline_in.specs.Reading.{expect, escape_at}
use Rattle.jsonline_in_plain.specs.Parts.{escape_of}
use Rattle.jsonline_in.proofs.Good.{reads_of}
use Rattle.jsonline_in.proofs.Texts.{IsBehind, good_escape}
use Rattle.jsonline_in.proofs.Decoding.{stops_at, no_more, stuck_run, stuck_escape, all_decoded, more_decoded}
use Rattle.jsonline_in.proofs.Decoding.{run_and_end, run_and_escape, run_shorter, run, run_step, two_steps}
use Rattle.jsonline_in_plain.proofs.text.string.Goals as goal

pub returns-in_err-expect : goal.returns-in_err-expect
returns-in_err-expect c =
    let rest = c.characters.rest.now in
    let after = c.split_at.result.1.now in
    let left = c.split_at.ensures.back ∙ ap (λ n. drop n rest) c.plain_len.ensures in
    stops_at _ c.from_residual-in_err-expect.result _ (expect 92 after) _ c.from_residual-in_err-expect.ensures.1
    (λ fault h. no_more _ _ _ rest _ c.characters.invariant.1 fault
    (stuck_run rest after left fault (sym c.in_default.ensures) h)) c.in_err-expect.ensures

pub returns-in_err-escape : goal.returns-in_err-escape
returns-in_err-escape c =
    let rest = c.characters.rest.now in
    let after = c.split_at.result.1.now in
    let left = c.split_at.ensures.back ∙ ap (λ n. drop n rest) c.plain_len.ensures in
    let inner = c.in_ok-expect.field-0.now in
    stops_at _ c.from_residual-in_err-escape.result _ (escape_at inner) _ c.from_residual-in_err-escape.ensures.1
    (λ fault h. no_more _ _ _ rest _ c.characters.invariant.1 fault
    (stuck_escape rest after left inner fault (sym c.in_default.ensures) c.in_ok-expect.ensures h))
    c.in_err-escape.ensures

pub returns-in-Some : goal.returns-in-Some
returns-in-Some c =
    let rest = c.characters.rest.now in
    let after = c.split_at.result.1.now in
    let left = c.split_at.ensures.back ∙ ap (λ n. drop n rest) c.plain_len.ensures in
    let taken = c.split_at.ensures.front ∙ ap (λ n. take n rest) c.plain_len.ensures in
    all_decoded _ _ _ rest _ c.characters.invariant.1 (run rest after left) c.in-Some.end.now
    (string_bytes c.push_plain.new.out) (string_bytes c.push_lone_surrogate.new.out) c.in_ok-unit.unit
    (run_and_end rest after left c.in-Some.end.now (sym c.in-Some.ensures))
    (run_step rest c.split_at.result.0.now _ (string_bytes c.push_plain.new.out) _ c.in_ok-unit.unit taken
    c.in_ok-unit.ensures) c.in_ok-push_lone_surrogate.ensures

pub push_escape-requires : goal.push_escape-requires
push_escape-requires c = (reads_of (λ reach. IsBehind (92 ∷ [])) escape_at good_escape c.in_ok-expect.field-0.now _ _
    c.in_ok-escape.ensures).inside.is

pub characters-smaller : goal.characters-smaller
characters-smaller c =
    let left = c.split_at.ensures.back ∙ ap (λ n. drop n c.characters.rest.now) c.plain_len.ensures in
    run_shorter c.characters.rest.now c.split_at.result.1.now left c.in_ok-expect.field-0.now _ _
    c.in_ok-expect.ensures c.in_ok-escape.ensures

pub characters-preserved : goal.characters-preserved
characters-preserved c =
    let rest = c.characters.rest.now in
    let after = c.split_at.result.1.now in
    let left = c.split_at.ensures.back ∙ ap (λ n. drop n rest) c.plain_len.ensures in
    let taken = c.split_at.ensures.front ∙ ap (λ n. take n rest) c.plain_len.ensures in
    let read = run rest after left in
    let character = escape_of c.in_ok-escape.escape in (
      search rules,
      more_decoded _ _ _ rest _ c.characters.invariant.1 (string_bytes c.push_escape.new.out) c.in_ok-before.before
          c.in_ok-escape.next.now (read ++ character ∷ [])
          (two_steps _ (string_bytes c.push_plain.new.out) (string_bytes c.push_escape.new.out) _ c.in_ok-unit.unit
          c.in_ok-before.before read character
          (run_step rest c.split_at.result.0.now _ (string_bytes c.push_plain.new.out) _ c.in_ok-unit.unit taken
          c.in_ok-unit.ensures) c.in_ok-before.ensures)
          (run_and_escape rest after left c.in_ok-expect.field-0.now c.in_ok-escape.next.now character
          (sym c.in_default.ensures) c.in_ok-expect.ensures c.in_ok-escape.ensures),
    )
