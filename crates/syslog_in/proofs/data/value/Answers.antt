use Rattle.std.proofs.Common.{arith, ◌∙◌, ap, ℕ, take, drop, List, ◌++◌}
use Rattle.std.proofs.lemmas.List.Sums.{prefix_len-le-length}
use Rattle.syslog_in.specs.DataReading.{is_plain, ending_at}
use Rattle.syslog_in.proofs.Values.{at_quote, at_nothing, at_escape, escape_shorter}
use Rattle.syslog_in.proofs.data.value.Goals as goal

pub split_at-requires : goal.split_at-requires
split_at-requires c = omega (arith, c.plain_len.ensures, prefix_len-le-length is_plain c.runs.rest.now)

pub returns-in-Quote : goal.returns-in-Quote
returns-in-Quote c =
    let rest = c.runs.rest.now in
    let back = c.split_at.ensures.back ∙ ap (λ (n : ℕ). drop n rest) c.plain_len.ensures in
    let front = c.split_at.ensures.front ∙ ap (λ (n : ℕ). take n rest) c.plain_len.ensures in
    at_quote c.args.text.now rest c.args.out.now.items c.runs.out.items c.runs.invariant c.in-Quote.end.now _
    (c.in-Quote.ensures ∙ ap ending_at back)
    (c.in_ok-extend_from_slice.ensures.items ∙ ap (λ (t : List ℕ). c.runs.out.items ++ t) front)

pub returns-in-Nothing : goal.returns-in-Nothing
returns-in-Nothing c =
    let rest = c.runs.rest.now in
    let back = c.split_at.ensures.back ∙ ap (λ (n : ℕ). drop n rest) c.plain_len.ensures in
    at_nothing c.args.text.now rest c.args.out.now.items c.runs.out.items c.runs.invariant _
    (c.in-Nothing.ensures ∙ ap ending_at back)

pub runs-smaller : goal.runs-smaller
runs-smaller c =
    let rest = c.runs.rest.now in
    let back = c.split_at.ensures.back ∙ ap (λ (n : ℕ). drop n rest) c.plain_len.ensures in
    escape_shorter c.args.text.now rest c.args.out.now.items c.runs.out.items c.runs.invariant c.in-Escape.byte
    c.in-Escape.next.now (c.in-Escape.ensures ∙ ap ending_at back)

pub runs-preserved : goal.runs-preserved
runs-preserved c =
    let rest = c.runs.rest.now in
    let back = c.split_at.ensures.back ∙ ap (λ (n : ℕ). drop n rest) c.plain_len.ensures in
    let front = c.split_at.ensures.front ∙ ap (λ (n : ℕ). take n rest) c.plain_len.ensures in
    at_escape c.args.text.now rest c.args.out.now.items c.runs.out.items c.runs.invariant c.in-Escape.byte
    c.in-Escape.next.now c.extend_from_slice.new.self.items _ (c.in-Escape.ensures ∙ ap ending_at back)
    (c.in_ok-extend_from_slice.ensures.items ∙ ap (λ (t : List ℕ). c.runs.out.items ++ t) front)
    c.in_ok-push_escaped-in-Escape.ensures
