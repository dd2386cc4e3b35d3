use Rattle.std.proofs.Common.{ap, ◌∙◌, sym, ℕ, take, drop, arith}
use Rattle.std.specs.List.{list_all}
use Rattle.std.proofs.lemmas.Bool.{false≢true, false_from_ne_true}
use Rattle.std.proofs.lemmas.List.Sums.{prefix_len-le-length}
use Rattle.syslog_in.specs.Message.{is_visible}
use Rattle.syslog_in.specs.DataReading.{is_end}
use Rattle.syslog_in.proofs.Runs.{all_taken}
use Rattle.syslog_in.proofs.Standing.{visible_utf8, visible_first, visible_ends}
use Rattle.syslog_in.proofs.part.visible_part.Goals as goal

pub split_at-requires : goal.split_at-requires
split_at-requires c = omega (arith, c.visible_len.ensures, prefix_len-le-length is_visible c.args.text.now)

pub returns-in_default-clause-none : goal.returns-in_default-clause-none
returns-in_default-clause-none c =
    let text = c.args.text.now in
    let back = c.split_at.ensures.back ∙ ap (λ (n : ℕ). drop n text) c.visible_len.ensures in
    false_from_ne_true _ (λ all. false≢true (sym c.in_default.ensures.none ∙ ap is_end back ∙ visible_ends text all))

pub from_utf8_unchecked-requires : goal.from_utf8_unchecked-requires
from_utf8_unchecked-requires c =
    let text = c.args.text.now in
    rw (c.split_at.ensures.front, c.visible_len.ensures) (visible_utf8 _ (all_taken is_visible text))

pub returns-clause-part : goal.returns-clause-part
returns-clause-part c =
    let text = c.args.text.now in
    let back = c.split_at.ensures.back ∙ ap (λ (n : ℕ). drop n text) c.visible_len.ensures in
    c.from_utf8_unchecked.ensures ∙ c.split_at.ensures.front ∙ ap (λ (n : ℕ). take n text) c.visible_len.ensures
    ∙ (visible_first text _ _ back c.in-Some.ensures.some).0

pub returns-clause-visible : goal.returns-clause-visible
returns-clause-visible c =
    let text = c.args.text.now in
    let back = c.split_at.ensures.back ∙ ap (λ (n : ℕ). drop n text) c.visible_len.ensures in
    ap (list_all is_visible) (sym (visible_first text _ _ back c.in-Some.ensures.some).0)
    ∙ all_taken is_visible text

pub returns-clause-rest : goal.returns-clause-rest
returns-clause-rest c =
    let text = c.args.text.now in
    let back = c.split_at.ensures.back ∙ ap (λ (n : ℕ). drop n text) c.visible_len.ensures in
    (visible_first text _ _ back c.in-Some.ensures.some).1
