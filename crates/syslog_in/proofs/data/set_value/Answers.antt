use Rattle.std.proofs.Common.{arith, ◌∙◌, ap, List, ℕ, take, drop}
use Rattle.std.specs.Str.Lossy.{utf8_lossy}
use Rattle.std.proofs.lemmas.List.Sums.{prefix_len-le-length}
use Rattle.log_model.specs.Field.{set_field}
use Rattle.syslog_in.specs.DataReading.{is_plain, ending_at, value_at}
use Rattle.syslog_in.proofs.SetValues.{sets_plain, sets_nothing, sets_given}
use Rattle.syslog_in.proofs.data.set_value.Goals as goal

pub split_at-requires : goal.split_at-requires
split_at-requires c = omega (arith, c.plain_len.ensures, prefix_len-le-length is_plain c.args.text.now)

pub returns-in-Quote : goal.returns-in-Quote
returns-in-Quote c =
    let text = c.args.text.now in
    let name = c.args.name.now in
    let old = c.args.fields.now in
    let back = c.split_at.ensures.back ∙ ap (λ (n : ℕ). drop n text) c.plain_len.ensures in
    let front = c.split_at.ensures.front ∙ ap (λ (n : ℕ). take n text) c.plain_len.ensures in
    sets_plain name old _ text c.in-Quote.rest.now (c.in-Quote.ensures ∙ ap ending_at back)
    (c.in_ok-set_bytes.ensures ∙ ap (λ (t : List ℕ). set_field old name (utf8_lossy t)) front)

pub returns-in_default-2 : goal.returns-in_default-2
returns-in_default-2 c =
    sets_nothing c.args.name.now c.args.fields.now _ (value_at c.args.text.now) _ _
    (rw c.in_default-2.is at c.in_ok-rest.ensures)

pub returns : goal.returns
returns c =
    let name = c.args.name.now in
    let old = c.args.fields.now in
    sets_given name old _ (value_at c.args.text.now) _ _ c.in-Some.rest.now
    (rw c.in-Some.is at c.in_ok-rest.ensures) c.clear.ensures.items
    (c.in_ok-set_bytes-2.ensures ∙ ap (λ (t : List ℕ). set_field old name (utf8_lossy t)) c.deref.ensures.value)
