use Rattle.std.proofs.Common.{List, ℕ, ap, ◌∙◌}
use Rattle.std.specs.Prelude.{codes}
use Rattle.std.specs.Str.Lossy.{utf8_lossy}
use Rattle.log_model.specs.Field.{Field, set_all, set_field}
use Rattle.syslog_in.specs.Message.{header_fields}
use Rattle.syslog_in.specs.NamesRead.{texts_of}
use Rattle.syslog_in.proofs.Messages.{no_header, header_fits, no_data, lacks_data, only_message, whole_message}
use Rattle.syslog_in.proofs.message.read_message.Goals as goal

pub returns-in_err-header-clause-none : goal.returns-in_err-header-clause-none
returns-in_err-header-clause-none c = no_header c.from_residual.result c.args.m.now c.in_err-header.ensures.none

pub overflow_sub-result : goal.overflow_sub-result
overflow_sub-result c =
    let header = c.in_ok-header.header in
    header_fits c.args.m.now header.priority header.time (texts_of header.names) c.in_ok-header.rest.now
    c.in_ok-header.ensures.some

pub returns-in_default-clause-none : goal.returns-in_default-clause-none
returns-in_default-clause-none c = λ _.
    let header = c.in_ok-header.header in
    no_data c.args.m.now header.priority header.time (texts_of header.names) c.in_ok-header.rest.now
    c.in_ok-header.ensures.only _ _ (rw c.in_default.is at c.in_ok-after.ensures.any)

pub returns-in_default-clause-fault : goal.returns-in_default-clause-fault
returns-in_default-clause-fault c =
    let header = c.in_ok-header.header in
    lacks_data c.args.m.now header.priority header.time (texts_of header.names) c.in_ok-header.rest.now
    c.in_ok-header.ensures.only _ _ c.in_ok-header.ensures.some (rw c.in_default.is at c.in_ok-after.ensures.any)

pub returns-clause-read : goal.returns-clause-read
returns-clause-read c =
    let header = c.in_ok-header.header in
    let names = texts_of header.names in
    whole_message c.args.m.now header.priority header.time names c.in_ok-header.rest.now c.in_ok-header.ensures.only _
    c.set_data.new.fields c.in-Some.after.now _ c.in_ok-header.ensures.some
    (c.in_ok-set_header.ensures
    ∙ ap (λ (f : List Field). set_all f (header_fields header.priority names)) c.in_ok-fields.ensures)
    (rw c.in-Some.is at c.in_ok-after.ensures.one)
    (c.in_ok-all.ensures ∙ c.in_ok-set_bytes.ensures
    ∙ ap (λ (t : List ℕ). set_field c.set_data.new.fields (codes "_msg") (utf8_lossy t)) c.text_of.ensures)

pub returns-clause-only : goal.returns-clause-only
returns-clause-only c =
    let header = c.in_ok-header.header in
    let names = texts_of header.names in
    only_message c.args.m.now header.priority header.time names c.in_ok-header.rest.now c.in_ok-header.ensures.only _
    c.set_data.new.fields c.in-Some.after.now _
    (c.in_ok-set_header.ensures
    ∙ ap (λ (f : List Field). set_all f (header_fields header.priority names)) c.in_ok-fields.ensures)
    (rw c.in-Some.is at c.in_ok-after.ensures.any)
    (c.in_ok-all.ensures ∙ c.in_ok-set_bytes.ensures
    ∙ ap (λ (t : List ℕ). set_field c.set_data.new.fields (codes "_msg") (utf8_lossy t)) c.text_of.ensures)
