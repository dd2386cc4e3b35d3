use Rattle.std.proofs.Common.{◌≡◌, List, ℕ, ◌/◌, ◌%◌, refl, ap, ◌∙◌}
use Rattle.std.specs.Prelude.{codes, decimal}
use Rattle.syslog_in.specs.Message.{unless_nil}
use Rattle.std.proofs.lemmas.Result.{on_ok_weaker}
use Rattle.log_model.specs.Field.{Field, set_field}
use Rattle.syslog_in.proofs.message.set_header.Goals as goal

-- one field more
step : (new middle old : List Field) (name value text : List ℕ) → new ≡ set_field middle name value → middle ≡ old
    → value ≡ text → new ≡ set_field old name text
step new middle old name value text e before same =
    e ∙ ap (λ (f : List Field). set_field f name value) before ∙ ap (λ (v : List ℕ). set_field old name v) same

pub returns : goal.returns
returns c =
    let names = c.args.names.now in
    let old = c.args.fields.now in
    let priority = c.args.priority in
    let fields1 = set_field old (codes "app_name") (unless_nil names.app_name.now) in
    let fields2 = set_field fields1 (codes "facility") (decimal (priority / 8)) in
    let fields3 = set_field fields2 (codes "format") (codes "rfc5424") in
    let fields4 = set_field fields3 (codes "hostname") (unless_nil names.hostname.now) in
    let fields5 = set_field fields4 (codes "msg_id") (unless_nil names.msg_id.now) in
    let fields6 = set_field fields5 (codes "priority") (decimal priority) in
    let fields7 = set_field fields6 (codes "proc_id") (unless_nil names.proc_id.now) in
    let one = step c.set.new.self old old (codes "app_name") c.unless_nil.result.now (unless_nil names.app_name.now)
    c.in_ok-set.ensures.ok refl c.unless_nil.ensures in
    let two = step c.set-2.new.self c.set.new.self fields1 (codes "facility") c.format.result.now (decimal
    (priority / 8))
    c.in_ok-set-2.ensures.ok one c.format.ensures.text in
    let three = step c.set-3.new.self c.set-2.new.self fields2 (codes "format") (codes "rfc5424") (codes "rfc5424")
    c.in_ok-set-3.ensures.ok two refl in
    let four = step c.set-4.new.self c.set-3.new.self fields3 (codes "hostname") c.unless_nil-2.result.now
    (unless_nil names.hostname.now) c.in_ok-set-4.ensures.ok three c.unless_nil-2.ensures in
    let five = step c.set-5.new.self c.set-4.new.self fields4 (codes "msg_id") c.unless_nil-3.result.now
    (unless_nil names.msg_id.now) c.in_ok-set-5.ensures.ok four c.unless_nil-3.ensures in
    let six = step c.set-6.new.self c.set-5.new.self fields5 (codes "priority") c.format-2.result.now (decimal priority)
    c.in_ok-set-6.ensures.ok five c.format-2.ensures.text in
    let seven = step c.set-7.new.self c.set-6.new.self fields6 (codes "proc_id") c.unless_nil-4.result.now
    (unless_nil names.proc_id.now) c.in_ok-set-7.ensures.ok six c.unless_nil-4.ensures in
    on_ok_weaker c.set-8.result (λ e. step c.set-8.new.self c.set-7.new.self fields7 (codes "severity")
    c.format-3.result.now (decimal (priority % 8)) e seven c.format-3.ensures.text) c.set-8.ensures.ok
