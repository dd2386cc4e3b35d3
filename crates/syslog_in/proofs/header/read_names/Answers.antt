use Rattle.syslog_in.proofs.NamesRead.{as_named, handed_on, no_hostname, no_app_name, no_proc_id, no_msg_id, names_only}
use Rattle.syslog_in.proofs.header.read_names.Goals as goal

pub returns-in_err-hostname-clause-lacks : goal.returns-in_err-hostname-clause-lacks
returns-in_err-hostname-clause-lacks c =
    let text = c.args.text.now in
    let e = c.in_err-hostname.ensures in
    handed_on c.from_residual.result text c.in_err-hostname.field-0.0
    (no_hostname text text text text text c.in_err-hostname.field-0.0 e.lacks e.left) c.from_residual.ensures.1

pub returns-in_err-app_name-clause-lacks : goal.returns-in_err-app_name-clause-lacks
returns-in_err-app_name-clause-lacks c =
    let text = c.args.text.now in
    let first = c.in_ok-hostname.rest.now in
    let e = c.in_err-app_name.ensures in
    handed_on c.from_residual-in_err-app_name.result text c.in_err-app_name.field-0.0
    (no_app_name text first text text text c.in_err-app_name.field-0.0 c.in_ok-hostname.ensures.stands e.lacks e.left)
    c.from_residual-in_err-app_name.ensures.1

pub returns-in_err-proc_id-clause-lacks : goal.returns-in_err-proc_id-clause-lacks
returns-in_err-proc_id-clause-lacks c =
    let text = c.args.text.now in
    let first = c.in_ok-hostname.rest.now in
    let second = c.in_ok-app_name.rest.now in
    let e = c.in_err-proc_id.ensures in
    handed_on c.from_residual-in_err-proc_id.result text c.in_err-proc_id.field-0.0
    (no_proc_id text first second text text c.in_err-proc_id.field-0.0 c.in_ok-hostname.ensures.stands
    c.in_ok-app_name.ensures.stands e.lacks e.left) c.from_residual-in_err-proc_id.ensures.1

pub returns-in_err-msg_id-clause-lacks : goal.returns-in_err-msg_id-clause-lacks
returns-in_err-msg_id-clause-lacks c =
    let text = c.args.text.now in
    let first = c.in_ok-hostname.rest.now in
    let second = c.in_ok-app_name.rest.now in
    let third = c.in_ok-proc_id.rest.now in
    let e = c.in_err-msg_id.ensures in
    handed_on c.from_residual-in_err-msg_id.result text c.in_err-msg_id.field-0.0
    (no_msg_id text first second third text c.in_err-msg_id.field-0.0 c.in_ok-hostname.ensures.stands
    c.in_ok-app_name.ensures.stands c.in_ok-proc_id.ensures.stands e.lacks e.left)
    c.from_residual-in_err-msg_id.ensures.1

pub returns-clause-names : goal.returns-clause-names
returns-clause-names c = record {
  first = c.in_ok-hostname.rest.now;
  second = c.in_ok-app_name.rest.now;
  third = c.in_ok-proc_id.rest.now;
  hostname = as_named 255 _ _ _ c.in_ok-hostname.ensures.stands c.in_ok-hostname.ensures.name;
  app_name = as_named 48 _ _ _ c.in_ok-app_name.ensures.stands c.in_ok-app_name.ensures.name;
  proc_id = as_named 128 _ _ _ c.in_ok-proc_id.ensures.stands c.in_ok-proc_id.ensures.name;
  msg_id = as_named 32 _ _ _ c.in_ok-msg_id.ensures.stands c.in_ok-msg_id.ensures.name;
}

pub returns-clause-only : goal.returns-clause-only
returns-clause-only c = λ texts rest other.
    names_only c.args.text.now texts _ rest c.in_ok-msg_id.rest.now other (record {
      first = c.in_ok-hostname.rest.now;
      second = c.in_ok-app_name.rest.now;
      third = c.in_ok-proc_id.rest.now;
      hostname = as_named 255 _ _ _ c.in_ok-hostname.ensures.stands c.in_ok-hostname.ensures.name;
      app_name = as_named 48 _ _ _ c.in_ok-app_name.ensures.stands c.in_ok-app_name.ensures.name;
      proc_id = as_named 128 _ _ _ c.in_ok-proc_id.ensures.stands c.in_ok-proc_id.ensures.name;
      msg_id = as_named 32 _ _ _ c.in_ok-msg_id.ensures.stands c.in_ok-msg_id.ensures.name;
    })
