-- The names that the code hands on.
use Rattle.syslog_in.specs.Message.{NameTexts}
use Rattle.syslog_in.specs.declared.header.Names.{Names}

abbrev pub texts_of : Names → NameTexts
texts_of names = record {
  hostname = names.hostname.now;
  app_name = names.app_name.now;
  proc_id = names.proc_id.now;
  msg_id = names.msg_id.now;
}
