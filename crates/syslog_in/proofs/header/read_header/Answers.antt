use Rattle.syslog_in.specs.NamesRead.{texts_of}
use Rattle.syslog_in.proofs.Headers.{no_pri, no_version, lacks_version, no_time, lacks_time, header_here, header_only}
use Rattle.syslog_in.proofs.Headers.{names_fit}
use Rattle.syslog_in.proofs.Headers.{lacks_name, no_names}
use Rattle.syslog_in.proofs.header.read_header.Goals as goal

pub returns-in_default-clause-fault : goal.returns-in_default-clause-fault
returns-in_default-clause-fault c = no_pri c.args.m.now c.in_default.ensures

pub returns-in_default-clause-none : goal.returns-in_default-clause-none
returns-in_default-clause-none c = λ priority time texts rest h. no_pri c.args.m.now c.in_default.ensures h.first h.pri

pub returns-in_default-past_version-clause-fault : goal.returns-in_default-past_version-clause-fault
returns-in_default-past_version-clause-fault c =
    lacks_version c.args.m.now c.in-Some.rest.now c.in-Some.priority c.in-Some.ensures
    c.in_default-past_version.ensures.none

pub returns-in_default-past_version-clause-none : goal.returns-in_default-past_version-clause-none
returns-in_default-past_version-clause-none c =
    no_version c.args.m.now c.in-Some.rest.now c.in-Some.priority c.in-Some.ensures
    c.in_default-past_version.ensures.none

pub returns-in_default-time-clause-fault : goal.returns-in_default-time-clause-fault
returns-in_default-time-clause-fault c =
    lacks_time c.args.m.now c.in-Some.rest.now c.in-Some.priority c.in-Some.ensures c.in-Some-past_version.rest.now
    c.in-Some-past_version.ensures.some c.in_default-time.ensures.none

pub returns-in_default-time-clause-none : goal.returns-in_default-time-clause-none
returns-in_default-time-clause-none c =
    no_time c.args.m.now c.in-Some.rest.now c.in-Some.priority c.in-Some.ensures c.in-Some-past_version.rest.now
    c.in-Some-past_version.ensures.some c.in_default-time.ensures.none

pub overflow_sub-result : goal.overflow_sub-result
overflow_sub-result c =
    names_fit c.args.m.now c.in-Some.rest.now c.in-Some.priority c.in-Some.ensures c.in-Some-past_version.rest.now
    c.in-Some-past_version.ensures.some c.in-Some-time.rest.now c.in-Some-time.time c.in-Some-time.ensures.some
    c.in-Some-time.ensures.only c.in-Err.left c.in-Err.ensures.lacks

pub returns-in-Ok-clause-some : goal.returns-in-Ok-clause-some
returns-in-Ok-clause-some c =
    header_here c.args.m.now c.in-Some.rest.now c.in-Some.priority c.in-Some.ensures c.in-Some-past_version.rest.now
    c.in-Some-past_version.ensures.some c.in-Some-time.rest.now c.in-Some-time.time c.in-Some-time.ensures.some
    c.in-Some-time.ensures.only (texts_of c.in-Ok.names) c.in-Ok.rest.now c.in-Ok.ensures.names

pub returns-in-Ok-clause-only : goal.returns-in-Ok-clause-only
returns-in-Ok-clause-only c =
    header_only c.args.m.now c.in-Some.rest.now c.in-Some.priority c.in-Some.ensures c.in-Some-past_version.rest.now
    c.in-Some-past_version.ensures.some c.in-Some-time.rest.now c.in-Some-time.time c.in-Some-time.ensures.some
    c.in-Some-time.ensures.only (texts_of c.in-Ok.names) c.in-Ok.rest.now c.in-Ok.ensures.only

pub returns-in-Err-clause-fault : goal.returns-in-Err-clause-fault
returns-in-Err-clause-fault c =
    lacks_name c.args.m.now c.in-Some.rest.now c.in-Some.priority c.in-Some.ensures c.in-Some-past_version.rest.now
    c.in-Some-past_version.ensures.some c.in-Some-time.rest.now c.in-Some-time.time c.in-Some-time.ensures.some
    c.in-Some-time.ensures.only c.in-Err.left c.in-Err.ensures.lacks

pub returns-in-Err-clause-none : goal.returns-in-Err-clause-none
returns-in-Err-clause-none c =
    no_names c.args.m.now c.in-Some.rest.now c.in-Some.priority c.in-Some.ensures c.in-Some-past_version.rest.now
    c.in-Some-past_version.ensures.some c.in-Some-time.rest.now c.in-Some-time.time c.in-Some-time.ensures.some
    c.in-Some-time.ensures.only c.in-Err.left c.in-Err.ensures.lacks
