use Rattle.std.proofs.Common.{◌≡◌, ◌++◌, drop, flat_map, string_bytes}
use Rattle.vl_session.specs.Said.{later_line}
use Rattle.vl_session.proofs.insert_reply.push_others.Given as goal

abbrev pub invariant-loop-fault : goal.invariant-loop-fault
invariant-loop-fault l =
    string_bytes l.text ++ flat_map later_line (drop l.fault-index l.others)
    ≡ string_bytes l.fn.text ++ flat_map later_line l.others
