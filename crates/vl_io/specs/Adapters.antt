-- The state of the adapters over std's readers, writers and listeners.
use Rattle.std.specs.Prelude.{ℕ, Bool, is_some}
use Rattle.vl_io.specs.declared.adapters.InputSource.{InputSource}
use Rattle.vl_io.specs.declared.adapters.OutputSink.{OutputSink}
use Rattle.vl_io.specs.declared.outside.VisitKind.{VisitKind}
use Rattle.vl_io.specs.declared.tcp.TcpDoors.{TcpDoors}

abbrev pub reader_of : {R : Type 0} → InputSource R → R
reader_of source = source.reader

abbrev pub read_faults : {R : Type 0} → InputSource R → ℕ
read_faults source = source.faults

abbrev pub writer_of : {W : Type 0} → OutputSink W → W
writer_of sink = sink.writer

abbrev pub write_faults : {W : Type 0} → OutputSink W → ℕ
write_faults sink = sink.faults

abbrev pub door_faults : {R : Type 0} → TcpDoors R → ℕ
door_faults doors = doors.faults

-- whether they have a listener
abbrev pub has_listener : {R : Type 0} → TcpDoors R → Bool
has_listener doors = is_some doors.listener

-- what their visitors speak
abbrev pub kind_of : {R : Type 0} → TcpDoors R → VisitKind
kind_of doors = doors.kind
