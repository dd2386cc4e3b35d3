-- What the record of a vault's calls says.
use Rattle.std.specs.Prelude.{List, map, reverse, vec_len}
use Rattle.vl_vault.specs.Disk.{Event, NoChange, Began, Wrote, Shortened, Synced, Past}
use Rattle.vl_vault.specs.declared.call.Call.{Call}
use Rattle.vl_vault.specs.declared.call.Call.TheVariants.{Unchanged, Initial, Write, Shorten, Sync}

abbrev pub event_of : Call → Event
event_of Unchanged = NoChange
event_of (Initial file bytes) = Began file bytes.items
event_of (Write file at piece after) = Wrote file at (vec_len piece) after.items
event_of (Shorten file len after) = Shortened file len after.items
event_of (Sync file) = Synced file

-- the newest first
abbrev pub past_of : List Call → Past
past_of calls = reverse (map event_of calls)
