pub mod Calls
pub mod Faults
pub mod Prepared
pub mod Keeping
pub mod Seen
pub mod Writing
pub use Rattle.log_core.specs.declared.entries.EntryRows
pub use Rattle.turn_lock.specs.Entries as LockEntries
pub use Rattle.log_core.specs.Entries as LogEntries
pub use Rattle.turn_lock.specs.Passes
pub use Rattle.turn_lock.specs.declared.view.TurnEnd
