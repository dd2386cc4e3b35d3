pub mod SeenLemmas
mod EffectLemmas
pub mod GrowLemmas
pub mod TurnLemmas
mod StaleReplies
pub mod RequestLemmas
pub mod Going
pub mod StatusLemmas
mod InsertLemmas
mod PreparedLemmas
pub mod InsertionLemmas
mod InsertLaws
mod AnswerLemmas
pub mod QueryLemmas
mod ReportLemmas
mod ResultLemmas
mod SelectLemmas
mod SyslogLists
mod SyslogFrames
mod SyslogStory
mod SyslogIntake
mod SyslogInflow
