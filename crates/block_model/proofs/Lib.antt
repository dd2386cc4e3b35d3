pub mod Distinct
pub mod Rising
pub mod Same
pub mod Slots
pub mod TagLaws
pub mod FieldLaws
pub mod NameLaws
pub mod Sizes
pub mod RowLaws
pub mod FaultLaws
mod TextLaws
