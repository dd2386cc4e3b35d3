pub mod WriteLaws
pub mod DayLaws
