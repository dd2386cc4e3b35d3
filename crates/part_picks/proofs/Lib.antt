pub mod RangeLaws
pub mod NameLaws
mod EndLaws
mod TakeLaws
mod FillLaws
