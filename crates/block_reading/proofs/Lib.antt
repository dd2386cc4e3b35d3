pub mod FoundLaws
pub mod ByColumnsLaws
pub mod ReadLaws
