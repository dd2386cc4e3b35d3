pub mod KeepLaws
pub mod OpenLaws
pub mod PreparedLaws
pub mod RowLaws
pub mod SeenLaws
pub mod SwapLaws
pub mod TurnLaws
