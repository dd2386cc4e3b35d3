pub mod OrderLaws
pub mod LabelLaws
pub mod FillLaws
pub mod RowLaws
pub mod UnderLaws
pub mod EndLaws
pub mod PartLaws
