pub mod SliceLaws
pub mod NameLaws
pub mod WeightLaws
pub mod HeadLaws
pub mod ColumnLaws
