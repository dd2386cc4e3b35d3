pub mod FramingLemmas
pub mod FieldLemmas
