pub mod Tearing
pub mod StepLemmas
pub mod SlotLemmas
pub mod Live
pub mod ReadLemmas
