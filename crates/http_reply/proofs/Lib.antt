pub mod Pages
pub mod PartLemmas
mod HeadLemmas
