pub mod AnswerLemmas
pub mod Opening
pub mod QueryLemmas
