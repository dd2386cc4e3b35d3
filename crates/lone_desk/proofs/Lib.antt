pub mod AnswerLaws
pub mod Laws
pub mod InsertLaws
pub mod KeptLaws
pub mod ReadLaws
pub use Rattle.vl_session.proofs.QueryLemmas
