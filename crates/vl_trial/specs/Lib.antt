pub mod Trial
pub mod Left
pub mod Safety
pub mod Questions
pub mod QueryTexts
pub mod Answer
