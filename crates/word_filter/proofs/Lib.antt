pub mod WordLaws
pub mod FilterLaws
pub mod Kept
pub mod Again
pub mod There
pub mod Sets
pub mod Sorted
pub mod FewLaws
