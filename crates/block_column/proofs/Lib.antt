pub mod KindLaws
pub mod FirstLaws
pub mod BodyLaws
pub mod Again
pub mod Whole
pub mod Apart
pub mod Listed
