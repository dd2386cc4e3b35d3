pub mod Limits
pub mod Fields
pub mod HeadFields
pub mod Arguments
