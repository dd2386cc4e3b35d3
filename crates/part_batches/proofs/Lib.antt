pub mod NumberLaws
pub mod CountLaws
pub mod SameLaws
pub mod WholeLaws
