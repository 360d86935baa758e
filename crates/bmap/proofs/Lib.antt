pub mod PayloadLaws
pub mod PlainLaws
pub mod LineLaws
pub mod NumbersLaws
pub mod RefusalLaws
