pub mod Loops
pub mod ConstantLaws
pub mod MemberLaws
pub mod ClassLaws
