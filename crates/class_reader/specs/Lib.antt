pub mod References
pub mod Numbers
pub mod ConstantReaders
pub mod ConstantTexts
pub mod MemberReaders
pub mod MemberTexts
pub mod ClassReaders
pub mod ClassTexts
