pub mod Bounds
pub mod CodeLemmas
pub mod DivisionLaws
pub mod Laws
pub mod PartLaws
pub mod ShiftLaws
pub mod WidthLaws
pub mod WordLaws
