pub mod Valuation
pub mod Overlaps
pub mod Sums
pub mod ExclusiveOrs
pub mod Operands
pub mod Trying
