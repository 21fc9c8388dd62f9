pub mod Numbers
pub mod Gates
pub mod Ripples
pub mod Spelling
pub mod Shifting
pub mod Dividing
pub mod Circuit
pub mod NodeBits
