pub mod FewSizes
pub mod StageExits
