pub mod Node
pub mod Graph
