pub mod Resolution
pub mod Line
pub mod Log
pub mod Missing
pub mod Marks
