pub mod View
pub mod Under
pub mod Made
pub mod Steps
