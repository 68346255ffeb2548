pub mod Hosts
pub mod Answers
pub mod Examples
