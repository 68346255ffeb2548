pub mod Requests
pub mod RequestTrees
pub mod Lawful
pub mod Judging
