pub mod Chained
pub mod Drafts
