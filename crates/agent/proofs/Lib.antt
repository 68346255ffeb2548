pub mod Records
pub mod Constraints
pub mod Frames
pub mod Lawful
pub mod Requests
pub mod Responses
pub mod Signing
