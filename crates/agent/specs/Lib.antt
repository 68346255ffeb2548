pub mod Records
pub mod Requests
pub mod Responses
pub mod Signing
