pub mod Verdicts
pub mod Grants
pub mod Examples
pub mod Laws
pub mod Logins
pub mod Refusals
