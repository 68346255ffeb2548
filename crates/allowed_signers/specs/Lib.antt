pub mod AllowedSigners
pub mod Examples
