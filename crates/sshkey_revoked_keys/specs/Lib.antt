pub mod RevokedKeys
pub mod LineExamples
