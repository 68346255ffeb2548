pub mod LaterKeys
pub mod NamedWords
pub mod RevokedLines
pub mod Wholeness
