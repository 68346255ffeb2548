pub use Rattle.sshkey_entries.specs.Answers
pub mod Values
pub mod Options
pub mod Questions
pub mod Examples
