pub mod Hosts
pub mod Entries
pub mod HostLines
pub mod Verdicts
pub mod HostCuts
pub mod HeldNames
pub mod HeldLines
pub mod AuthorityKeys
mod Wholes
mod UnreadableLines
pub mod ExampleLemmas
mod FormerLines
mod WrittenExamples
