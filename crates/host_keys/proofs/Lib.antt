mod HostKeys
mod Certificates
mod ExampleLemmas
pub mod SeveralTexts
pub mod SameAnswers
