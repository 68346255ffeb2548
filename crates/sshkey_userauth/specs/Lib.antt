pub mod Requests
pub mod RequestFormats
pub mod Values
pub mod Judgements
pub mod Examples
pub mod RequestExamples
