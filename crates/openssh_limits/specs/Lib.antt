pub mod Limits
pub mod KeyExamples
pub mod ReadExamples
pub mod Padding
pub mod PaddingExamples
