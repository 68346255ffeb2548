pub mod NormalForms
pub mod Given
pub mod Finished
pub mod Lines
pub mod Certificates
