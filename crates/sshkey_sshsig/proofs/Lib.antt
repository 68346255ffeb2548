pub mod Measured
mod SignedParts
pub mod Lawful
pub mod SshSignatureTrees
