pub mod Fingerprints
pub mod FingerprintTexts
pub mod RandomArt
pub mod Walks
pub mod Pictures
pub mod ArtExample
