pub mod EntryOptions
pub mod SignerVerdicts
pub mod ByKeys
mod Nothing
mod RevokedFiles
mod KeyKinds
mod AuthorityFields
pub mod Hosts
pub mod Texts
mod Destinations
pub mod CutLines
pub mod Found
pub mod OptionPlaces
pub mod Verified
