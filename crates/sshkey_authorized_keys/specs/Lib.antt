pub mod Options
pub mod AuthorizedEntries
pub mod OpenSshEntries
