pub mod ShortParts
pub mod Encoded
pub mod Walking
pub mod Shades
pub mod Rows
pub mod Titles
pub mod Pictures
