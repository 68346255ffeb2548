pub mod Halves
pub mod Lawful
mod HeldOrders
pub mod SignedScalars
