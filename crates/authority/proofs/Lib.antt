mod Certified
mod Drafts
mod Forms
mod Histories
mod Lists
mod Requests
pub mod Revoked
