pub mod Logins
mod KnownOptions
mod ExampleLemmas
mod Pendings
