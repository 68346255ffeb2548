mod Added
mod ExampleLemmas
mod Hosts
mod Variables
mod SmallLetters
mod Asked
