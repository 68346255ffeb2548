mod Decisions
mod Fronts
mod ExampleLemmas
