pub mod Answers
mod StepLemmas
mod EndLemmas
mod LineLemmas
mod StopLemmas
