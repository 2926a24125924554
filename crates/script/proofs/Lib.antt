mod NumberLemmas
mod WordLemmas
mod LineLemmas
mod AnswerLemmas
mod CellLineLemmas
pub mod Bytes
pub mod LinesRead
pub mod ReadPlans
pub mod Repeating
pub mod DataWords
