mod Images
mod Marked
mod NameSteps
mod Selections
mod Sorted
