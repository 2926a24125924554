pub mod Lent
pub mod Attempts
pub mod Serials
pub mod Numbers
pub mod Successes
