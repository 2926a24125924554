pub mod Program
pub mod Asking
pub mod Faults
