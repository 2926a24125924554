pub mod Parkings
