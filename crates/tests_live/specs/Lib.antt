pub mod ParkFaults
