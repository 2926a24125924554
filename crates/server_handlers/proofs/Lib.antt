pub mod Lent
pub mod SeenOrders
pub mod Moves
pub mod Counting
pub mod Reported
pub mod Told
