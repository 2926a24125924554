mod Puts
mod Hops
mod Histories
