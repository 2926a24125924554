mod Ranges
mod Calls
mod Stops
mod Forgetting
mod Places
mod Taken
