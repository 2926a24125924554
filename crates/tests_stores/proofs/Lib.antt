pub mod ChunksGoing
mod Servers
