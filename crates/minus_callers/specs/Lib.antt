pub mod ByHand
pub mod Fetcher
pub mod Follower
pub mod Report
