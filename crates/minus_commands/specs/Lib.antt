-- What the contracts of commands cite.
pub mod Shapes
pub mod Table
pub mod TypedPrefix
pub mod Registration
pub mod WaitingRegistrations
pub mod Outcomes
pub mod Reads
pub mod Pager
pub mod Room
pub mod Queued
pub mod Unmoved
pub mod EvHandler
pub mod Callbacks
