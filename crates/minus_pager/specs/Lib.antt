pub mod Files
pub mod Pagings
pub mod ExitStatus
