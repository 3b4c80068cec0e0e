pub mod FeedLaws
pub mod JumpLaws
pub mod KeptLaws
