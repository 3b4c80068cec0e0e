-- Laws of the definitions.
pub mod DescribedEventsLaws
pub mod EscapeLaws
pub mod ScriptLaws
pub mod PrintedLaws
pub mod RunLaws
