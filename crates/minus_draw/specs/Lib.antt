-- What the contracts of drawings cite.
pub mod Previews
pub mod PromptRowDrawing
pub mod Drawings
pub mod AddedBytes
pub mod Drawn
pub mod Keyed
pub mod DrawsFormed
pub mod WrittenRows
