-- Laws of the definitions.
pub mod FullRedrawLaws
pub mod PlayLaws
pub mod PutsLaws
pub mod ScrollLaws
pub mod AppendLaws
pub mod SearchPromptLaws
pub mod JoinLaws
pub mod CursorLaws
pub mod SinkLaws
pub mod WritesLaws
pub mod TerminalLaws
pub mod WrittenLaws
pub mod PartLaws
pub mod NormalFormLaws
