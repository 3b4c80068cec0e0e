-- Laws of the definitions.
pub mod SegmentsLaws
pub mod FaultLaws
pub mod ModifierLaws
pub mod ReadingLaws
pub mod DescriptionLaws
pub mod HelpTableLaws
pub mod NumberLaws
pub mod RegisterLaws
pub mod DescribedLaws
pub mod HelpEntriesLaws
pub mod DefaultBindingsLaws
pub mod LookupLaws
