-- What the contracts cite.
pub mod Keys
pub mod DescribedEvents
pub mod Escapes
pub mod Script
pub mod ScriptLines
pub mod ScriptFaults
pub mod Printed
pub mod ProgramArguments
pub mod Reading
pub mod WriteFaults
pub mod Runs
pub mod Programs
pub mod ShowFaults
pub mod Statuses
