pub mod DefaultKeysLaws
pub mod WorksLaws
pub mod LoopLaws
pub mod CalledLaws
pub mod WaitLaws
pub mod StepLaws
pub mod UnformedLaws
pub mod StartLaws
pub mod JoinedKindsLaws
mod JoinedLaws
mod JoinedTakeLaws
mod JoinedWorksLaws
pub mod RunLaws
pub mod BeginLaws
pub mod PrintLaws
