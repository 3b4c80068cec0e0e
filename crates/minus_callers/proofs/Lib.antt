mod ByHandLaws
mod StepLaws
