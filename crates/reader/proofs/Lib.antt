-- Laws of draws.
pub mod DrawsLaws
pub mod ReaderLaws
pub mod StepLaws
