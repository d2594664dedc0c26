-- Laws of paths.
pub mod BodyLaws
pub mod DrawLaws
pub mod FillLaws
pub mod FormLaws
pub mod HeadLaws
pub mod Inverse
pub mod JudgeLaws
pub mod Numbers
pub mod PlaceLaws
pub mod Prefix
pub mod ReadLaws
pub mod RoundTrip
pub mod StopFields
pub mod StopLaws
pub mod StopRound
mod Words
pub mod StoreLaws
pub mod WriteLaws
pub mod WrittenLaws
