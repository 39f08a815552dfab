mod CutterLaws
pub mod CuttingLaws
mod DepthLaws
mod Examples
mod FirstFaultLaws
pub mod FittingLaws
mod FormLaws
pub mod Lasts
pub mod LineLaws
mod ListLaws
pub mod ListStackLaws
pub mod Modes
mod NumberLemmas
pub mod OpenPartLaws
pub mod PartLaws
mod PieceLaws
mod ReaderLaws
pub mod ReadingLaws
mod RunLaws
pub mod ScanStateLaws
mod SpellingLaws
mod Splits
mod TextLaws
mod Vectors
mod WithinLaws
mod WordLemmas
mod WritingLaws
