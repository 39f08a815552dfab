pub mod ArithmeticLaws
pub mod ComparisonLaws
mod Connectives
mod Deciding
mod Examples
pub mod FieldLaws
pub mod Integers
pub mod LeastLaws
mod Left
pub mod Steps
