mod FrameLaws
mod Ordered
pub mod TermLaws
mod Trees
pub mod ValueLaws
