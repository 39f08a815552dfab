mod Examples
pub mod Passing
pub mod PutLaws
mod Walks
