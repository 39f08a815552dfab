mod Examples
pub mod Options
