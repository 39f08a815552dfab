pub mod NumberedLaws
mod TableLaws
