mod CountedLaws
mod Counting
mod GlobalLaws
mod GroupCountLaws
mod GroupLaws
mod IndexLaws
pub mod IndexOf
mod KeepLaws
mod NumberLaws
mod RuleLaws
