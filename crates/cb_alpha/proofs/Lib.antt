mod AllBuckets
pub mod FactsMore
mod Filings
mod FoundFacts
mod FoundInOrder
mod Joins
mod LiveNumbers
mod NumberedBuckets
mod Numbers
mod Ranges
pub mod ReadFacts
mod Turned
pub mod ValuesFound
pub mod ValuesOrder
