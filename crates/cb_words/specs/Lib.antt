pub mod Reserved
pub mod WatchItems
pub mod Words
