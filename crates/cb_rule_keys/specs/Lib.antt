pub mod Changing
pub mod Keys
pub mod Numbers
pub mod Sums
