pub mod Changing
pub mod Entering
pub mod Filling
pub mod Found
pub mod Numbers
pub mod Rules
