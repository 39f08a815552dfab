pub mod Arguments
pub mod Internal
pub mod Laws
pub mod Reads
pub mod Requests
pub mod Uses
