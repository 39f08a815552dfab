pub mod Filed
mod Windows
mod Maps
