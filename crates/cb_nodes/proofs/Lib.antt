pub mod Counts
pub mod Facts
pub mod Grown
pub mod Moves
pub mod Origins
pub mod Shapes
