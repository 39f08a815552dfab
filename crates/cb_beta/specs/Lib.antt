pub mod BetaMemories
pub mod GivenValues
pub mod Internal
pub mod Marks
pub mod TakenFields
pub mod Tokens
