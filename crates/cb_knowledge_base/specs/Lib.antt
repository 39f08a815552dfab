pub mod Deffacts
pub mod Globals
pub mod Internal
pub mod KnowledgeBase
pub mod Laws
