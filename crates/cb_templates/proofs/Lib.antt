mod FieldLaws
mod FitLaws
pub mod Members
mod OnlyFitLaws
mod PlaceLaws
pub mod SlotLaws
pub mod SlotValueLaws
pub mod TemplateFaultLaws
mod TemplateLaws
pub mod TemplateReads
