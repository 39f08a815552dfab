pub mod Cited
mod Calls
mod Compounds
mod Elses
mod Examples
mod Faulty
mod Heads
mod Ifs
mod Known
mod PlanLaws
mod RightLaws
mod SideLaws
mod SlotLaws
