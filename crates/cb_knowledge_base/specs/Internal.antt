-- What only the code needs.
pub mod GlobalPlaces
pub mod GroupCounts
pub mod Groups
pub mod Namings
pub mod WorkingMemories
use Rattle.std.specs.Prelude.{ℕ, List}
use Rattle.std.specs.Coded.{Coded, coded_list, coded×}
use Rattle.cb_exprs.specs.Internal.Codes.{Piece}
use Rattle.cb_exprs.specs.FactTerms.{FactTerm}
use Rattle.cb_exprs.specs.Internal.{fact_code}
use Rattle.cb_exprs.specs.Shapes.{Shape}
use Rattle.cb_knowledge_base.specs.Deffacts.{DeffactsTable}

-- how the logic stores a `deffacts`, and the table
abbrev pub group_code : Coded (List ℕ) → Coded Shape → Coded Piece → Coded (List ℕ × List FactTerm)
group_code name shape piece = coded× name (coded_list (fact_code shape piece))

abbrev pub table_code : Coded (List ℕ) → Coded Shape → Coded Piece → Coded DeffactsTable
table_code name shape piece = coded_list (group_code name shape piece)
