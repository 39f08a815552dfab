-- How many facts of each `deffacts` name each relation.
use Rattle.std.specs.Prelude.{◌≡◌, ◌+◌, ◌-◌, ℕ, List, Option, option_map}
use Rattle.std.specs.List.{sum_by}
use Rattle.std.specs.Option.{unwrap_or}
use Rattle.cb_exprs.specs.FactTerms.{FactTerm}
use Rattle.cb_facts.specs.RelationCounts.{Counts, count_of}
use Rattle.cb_knowledge_base.specs.Deffacts.{DeffactsTable}
use Rattle.cb_knowledge_base.specs.Internal.Groups.{Group}
use Rattle.cb_knowledge_base.specs.Internal.Namings.{naming}

-- of the facts of a group, so many name the relation
abbrev pub names_in : List ℕ → Group → ℕ
names_in relation group = naming (λ e. e.shape.relation) group.1 relation

-- the table counts how many facts of all groups name each relation
abbrev pub AreCounted : Counts → DeffactsTable → Type 0
AreCounted counts table = (relation : List ℕ) → count_of counts relation ≡ sum_by (names_in relation) table

-- the table counts these facts too
abbrev pub HasMore : Counts → Counts → List FactTerm → Type 0
HasMore old new facts = (relation : List ℕ) → count_of new relation ≡ count_of old relation + naming (λ e. e.shape.relation) facts relation

-- the table counts these facts no more
abbrev pub HasLess : Counts → Counts → List FactTerm → Type 0
HasLess old new facts = (relation : List ℕ) → count_of new relation ≡ count_of old relation - naming (λ e. e.shape.relation) facts relation

-- the table counts the facts of this group no more, if there is one
abbrev pub IsLessByGroup : Option Group → Counts → Counts → Type 0
IsLessByGroup group old new = (relation : List ℕ) → count_of new relation ≡ count_of old relation - unwrap_or (option_map (names_in relation) group) 0
