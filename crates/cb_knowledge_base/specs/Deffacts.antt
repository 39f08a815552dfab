-- The facts that each `deffacts` keeps for `reset`.
use Rattle.std.specs.Prelude.{ℕ, Bool, List, [], ◌∷◌, ◌++◌}
use Rattle.std.specs.List.{flat_map, list_any}
use Rattle.std.specs.Map.{remove_entry}
use Rattle.std.specs.Str.{bytes_eq}
use Rattle.cb_exprs.specs.FactTerms.{FactTerm}

-- the facts of each `deffacts` by its name, in the order of their definition
abbrev pub DeffactsTable : Type 0
DeffactsTable = List (List ℕ × List FactTerm)

-- one `deffacts` more, after the others; one of the same name goes
abbrev pub with_deffacts : DeffactsTable → List ℕ → List FactTerm → DeffactsTable
with_deffacts table name facts = remove_entry (bytes_eq name) table ++ (name, facts) ∷ []

-- all their facts, in order
abbrev pub kept_facts : DeffactsTable → List FactTerm
kept_facts table = flat_map (λ g. g.1) table

-- one of the facts has the relation
abbrev pub has_relation : List ℕ → List FactTerm → Bool
has_relation relation facts = list_any (λ fact. bytes_eq fact.shape.relation relation) facts

-- a fact of some `deffacts` has it
abbrev pub is_named_in_deffacts : List ℕ → DeffactsTable → Bool
is_named_in_deffacts relation table = list_any (λ g. has_relation relation g.1) table
