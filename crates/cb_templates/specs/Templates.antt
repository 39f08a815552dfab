-- Templates as they are written, and the relations that have one.
use Rattle.std.specs.Prelude.{ℕ, List, Option}
use Rattle.std.specs.BTreeMap.{insert_entry}
use Rattle.std.specs.Cmp.Lexicographic.{slice_cmp}
use Rattle.std.specs.Map.{lookup}
use Rattle.std.specs.Ordering.{nat_cmp}
use Rattle.std.specs.Str.{bytes_eq}
use Rattle.cb_forms.specs.Trees.{atom, Trees, tree}
use Rattle.cb_forms.specs.declared.token.Token.TheVariants as token
use Rattle.cb_templates.specs.Slots.{SlotShape}

-- the templates, each after its relation's name, in the order of the names
abbrev pub Templates : Type 0
Templates = List (List ℕ × List SlotShape)

-- the slots of the relation's template
abbrev pub slots_of : Templates → List ℕ → Option (List SlotShape)
slots_of templates name = lookup (bytes_eq name) templates

-- one template more, put where its relation's name belongs; one of the same relation gives way
abbrev pub with_template : Templates → List ℕ × List SlotShape → Templates
with_template templates (name, slots) = insert_entry (slice_cmp nat_cmp) templates name slots

-- what follows the comment that may stand after the name of a construct
abbrev pub without_comment : Trees → Trees
without_comment (tree (atom (token.Str text)) ts) = ts
without_comment ts = ts
