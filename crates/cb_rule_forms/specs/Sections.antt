-- What a rule is made of, as it is written.
use Rattle.std.specs.Prelude.{ℕ, List, Option, Some, None, codes, is_some, option_map, if◌then◌else◌}
use Rattle.std.specs.Option.{option_and_then}
use Rattle.std.specs.Str.{bytes_eq}
use Rattle.cb_expr_forms.specs.ExprFaults.{is_this_symbol}
use Rattle.cb_forms.specs.Members.{call_of, head_and_rest}
use Rattle.cb_forms.specs.Trees.{Tree, Trees, no_trees, tree}
use Rattle.cb_templates.specs.Templates.{without_comment}

-- the name, the members of the declaration after `declare`, if there is one, the elements, and the actions
pub record Sections : Type 0 where
  pub name : List ℕ
  pub declared : Option Trees
  pub elements : Trees
  pub actions : Trees

-- what stands before the first `=>`, and after it
abbrev pub divided : Trees → Option (Trees × Trees)
divided no_trees = None
divided (tree t ts) = if is_this_symbol (codes "=>") t then Some (no_trees, ts) else option_map (λ p. (tree t p.0, p.1)) (divided ts)

-- the members of a list that begins with this word
abbrev pub members_after : List ℕ → Option (List ℕ × Trees) → Option Trees
members_after word None = None
members_after word (Some (name, ts)) = if bytes_eq name word then Some ts else None

-- the one form, where there is one
abbrev pub only_of : Trees → Option Tree
only_of (tree t no_trees) = Some t
only_of ts = None

-- the declaration, which may come first
abbrev pub declared_in : Trees → Option Trees
declared_in no_trees = None
declared_in (tree t ts) = members_after (codes "declare") (call_of t)

-- what follows the declaration
abbrev pub without_declaration : Trees → Trees
without_declaration no_trees = no_trees
without_declaration (tree t ts) = if is_some (declared_in (tree t ts)) then ts else tree t ts

-- the sections of a rule with this name, by what stands between the name and `=>`, and after that
abbrev pub sections_by : List ℕ → Trees → Trees → Sections
sections_by name left actions = record {
  name = name;
  declared = declared_in (without_comment left);
  elements = without_declaration (without_comment left);
  actions = actions;
}

-- after the name, which isn't `=>` itself
abbrev pub sections_after : List ℕ → Trees → Option Sections
sections_after name ts = if bytes_eq name (codes "=>") then None else option_map (λ p. sections_by name p.0 p.1) (divided ts)

-- the sections of a rule, if it has a name and a `=>` after it
abbrev pub sections_of : Trees → Option Sections
sections_of ts = option_and_then (λ p. sections_after p.0 p.1) (head_and_rest ts)
