-- The variables that a `bind` of a form names.
use Rattle.std.specs.Prelude.{ℕ, List, [], ◌∷◌, ◌++◌, codes, if◌then◌else◌}
use Rattle.std.specs.Str.{bytes_eq}
use Rattle.cb_forms.specs.Trees.{Tree, atom, branch, Trees, no_trees, tree}
use Rattle.cb_forms.specs.declared.token.Token.TheVariants as token

-- the first of the forms, if it is a variable
abbrev pub first_variable : Trees → List (List ℕ)
first_variable (tree (atom (token.Var name)) ts) = name ∷ []
first_variable (tree (atom (token.MultiVar name)) ts) = name ∷ []
first_variable ts = []

-- what a list binds itself: the variable after the word `bind`
abbrev pub bound_here : Trees → List (List ℕ)
bound_here (tree (atom (token.Symbol word)) ts) = if bytes_eq word (codes "bind") then first_variable ts else []
bound_here ts = []

abbrev mutual
  -- what is bound anywhere in a form
  pub bound_in : Tree → List (List ℕ)
  bound_in (atom t) = []
  bound_in (branch ts) = bound_here ts ++ bound_in_all ts

  -- in one of several forms
  pub bound_in_all : Trees → List (List ℕ)
  bound_in_all no_trees = []
  bound_in_all (tree t ts) = bound_in t ++ bound_in_all ts
