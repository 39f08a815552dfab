-- Forms as trees, without the capacities that a `Vec` has.
use Rattle.std.specs.Prelude.{List, [], ◌∷◌, map, Result, Ok, Err}
use Rattle.cb_forms.specs.declared.fault.Fault.{Fault}
use Rattle.cb_forms.specs.declared.form.Form.{Form, fold-Form}
use Rattle.cb_forms.specs.declared.form.Form.TheOpen as form
use Rattle.cb_forms.specs.declared.form.Item.{Item}
use Rattle.cb_forms.specs.declared.form.Item.TheVariants as item
use Rattle.cb_forms.specs.declared.token.Token.{Token}

-- a form: an atom, or the trees of a list
mutual
  pub data Tree : Type 0 where
    atom : Token → Tree
    branch : Trees → Tree

  pub data Trees : Type 0 where
    no_trees : Trees
    tree : Tree → Trees → Trees

-- A list of trees as `Trees`.
abbrev pub trees_of : List Tree → Trees
trees_of [] = no_trees
trees_of (t ∷ ts) = tree t (trees_of ts)

-- How a `Form` of the program becomes a tree.
abbrev pub tree_step : form.Form-F Tree → Tree
tree_step (form.Atom t) = atom t
tree_step (form.List ts) = branch (trees_of ts.items)

-- the tree that a `Form` of the program is
abbrev pub tree_of : Form → Tree
tree_of = fold-Form Tree tree_step

-- The trees that forms of the program are.
abbrev pub trees_in : List Form → List Tree
trees_in fs = map tree_of fs

-- what an item says: its tree, or its fault
abbrev pub Reading : Type 0
Reading = Result Tree Fault

-- what an `Item` of the program says
abbrev pub reading_of : Item → Reading
reading_of (item.Form f) = Ok (tree_of f)
reading_of (item.Bad f) = Err f
