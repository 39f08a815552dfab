-- The lists that are open while a list is read, as the trees that each has so far.
use Rattle.std.specs.Prelude.{List, [], ◌∷◌, ◌++◌, map, Vec}
use Rattle.std.specs.declared.alloc.Global.{Global}
use Rattle.cb_forms.specs.Lists.{listed}
use Rattle.cb_forms.specs.Trees.{Tree, trees_in}
use Rattle.cb_forms.specs.declared.form.Form.{Form}
use Rattle.cb_forms.specs.declared.list_stack.ListStack.{ListStack}

-- from the outermost list on
abbrev pub frames_of : ListStack → List (List Tree)
frames_of stack = map (λ (v : Vec Form Global). trees_in v.items) stack.outer.items ++ trees_in stack.inner.items ∷ []

-- the levels outside, where lists with these trees are open and the levels follow inside them
abbrev pub closed_up : List (List Tree) → List (List Tree) → List (List Tree)
closed_up [] levels = levels
closed_up (ts ∷ inner) levels = listed ts (closed_up inner levels)
