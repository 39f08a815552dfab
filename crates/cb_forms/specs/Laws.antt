-- What the laws of texts and their items say.
use Rattle.std.specs.Prelude.{◌≡◌, ℕ, Bool, true, false, List, ◌++◌, ◌+◌, max, filter}
use Rattle.cb_forms.specs.Items.{items, whole, rest}
use Rattle.cb_forms.specs.Trees.{Tree, atom, branch, Trees, no_trees, tree}
use Rattle.cb_forms.specs.declared.lexeme.Lexeme.{Lexeme}
use Rattle.cb_forms.specs.declared.lexeme.Lexeme.TheVariants.{Gap, Opening, Closing, Atom}

-- the list begins with these
abbrev pub BeginsWith : {X : Type 0} → List X → List X → Type 0
BeginsWith {X} front all = (more : List X) × (all ≡ front ++ more)

-- the text is these bytes, which say what has ended in it, and after them those that are open
pub record OpensAfter (p before : List ℕ) : Type 0 where
  pub together : p ≡ before ++ rest p
  pub ended : items before ≡ whole p

-- A lexeme that is no blank and no comment.
abbrev pub is_no_gap : Lexeme → Bool
is_no_gap Gap = false
is_no_gap Opening = true
is_no_gap Closing = true
is_no_gap (Atom r) = true

-- the lexemes of a text without its blanks and comments
abbrev pub without_gaps : List Lexeme → List Lexeme
without_gaps ls = filter is_no_gap ls

-- how deep lists nest in a tree
abbrev mutual
  pub depth_of : Tree → ℕ
  depth_of (atom t) = 0
  depth_of (branch ts) = 1 + deepest ts

  -- The same of several trees, that of the deepest.
  pub deepest : Trees → ℕ
  deepest no_trees = 0
  deepest (tree t ts) = max (depth_of t) (deepest ts)
