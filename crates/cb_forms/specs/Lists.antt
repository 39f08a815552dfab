-- A list of a text, by the lexemes of its pieces.
use Rattle.std.specs.Prelude.{ℕ, ◌+◌, ◌-◌, List, [], ◌∷◌, ◌++◌, Option, Some, None, Ok, Err, nat_le, if◌then◌else◌}
use Rattle.cb_forms.specs.Trees.{Tree, atom, branch, Trees, no_trees, tree, trees_of, Reading}
use Rattle.cb_forms.specs.declared.fault.Fault.{Fault}
use Rattle.cb_forms.specs.declared.fault.Fault.TheVariants.{NestingTooDeep}
use Rattle.cb_forms.specs.declared.lexeme.Lexeme.{Lexeme}
use Rattle.cb_forms.specs.declared.lexeme.Lexeme.TheVariants.{Gap, Opening, Closing, Atom}

-- how deep lists may nest
abbrev pub greatest_depth : ℕ
greatest_depth = 200

-- The first fault of a list, in the order of its bytes, where n lists are open so far. A `(` where the deepest is open is
-- one. The `)` of the outermost list ends the search.
abbrev pub first_fault : ℕ → List Lexeme → Option Fault
first_fault n [] = None
first_fault n (Gap ∷ ls) = first_fault n ls
first_fault n (Opening ∷ ls) = if nat_le greatest_depth n then Some NestingTooDeep else first_fault (n + 1) ls
first_fault n (Closing ∷ ls) = if nat_le n 1 then None else first_fault (n - 1) ls
first_fault n (Atom (Ok t) ∷ ls) = first_fault n ls
first_fault n (Atom (Err f) ∷ ls) = Some f

-- a tree in front of the first level (there always is one)
abbrev pub put_first : Tree → List (List Tree) → List (List Tree)
put_first t [] = (t ∷ []) ∷ []
put_first t (ts ∷ levels) = (t ∷ ts) ∷ levels

-- The first level is the inside of a list, after the trees ts that the list has already. The list stands in front of the
-- next level.
abbrev pub listed : List Tree → List (List Tree) → List (List Tree)
listed ts [] = put_first (branch (trees_of ts)) []
listed ts (us ∷ levels) = put_first (branch (trees_of (ts ++ us))) levels

-- The trees of a run of lexemes, level by level: first those up to a `)` that nothing in the run opens, then those up to
-- the next such `)`, and so on. The levels of `a (b c) ) d ) e` are those of `a (b c)`, of `d` and of `e`. A fault is left
-- out: a list that holds one has no tree.
abbrev pub levels_of : List Lexeme → List (List Tree)
levels_of [] = [] ∷ []
levels_of (Gap ∷ ls) = levels_of ls
levels_of (Opening ∷ ls) = listed [] (levels_of ls)
levels_of (Closing ∷ ls) = [] ∷ levels_of ls
levels_of (Atom (Ok t) ∷ ls) = put_first (atom t) (levels_of ls)
levels_of (Atom (Err f) ∷ ls) = levels_of ls

-- The first tree of the first level.
abbrev pub first_tree : List (List Tree) → Tree
first_tree [] = branch no_trees
first_tree ([] ∷ levels) = branch no_trees
first_tree ((t ∷ ts) ∷ levels) = t

-- The fault if there is one, else the tree.
abbrev pub fault_or : Option Fault → Tree → Reading
fault_or None t = Ok t
fault_or (Some f) t = Err f

-- what a closed list says, by its lexemes: its first fault, or its tree
abbrev pub list_reading : List Lexeme → Reading
list_reading ls = fault_or (first_fault 0 ls) (first_tree (levels_of ls))

-- a tree as it is written
abbrev mutual
  pub written : Tree → List Lexeme
  written (atom t) = Atom (Ok t) ∷ []
  written (branch ts) = Opening ∷ written_all ts ++ Closing ∷ []

  -- Trees as they are written, one after another.
  pub written_all : Trees → List Lexeme
  written_all no_trees = []
  written_all (tree t ts) = written t ++ written_all ts
