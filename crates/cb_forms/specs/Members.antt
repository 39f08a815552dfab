-- The members of a list, and the symbol that it begins with.
use Rattle.std.specs.Prelude.{ℕ, List, Option, Some, None}
use Rattle.std.specs.Option.{option_map}
use Rattle.cb_forms.specs.Trees.{Tree, atom, branch, Trees, no_trees, tree, trees_of, trees_in}
use Rattle.cb_forms.specs.declared.form.Form.{Form}
use Rattle.cb_forms.specs.declared.token.Token.{Token}
use Rattle.cb_forms.specs.declared.token.Token.TheVariants as token

-- the trees of a list's members
abbrev pub members : List Form → Trees
members fs = trees_of (trees_in fs)

-- The symbol that a token is, or none.
abbrev pub token_symbol : Token → Option (List ℕ)
token_symbol (token.Symbol name) = Some name
token_symbol t = None

-- the symbol that a form is
abbrev pub symbol_of : Tree → Option (List ℕ)
symbol_of (atom t) = token_symbol t
symbol_of (branch ts) = None

-- the symbol that a list begins with, and what follows it
abbrev pub head_and_rest : Trees → Option (List ℕ × Trees)
head_and_rest no_trees = None
head_and_rest (tree t ts) = option_map (λ name. (name, ts)) (symbol_of t)

-- the same of a form, where it is a list
abbrev pub call_of : Tree → Option (List ℕ × Trees)
call_of (atom t) = None
call_of (branch ts) = head_and_rest ts
