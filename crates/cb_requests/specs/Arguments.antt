-- What commands take: nothing, an expression or none, or one word.
use Rattle.std.specs.Prelude.{ℕ, List, [], ◌∷◌, Option, Some, None, Result, Ok, Err, codes, if◌then◌else◌, ok_or}
use Rattle.std.specs.Map.{lookup}
use Rattle.std.specs.Str.{bytes_eq}
use Rattle.cb_agenda.specs.declared.strategy.Strategy.{Strategy}
use Rattle.cb_agenda.specs.declared.strategy.Strategy.TheVariants.{Depth, Breadth}
use Rattle.cb_expr_forms.specs.Scopes.{Scope}
use Rattle.cb_exprs.specs.Terms.{Term}
use Rattle.cb_facts.specs.Results.{and_then, ok_then}
use Rattle.cb_forms.specs.Members.{symbol_of}
use Rattle.cb_forms.specs.Trees.{Trees, no_trees, tree}
use Rattle.cb_forms.specs.declared.fault.Fault.{Fault}
use Rattle.cb_forms.specs.declared.fault.Fault.TheVariants.{NotInProfile, WrongArguments}
use Rattle.cb_requests.specs.Reads.{expr_in}
use Rattle.cb_words.specs.WatchItems.{watch_item_of}
use Rattle.cb_words.specs.declared.watch_item.WatchItem.{WatchItem}

-- this, where there are no arguments
abbrev pub alone : {X : Type 0} → X → Trees → Result X Fault
alone x no_trees = Ok x
alone x (tree t ts) = Err WrongArguments

-- one expression, or none
abbrev pub optional_in : Scope → Trees → Result (Option Term) Fault
optional_in s no_trees = Ok None
optional_in s (tree t no_trees) = ok_then Some (expr_in s t)
optional_in s (tree t (tree u us)) = Err WrongArguments

-- the symbol that the one form is
abbrev pub only_symbol : Trees → Option (List ℕ)
only_symbol no_trees = None
only_symbol (tree t no_trees) = symbol_of t
only_symbol (tree t (tree u us)) = None

-- one symbol
abbrev pub symbol_in : Trees → Result (List ℕ) Fault
symbol_in ts = ok_or (only_symbol ts) WrongArguments

-- one rule, by its name, or with `*` all of them
abbrev pub rule_by : List ℕ → Option (List ℕ)
rule_by name = if bytes_eq name (codes "*") then None else Some name

abbrev pub rule_name_in : Trees → Result (Option (List ℕ)) Fault
rule_name_in ts = ok_then rule_by (symbol_in ts)

-- what can be watched
abbrev pub item_in : Trees → Result WatchItem Fault
item_in ts = and_then (symbol_in ts) (λ word. ok_or (watch_item_of word) NotInProfile)

-- the strategies, and which of them a word names, if it names one
abbrev pub strategies : List (List ℕ × Strategy)
strategies = (codes "depth", Depth) ∷ (codes "breadth", Breadth) ∷ []

abbrev pub strategy_of : List ℕ → Option Strategy
strategy_of word = lookup (bytes_eq word) strategies

-- a strategy
abbrev pub strategy_in : Trees → Result Strategy Fault
strategy_in ts = and_then (symbol_in ts) (λ word. ok_or (strategy_of word) NotInProfile)
