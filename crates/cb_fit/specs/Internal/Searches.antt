-- What a search looks with.
use Rattle.std.specs.Prelude.{ℕ, List}
use Rattle.cb_constraints.specs.PatternValues.{PatternParts}
use Rattle.cb_exprs.specs.Bindings.{Bindings}
use Rattle.cb_facts.specs.Facts.{FactContent, content_of}
use Rattle.cb_facts.specs.declared.value.Value.{Value}
use Rattle.cb_fit.specs.declared.search.Search.{Search}

-- what a pattern asks, the content of a fact, its slots if it is one of a template, and what variables have before
pub record SearchValue : Type 0 where
  pub body : PatternParts
  pub content : FactContent
  pub slots : List (List ℕ × Value)
  pub before : Bindings

-- what a search of the program looks with, where its look-up has these bindings
abbrev pub search_of : {L : Type 0} → (L → Bindings) → Search L → SearchValue
search_of bindings s = record { body = s.body.now; content = content_of s.content.now; slots = s.slots.now; before = bindings s.before.now }
