-- What rules ask: condition elements.
use Rattle.std.specs.Prelude.{ℕ, Bool, List, [], ◌∷◌, Option, Vec, map}
use Rattle.std.specs.declared.alloc.Global.{Global}
use Rattle.cb_constraints.specs.PatternValues.{PatternValue}
use Rattle.cb_exprs.specs.Terms.{Term, term_of}
use Rattle.cb_rules.specs.declared.ce.Ce.{Ce, fold-Ce}
use Rattle.cb_rules.specs.declared.ce.Ce.TheOpen as program

mutual
  -- a condition element
  pub data Element : Type 0 where
    -- a pattern, with the variable that takes the address of its fact
    pattern : Option (List ℕ) → PatternValue → Element
    -- an expression whose value is not FALSE
    test : Term → Element
    -- elements that have a match, or, where it is not positive, that have none
    group : Bool → Elements → Element

  -- elements, from left to right
  pub data Elements : Type 0 where
    no_elements : Elements
    element : Element → Elements → Elements

abbrev pub elements : List Element → Elements
elements [] = no_elements
elements (e ∷ es) = element e (elements es)

module _ {T : Type 0} where
  -- one element, with those of a group in their place
  abbrev pub element_step : program.Ce-F T Element → Element
  element_step (program.Pattern address p) = pattern address p
  element_step (program.Test e) = test (term_of e)
  element_step (program.Group positive inner) = group positive (elements inner.items)

  -- the element that a `Ce` of the program is
  abbrev pub element_of : Ce T → Element
  element_of = fold-Ce T Element element_step

  -- the branches that these vectors are
  abbrev pub branches_of : List (Vec (Ce T) Global) → List Elements
  branches_of branches = map (λ branch. elements (map element_of branch.items)) branches
