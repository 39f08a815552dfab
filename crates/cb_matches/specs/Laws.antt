-- When facts satisfy what a rule asks: the condition alone, with no list of all matches.
use Rattle.std.specs.Prelude.{◌≡◌, ℕ, Bool, true, false, List, [], ◌∷◌, ◌++◌, Option, Some}
use Rattle.std.specs.List.{Contains, slice_get}
use Rattle.std.specs.List.Sorted.{IsStrictlySortedBy}
use Rattle.std.specs.Map.{keys_of}
use Rattle.std.specs.Ordering.{nat_cmp}
use Rattle.cb_constraints.specs.PatternValues.{PatternValue}
use Rattle.cb_exprs.specs.Bindings.{Bindings, no_bindings}
use Rattle.cb_facts.specs.FactLists.{IndexedFacts, fact_at}
use Rattle.cb_facts.specs.Facts.{FactValue}
use Rattle.cb_fit.specs.Related.{Fits}
use Rattle.cb_matches.specs.Keys.{KeyValue, PartValue}
use Rattle.cb_matches.specs.Matches.{test_holds, with_address}
use Rattle.cb_matches.specs.Networks.{Network}
use Rattle.cb_rules.specs.Elements.{Element, pattern, test, group, Elements, no_elements, element}

-- the fact with the part's index is there, and the pattern fits it with segments of the part's lengths; the variable of `?f <-`
-- has the address of the fact before
abbrev pub Takes : Option (List ℕ) → PatternValue → IndexedFacts → PartValue → Bindings → Bindings → Type 0
Takes x p fs q before after = (f : FactValue) × (fact_at fs q.index ≡ Some f) × Fits p f q.cuts (with_address x q.index before) after

-- what is claimed, or where it is not positive that it doesn't hold
abbrev pub IsAsked : Bool → Type 0 → Type 0
IsAsked true claim = claim
IsAsked false claim = claim → ⊥

abbrev mutual
  -- these parts satisfy an element, where variables have these values before and after: one part a pattern, and none a test or a
  -- group, which leave what variables have as it is
  pub SatisfiesOne : Element → IndexedFacts → List PartValue → Bindings → Bindings → Type 0
  SatisfiesOne (pattern x p) fs parts before after = (q : PartValue) × (parts ≡ q ∷ []) × Takes x p fs q before after
  SatisfiesOne (test t) fs parts before after = (parts ≡ []) × (before ≡ after) × (test_holds t before ≡ true)
  SatisfiesOne (group positive inner) fs parts before after =
      (parts ≡ []) × (before ≡ after) × IsAsked positive ((qs : List PartValue) × (within : Bindings) × Satisfies inner fs qs before within)

  -- they satisfy elements: some first of them the first element, and the others those that follow, with what variables have then
  pub Satisfies : Elements → IndexedFacts → List PartValue → Bindings → Bindings → Type 0
  Satisfies no_elements fs parts before after = (parts ≡ []) × (before ≡ after)
  Satisfies (element e es) fs parts before after =
      (own others : List PartValue) × (between : Bindings) × (parts ≡ own ++ others) × SatisfiesOne e fs own before between × Satisfies es fs others between after

-- a key says which facts satisfy which branch of which rule, and variables have these values by it
abbrev pub IsMatch : Network → KeyValue → Bindings → Type 0
IsMatch n k env =
    (branches : List Elements) × (es : Elements) × Contains n.rules (k.rule, branches) × (slice_get branches k.branch ≡ Some es)
    × Satisfies es n.facts k.parts no_bindings env

-- the numbers of the rules rise, and so do the indices of the facts
pub record IsInOrder (n : Network) : Type 0 where
  pub rules : IsStrictlySortedBy nat_cmp (keys_of n.rules)
  pub facts : IsStrictlySortedBy nat_cmp (keys_of n.facts)
