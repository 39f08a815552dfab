-- Whether a partial match is passed on, by a test.
use Rattle.std.proofs.Common.{◌≡◌, ◌∙◌, ℕ, Bool, true, false, List, Option, cond, not, refl, sym}
use Rattle.std.specs.Bool.{Decides}
use Rattle.cb_alpha.specs.JoinValues.{variable_values}
use Rattle.cb_beta.specs.BetaMemories.{BetaMemoryValue}
use Rattle.cb_beta.specs.Tokens.{TokenValue}
use Rattle.cb_facts.specs.declared.value.Value.{Value}
use Rattle.cb_fit.specs.declared.comparison.Comparison.{Comparison}
use Rattle.cb_fit.specs.declared.join_fields.JoinField.{JoinField}
use Rattle.cb_lookup_node.specs.Internal.{IsSeenBy}
use Rattle.cb_lookup_node.specs.LookupNodes.{ArePassedOn, Passes, SeesOne, in_order, passed_on}
use Rattle.cb_matches.proofs.Growth.{Fact}
use Rattle.cb_matches.specs.Matches.{Partial}
use Rattle.cb_token_lists.proofs.Arrivals.{come_alike}
use Rattle.cb_token_lists.specs.Growth.{Comes}

-- values that are those of a partial match
pub by_given : (comparison : Option Comparison) (js : List JoinField) (facts : ℕ → Option Fact) (m : Partial) (given : Option (List Value)) → given ≡ variable_values js m.env → (b : Bool)
    → Decides b (IsSeenBy comparison js facts given) → Decides b (SeesOne comparison js facts m)
by_given comparison js facts m given e b is = (λ t. let h = is.0 t in (h.0, sym e ∙ h.1, h.2), λ h. is.1 (h.0, e ∙ h.1, h.2))

-- the group passes it on by the test
pub passes_where : (positive : Bool) (One : Type 0) (b passes : Bool) → Decides b One → passes ≡ cond positive b (not b) → Decides passes (Passes positive One)
passes_where true One b passes is e = (λ t. is.0 (sym e ∙ t), λ h. e ∙ is.1 h)
passes_where false One b passes is e = (λ t h. to_not b (sym e ∙ t) (is.1 h), λ h. e ∙ not_to b (λ t. h (is.0 t)))
  where
    to_not : (a : Bool) → not a ≡ true → a ≡ true → ⊥
    to_not true d k = cc
    to_not false d k = cc

    not_to : (a : Bool) → (a ≡ true → ⊥) → not a ≡ true
    not_to true h = absurd (h refl)
    not_to false h = refl

pub passes_come : (positive : Bool) (One : Type 0) (passes : Bool) (number : ℕ) → Decides passes (Passes positive One) → (old new : BetaMemoryValue)
    → Comes old new (λ t. (passes ≡ true) × (t ≡ passed_on number)) → Comes old new (λ t. Passes positive One × (t ≡ passed_on number))
passes_come positive One passes number is old new comes =
    come_alike old new (λ t. (passes ≡ true) × (t ≡ passed_on number)) (λ t. Passes positive One × (t ≡ passed_on number)) (λ t h. (is.0 h.0, h.1)) (λ t h. (is.1 h.0, h.1)) comes

-- what comes, one of a list by another word
module _ (positive : Bool) (comparison : Option Comparison) (js : List JoinField) (facts : ℕ → Option Fact) (at : ℕ → Partial) (There : ℕ → Type 0) (old new : BetaMemoryValue) where
  abbrev pub OneByOne : TokenValue → Type 0
  OneByOne t = (k : ℕ) × There k × (Passes positive (SeesOne comparison js facts (at k)) × (t ≡ passed_on k))

  pub one_by_one : Comes old new (ArePassedOn positive (in_order comparison) js facts at There) → Comes old new OneByOne
  one_by_one comes = come_alike old new (ArePassedOn positive (in_order comparison) js facts at There) OneByOne (λ t h. (h.0, h.1, (h.2, h.3))) (λ t h. (h.0, h.1, h.2.0, h.2.1)) comes

  pub together : Comes old new OneByOne → Comes old new (ArePassedOn positive (in_order comparison) js facts at There)
  together comes = come_alike old new OneByOne (ArePassedOn positive (in_order comparison) js facts at There) (λ t h. (h.0, h.1, h.2.0, h.2.1)) (λ t h. (h.0, h.1, (h.2, h.3))) comes
