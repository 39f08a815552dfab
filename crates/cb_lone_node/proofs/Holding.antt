-- A group of one pattern that stands alone holds for all partial matches or for none, by whether there are facts.
use Rattle.std.proofs.Common.{◌≡◌, ◌≢◌, ◌↔◌, ℕ, Bool, true, false, List, [], ◌∷◌, Option, Some, None, ap, inl, refl, sym}
use Rattle.cb_alpha.specs.Turning.{AreCandidates}
use Rattle.cb_beta.proofs.Live.{some_none}
use Rattle.cb_constraints.specs.PatternValues.{PatternValue}
use Rattle.cb_exprs.specs.Bindings.{Bindings}
use Rattle.cb_facts.specs.FactLists.{IndexedFacts}
use Rattle.cb_facts.specs.Facts.{FactValue}
use Rattle.cb_fit.specs.Shapes.{is_selected}
use Rattle.cb_fit.specs.StandsAlone.{stands_alone}
use Rattle.cb_fit.specs.Ways.{WayValue, ways}
use Rattle.cb_lone_node.specs.LoneNodes.{HasNone, PassesAll}
use Rattle.cb_matches.proofs.Growth.{Fact, in_next, is_grown}
use Rattle.cb_matches.specs.Chains.{In}
use Rattle.cb_matches.specs.Matches.{Partial, group_holds, grown, next}
use Rattle.cb_nodes.proofs.Shapes.{selected_by_way}
use Rattle.cb_nodes.specs.Flat.{holds_alone}
use Rattle.cb_nodes.specs.Patterns.{Unselected}

-- a list that isn't empty has a first way
first_way : (ws : List WayValue) → (ws ≡ [] → ⊥) → (w : WayValue) × In w ws
first_way [] some = absurd (some refl)
first_way (w ∷ ws) some = (w, inl refl)

-- a pattern that stands alone fits each fact that is selected, whatever variables have
abbrev pub AloneFits : Type 0
AloneFits = (p : PatternValue) (f : FactValue) (before : Bindings) → stands_alone p ≡ true → is_selected p f ≡ true → ways p f before ≢ []

-- a group holds by whether anything goes on inside it
by_list : (positive : Bool) (facts : ℕ → Option Fact) (xs : List Partial) → (HasNone facts → (z : Partial) → In z xs → ⊥) → (((z : Partial) → In z xs → ⊥) → HasNone facts)
    → (group_holds positive xs ≡ true) ↔ PassesAll positive facts
by_list true facts [] none empty = (λ e. absurd (let no : false ≡ true = e in cc), λ h. absurd (h (empty (λ z k. k))))
by_list true facts (x ∷ xs) none empty = (λ e h. none h x (inl refl), λ h. refl)
by_list false facts [] none empty = (λ e. empty (λ z k. k), λ h. refl)
by_list false facts (x ∷ xs) none empty = (λ e. absurd (let no : false ≡ true = e in cc), λ h. absurd (none h x (inl refl)))

module _ (unselected : Unselected) (fits : AloneFits) (p : PatternValue) (alone : stands_alone p ≡ true) (fs : IndexedFacts) (facts : ℕ → Option Fact) (are : AreCandidates p fs facts) where
  none_goes_on : (m : Partial) → HasNone facts → (z : Partial) → In z (next None p fs (m ∷ [])) → ⊥
  none_goes_on m none z h =
      let k = is_grown None p fs (m ∷ []) z h in
      let n = are.all k.fact k.fact_in (selected_by_way unselected p k.fact _ k.way k.way_in) in
      some_none (facts n.0) n.1 (none n.0)

  there_is_none : (m : Partial) → ((z : Partial) → In z (next None p fs (m ∷ [])) → ⊥) → HasNone facts
  there_is_none m empty n = by_fact (facts n) refl
    where
      by_fact : (o : Option Fact) → facts n ≡ o → facts n ≡ None
      by_fact None e = e
      by_fact (Some f) e =
          let i = are.are n f e in
          let w = first_way (ways p f.1 m.env) (fits p f.1 m.env alone i.1) in
          absurd (empty (grown None f.0 m w.0) (in_next None p fs (m ∷ []) m f w.0 (inl refl) i.0 w.1))

  pub holds_so : (positive : Bool) (m : Partial) → (holds_alone positive p fs m ≡ true) ↔ PassesAll positive facts
  holds_so positive m = by_list positive facts (next None p fs (m ∷ [])) (none_goes_on m) (there_is_none m)
