-- Facts that are not selected for a pattern.
use Rattle.std.proofs.Common.{◌≡◌, true, false, List, [], ◌∷◌, refl, subst}
use Rattle.cb_constraints.specs.PatternValues.{PatternValue}
use Rattle.cb_exprs.specs.Bindings.{Bindings}
use Rattle.cb_fit.specs.Shapes.{has_way, is_selected}
use Rattle.cb_fit.specs.Ways.{WayValue, ways}
use Rattle.cb_nodes.specs.Patterns.{Unselected}
use Rattle.cb_matches.proofs.Growth.{Fact}
use Rattle.cb_matches.proofs.Lists.{by_test}
use Rattle.cb_matches.specs.Chains.{In}

pub empty : (ws : List WayValue) → has_way ws ≡ false → ws ≡ []
empty [] e = refl
empty (v ∷ ws) e = cc

-- a fact that is not selected has no way
pub no_way_unselected : Unselected → (p : PatternValue) (f : Fact) (env : Bindings) → is_selected p f.1 ≡ false → (w : WayValue) → In w (ways p f.1 env) → ⊥
no_way_unselected unselected p f env none w h = subst (λ it. In w it) (unselected p f.1 env none) h

pub selected_by_way : Unselected → (p : PatternValue) (f : Fact) (env : Bindings) (w : WayValue) → In w (ways p f.1 env) → is_selected p f.1 ≡ true
selected_by_way unselected p f env w h = by_test (is_selected p f.1) (λ t. t) (λ t. absurd (no_way_unselected unselected p f env t w h))
