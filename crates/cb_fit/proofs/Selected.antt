-- Facts that are selected for a pattern.
use Rattle.std.proofs.Common.{◌≡◌, ◌≢◌, ◌↔◌, ◌∙◌, ◌&&◌, Bool, true, false, List, [], ◌∷◌, ap, refl, sym, if◌then◌else◌}
use Rattle.std.proofs.lemmas.Bool.{and_parts, both_ways}
use Rattle.cb_constraints.specs.PatternValues.{PatternValue}
use Rattle.cb_exprs.specs.Bindings.{Bindings, no_bindings}
use Rattle.cb_facts.specs.Facts.{FactValue}
use Rattle.cb_fit.specs.Comparisons.{all_own_hold, is_decided, own_fields, own_fields_from}
use Rattle.cb_fit.specs.Decided.{ValuesDecide}
use Rattle.cb_fit.specs.FieldPlaces.{placed_demands}
use Rattle.cb_fit.specs.Shapes.{has_shape, has_way, is_selected, loose}
use Rattle.cb_fit.specs.StandsAlone.{stands_alone}
use Rattle.cb_fit.specs.Ways.{WayValue, ways}

pub selected_has_shape : (p : PatternValue) (f : FactValue) → is_selected p f ≡ true → has_shape p f ≡ true
selected_has_shape p f e = (and_parts (has_shape p f) (all_own_hold (own_fields p.parts) f.content) e).0

-- no way
no_way : (ws : List WayValue) → has_way ws ≡ false → ws ≡ []
no_way [] e = refl
no_way (w ∷ ws) e = absurd (cc)

only_none : (ws : List WayValue) → (ws ≢ [] → ⊥) → ws ≡ []
only_none [] h = refl
only_none (w ∷ ws) h = absurd (h apart)
  where
    apart : w ∷ ws ≡ [] → ⊥
    apart d = cc

-- a pattern whose shape the fact doesn't have
abbrev NoShape : Type 0
NoShape = (p : PatternValue) (f : FactValue) (before any : Bindings) → ways (loose p) f any ≡ [] → ways p f before ≡ []

-- of the two that select a fact one fails
shape_or_own : (p : PatternValue) (f : FactValue) → is_decided p ≡ false → is_selected p f ≡ false → has_shape p f ≡ false
shape_or_own p f general e = by (has_shape p f) (ap (λ b. has_shape p f && all_own_hold (if b then own_fields_from [] (placed_demands p.parts) else []) f.content) (sym general) ∙ e)
  where
    by : (b : Bool) → b && true ≡ false → b ≡ false
    by true d = d
    by false d = refl

pub none_unselected : ((p : PatternValue) (f : FactValue) (before : Bindings) → is_decided p ≡ true → (ways p f before ≢ []) ↔ ((is_selected p f ≡ true) × ValuesDecide p before f.content)) → NoShape
    → (p : PatternValue) (f : FactValue) (before : Bindings) → is_selected p f ≡ false → ways p f before ≡ []
none_unselected decides no_shape p f before e = by (is_decided p) refl
  where
    by : (b : Bool) → is_decided p ≡ b → ways p f before ≡ []
    by true is = only_none (ways p f before) (λ some. both_ways (is_selected p f) e ((decides p f before is).0 some).0)
    by false is = no_shape p f before no_bindings (no_way (ways (loose p) f no_bindings) (shape_or_own p f is e))

pub alone_fits : ((p : PatternValue) (f : FactValue) → is_selected p f ≡ true → has_shape p f ≡ true) → ((p : PatternValue) → stands_alone p ≡ true → loose p ≡ p) → NoShape
    → (p : PatternValue) (f : FactValue) (before : Bindings) → stands_alone p ≡ true → is_selected p f ≡ true → ways p f before ≢ []
alone_fits shape same no_shape p f before alone selected none =
    let nowhere : ways p f no_bindings ≡ [] = no_shape p f no_bindings before (ap (λ q. ways q f before) (same p alone) ∙ none) in
    both_ways (has_shape p f) (ap has_way (ap (λ q. ways q f no_bindings) (same p alone) ∙ nowhere)) (shape p f selected)
