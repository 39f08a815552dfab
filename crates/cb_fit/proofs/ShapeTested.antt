-- The test of the shape says whether a fact has it.
use Rattle.std.proofs.Common.{◌≡◌, ◌↔◌, true, Contains, List, [], ◌∷◌, refl, sym, subst, arith}
use Rattle.cb_constraints.specs.PatternValues.{PatternValue}
use Rattle.cb_exprs.specs.Bindings.{no_bindings}
use Rattle.cb_facts.specs.Facts.{FactValue}
use Rattle.cb_fit.specs.Related.{Fits}
use Rattle.cb_fit.specs.Shapes.{HasShape, has_shape, has_way, loose}
use Rattle.cb_fit.specs.Ways.{WayValue, taken_way, ways}
use Rattle.cb_fit.proofs.Related.{fitting, listed}
use Rattle.cb_fit.proofs.WithoutVariables.{shape-gives}

some-way : (w : WayValue) (ws : List WayValue) → Contains ws w → has_way ws ≡ true
some-way w [] h = absurd (let l = h.1 in omega (arith, l))
some-way w (v ∷ ws) h = refl

has-one : (p : PatternValue) (f : FactValue) (ws : List WayValue) → ws ≡ ways (loose p) f no_bindings → has_way ws ≡ true → HasShape p f
has-one p f [] e h = cc
has-one p f (w ∷ ws) e h =
    let fit = fitting (loose p) f no_bindings w (subst (λ it. Contains it w) e (0, omega (arith), refl)) in
    (w.cuts, subst (λ it. Fits (loose p) f w.cuts no_bindings it) (sym (shape-gives p f w.cuts no_bindings fit.0 fit.1)) fit.1)

pub shape-tested : (p : PatternValue) (f : FactValue) → (has_shape p f ≡ true) ↔ HasShape p f
shape-tested p f = (
  λ h. has-one p f (ways (loose p) f no_bindings) refl h,
  λ h. some-way (taken_way (loose p) no_bindings h.0 no_bindings) (ways (loose p) f no_bindings) (listed (loose p) f h.0 no_bindings no_bindings h.1),
)
