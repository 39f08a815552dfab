-- What the cuts and the shape say of the list of ways.
use Rattle.std.proofs.Common.{arith, ◌≡◌, ◌∙◌, zero, List, [], ◌∷◌, ap, refl, subst, sym}
use Rattle.std.specs.List.{Contains}
use Rattle.cb_constraints.specs.PatternValues.{PatternValue}
use Rattle.cb_exprs.specs.Bindings.{Bindings}
use Rattle.cb_facts.specs.Facts.{FactValue}
use Rattle.cb_fit.proofs.CutsFix.{fixed}
use Rattle.cb_fit.proofs.Related.{fitting, listed}
use Rattle.cb_fit.proofs.WithoutVariables.{shape-kept}
use Rattle.cb_fit.specs.Related.{Fits}
use Rattle.cb_fit.specs.Shapes.{loose}
use Rattle.cb_fit.specs.Ways.{WayValue, taken_way, ways}

-- a list that has nothing is empty
empty : {X : Type 0} (xs : List X) → ((x : X) → Contains xs x → ⊥) → xs ≡ []
empty [] h = refl
empty (x ∷ xs) h = absurd (h x (zero, omega arith, refl))

no-member : {X : Type 0} (x : X) → Contains [] x → ⊥
no-member x (k, lt, e) = absurd (omega arith)

pub no-shape : (p : PatternValue) (f : FactValue) (before any : Bindings) → ways (loose p) f any ≡ [] → ways p f before ≡ []
no-shape p f before any e = empty (ways p f before) none
  where
    none : (w : WayValue) → Contains (ways p f before) w → ⊥
    none w h =
        let so = fitting p f before w h in
        no-member (taken_way (loose p) any w.cuts any)
        (subst (λ ws. Contains ws (taken_way (loose p) any w.cuts any)) e (listed (loose p) f w.cuts any any (shape-kept p f w.cuts before so.0 any so.1)))

pub same-way : (p : PatternValue) (f : FactValue) (before : Bindings) (v w : WayValue) → Contains (ways p f before) v → Contains (ways p f before) w → v.cuts ≡ w.cuts → v ≡ w
same-way p f before v w h i e =
    let one = fitting p f before v h in
    let other = fitting p f before w i in
    let same = fixed p f w.cuts before one.0 other.0 (subst (λ cuts. Fits p f cuts before one.0) e one.1) other.1 in
    one.2 ∙ (ap (λ cuts. taken_way p before cuts one.0) e ∙ (ap (taken_way p before w.cuts) same ∙ sym other.2))
