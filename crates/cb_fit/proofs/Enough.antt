-- Ways that are enough.
use Rattle.std.proofs.Common.{◌≡◌, ◌∙◌, ◌++◌, ◌==◌, Bool, true, false, List, [], ◌∷◌, ap, length, map, refl}
use Rattle.cb_fit.specs.Internal.Choices.{AreEnough}
use Rattle.cb_fit.specs.Shapes.{has_way}
use Rattle.cb_fit.specs.WayValues.{way_of}
use Rattle.cb_fit.specs.Ways.{WayValue}
use Rattle.cb_fit.specs.declared.way.Way as program

pub all_are_enough : (one : Bool) (found all : List WayValue) → found ≡ all → AreEnough one found all
all_are_enough false found all h = h
all_are_enough true found all h = ap has_way h

-- all of a list that is enough, for one that is the same
pub enough_of : (one : Bool) (found all same : List WayValue) → all ≡ same → AreEnough one found all → AreEnough one found same
enough_of false found all same h e = e ∙ h
enough_of true found all same h e = e ∙ ap has_way h

-- some of them are enough where one is
pub some_are_enough : (found more all : List WayValue) → (found ≡ [] → ⊥) → found ++ more ≡ all → AreEnough true found all
some_are_enough [] more all h e = absurd (h refl)
some_are_enough (w ∷ ws) more all h e = ap has_way e

-- ways that are kept are some
pub some_kept : (kept : List program.Way) → (length kept == 0) ≡ false → map way_of kept ≡ [] → ⊥
some_kept [] h e = let never : true ≡ false = h in cc
some_kept (w ∷ ws) h e = cc
