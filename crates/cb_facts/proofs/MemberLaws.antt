-- Numbers as keys, and what lists contain.
use Rattle.std.proofs.Common.{◌≡◌, ◌∙◌, ℕ, suc, List, ◌∷◌, refl, sym, arith}
use Rattle.std.proofs.lemmas.Bool.{eqb-true, eq-eqb}
use Rattle.std.specs.BTreeMap.{is_at}
use Rattle.std.specs.Bool.{Decides}
use Rattle.std.specs.Cmp.{unsigned_tied}
use Rattle.std.specs.List.{Contains}
use Rattle.std.specs.Ordering.{nat_cmp}

pub is_at-Decides : (i j : ℕ) → Decides (is_at (nat_cmp i) j) (i ≡ j)
is_at-Decides i j = (λ e. eqb-true i j (sym (unsigned_tied i j) ∙ e), λ e. unsigned_tied i j ∙ eq-eqb i j e)

pub contains_here : {X : Type 0} (x : X) (xs : List X) → Contains (x ∷ xs) x
contains_here x xs = (0, omega arith, refl)

pub contains_there : {X : Type 0} (x y : X) (xs : List X) → Contains xs y → Contains (x ∷ xs) y
contains_there x y xs (k, below, is) = (suc k, omega arith, is)
