-- Comparisons.
use Rattle.std.specs.Prelude.{◌&&◌, ℤ, Bool, true, not, List, [], ◌∷◌, Result, int_le, int_lt}
use Rattle.std.specs.List.{list_all}
use Rattle.cb_eval.specs.Arguments.{integers_of}
use Rattle.cb_eval.specs.Constants.{truth}
use Rattle.cb_forms.specs.declared.fault.Fault.{Fault}
use Rattle.cb_facts.specs.Results.{ok_then}
use Rattle.cb_facts.specs.contracts.value.ValuePartialEq.TheImpl as value_eq
use Rattle.cb_facts.specs.declared.value.Value.{Value}

-- two values have one type and one content
abbrev pub same : Value → Value → Bool
same v w = value_eq.ghosts.eq v w

-- all equal the first
abbrev pub all_same : List Value → Bool
all_same [] = true
all_same (v ∷ vs) = list_all (λ w. same w v) vs

-- the first differs from all others
abbrev pub first_differs : List Value → Bool
first_differs [] = true
first_differs (v ∷ vs) = list_all (λ w. not (same w v)) vs

-- a test of two numbers
abbrev pub Comparator : Type 0
Comparator = ℤ → ℤ → Bool

abbrev pub less : Comparator
less n m = int_lt n m

abbrev pub greater : Comparator
greater n m = int_lt m n

abbrev pub less_or_equal : Comparator
less_or_equal n m = int_le n m

abbrev pub greater_or_equal : Comparator
greater_or_equal n m = int_le m n

-- an order holds of a number and the next, and so on
abbrev pub in_order_after : Comparator → ℤ → List ℤ → Bool
in_order_after order n [] = true
in_order_after order n (m ∷ ms) = order n m && in_order_after order m ms

-- an order holds of each two neighbours
abbrev pub in_order : Comparator → List ℤ → Bool
in_order order [] = true
in_order order (n ∷ ns) = in_order_after order n ns

-- whether integers alone are in order
abbrev pub compared : Comparator → List Value → Result Value Fault
compared order vs = ok_then (λ ns. truth (in_order order ns)) (integers_of vs)

-- whether a test of values holds of integers alone
abbrev pub of_integers : (List Value → Bool) → List Value → Result Value Fault
of_integers test vs = ok_then (λ ns. truth (test vs)) (integers_of vs)
