-- Values that are all integers are their numbers.
use Rattle.std.proofs.Common.{◌≡◌, true, false, List, [], ◌∷◌, Ok, Err, map, refl, ap}
use Rattle.std.specs.List.{list_all}
use Rattle.cb_eval.specs.Arguments.{integers_of}
use Rattle.cb_eval.specs.Internal.{as_number}
use Rattle.cb_eval.specs.TypeTests.{is_integer}
use Rattle.cb_forms.specs.declared.fault.Fault.TheVariants.{WrongType}
use Rattle.cb_facts.specs.Results.{with_first}
use Rattle.cb_facts.specs.declared.value.Value.{Value}
use Rattle.cb_facts.specs.declared.value.Value.TheVariants as value

pub all_integers : (vs : List Value) → list_all is_integer vs ≡ true → integers_of vs ≡ Ok (map as_number vs)
all_integers [] h = refl
all_integers (value.Int n ∷ vs) h = ap (with_first (Ok n)) (all_integers vs h)
all_integers (value.Symbol b ∷ vs) h = absurd (cc)
all_integers (value.Str b ∷ vs) h = absurd (cc)
all_integers (value.Fact ix ∷ vs) h = absurd (cc)
all_integers (value.Multi fs ∷ vs) h = absurd (cc)

pub not_all_integers : (vs : List Value) → list_all is_integer vs ≡ false → integers_of vs ≡ Err WrongType
not_all_integers [] h = absurd (cc)
not_all_integers (value.Int n ∷ vs) h = ap (with_first (Ok n)) (not_all_integers vs h)
not_all_integers (value.Symbol b ∷ vs) h = refl
not_all_integers (value.Str b ∷ vs) h = refl
not_all_integers (value.Fact ix ∷ vs) h = refl
not_all_integers (value.Multi fs ∷ vs) h = refl
