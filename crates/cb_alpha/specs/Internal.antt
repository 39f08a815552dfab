-- Where the values stand that facts and partial matches are joined on. Numbers by their keys: Numbered. The facts of
-- an alpha memory by index: FactNumbers; how they are found: Joined.
pub mod FactNumbers
pub mod Joined
pub mod Numbered
use Rattle.std.specs.Prelude.{List}
use Rattle.cb_facts.specs.declared.value.Value.{Value}
use Rattle.cb_alpha.specs.declared.join_values.Kept.{Kept}
use Rattle.cb_alpha.specs.declared.join_values.Kept.TheVariants.{One, Two, Three, Many}

abbrev pub values_in : Kept → List Value
values_in (One value) = value
values_in (Two values) = values
values_in (Three values) = values
values_in (Many values) = values.items
