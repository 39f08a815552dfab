-- The fields of the program with what is asked of them.
use Rattle.cb_constraints.specs.Constraints.{demand_of}
use Rattle.cb_fit.specs.FieldPlaces.{PlacedDemand}
use Rattle.cb_fit.specs.declared.placed.Placed as program

-- the field and the demand that a value of the program is
abbrev pub placed_of : program.Placed → PlacedDemand
placed_of p = record { place = p.place; demand = demand_of p.demand.now }
