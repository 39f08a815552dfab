-- Where places of fields stand.
use Rattle.std.specs.Prelude.{List, [], Option, Some, None}
use Rattle.std.specs.Rc.{rc_slice_items}
use Rattle.std.specs.declared.rc.RcSlice.{RcSlice}
use Rattle.cb_fit.specs.declared.field_place.FieldPlace.{FieldPlace}

-- the places that are kept, if there are any
abbrev pub places_in : {A : Type 0} → Option (RcSlice FieldPlace A) → List FieldPlace
places_in None = []
places_in (Some places) = rc_slice_items places
