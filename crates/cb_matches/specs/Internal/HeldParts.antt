-- Where parts are. No public clause cites this module.
use Rattle.smallvec.specs.SmallVec.{SmallVec}
use Rattle.std.specs.Prelude.{List, []}
use Rattle.std.specs.Rc.{rc_value}
use Rattle.cb_matches.specs.Keys.{PartValue}
use Rattle.cb_matches.specs.declared.match_parts.Held.{Held}
use Rattle.cb_matches.specs.declared.match_parts.Held.TheVariants as held

abbrev pub parts_in : Held → List PartValue
parts_in held.None = []
parts_in (held.One parts) = parts
parts_in (held.Two parts) = parts
parts_in (held.Three parts) = parts
parts_in (held.Four parts) = rc_value {X = List PartValue} parts
parts_in (held.More parts) = (rc_value {X = SmallVec PartValue} parts).items
