-- Which way a `Way` of the program is.
use Rattle.cb_fit.specs.Ways.{WayValue}
use Rattle.cb_fit.specs.declared.way.Way as program

-- The way that a `Way` of the program is.
abbrev pub way_of : program.Way → WayValue
way_of w = record { cuts = w.cuts; bound = w.bound.items }
