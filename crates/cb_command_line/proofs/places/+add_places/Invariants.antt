use Rattle.std.proofs.Common.{length}
use Rattle.cb_command_line.proofs.places.+add_places.Given as goal

-- there are fewer places each time
abbrev pub decreases-add_places : goal.decreases-add_places
decreases-add_places l = length l.places.now
