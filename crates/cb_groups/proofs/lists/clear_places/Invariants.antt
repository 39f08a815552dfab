use Rattle.std.proofs.Common.{◌≡◌, length, take}
use Rattle.cb_groups.specs.Internal.{AreWithout}
use Rattle.cb_groups.proofs.lists.clear_places.Given as goal

abbrev pub invariant-loop-member : goal.invariant-loop-member
invariant-loop-member l = (length l.places.items ≡ length l.initial.places.items) × AreWithout l.initial.places.items l.places.items (take l.member-index l.members)
