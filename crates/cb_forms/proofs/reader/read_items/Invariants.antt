use Rattle.std.proofs.Common.{◌≡◌, ◌++◌, length, map}
use Rattle.cb_forms.specs.Items.{items}
use Rattle.cb_forms.specs.Trees.{reading_of}
use Rattle.cb_forms.proofs.reader.read_items.Given as goal

abbrev pub invariant-loop-rest : goal.invariant-loop-rest
invariant-loop-rest l = map reading_of l.read.items ++ items l.rest ≡ items l.text

abbrev pub decreases-loop-rest : goal.decreases-loop-rest
decreases-loop-rest l = length l.rest
