use Rattle.std.proofs.Common.{◌≡◌, ◌∷◌, ◌++◌, take}
use Rattle.std.specs.List.{flat_map}
use Rattle.cb_facts.specs.Texts.{quoted_single}
use Rattle.cb_facts.proofs.text.add_singles.Given as goal

abbrev pub invariant-loop-single : goal.invariant-loop-single
invariant-loop-single l = l.text.items ≡ l.initial.text.items ++ flat_map (λ single. 32 ∷ quoted_single single) (take l.single-index l.singles)
