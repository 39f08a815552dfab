-- What the laws of templates and their facts speak of.
use Rattle.std.specs.Prelude.{ℕ, List, [], map}
use Rattle.cb_facts.specs.Facts as content
use Rattle.cb_facts.specs.Facts.{FactContent}

-- the names of the slots of a fact, in order; an ordered fact has none
abbrev pub content_names : FactContent → List (List ℕ)
content_names (content.fields xs) = []
content_names (content.slots pairs) = map (λ p. p.0) pairs
