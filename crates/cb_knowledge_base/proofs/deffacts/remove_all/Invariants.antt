use Rattle.std.proofs.Common.{◌≡◌, ◌-◌, ℕ, List, take}
use Rattle.cb_facts.specs.RelationCounts.{count_of}
use Rattle.cb_knowledge_base.proofs.deffacts.remove_all.Given as goal
use Rattle.cb_knowledge_base.specs.Internal.Namings.{naming}

abbrev pub invariant-loop-fact : goal.invariant-loop-fact
invariant-loop-fact l = (q : List ℕ) → count_of l.counts q ≡ count_of l.initial.counts q - naming (λ e. e.shape.relation) (take l.fact-index l.facts) q
