-- What holds of a world however facts are modified, where it is kept by each change of the facts.
use Rattle.std.proofs.Common.{◌≡◌, ℕ, List, [], ◌∷◌, Option, Some, None, Result, Ok, Err, refl}
use Rattle.std.specs.Option.{ok_or}
use Rattle.cb_actions.specs.Acts.{give, give_or_fault, ◌>>=◌}
use Rattle.cb_actions.specs.Changes.{come_line, gone_line, moved}
use Rattle.cb_actions.specs.Effects.{changed_to, fact_back, fact_gone, fact_replaced, gone_if, index_said, modified, modified_at, replaced_beside, replaced_if_new, shared_out}
use Rattle.cb_actions.specs.Worlds.{World}
use Rattle.cb_exprs.specs.Shapes.{SlotCounts}
use Rattle.cb_facts.specs.FactLists.{fact_at}
use Rattle.cb_facts.specs.Facts.{FactValue}
use Rattle.cb_facts.specs.declared.value.Value.{Value}
use Rattle.cb_facts.specs.declared.value.Value.TheVariants as value
use Rattle.cb_forms.specs.declared.fault.Fault.{Fault}
use Rattle.cb_forms.specs.declared.fault.Fault.TheVariants.{NoSuchFact}
use Rattle.cb_knowledge_base.specs.KnowledgeBase.{Memory, index_of, put_back, without}
use Rattle.cb_laws.proofs.Keeping.{After, Keeps, keeps_then}
use Rattle.cb_templates.specs.Building.{Given, changed}

module _ (P Q : World → Type 0) where
  pub read_keeps : {A : Type 0} (r : Result A Fault) → Keeps P Q (give_or_fault r)
  read_keeps (Ok a) s h = h
  read_keeps (Err f) s h = h

  -- whatever a fact is replaced by
  module _ (replaces : (ix : ℕ) (given : Given) (old fact : FactValue) (s : World) → P s → fact_at s.memory.network.facts ix ≡ Some old → changed s.templates old given ≡ Ok fact
      → After P Q (replaced_if_new ix fact s).state (replaced_if_new ix fact s).answer) where
    changed_keeps : (ix : ℕ) (given : Given) (old : FactValue) (s : World) → P s → fact_at s.memory.network.facts ix ≡ Some old → After P Q (changed_to ix given old s).state (changed_to ix given old s).answer
    changed_keeps ix given old s h at = by (changed s.templates old given) refl
      where
        by : (r : Result FactValue Fault) → changed s.templates old given ≡ r → After P Q ((give_or_fault r >>= replaced_if_new ix) s).state ((give_or_fault r >>= replaced_if_new ix) s).answer
        by (Err f) e = h
        by (Ok fact) e = replaces ix given old fact s h at e

    at_keeps : (given : Given) (ix : ℕ) → Keeps P Q (modified_at given ix)
    at_keeps given ix s h = by (fact_at s.memory.network.facts ix) refl
      where
        by : (o : Option FactValue) → fact_at s.memory.network.facts ix ≡ o
            → After P Q ((give_or_fault (ok_or o NoSuchFact) >>= changed_to ix given) s).state ((give_or_fault (ok_or o NoSuchFact) >>= changed_to ix given) s).answer
        by None e = h
        by (Some old) e = changed_keeps ix given old s h e

    pub modified_keeps : (slots : SlotCounts) (vs : List Value) → Keeps P Q (modified slots vs)
    modified_keeps slots [] s h = h
    modified_keeps slots (v ∷ vs) s h = keeps_then P Q (give_or_fault (index_said v)) (modified_at (shared_out slots vs)) (read_keeps (index_said v)) (at_keeps (shared_out slots vs)) s h

  -- where each change of the facts keeps it
  module _ (moves : (next : Memory) (line : List ℕ) → Keeps P Q (moved next line)) where
    gone_keeps : (i : ℕ) → Keeps P Q (fact_gone i)
    gone_keeps i s h = by (fact_at s.memory.network.facts i)
      where
        by : (o : Option FactValue) → After P Q (gone_if i o s).state (gone_if i o s).answer
        by None = h
        by (Some f) = moves (without i s.memory) (gone_line s i (Some f)) s h

    back_keeps : (ix : ℕ) (fact : FactValue) → Keeps P Q (fact_back ix fact)
    back_keeps ix fact s h = moves (put_back ix fact s.memory) (come_line s ix fact) s h

    replaced_keeps : (ix : ℕ) (fact : FactValue) → Keeps P Q (fact_replaced ix fact)
    replaced_keeps ix fact =
        keeps_then P Q (fact_gone ix) (λ _. fact_back ix fact >>= (λ _. give (Some (value.Fact ix)))) (gone_keeps ix)
        (λ _. keeps_then P Q (fact_back ix fact) (λ _. give (Some (value.Fact ix))) (back_keeps ix fact) (λ v s h. h))

    beside_keeps : (ix : ℕ) (fact : FactValue) (o : Option ℕ) → Keeps P Q (replaced_beside ix fact o)
    beside_keeps ix fact (Some there) s h = h
    beside_keeps ix fact None s h = replaced_keeps ix fact s h

    pub moves_keep : (slots : SlotCounts) (vs : List Value) → Keeps P Q (modified slots vs)
    moves_keep = modified_keeps (λ ix given old fact s h at e. beside_keeps ix fact (index_of s.memory.network.facts fact) s h)
