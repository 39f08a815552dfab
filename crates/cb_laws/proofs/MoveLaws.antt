-- What a change of the rules or the facts does, whatever the agenda does.
use Rattle.std.proofs.Common.{◌≡◌, ◌⊎◌, inl, inr, ◌+◌, ◌++◌, ℕ, ℤ, Bool, true, false, List, [], Option, Some, None, Result, Ok, Err, codes, flat_map, length, nat_lt, refl, ap, ap₂, if◌then◌else◌}
use Rattle.std.specs.List.{filter}
use Rattle.cb_actions.specs.Acts.{Effect, after_writing, follow, give, stop, ◌>>=◌}
use Rattle.cb_actions.specs.Changes.{activation_lines, come_line, if_watched, moved, saliences, tell}
use Rattle.cb_actions.specs.Effects.{added_beside, added_next, fact_added}
use Rattle.cb_actions.specs.Worlds.{World}
use Rattle.cb_actions.specs.declared.act.EarlyEnd.{EarlyEnd}
use Rattle.cb_actions.specs.declared.act.EarlyEnd.TheVariants as ended
use Rattle.cb_actions.specs.declared.act.Limit.TheVariants.{Numbers}
use Rattle.cb_agenda.specs.Agendas.{changed, has_stamps, is_due}
use Rattle.cb_facts.specs.Facts.{FactValue}
use Rattle.cb_facts.specs.declared.value.Value.{Value}
use Rattle.cb_facts.specs.declared.value.Value.TheVariants as value
use Rattle.cb_knowledge_base.specs.KnowledgeBase.{Memory, greatest_index, grown, index_of}
use Rattle.cb_lines.specs.Lines.{activation_line}
use Rattle.cb_matches.specs.Changes.{keys_come, keys_gone}
use Rattle.cb_matches.specs.Keys.{KeyValue}

-- The memory is the next one, whether there are stamps or not; else nothing has changed but the agenda.
pub record Moved (s : World) (next : Memory) (line : List ℕ) (t : World) (w : List ℕ) (r : Result (Unit {0}) EarlyEnd) : Type 0 where
  pub only : t ≡ record s { memory = next; agenda = t.agenda }
  pub agenda : (t.agenda ≡ s.agenda) ⊎ ((ss : List ℤ) × (t.agenda ≡ changed s.agenda (keys_gone s.memory.network next.network) (keys_come s.memory.network next.network) ss))
  pub put : r ≡ Ok tt → (ss : List ℤ) × (t.agenda ≡ changed s.agenda (keys_gone s.memory.network next.network) (keys_come s.memory.network next.network) ss)
  pub ends : (r ≡ Ok tt) ⊎ (r ≡ Err (ended.Limit Numbers))
  pub quiet : line ≡ [] → s.watched.activations ≡ false → w ≡ []
  pub room : has_stamps s.agenda (length (keys_come s.memory.network next.network)) ≡ true → r ≡ Ok tt
  pub no_room : has_stamps s.agenda (length (keys_come s.memory.network next.network)) ≡ false → r ≡ Err (ended.Limit Numbers)

pub memory_is : (s : World) (next : Memory) (line : List ℕ) (t : World) (w : List ℕ) (r : Result (Unit {0}) EarlyEnd) → Moved s next line t w r → t.memory ≡ next
memory_is s next line t w r m = ap (λ (u : World). u.memory) m.only

pub quiet_line : (b : Bool) → b ≡ false → (line : List ℕ) → if_watched b line ≡ []
quiet_line b e line = ap (λ it. if_watched it line) e

module _ (s : World) (next : Memory) (line : List ℕ) where
  abbrev gone : List KeyValue
  gone = keys_gone s.memory.network next.network

  abbrev come : List KeyValue
  come = keys_come s.memory.network next.network

  abbrev later : World
  later = record s { memory = next }

  -- what is written of activations where they are watched
  abbrev lines : List ℕ
  lines = flat_map (activation_line (codes "<== ") s.rules) (filter (is_due s.agenda) gone) ++ flat_map (activation_line (codes "==> ") s.rules) come

  -- by whether there are stamps
  abbrev put_by : Bool → Effect World (Unit {0})
  put_by b = if b then record { state = record later { agenda = changed s.agenda gone come (saliences s.rules come) }; written = []; answer = Ok tt } else stop (ended.Limit Numbers) later

  abbrev told_by : Bool → Effect World (Unit {0})
  told_by b = after_writing line (follow (put_by b).state (put_by b).written (put_by b).answer (λ _. tell (activation_lines later gone come)))

  moved_by : (b : Bool) → has_stamps s.agenda (length come) ≡ b → Moved s next line (told_by b).state (told_by b).written (told_by b).answer
  moved_by true e = record {
    only = refl;
    agenda = inr (saliences s.rules come, refl);
    put = λ h. (saliences s.rules come, refl);
    ends = inl refl;
    quiet = λ l a. ap₂ (λ (ws : List ℕ) (b : Bool). ws ++ if_watched b lines) l a;
    room = λ h. refl;
    no_room = λ h. absurd (cc);
  }
  moved_by false e = record {
    only = refl;
    agenda = inl refl;
    put = λ h. absurd (cc);
    ends = inr refl;
    quiet = λ l a. ap (λ (ws : List ℕ). ws ++ []) l;
    room = λ h. absurd (cc);
    no_room = λ h. refl;
  }

  pub moved_so : Moved s next line (moved next line s).state (moved next line s).written (moved next line s).answer
  unfolding moved
  moved_so = moved_by (has_stamps s.agenda (length come)) refl

-- An assertion, by whether the fact is there, and whether an index is left.
module _ (fact : FactValue) (s : World) (P : Effect World (Option Value) → Type 0)
    (there : (ix : ℕ) → index_of s.memory.network.facts fact ≡ Some ix → P (give (Some (value.Fact ix)) s))
    (grows : index_of s.memory.network.facts fact ≡ None → nat_lt s.memory.last greatest_index ≡ true → (t : World) (w : List ℕ) (r : Result (Unit {0}) EarlyEnd)
    → Moved s (grown fact s.memory) (come_line s (s.memory.last + 1) fact) t w r → P (follow t w r (λ _. give (Some (value.Fact (s.memory.last + 1))))))
    (full : index_of s.memory.network.facts fact ≡ None → nat_lt s.memory.last greatest_index ≡ false → P (stop (ended.Limit Numbers) s)) where
  by_room : index_of s.memory.network.facts fact ≡ None → (b : Bool) → nat_lt s.memory.last greatest_index ≡ b
      → P (if b then (added_next fact >>= (λ _. give (Some (value.Fact (s.memory.last + 1))))) s else stop (ended.Limit Numbers) s)
  by_room none true e = grows none e (added_next fact s).state (added_next fact s).written (added_next fact s).answer (moved_so s (grown fact s.memory) (come_line s (s.memory.last + 1) fact))
  by_room none false e = full none e

  by_place : (o : Option ℕ) → index_of s.memory.network.facts fact ≡ o → P (added_beside fact o s)
  by_place None e = by_room e (nat_lt s.memory.last greatest_index) refl
  by_place (Some ix) e = there ix e

  pub added_cases : P (fact_added fact s)
  added_cases = by_place (index_of s.memory.network.facts fact) refl
