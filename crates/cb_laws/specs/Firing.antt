-- What the laws of firings speak of.
use Rattle.std.specs.Prelude.{◌≡◌, false, true, [], ◌∷◌}
use Rattle.std.specs.List.{Contains, list_any}
use Rattle.std.specs.List.Sorted.{IsStrictlySortedBy}
use Rattle.std.specs.Map.{keys_of}
use Rattle.cb_actions.specs.Worlds.{World}
use Rattle.cb_agenda.specs.Agendas.{AgendaValue, Entries, is_due}
use Rattle.cb_agenda.specs.Ranks.{rank_cmp}
use Rattle.cb_matches.specs.Keys.{KeyValue, key_eq}
use Rattle.cb_matches.specs.Networks.{Network, all_keys}

-- no two activations are of one match
abbrev pub AreOnce : Entries → Type 0
AreOnce [] = Unit {0}
AreOnce (e ∷ es) = (list_any (λ f. key_eq e.1 f.1) es ≡ false) × AreOnce es

-- the ranks of the activations rise, and no match is due twice
pub record IsProper (a : AgendaValue) : Type 0 where
  pub rising : IsStrictlySortedBy rank_cmp (keys_of a.entries)
  pub once : AreOnce a.entries

-- the key is that of a match
abbrev pub IsThere : Network → KeyValue → Type 0
IsThere n k = Contains (all_keys n) k

-- A match came from one network to another: it was not there, and now it is.
abbrev pub HasCome : Network → Network → KeyValue → Type 0
HasCome old new k = (IsThere old k → ⊥) × IsThere new k

-- each match that is due is there
abbrev pub AreMatches : World → Type 0
AreMatches s = (k : KeyValue) → is_due s.agenda k ≡ true → IsThere s.memory.network k
