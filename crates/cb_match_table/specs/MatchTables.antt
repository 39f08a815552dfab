-- Values that are kept for matches.
use Rattle.std.specs.Prelude.{ℕ, List, Option, None, Some, slice_index_or}
use Rattle.cb_match_table.specs.declared.match_table.Entry.{Entry}
use Rattle.cb_matches.specs.Keys.{KeyValue}

-- entries by their places
abbrev pub Held : Type 0 → Type 0
Held V = List (Option (Entry V))

abbrev pub entry_at : {V : Type 0} → Held V → ℕ → Option (Entry V)
entry_at held place = slice_index_or held place None

-- what a match is called by: its key and its number
abbrev pub Name : Type 0
Name = KeyValue × ℕ

abbrev pub name_in : {V : Type 0} → Option (Entry V) → Option Name
name_in None = None
name_in (Some e) = Some (e.key, e.number)

-- the name of the match whose entry has a place
abbrev pub name_at : {V : Type 0} → Held V → ℕ → Option Name
name_at held place = name_in (entry_at held place)

abbrev pub key_of : Option Name → Option KeyValue
key_of None = None
key_of (Some m) = Some m.0

-- the key of the match whose entry has a place
abbrev pub key_at : {V : Type 0} → Held V → ℕ → Option KeyValue
key_at held place = key_of (name_at held place)
