-- Marks of names: one of 64 for each, by its bytes alone.
use Rattle.std.specs.Prelude.{◌%◌, ℕ, List}
use Rattle.cb_facts.specs.Internal.Hashes.{hash_of_bytes}

-- the mark of a name, a part of its hash
abbrev pub mark_of : List ℕ → ℕ
mark_of name = hash_of_bytes name % 64
