-- Mixes of values: numbers of 64 bits that depend on the value alone, and that few other values have.
use Rattle.std.specs.Prelude.{ℕ, fold}
use Rattle.std.specs.Hash.FoldHasher as folding
use Rattle.std.specs.Int.{cast_unsigned, w64}
use Rattle.cb_facts.specs.contracts.multifield.MultifieldHash.TheImpl as multifield_hash
use Rattle.cb_facts.specs.declared.value.Value.{Value}
use Rattle.cb_facts.specs.declared.value.Value.TheVariants as value
use Rattle.cb_facts.specs.Internal.Hashes.{hash_of_bytes}
use Rattle.cb_number_map.specs.Mixes.{mixed}

-- the hash of the bytes or the fields, or the number itself; of one sort with another number mixed in
abbrev pub value_mix : Value → ℕ
value_mix (value.Symbol bytes) = hash_of_bytes bytes
value_mix (value.Str bytes) = mixed (hash_of_bytes bytes) 1
value_mix (value.Int n) = cast_unsigned w64 n
value_mix (value.Fact ix) = mixed ix 2
value_mix (value.Multi fields) = folding.finish (fold folding.write folding.initial (multifield_hash.ghosts.hash_input fields))
