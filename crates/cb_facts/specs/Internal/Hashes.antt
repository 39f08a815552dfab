-- The hash of bytes.
use Rattle.std.specs.Prelude.{ℕ, List}
use Rattle.std.specs.Hash.FoldHasher as folding

-- the hash of bytes
unfoldable pub hash_of_bytes : List ℕ → ℕ
hash_of_bytes bytes = folding.finish (folding.write folding.initial bytes)
