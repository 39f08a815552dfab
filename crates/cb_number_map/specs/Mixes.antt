-- Mixes: numbers that depend alone on what was mixed in, and that few others have.
use Rattle.std.specs.Prelude.{◌+◌, ◌*◌, ◌^◌, ◌/◌, ◌%◌, ℕ}

-- one more number mixed in
unfoldable pub mixed : ℕ → ℕ → ℕ
mixed mix n = ((mix * 11400714819323198485) % 2 ^ 64 + n) % 2 ^ 64

-- the key under which a mix is filed, in 32 bits
unfoldable pub key_of : ℕ → ℕ
key_of mix = mixed mix 0 / 2 ^ 32
