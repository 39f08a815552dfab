-- Which of the calls to come is to fail: `Some 1` is the next one, `Some 0` one that is over, `None` no call.
use Rattle.std.specs.Prelude.{◌≡◌, ℕ, ◌-◌, Option, Some, None}

-- the count after one call more
abbrev pub calls_left : Option ℕ → Option ℕ
calls_left None = None
calls_left (Some n) = Some (n - 1)

-- the next call is the one that fails
abbrev pub IsDue : Option ℕ → Type 0
IsDue left = left ≡ Some 1
