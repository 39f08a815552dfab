-- How often patterns were tested.
use Rattle.std.specs.Prelude.{ℕ, ◌+◌, ◌-◌, ◌^◌, min}

-- one test more; the greatest number stays
abbrev pub one_test_more : ℕ → ℕ
one_test_more n = min (n + 1) (2 ^ 64 - 1)
