-- How many tries choices need.
use Rattle.std.proofs.Common.{arith, ◌≡◌, ◌+◌, ◌-◌, ◌*◌, ◌^◌, ◌≤◌, ◌<◌, ℕ, suc}
use Rattle.std.proofs.Math.Nat.{mul-le-mul_right}
use Rattle.cb_fit.specs.Internal.Choices.{most_tries}

-- a choice of one segment more needs no more than that
pub enough_tries : (n k m : ℕ) → n ≤ 2 ^ 64 → m ≡ suc k → n * suc (most_tries k) ≤ most_tries m
enough_tries n k m h e = rw e (mul-le-mul_right (suc (most_tries k)) h)

-- a place is a number of 64 bits, so a segment has no more ends than that
pub few_ends : (len wanted to : ℕ) → len < 2 ^ 64 → len - wanted + 1 - to ≤ 2 ^ 64
few_ends len wanted to h = omega arith

pub suc-first : (n m : ℕ) → suc n + m ≡ suc (n + m)
suc-first n m = omega arith

pub no-more : (n m : ℕ) → n ≡ m → n ≤ m
no-more n m e = omega (arith, e)
