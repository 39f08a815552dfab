-- What a caller knows of a sink over memory.
use Rattle.std.specs.Prelude.{ℕ, ◌+◌, ◌-◌, List, ◌++◌, take, Option}
use Rattle.cb_io.specs.Countdown.{calls_left}

-- the bytes that it took, how many more fit, the most that a write takes, which write fails, and how many have failed
pub record Store : Type 0 where
  pub bytes : List ℕ
  pub room : ℕ
  pub chunk : ℕ
  pub fails_in : Option ℕ
  pub failures : ℕ

-- the store after a write that took the first n of these bytes
abbrev pub store_after_write : Store → List ℕ → ℕ → Store
store_after_write s bytes n = record {
  bytes = s.bytes ++ take n bytes;
  room = s.room - n;
  chunk = s.chunk;
  fails_in = calls_left s.fails_in;
  failures = s.failures;
}

-- the store after a write that took nothing and counts as a failure
abbrev pub store_after_fault : Store → Store
store_after_fault s = record {
  bytes = s.bytes;
  room = s.room;
  chunk = s.chunk;
  fails_in = calls_left s.fails_in;
  failures = s.failures + 1;
}
