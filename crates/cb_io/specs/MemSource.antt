-- What a caller knows of a source over memory.
use Rattle.std.specs.Prelude.{ℕ, List, drop, take, Option}
use Rattle.cb_io.specs.Countdown.{calls_left}
use Rattle.cb_io.specs.Histories.{PastReads, after_read, after_read_fault}

-- the bytes that it hasn't given yet, the most that a read gives, which read fails, and what its reads gave
pub record Supply : Type 0 where
  pub left : List ℕ
  pub chunk : ℕ
  pub fails_in : Option ℕ
  pub reads : PastReads

-- the supply after a read that gave n bytes, into a buffer of this length
abbrev pub supply_after_read : Supply → ℕ → ℕ → Supply
supply_after_read s room n = record {
  left = drop n s.left;
  chunk = s.chunk;
  fails_in = calls_left s.fails_in;
  reads = after_read s.reads room n (take n s.left);
}

-- the supply after a read that failed
abbrev pub supply_after_fault : Supply → Supply
supply_after_fault s = record {
  left = s.left;
  chunk = s.chunk;
  fails_in = calls_left s.fails_in;
  reads = after_read_fault s.reads;
}
