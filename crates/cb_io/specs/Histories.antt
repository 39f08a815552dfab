-- What the reads of a source gave and what the writes of a sink took: histories that exist for contracts alone.
use Rattle.std.specs.Prelude.{◌==◌, ◌+◌, ◌&&◌, ℕ, List, [], ◌++◌, nat_lt, if◌then◌else◌}

-- the bytes that reads gave, how many reads reported the end, and how many failed
pub record PastReads : Type 0 where
  pub bytes : List ℕ
  pub ends : ℕ
  pub failures : ℕ

-- No read was made.
abbrev pub no_reads : PastReads
no_reads = record { bytes = []; ends = 0; failures = 0 }

-- after a read of n bytes, these, into a buffer of this length: no byte for a buffer that isn't empty is the end
abbrev pub after_read : PastReads → ℕ → ℕ → List ℕ → PastReads
after_read r room n bytes = record {
  bytes = r.bytes ++ bytes;
  ends = if n == 0 && nat_lt 0 room then r.ends + 1 else r.ends;
  failures = r.failures;
}

-- after a read that failed
abbrev pub after_read_fault : PastReads → PastReads
after_read_fault r = record { bytes = r.bytes; ends = r.ends; failures = r.failures + 1 }

-- the bytes that writes took, and how many writes failed
pub record PastWrites : Type 0 where
  pub bytes : List ℕ
  pub failures : ℕ

-- No write was made.
abbrev pub no_writes : PastWrites
no_writes = record { bytes = []; failures = 0 }

-- after a write that took n bytes, these, of so many: to take none where there are some is a failure
abbrev pub after_write : PastWrites → ℕ → ℕ → List ℕ → PastWrites
after_write w offered n bytes = record {
  bytes = w.bytes ++ bytes;
  failures = if n == 0 && nat_lt 0 offered then w.failures + 1 else w.failures;
}

-- after a write that failed
abbrev pub after_write_fault : PastWrites → PastWrites
after_write_fault w = record { bytes = w.bytes; failures = w.failures + 1 }
