-- What a caller knows of a sink whose writes go by a plan.
use Rattle.std.specs.Prelude.{ℕ, ◌+◌, ◌-◌, List, [], ◌∷◌, ◌++◌, drop, max, min, take}
use Rattle.cb_io.specs.declared.planned_sink.WriteStep.{WriteStep}
use Rattle.cb_io.specs.declared.planned_sink.WriteStep.TheVariants as step

-- the bytes that it took, how many more fit, what its next writes are to do, and how many have failed
pub record PlannedWrites : Type 0 where
  pub bytes : List ℕ
  pub room : ℕ
  pub plan : List WriteStep
  pub failures : ℕ

-- how many bytes a write takes that doesn't fail, where it can take so many; 0 in a plan stands for 1
abbrev pub bytes_planned : List WriteStep → ℕ → ℕ
bytes_planned [] all = all
bytes_planned (step.Take n ∷ steps) all = min all (max n 1)
bytes_planned (step.Zero ∷ steps) all = 0
bytes_planned (step.Fail ∷ steps) all = 0

-- the next write is to fail
abbrev pub IsToFail : List WriteStep → Type 0
IsToFail [] = ⊥
IsToFail (step.Take n ∷ steps) = ⊥
IsToFail (step.Zero ∷ steps) = ⊥
IsToFail (step.Fail ∷ steps) = Unit {0}

-- the writes to come after a write that took the first n of these bytes
abbrev pub planned_after_write : PlannedWrites → List ℕ → ℕ → PlannedWrites
planned_after_write s bytes n = record {
  bytes = s.bytes ++ take n bytes;
  room = s.room - n;
  plan = drop 1 s.plan;
  failures = s.failures;
}

-- and after a write that took nothing and counts as a failure
abbrev pub planned_after_fault : PlannedWrites → PlannedWrites
planned_after_fault s = record {
  bytes = s.bytes;
  room = s.room;
  plan = drop 1 s.plan;
  failures = s.failures + 1;
}
