-- What a caller knows of a source whose reads go by a plan.
use Rattle.std.specs.Prelude.{ℕ, List, [], ◌∷◌, drop, max, min, take}
use Rattle.cb_io.specs.Histories.{PastReads, after_read, after_read_fault}
use Rattle.cb_io.specs.declared.planned_source.ReadStep.{ReadStep}
use Rattle.cb_io.specs.declared.planned_source.ReadStep.TheVariants as step

-- the bytes that it hasn't given yet, what its next reads are to do, and what its reads gave
pub record PlannedReads : Type 0 where
  pub left : List ℕ
  pub plan : List ReadStep
  pub reads : PastReads

-- how many bytes a read gives that doesn't fail, where it can give so many; 0 in a plan stands for 1
abbrev pub bytes_planned : List ReadStep → ℕ → ℕ
bytes_planned [] all = all
bytes_planned (step.Take n ∷ steps) all = min all (max n 1)
bytes_planned (step.Fail ∷ steps) all = 0

-- the next read is to fail
abbrev pub IsToFail : List ReadStep → Type 0
IsToFail [] = ⊥
IsToFail (step.Take n ∷ steps) = ⊥
IsToFail (step.Fail ∷ steps) = Unit {0}

-- the reads to come after a read that gave n bytes, into a buffer of this length
abbrev pub planned_after_read : PlannedReads → ℕ → ℕ → PlannedReads
planned_after_read s room n = record {
  left = drop n s.left;
  plan = drop 1 s.plan;
  reads = after_read s.reads room n (take n s.left);
}

-- and after a read that failed
abbrev pub planned_after_fault : PlannedReads → PlannedReads
planned_after_fault s = record {
  left = s.left;
  plan = drop 1 s.plan;
  reads = after_read_fault s.reads;
}
