-- Marks of variables: one of 64 bits for each, by its name alone.
use Rattle.std.specs.Prelude.{◌≡◌, ℕ, List}
use Rattle.std.specs.Int.{bit_at}
use Rattle.std.specs.List.{AllByRecursion as ForAll}
use Rattle.cb_facts.specs.NameMarks.{mark_of}
use Rattle.cb_fit.specs.declared.join_fields.JoinField.{JoinField}

-- these marks, as the bits of a number, have those of the variables of all of these fields
abbrev pub AreMarked : ℕ → List JoinField → Type 0
AreMarked marks js = ForAll (λ (j : JoinField). bit_at marks (mark_of j.variable) ≡ 1) js
