-- Where bytes that are kept stand. No public clause cites this module.
use Rattle.std.specs.Prelude.{ℕ, ◌≤◌, List, take}
use Rattle.cb_forms.specs.declared.kept_bytes.KeptBytes.{KeptBytes}
use Rattle.cb_forms.specs.declared.kept_bytes.KeptBytes.TheVariants.{Inline, Apart}

-- the bytes: so many of those in the value itself, or all that stand apart
abbrev pub bytes_in : KeptBytes → List ℕ
bytes_in (Inline count kept) = take count kept
bytes_in (Apart kept) = kept.value.items

-- no more stand in the value itself than there is place for
abbrev pub IsWithin : KeptBytes → Type 0
IsWithin (Inline count kept) = count ≤ 22
IsWithin (Apart kept) = Unit {0}
