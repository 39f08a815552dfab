-- The slots of a table, and where a key stands.
use Rattle.std.specs.Prelude.{◌≡◌, ◌≢◌, ◌+◌, ◌-◌, ◌*◌, ◌/◌, ◌%◌, ◌^◌, ◌<◌, ◌≤◌, ℕ, List, [], ◌∷◌, Option, None, Some, drop, if◌then◌else◌, length, min, nat_eq, slice_index_or, take}
use Rattle.std.specs.Option.{option_or}
use Rattle.cb_number_map.specs.declared.slots.Slot.{Slot}

-- a slot that never had a key, or counts as one
abbrev pub unused : Slot
unused = record { key = 0; next = 0 }

-- the number of a slot, if it has a key
abbrev pub number_of : Slot → Option ℕ
number_of slot = if nat_eq slot.next 0 then None else Some (slot.next - 1)

-- the number that a slot has for a key
abbrev pub number_for : ℕ → Slot → Option ℕ
number_for key slot = if nat_eq slot.key key then number_of slot else None

-- the first number that slots have for a key
abbrev pub first_number : ℕ → List Slot → Option ℕ
first_number key [] = None
first_number key (slot ∷ slots) = option_or (number_for key slot) (first_number key slots)

-- a key spread over 32 bits
abbrev pub spread : ℕ → ℕ
spread key = ((key * 11400714819323198485) % 2 ^ 64) / 2 ^ 32

-- the place at which the window of a key begins, of a table of so many slots
unfoldable pub start_of : ℕ → ℕ → ℕ
start_of key count = ((spread key * (count - 7)) % 2 ^ 64) / 2 ^ 32

abbrev pub first_slot : ℕ → ℕ → ℕ
first_slot key count = min (start_of key count) count

-- the number that a table has for a key: that of the first slot of the key's window that has the key
unfoldable pub number_in : List Slot → ℕ → Option ℕ
number_in slots key = first_number key (take 8 (drop (first_slot key (length slots)) slots))

-- this key has this number now, or none, and the others have those that they had
pub record TableUpdates (old new : List Slot) (key : ℕ) (number : Option ℕ) : Type 0 where
  pub changed : number_in new key ≡ number
  pub others : (other : ℕ) → other ≢ key → number_in new other ≡ number_in old other

-- no slot behind this one has a key in whose window both are
abbrev pub NoneBehind : List Slot → ℕ → Type 0
NoneBehind slots index =
    (key j : ℕ) → first_slot key (length slots) ≤ index → index < j → j < first_slot key (length slots) + 8 → j < length slots
    → number_for key (slice_index_or slots j unused) ≡ None

-- behind a slot of a key's window that never had a key, no slot of the window has that key
abbrev pub WindowsEndAtUnused : List Slot → Type 0
WindowsEndAtUnused slots = (i : ℕ) → slice_index_or slots i unused ≡ unused → NoneBehind slots i

-- this is the first free slot of a key's window
pub record IsFirstFree (slots : List Slot) (key index : ℕ) : Type 0 where
  pub behind : first_slot key (length slots) ≤ index
  pub before : index < first_slot key (length slots) + 8
  pub within : index < length slots
  pub free : number_of (slice_index_or slots index unused) ≡ None
  pub taken : (i : ℕ) → first_slot key (length slots) ≤ i → i < index → number_of (slice_index_or slots i unused) ≢ None

-- a slot without a key, which counts as one that never had a key only where no look-up has to go on behind it
pub record IsFreed (slots : List Slot) (index : ℕ) (slot : Slot) : Type 0 where
  pub free : number_of slot ≡ None
  pub last : slot ≡ unused → NoneBehind slots index
