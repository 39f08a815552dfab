-- How values are printed.
use Rattle.std.specs.Prelude.{◌==◌, ◌||◌, ℕ, List, [], ◌∷◌, ◌++◌, codes, decimal, if◌then◌else◌}
use Rattle.std.specs.List.{flat_map, join_by}
use Rattle.std.specs.Fmt.{signed_decimal}
use Rattle.cb_facts.specs.Facts.{FactContent, fields, slots, FactValue}
use Rattle.cb_facts.specs.declared.single.Single.{Single}
use Rattle.cb_facts.specs.declared.single.Single.TheVariants as single
use Rattle.cb_facts.specs.declared.value.Value.{Value}
use Rattle.cb_facts.specs.declared.value.Value.TheVariants as value

-- a byte of a string as it stands between quotes: a quote and a backslash stand after a backslash
abbrev pub escaped_byte : ℕ → List ℕ
escaped_byte b = if b == 34 || b == 92 then 92 ∷ b ∷ [] else b ∷ []

-- a string's bytes between quotes
abbrev pub between_quotes : List ℕ → List ℕ
between_quotes bs = 34 ∷ (flat_map escaped_byte bs ++ 34 ∷ [])

-- the address of the fact with an index
abbrev pub address_bytes : ℕ → List ℕ
address_bytes ix = codes "<Fact-" ++ (decimal ix ++ codes ">")

-- one field, a string between quotes
abbrev pub quoted_single : Single → List ℕ
quoted_single (single.Symbol bytes) = bytes
quoted_single (single.Str bytes) = between_quotes bytes
quoted_single (single.Int n) = signed_decimal n
quoted_single (single.Fact ix) = address_bytes ix

-- the fields of a multifield with a blank between each two, in parentheses
abbrev pub fields_bytes : List Single → List ℕ
fields_bytes singles = codes "(" ++ (join_by quoted_single (codes " ") singles ++ codes ")")

-- a value as it is shown, a string between quotes
abbrev pub quoted_bytes : Value → List ℕ
quoted_bytes (value.Symbol bytes) = bytes
quoted_bytes (value.Str bytes) = between_quotes bytes
quoted_bytes (value.Int n) = signed_decimal n
quoted_bytes (value.Fact ix) = address_bytes ix
quoted_bytes (value.Multi singles) = fields_bytes singles

-- a value as it is printed, a string by its bytes alone; in a multifield strings stand between quotes all the same
abbrev pub plain_bytes : Value → List ℕ
plain_bytes (value.Symbol bytes) = bytes
plain_bytes (value.Str bytes) = bytes
plain_bytes (value.Int n) = signed_decimal n
plain_bytes (value.Fact ix) = address_bytes ix
plain_bytes (value.Multi singles) = fields_bytes singles

-- each field of a slot after a blank: of a multifield its fields, of any other value the value
abbrev pub slot_fields : Value → List ℕ
slot_fields (value.Symbol bytes) = codes " " ++ quoted_bytes (value.Symbol bytes)
slot_fields (value.Str bytes) = codes " " ++ quoted_bytes (value.Str bytes)
slot_fields (value.Int n) = codes " " ++ quoted_bytes (value.Int n)
slot_fields (value.Fact ix) = codes " " ++ quoted_bytes (value.Fact ix)
slot_fields (value.Multi singles) = flat_map (λ s. codes " " ++ quoted_single s) singles

-- a slot: its name and its fields, in parentheses after a blank
abbrev pub slot_bytes : List ℕ × Value → List ℕ
slot_bytes s = codes " (" ++ (s.0 ++ (slot_fields s.1 ++ codes ")"))

-- each field of an ordered fact after a blank, and each slot of a template's fact
abbrev pub content_bytes : FactContent → List ℕ
content_bytes (fields singles) = flat_map (λ s. codes " " ++ quoted_single s) singles
content_bytes (slots ss) = flat_map slot_bytes ss

-- a fact: its relation and its content, in parentheses
abbrev pub fact_bytes : FactValue → List ℕ
fact_bytes f = codes "(" ++ (f.relation ++ (content_bytes f.content ++ codes ")"))
