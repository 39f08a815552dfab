-- Facts, and when two are equal.
use Rattle.std.specs.Prelude.{◌&&◌, ℕ, Bool, false, List, nat_eq}
use Rattle.std.specs.Cmp.Lexicographic.{pointwise}
use Rattle.cb_facts.specs.contracts.single.SinglePartialEq.TheImpl as single_eq
use Rattle.cb_facts.specs.contracts.value.ValuePartialEq.TheImpl as value_eq
use Rattle.cb_facts.specs.declared.fact.Content.{Content}
use Rattle.cb_facts.specs.declared.fact.Content.TheVariants as content
use Rattle.cb_facts.specs.declared.single.Single.{Single}
use Rattle.cb_facts.specs.declared.value.Value.{Value}

-- what stands in a fact after its relation: of an ordered fact its fields, of a template's fact the names and values of
-- its slots
pub data FactContent : Type 0 where
  fields : List Single → FactContent
  slots : List (List ℕ × Value) → FactContent

-- A fact: the bytes of its relation, and its content.
pub record FactValue : Type 0 where
  pub relation : List ℕ
  pub content : FactContent

-- the ordered fact of a relation with these fields
abbrev pub ordered_fact : List ℕ → List Single → FactValue
ordered_fact relation singles = record { relation = relation; content = fields singles }

-- the fact of a template with these slots
abbrev pub template_fact : List ℕ → List (List ℕ × Value) → FactValue
template_fact relation pairs = record { relation = relation; content = slots pairs }

-- what a `Content` of the program is
abbrev pub content_of : Content → FactContent
content_of (content.Fields singles) = fields singles
content_of (content.Slots pairs) = slots pairs.items

-- two slots with one name and one value
abbrev pub slot_eq : List ℕ × Value → List ℕ × Value → Bool
slot_eq s t = pointwise nat_eq s.0 t.0 && value_eq.ghosts.eq s.1 t.1

-- Two contents are equal.
abbrev pub content_eq : FactContent → FactContent → Bool
content_eq (fields xs) (fields ys) = pointwise single_eq.ghosts.eq xs ys
content_eq (fields xs) (slots ts) = false
content_eq (slots ss) (fields ys) = false
content_eq (slots ss) (slots ts) = pointwise slot_eq ss ts

-- Two facts are equal: their relations, and their contents.
abbrev pub fact_eq : FactValue → FactValue → Bool
fact_eq f g = pointwise nat_eq f.relation g.relation && content_eq f.content g.content
