-- The hash of a fact, and in which order tables have facts.
use Rattle.std.specs.Prelude.{◌++◌, ◌/◌, ◌^◌, ℕ, List, fold}
use Rattle.std.specs.Cmp.Lexicographic.{slice_cmp}
use Rattle.std.specs.Hash as fed
use Rattle.std.specs.Hash.{HashWrites}
use Rattle.std.specs.Hash.FoldHasher as folding
use Rattle.std.specs.Ordering.{nat_cmp, on, then_cmp}
use Rattle.std.specs.declared.cmp.Ordering.TheVariants.{Less, Greater}
use Rattle.std.specs.declared.cmp.Ordering.{Ordering}
use Rattle.cb_facts.specs.Facts.{FactContent, fields, slots, FactValue}
use Rattle.cb_facts.specs.contracts.single.SingleOrd.TheImpl as single_ord
use Rattle.cb_facts.specs.contracts.single.SingleHash.TheImpl as single_hash
use Rattle.cb_facts.specs.contracts.value.ValueOrd.TheImpl as value_ord
use Rattle.cb_facts.specs.contracts.value.ValueHash.TheImpl as value_hash
use Rattle.cb_facts.specs.declared.value.Value.{Value}
use Rattle.cb_facts.specs.Internal.Hashes.{hash_of_bytes}

-- what a hasher is fed of a slot: its name, then its value
abbrev pub slot_writes : List ℕ × Value → HashWrites
slot_writes s = fed.u64 (hash_of_bytes s.0) ++ value_hash.ghosts.hash_input s.1

-- what a hasher is fed of the content
abbrev pub content_writes : FactContent → HashWrites
content_writes (fields xs) = fed.slice single_hash.ghosts.hash_input xs
content_writes (slots ss) = fed.slice slot_writes ss

-- the hash of a relation and what a hasher is fed of the content
unfoldable pub hash_from : List ℕ → HashWrites → ℕ
hash_from relation writes = folding.finish (fold folding.write (folding.write folding.initial relation) writes)

-- the hash of a fact
abbrev pub hash_of : FactValue → ℕ
hash_of f = hash_from f.relation (content_writes f.content)

-- half of it: a number of 32 bits
abbrev pub mix_of : FactValue → ℕ
mix_of f = hash_of f / 2 ^ 32

-- slots in order: by their names, then by their values
abbrev pub slot_cmp : List ℕ × Value → List ℕ × Value → Ordering
slot_cmp = then_cmp (on (λ s. s.0) (slice_cmp nat_cmp)) (on (λ s. s.1) value_ord.ghosts.cmp)

-- contents in order: fields one after another, then slots one after another, and fields before slots
abbrev pub content_cmp : FactContent → FactContent → Ordering
content_cmp (fields xs) (fields ys) = slice_cmp single_ord.ghosts.cmp xs ys
content_cmp (fields xs) (slots ts) = Less
content_cmp (slots ss) (fields ys) = Greater
content_cmp (slots ss) (slots ts) = slice_cmp slot_cmp ss ts

-- facts with the same hash in order: by their relations, then by their contents
abbrev pub rest_cmp : FactValue → FactValue → Ordering
rest_cmp = then_cmp (on (λ f. f.relation) (slice_cmp nat_cmp)) (on (λ f. f.content) content_cmp)

-- facts in the order in which tables have them: by their hashes, and those with the same hash by what they say
abbrev pub fact_cmp : FactValue → FactValue → Ordering
fact_cmp = then_cmp (on hash_of nat_cmp) rest_cmp
