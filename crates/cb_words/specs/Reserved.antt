-- The words that are never the relation of a fact.
use Rattle.std.specs.Prelude.{ℕ, Bool, List, [], ◌∷◌, codes}
use Rattle.std.specs.List.{list_any}
use Rattle.std.specs.Str.{bytes_eq}

-- the words that name condition elements of rules, and `declare`
abbrev pub reserved_words : List (List ℕ)
reserved_words =
    codes "test" ∷ codes "and" ∷ codes "or" ∷ codes "not" ∷ codes "declare" ∷ codes "logical" ∷ codes "object" ∷ codes "exists" ∷ codes "forall" ∷ []

-- One of the words that are no relations.
unfoldable pub is_reserved : List ℕ → Bool
is_reserved name = list_any (λ word. bytes_eq word name) reserved_words
