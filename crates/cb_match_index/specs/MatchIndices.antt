-- What is kept of matches.
use Rattle.std.specs.Prelude.{◌≡◌, ℕ, Option}
use Rattle.cb_match_index.specs.Internal.{branches_of, value_in}
use Rattle.cb_match_index.specs.declared.match_index.MatchIndex.{MatchIndex}

-- where a match stands: its rule, its branch and its number
abbrev pub Place : Type 0
Place = ℕ × (ℕ × ℕ)

-- what is kept of a match, if anything is
unfoldable pub kept_at : MatchIndex → Place → Option ℕ
kept_at index place = value_in (branches_of index.rules place.0) place.1

-- under each key is what was there
abbrev pub KeepsAll : {K : Type 0} → (K → Option ℕ) → (K → Option ℕ) → Type 0
KeepsAll {K} old new = (key : K) → new key ≡ old key
