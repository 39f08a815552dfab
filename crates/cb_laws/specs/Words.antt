-- Words of a text.
use Rattle.std.specs.Prelude.{◌==◌, ◌||◌, ◌&&◌, ℕ, Bool, false, not, List, [], ◌∷◌}
use Rattle.std.specs.List.{list_all}
use Rattle.cb_forms.specs.Bytes.{is_delimiter, is_single, quote, semicolon}

-- the first byte begins no string, no comment and no piece of one byte, and no byte after it ends a word
abbrev pub is_word : List ℕ → Bool
is_word [] = false
is_word (c ∷ cs) = not (is_single c || (c == quote || c == semicolon)) && list_all (λ b. not (is_delimiter b)) cs
