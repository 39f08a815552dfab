-- What stands between the quotes of a string.
use Rattle.std.specs.Prelude.{◌==◌, ℕ, Bool, true, false, List, [], ◌∷◌, if◌then◌else◌}
use Rattle.cb_forms.specs.Bytes.{backslash, quote}

-- The bytes after an opening quote hold no closing one. A byte after a backslash closes nothing.
abbrev mutual
  pub is_unclosed : List ℕ → Bool
  is_unclosed [] = true
  is_unclosed (b ∷ bs) = if b == quote then false else (if b == backslash then is_unclosed_escaped bs else is_unclosed bs)

  -- The same after a backslash.
  pub is_unclosed_escaped : List ℕ → Bool
  is_unclosed_escaped [] = true
  is_unclosed_escaped (b ∷ bs) = is_unclosed bs

-- what the bytes after an opening quote say up to the closing one: a backslash gives the byte after it
abbrev mutual
  pub string_content : List ℕ → List ℕ
  string_content [] = []
  string_content (b ∷ bs) = if b == quote then [] else (if b == backslash then escaped_content_of bs else b ∷ string_content bs)

  -- The same after a backslash: the next byte, whatever it is.
  pub escaped_content_of : List ℕ → List ℕ
  escaped_content_of [] = []
  escaped_content_of (b ∷ bs) = b ∷ string_content bs
