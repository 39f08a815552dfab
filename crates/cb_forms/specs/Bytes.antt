-- The kinds of bytes that end or begin the words of a script.
use Rattle.std.specs.Prelude.{◌==◌, ◌||◌, ◌&&◌, ℕ, Bool, false, List, [], ◌∷◌, nat_le}

-- bytes with a meaning of their own
abbrev pub quote : ℕ
quote = 34

abbrev pub dollar : ℕ
dollar = 36

abbrev pub ampersand : ℕ
ampersand = 38

abbrev pub opening : ℕ
opening = 40

abbrev pub closing : ℕ
closing = 41

abbrev pub star : ℕ
star = 42

abbrev pub plus : ℕ
plus = 43

abbrev pub minus : ℕ
minus = 45

abbrev pub point : ℕ
point = 46

abbrev pub semicolon : ℕ
semicolon = 59

abbrev pub less_than : ℕ
less_than = 60

abbrev pub question_mark : ℕ
question_mark = 63

abbrev pub backslash : ℕ
backslash = 92

abbrev pub bar : ℕ
bar = 124

abbrev pub tilde : ℕ
tilde = 126

-- a blank: the bytes 0 to 32 and 127
abbrev pub is_blank : ℕ → Bool
is_blank b = nat_le b 32 || b == 127

-- a byte before which a comment ends
abbrev pub is_line_end : ℕ → Bool
is_line_end b = b == 10 || b == 13

-- `&`, `|` or `~`
abbrev pub is_connective : ℕ → Bool
is_connective b = b == ampersand || (b == bar || b == tilde)

-- a byte that is a piece of its own: a blank, a parenthesis or a connective
abbrev pub is_single : ℕ → Bool
is_single b = is_blank b || (b == opening || (b == closing || is_connective b))

-- a byte before which a word ends: a byte that is a piece of its own, `"`, `;` or `<`
abbrev pub is_delimiter : ℕ → Bool
is_delimiter b = is_single b || (b == quote || (b == semicolon || b == less_than))

abbrev pub is_digit : ℕ → Bool
is_digit b = nat_le 48 b && nat_le b 57

abbrev pub begins_with : ℕ → List ℕ → Bool
begins_with c [] = false
begins_with c (b ∷ bs) = b == c
