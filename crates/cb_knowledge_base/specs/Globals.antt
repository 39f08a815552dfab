-- The initial expressions that `defglobal` keeps for `reset`.
use Rattle.std.specs.Prelude.{List, [], ◌∷◌, if◌then◌else◌}
use Rattle.std.specs.Str.{bytes_eq}
use Rattle.cb_exprs.specs.GlobalTerms.{GlobalTerm}

-- a global has this initial expression now, at its old place; a new one comes last
abbrev pub with_initial : GlobalTerm → List GlobalTerm → List GlobalTerm
with_initial g [] = g ∷ []
with_initial g (h ∷ hs) = if bytes_eq h.0 g.0 then g ∷ hs else h ∷ with_initial g hs

-- these, one after another
abbrev pub with_initials : List GlobalTerm → List GlobalTerm → List GlobalTerm
with_initials [] hs = hs
with_initials (g ∷ gs) hs = with_initials gs (with_initial g hs)
