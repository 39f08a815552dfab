-- The first fault of a list, by what stands before it.
use Rattle.std.specs.Prelude.{◌≡◌, ◌≤◌, ◌+◌, ◌⊎◌, ◌++◌, ℕ, List, [], ◌∷◌, Err}
use Rattle.cb_forms.specs.Pieces.{lexemes}
use Rattle.cb_forms.specs.declared.fault.Fault.{Fault}
use Rattle.cb_forms.specs.declared.fault.Fault.TheVariants.{NestingTooDeep}
use Rattle.cb_forms.specs.declared.lexeme.Lexeme.{Lexeme}
use Rattle.cb_forms.specs.declared.lexeme.Lexeme.TheVariants.{Gap, Opening, Closing, Atom}

-- how many `(` are among the lexemes
abbrev pub opened : List Lexeme → ℕ
opened [] = 0
opened (Opening ∷ ls) = 1 + opened ls
opened (Gap ∷ ls) = opened ls
opened (Closing ∷ ls) = opened ls
opened (Atom r ∷ ls) = opened ls

-- how many `)` are
abbrev pub closed : List Lexeme → ℕ
closed [] = 0
closed (Closing ∷ ls) = 1 + closed ls
closed (Gap ∷ ls) = closed ls
closed (Opening ∷ ls) = closed ls
closed (Atom r ∷ ls) = closed ls

-- After these lexemes one is at fault: an atom with a fault of its own, or a `(` that has at least 200 more `(` than `)`
-- before it.
abbrev pub IsFault : List Lexeme → Lexeme → Fault → Type 0
IsFault before l f = (l ≡ Atom (Err f)) ⊎ ((l ≡ Opening) × (f ≡ NestingTooDeep) × (200 + closed before ≤ opened before))

-- The first fault of a text that is one list. It stands in the list: before each `)` that comes before it, at least two
-- lists are open, so none of these `)` closes the list itself.
pub record FirstFault (s : List ℕ) (f : Fault) : Type 0 where
  pub before : List Lexeme
  pub lexeme : Lexeme
  pub after : List Lexeme
  pub split : lexemes s ≡ before ++ lexeme ∷ after
  pub fault : IsFault before lexeme f
  pub inside : (bs cs : List Lexeme) → before ≡ bs ++ Closing ∷ cs → closed bs + 2 ≤ opened bs
  pub first : (bs : List Lexeme) (l : Lexeme) (cs : List Lexeme) (g : Fault) → before ≡ bs ++ l ∷ cs → IsFault bs l g → ⊥
