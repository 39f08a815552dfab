-- Expressions, and which one an `Expr` of the program is.
use Rattle.std.specs.Prelude.{ℕ, List, [], ◌∷◌, map}
use Rattle.cb_exprs.specs.declared.effect.Effect.{Effect}
use Rattle.cb_exprs.specs.declared.expr.Expr.{Expr, fold-Expr}
use Rattle.cb_exprs.specs.declared.expr.Expr.TheOpen as program
use Rattle.cb_facts.specs.declared.value.Value.{Value}
use Rattle.cb_words.specs.declared.words.Function.{Function}

mutual
  -- An expression: a constant, a variable, a global variable, a call without an effect or with one, or actions that are carried
  -- out as a test says or one after another.
  pub data Term : Type 0 where
    constant : Value → Term
    variable : List ℕ → Term
    global : List ℕ → Term
    -- a call without an effect
    call : Function → Terms → Term
    -- a call that does this with the values of its arguments
    effect : Effect → Terms → Term
    -- `if`: a test, what is done where it holds, and what is done where it doesn't
    choose : Term → Term → Term → Term
    -- `while`: a test, and what is done each time that it holds
    repeat : Term → Term → Term
    -- one after another
    actions : Terms → Term

  pub data Terms : Type 0 where
    no_terms : Terms
    term : Term → Terms → Terms

-- A list of terms as `Terms`.
abbrev pub terms : List Term → Terms
terms [] = no_terms
terms (t ∷ ts) = term t (terms ts)

-- one expression, with the term of each part in its place
abbrev pub term_step : program.Expr-F Term → Term
term_step (program.Constant v) = constant v
term_step (program.Variable x) = variable x
term_step (program.Global x) = global x
term_step (program.Call f ts) = call f (terms ts.items)
term_step (program.Effect e ts) = effect e (terms ts.items)
term_step (program.If c t u) = choose c.value t.value u.value
term_step (program.While c t) = repeat c.value t.value
term_step (program.Actions ts) = actions (terms ts.items)

-- The term that an `Expr` of the program is.
abbrev pub term_of : Expr → Term
term_of = fold-Expr Term term_step

-- The terms that several are.
abbrev pub terms_of : List Expr → Terms
terms_of es = terms (map term_of es)
