use Rattle.std.proofs.Common.{◌≡◌, ◌∷◌, ◌==◌, ◌∙◌, ℕ, false, true, List, [], None, ap, length, refl, sym}
use Rattle.cb_fit.proofs.checks.limited_call.Goals as goal
use Rattle.cb_fit.specs.Comparisons.{limited_call}
use Rattle.cb_fit.specs.Internal.Reading.{own_of}
use Rattle.cb_exprs.specs.Terms.{terms_of}
use Rattle.cb_exprs.specs.declared.expr.Expr.{Expr}
use Rattle.cb_words.specs.declared.words.Function.{Function}

-- a call of more than two arguments compares nothing
three_or_more : (own : List (List ℕ)) (f : Function) (a b : Expr) (more : List Expr) → false ≡ (length more == 0) → None ≡ limited_call own f (terms_of (a ∷ b ∷ more))
three_or_more own f a b [] e = let never : false ≡ true = e in absurd (cc)
three_or_more own f a b (d ∷ more) e = refl

pub returns-then-not-is_empty : goal.returns-then-not-is_empty
returns-then-not-is_empty c =
    let first = c.in_ok-first.ensures.cases.0 in
    let second = c.in_ok-second.ensures.cases.0 in
    three_or_more (own_of c.args.before.now) c.args.function c.in_ok-first.first.now c.in_ok-second.second.now c.in_ok-second.more.now (sym c.if-not-is_empty.true ∙ c.is_empty.ensures)
    ∙ ap (λ (args : List Expr). limited_call (own_of c.args.before.now) c.args.function (terms_of args)) (sym (first ∙ ap (λ (rest : List Expr). c.in_ok-first.first.now ∷ rest) second))
