-- The term of each kind of expression.
use Rattle.std.proofs.Common.{◌≡◌, ◌∙◌, ℕ, List, ap, sym, Vec, Global}
use Rattle.std.specs.Prelude.{Box}
use Rattle.cb_exprs.specs.Terms.{Term, constant, variable, global, call, effect, choose, repeat, actions, term_of, term_step, terms_of}
use Rattle.cb_exprs.specs.declared.effect.Effect.{Effect}
use Rattle.cb_exprs.specs.declared.expr.Expr.{Expr}
use Rattle.cb_exprs.specs.declared.expr.Expr.TheFolds.{fold-roll-Expr}
use Rattle.cb_exprs.specs.declared.expr.Expr.TheOpen as expr
use Rattle.cb_exprs.specs.declared.expr.Expr.TheVariants as is
use Rattle.cb_exprs.specs.declared.expr.Expr.TheViews as views
use Rattle.cb_facts.specs.declared.value.Value.{Value}
use Rattle.cb_words.specs.declared.words.Function.{Function}

pub of_constant : (v : Value) → term_of (is.Constant v) ≡ constant v
of_constant v = ap term_of (sym (is.rolls-Constant v)) ∙ fold-roll-Expr Term term_step (expr.Constant v)

pub of_variable : (x : List ℕ) → term_of (is.Variable x) ≡ variable x
of_variable x = ap term_of (sym (is.rolls-Variable x)) ∙ fold-roll-Expr Term term_step (expr.Variable x)

pub of_global : (x : List ℕ) → term_of (is.Global x) ≡ global x
of_global x = ap term_of (sym (is.rolls-Global x)) ∙ fold-roll-Expr Term term_step (expr.Global x)

pub of_call : (f : Function) (v : Vec Expr Global) → term_of (views.Call f v) ≡ call f (terms_of v.items)
of_call f v = ap term_of (sym (is.rolls-Call f v)) ∙ fold-roll-Expr Term term_step (expr.Call f v)

pub of_effect : (e : Effect) (v : Vec Expr Global) → term_of (views.Effect e v) ≡ effect e (terms_of v.items)
of_effect e v = ap term_of (sym (is.rolls-Effect e v)) ∙ fold-roll-Expr Term term_step (expr.Effect e v)

pub of_if : (b d e : Box Expr Global) → term_of (views.If b d e) ≡ choose (term_of b.value) (term_of d.value) (term_of e.value)
of_if b d e = ap term_of (sym (is.rolls-If b d e)) ∙ fold-roll-Expr Term term_step (expr.If b d e)

pub of_while : (b d : Box Expr Global) → term_of (views.While b d) ≡ repeat (term_of b.value) (term_of d.value)
of_while b d = ap term_of (sym (is.rolls-While b d)) ∙ fold-roll-Expr Term term_step (expr.While b d)

pub of_actions : (v : Vec Expr Global) → term_of (views.Actions v) ≡ actions (terms_of v.items)
of_actions v = ap term_of (sym (is.rolls-Actions v)) ∙ fold-roll-Expr Term term_step (expr.Actions v)
