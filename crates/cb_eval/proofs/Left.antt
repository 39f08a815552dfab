-- The arguments that are left in a loop.
use Rattle.std.proofs.Common.{◌≡◌, ◌<◌, ◌+◌, ◌∙◌, ℕ, List, ◌∷◌, add-one, ap, drop, drop-cons, get_or, length, refl, sym}
use Rattle.cb_exprs.specs.Terms.{term, term_of, terms_of}
use Rattle.cb_exprs.specs.declared.expr.Expr.{Expr}

pub next_term : (es : List Expr) (i : ℕ) (e : Expr) → e ≡ get_or es i e → i < length es → terms_of (drop i es) ≡ term (term_of e) (terms_of (drop (i + 1) es))
next_term es i e is h =
    let split : drop i es ≡ get_or es i e ∷ drop (i + 1) es = rw (add-one, drop-cons es i e) refl in
    ap terms_of split ∙ ap (λ d. term (term_of d) (terms_of (drop (i + 1) es))) (sym is)
