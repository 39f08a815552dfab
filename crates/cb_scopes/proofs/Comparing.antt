-- Whether the fields of a fact that are compared compare so, by test.
use Rattle.std.proofs.Common.{◌≡◌, ◌∙◌, ◌∷◌, true, false, List, [], Option, Some, None, ap₂, inl, inr, refl, subst, sym}
use Rattle.std.proofs.lemmas.Bool.{and_from, and_parts}
use Rattle.cb_exprs.specs.Bindings.{Bindings, value_at}
use Rattle.cb_facts.specs.Facts.{FactContent}
use Rattle.cb_facts.specs.declared.value.Value.{Value}
use Rattle.cb_fit.specs.Comparisons.{compares}
use Rattle.cb_fit.specs.Decided.{HoldsOf}
use Rattle.cb_fit.specs.FieldPlaces.{field_value}
use Rattle.cb_fit.specs.declared.comparison.ComparedField.{ComparedField}
use Rattle.cb_fit.specs.declared.comparison.Comparison.{Comparison}
use Rattle.cb_matches.specs.Chains.{In}
use Rattle.cb_scopes.specs.Compared.{all_compare, both_compare, compares_so}

both_so : (c : Comparison) (o q : Option Value) → both_compare c o q ≡ true → (v w : Value) × (o ≡ Some v) × (q ≡ Some w) × (compares c v w ≡ true)
both_so c (Some v) (Some w) e = (v, w, refl, refl, e)
both_so c (Some v) None e = absurd (let no : false ≡ true = e in cc)
both_so c None q e = absurd (let no : false ≡ true = e in cc)

so_both : (c : ComparedField) (before : Bindings) (content : FactContent) → HoldsOf c before content → compares_so before content c ≡ true
so_both c before content h = ap₂ (both_compare c.comparison) h.2 h.3 ∙ h.4

pub all_so : (cs : List ComparedField) (before : Bindings) (content : FactContent) → all_compare cs before content ≡ true → (c : ComparedField) → In c cs → HoldsOf c before content
all_so [] before content e c h = absurd h
all_so (d ∷ cs) before content e c (inl is) =
    let both = and_parts (compares_so before content d) (all_compare cs before content) e in
    subst (λ it. HoldsOf it before content) (sym is) (both_so d.comparison (field_value d.place.slot d.place.field content) (value_at d.variable before.variables) both.0)
all_so (d ∷ cs) before content e c (inr h) = all_so cs before content (and_parts (compares_so before content d) (all_compare cs before content) e).1 c h

pub so_all : (cs : List ComparedField) (before : Bindings) (content : FactContent) → ((c : ComparedField) → In c cs → HoldsOf c before content) → all_compare cs before content ≡ true
so_all [] before content h = refl
so_all (c ∷ cs) before content h =
    and_from (compares_so before content c) (all_compare cs before content) (so_both c before content (h c (inl refl))) (so_all cs before content (λ d i. h d (inr i)))
