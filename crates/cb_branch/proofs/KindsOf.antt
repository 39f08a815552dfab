-- Groups of one pattern: what is known by how they are kept.
use Rattle.std.proofs.Common.{◌≡◌, ◌∙◌, ◌∷◌, ◌||◌, [], List, Option, None, Some, Global, Vec, ap, cond, false, is_some, map, refl, sym, subst, true}
use Rattle.std.proofs.lemmas.Bool.{and_parts}
use Rattle.std.specs.Option.{option_map}
use Rattle.cb_branch.proofs.BoundNames.{never, or_true}
use Rattle.cb_branch.specs.Internal.ByValues.{IsDecidedBy, IsJoinedBy, IsKind}
use Rattle.cb_branch.specs.declared.kinds.Kind.{Kind}
use Rattle.cb_branch.specs.declared.kinds.Kind.TheVariants as kind
use Rattle.cb_constraints.specs.PatternValues.{PatternParts, PatternValue}
use Rattle.cb_exprs.specs.Terms.{Term}
use Rattle.cb_fit.specs.Comparisons.{ChoiceFieldValue, DecisionValue, are_decided_parts, choice_fields, compared_fields, conditions, decision}
use Rattle.cb_fit.specs.Decisions.{choice_field_of, decision_of, terms_at}
use Rattle.cb_fit.specs.StandsAlone.{stands_alone}
use Rattle.cb_fit.specs.declared.comparison.ComparedField.{ComparedField}
use Rattle.cb_fit.specs.declared.decision.Decision.{Decision}
use Rattle.cb_matches.proofs.Lists.{by_test}
use Rattle.cb_nodes.specs.Flat.{are_no_conditions, are_none_chosen, is_looked_up, lone_pattern}
use Rattle.cb_rules.specs.Elements.{element, no_elements, pattern}

one_pattern : (p q : PatternValue) → Some p ≡ Some q → p ≡ q
one_pattern p q e = cc

-- a pattern that stands alone
pub alone_some : (k : Kind) (lone : Option PatternValue) → k ≡ kind.Alone → IsKind k lone → is_some lone ≡ true
alone_some k lone is found = let it : IsKind kind.Alone lone = subst (λ (j : Kind). IsKind j lone) is found in ap is_some it.1

pub alone_stands : (k : Kind) (lone : Option PatternValue) (q : PatternValue) → k ≡ kind.Alone → IsKind k lone → lone ≡ Some q → stands_alone q ≡ true
alone_stands k lone q is found e =
    let it : IsKind kind.Alone lone = subst (λ (j : Kind). IsKind j lone) is found in
    subst (λ (p : PatternValue). stands_alone p ≡ true) (one_pattern it.0 q (sym it.1 ∙ e)) it.2

-- one that is looked up
pub looked_some : (k : Kind) (compared : Vec ComparedField Global) (lone : Option PatternValue) → k ≡ kind.LookedUp compared → IsKind k lone → is_some lone ≡ true
looked_some k compared lone is found = let it : IsKind (kind.LookedUp compared) lone = subst (λ (j : Kind). IsKind j lone) is found in ap is_some it.1

pub looked_decided : (k : Kind) (compared : Vec ComparedField Global) (lone : Option PatternValue) (q : PatternValue) → k ≡ kind.LookedUp compared → IsKind k lone → lone ≡ Some q → IsDecidedBy q compared.items
looked_decided k compared lone q is found e =
    let it : IsKind (kind.LookedUp compared) lone = subst (λ (j : Kind). IsKind j lone) is found in
    subst (λ (p : PatternValue). IsDecidedBy p compared.items) (one_pattern it.0 q (sym it.1 ∙ e)) it.2

-- other elements
pub nested_none : (k : Kind) (lone : Option PatternValue) → k ≡ kind.Nested → IsKind k lone → lone ≡ None
nested_none k lone is found = subst (λ (j : Kind). IsKind j lone) is found

-- what decides, of a pattern that is decided by values
same_decision : (d e : DecisionValue) → Some d ≡ Some e → d ≡ e
same_decision d e is = cc

none_decides : (d : DecisionValue) → Some d ≡ None → ⊥
none_decides d is = cc

decision_is : (p : PatternParts) (d : DecisionValue) → Some d ≡ decision p → (are_decided_parts p ≡ true) × (d.compared ≡ compared_fields p) × (d.chosen ≡ choice_fields p) × (d.conditions ≡ conditions p)
decision_is p d is = by_test (are_decided_parts p)
    (λ t.
    let same : d ≡ whole = same_decision d whole (is ∙ ap (λ b. cond b (Some whole) None) t) in
    (t, ap (λ (it : DecisionValue). it.compared) same, ap (λ (it : DecisionValue). it.chosen) same, ap (λ (it : DecisionValue). it.conditions) same))
    (λ f. absurd (none_decides d (is ∙ ap (λ b. cond b (Some whole) None) f)))
  where
    whole : DecisionValue
    whole = record { compared = compared_fields p; chosen = choice_fields p; conditions = conditions p }

pub decided_is : (p : PatternValue) (d : Decision) → option_map decision_of (Some d) ≡ decision p.parts → map choice_field_of d.chosen.items ≡ [] → terms_at d.conditions.items ≡ [] → IsDecidedBy p d.compared.items
decided_is p d is none no_more =
    let found = decision_is p.parts (decision_of d) is in
    record { decided = found.0; unchosen = sym found.2 ∙ none; unconditional = sym found.3 ∙ no_more; compared = found.1 }

pub joined_is : (p : PatternValue) (d : Decision) (ts : List Term) → option_map decision_of (Some d) ≡ decision p.parts → map choice_field_of d.chosen.items ≡ [] → ts ≡ terms_at d.conditions.items
    → IsJoinedBy p d.compared.items ts
joined_is p d ts is none same =
    let found = decision_is p.parts (decision_of d) is in
    record { decided = found.0; unchosen = sym found.2 ∙ none; compared = found.1; conditional = same ∙ found.3 }

-- how a group of one pattern is kept
pub alone_kind : (p : PatternValue) → stands_alone p ≡ true → IsKind kind.Alone (lone_pattern (element (pattern None p) no_elements))
alone_kind p alone = (p, ap (λ b. cond (b || is_looked_up (decision p.parts)) (Some p) None) alone, alone)

none_chosen : (cs : List ChoiceFieldValue) → are_none_chosen cs ≡ true → cs ≡ []
none_chosen [] e = refl
none_chosen (c ∷ cs) e = never (sym e)

no_condition : (ts : List Term) → are_no_conditions ts ≡ true → ts ≡ []
no_condition [] e = refl
no_condition (t ∷ ts) e = never (sym e)

pub looked_kind : (p : PatternValue) (d : Decision) → option_map decision_of (Some d) ≡ decision p.parts → is_looked_up (Some (decision_of d)) ≡ true
    → IsKind (kind.LookedUp d.compared) (lone_pattern (element (pattern None p) no_elements))
looked_kind p d is looked =
    let all : is_looked_up (decision p.parts) ≡ true = ap is_looked_up (sym is) ∙ looked in
    let none = and_parts (are_none_chosen (map choice_field_of d.chosen.items)) (are_no_conditions (terms_at d.conditions.items)) looked in (
      p,
      ap (λ b. cond (stands_alone p || b) (Some p) None) all ∙ ap (λ b. cond b (Some p) None) (or_true (stands_alone p)),
      decided_is p d is (none_chosen (map choice_field_of d.chosen.items) none.0) (no_condition (terms_at d.conditions.items) none.1),
    )

pub nested_kind : (p : PatternValue) → stands_alone p ≡ false → is_looked_up (decision p.parts) ≡ false → IsKind kind.Nested (lone_pattern (element (pattern None p) no_elements))
nested_kind p alone looked = ap (λ b. cond (b || is_looked_up (decision p.parts)) (Some p) None) alone ∙ ap (λ b. cond b (Some p) None) looked
