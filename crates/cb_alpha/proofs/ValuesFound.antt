-- The values of fields and of variables, found one after another.
use Rattle.std.proofs.Common.{◌≡◌, List, [], ◌∷◌, ◌++◌, Option, Some, None, ap, ap₂, append_assoc, arith, get_or, length, option_map, refl, sym, ◌∙◌}
use Rattle.cb_facts.specs.declared.value.Value.{Value}
use Rattle.cb_alpha.specs.JoinValues.{with_first}
use Rattle.cb_fit.specs.declared.join_fields.JoinField.{JoinField}

-- values that were found, and then the others, if there are all
abbrev pub with_found : List Value → Option (List Value) → Option (List Value)
with_found vs others = option_map (λ ws. vs ++ ws) others

pub found_more : (vs : List Value) (v : Value) (others : Option (List Value))
    → with_found (vs ++ v ∷ []) others ≡ with_found vs (with_first (Some v) others)
found_more vs v None = refl
found_more vs v (Some ws) = ap Some (append_assoc vs (v ∷ []) ws)

-- two fields
pub two_fields : (fields : List JoinField) (a b : JoinField) → length fields ≡ 2 → a ≡ get_or fields 0 a → b ≡ get_or fields 1 b → fields ≡ a ∷ b ∷ []
two_fields [] a b l e f = absurd (omega (arith, l))
two_fields (x ∷ []) a b l e f = absurd (omega (arith, l))
two_fields (x ∷ y ∷ []) a b l e f = ap₂ (λ (p q : JoinField). p ∷ q ∷ []) (sym e) (sym f)
two_fields (x ∷ y ∷ z ∷ zs) a b l e f = absurd (omega (arith, l))

-- and three
pub three_fields : (fields : List JoinField) (a b d : JoinField) → length fields ≡ 3 → a ≡ get_or fields 0 a → b ≡ get_or fields 1 b → d ≡ get_or fields 2 d → fields ≡ a ∷ b ∷ d ∷ []
three_fields [] a b d l e f g = absurd (omega (arith, l))
three_fields (x ∷ []) a b d l e f g = absurd (omega (arith, l))
three_fields (x ∷ y ∷ []) a b d l e f g = absurd (omega (arith, l))
three_fields (x ∷ y ∷ z ∷ []) a b d l e f g =
    ap (λ (it : JoinField). it ∷ y ∷ z ∷ []) (sym e) ∙ (ap (λ (it : JoinField). a ∷ it ∷ z ∷ []) (sym f) ∙ ap (λ (it : JoinField). a ∷ b ∷ it ∷ []) (sym g))
three_fields (x ∷ y ∷ z ∷ w ∷ ws) a b d l e f g = absurd (omega (arith, l))
