-- A slot of a pattern asks for the value of the slot with its name.
use Rattle.std.proofs.Common.{◌≡◌, ◌∙◌, ℕ, zero, suc, Bool, true, false, cond, List, [], ◌∷◌, Option, Some, None, is_some, option_map, map, refl, sym, ap, if◌then◌else◌}
use Rattle.std.specs.Map.{lookup}
use Rattle.std.specs.Option.{unwrap_or}
use Rattle.std.specs.Str.{bytes_eq}
use Rattle.cb_facts.specs.declared.value.Value.{Value}
use Rattle.cb_fit.specs.Ways.{slot_at}
use Rattle.cb_forms.specs.Members.{call_of}
use Rattle.cb_forms.specs.Trees.{Tree, Trees}
use Rattle.cb_rule_forms.specs.Patterns.{named_slot, slot_in}
use Rattle.cb_facts.specs.Places.{place_in}
use Rattle.cb_templates.specs.Slots.{SlotShape, names}
use Rattle.cb_templates.specs.Templates.{Templates}

found_among : (pairs : List (List ℕ × Value)) (name : List ℕ) → is_some (place_in (map (λ p. p.0) pairs) name) ≡ true
    → slot_at (unwrap_or (place_in (map (λ p. p.0) pairs) name) zero) pairs ≡ lookup (λ n. bytes_eq n name) pairs
found_among [] name h = absurd (cc)
found_among (p ∷ pairs) name h = by (bytes_eq p.0 name) (place_in (map (λ q. q.0) pairs) name) h (found_among pairs name)
  where
    by : (b : Bool) (o : Option ℕ) → is_some (if b then Some 0 else option_map suc o) ≡ true → (is_some o ≡ true → slot_at (unwrap_or o zero) pairs ≡ lookup (λ n. bytes_eq n name) pairs)
        → slot_at (unwrap_or (if b then Some 0 else option_map suc o) zero) (p ∷ pairs) ≡ cond b (Some p.1) (lookup (λ n. bytes_eq n name) pairs)
    by true o is more = refl
    by false None is more = absurd (cc)
    by false (Some n) is more = more refl

pub has_name : (templates : Templates) (shapes : List SlotShape) (t : Tree) (name : List ℕ) (ts : Trees) → call_of t ≡ Some (name, ts) → (slot_in templates shapes t).name ≡ name
has_name templates shapes t name ts h = ap (λ o. (named_slot templates shapes o).name) h

pub found_by_name : (templates : Templates) (shapes : List SlotShape) (t : Tree) (name : List ℕ) (ts : Trees) (pairs : List (List ℕ × Value)) → call_of t ≡ Some (name, ts)
    → is_some (place_in (names shapes) name) ≡ true → map (λ p. p.0) pairs ≡ names shapes → slot_at (slot_in templates shapes t).place pairs ≡ lookup (λ n. bytes_eq n name) pairs
found_by_name templates shapes t name ts pairs h known same =
    ap (λ o. slot_at (named_slot templates shapes o).place pairs) h
    ∙ ap (λ ns. slot_at (unwrap_or (place_in ns name) zero) pairs) (sym same)
    ∙ found_among pairs name (ap (λ ns. is_some (place_in ns name)) same ∙ known)
