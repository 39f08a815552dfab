-- The place of the first `=>`.
use Rattle.std.proofs.Common.{◌≡◌, ◌<◌, ◌∙◌, ℕ, suc, zero, Bool, true, false, List, [], ◌∷◌, Option, Some, None, arith, codes, drop, length, option_map, take, refl, ap, if◌then◌else◌}
use Rattle.cb_expr_forms.specs.ExprFaults.{is_this_symbol}
use Rattle.cb_forms.specs.Members.{members}
use Rattle.cb_forms.specs.Trees.{Tree, tree, tree_of, Trees, no_trees}
use Rattle.cb_forms.specs.declared.form.Form.{Form}
use Rattle.cb_rule_forms.specs.Sections.{divided}
use Rattle.cb_rule_forms.specs.Internal.SectionPlaces.{arrow_place}

-- there is one at this place, and the forms are divided there
pub record DividedAt (fs : List Form) (n : ℕ) : Type 0 where
  pub within : n < length fs
  pub parts : divided (members fs) ≡ Some (members (take n fs), members (drop (suc n) fs))

-- all of the forms come after it
abbrev all_after : Trees → Option (Trees × Trees)
all_after ts = Some (no_trees, ts)

-- a form more comes before it
abbrev one_before : Tree → Option (Trees × Trees) → Option (Trees × Trees)
one_before t o = option_map (λ p. (tree t p.0, p.1)) o

none_from : (o : Option ℕ) → option_map suc o ≡ None → o ≡ None
none_from None h = refl
none_from (Some n) h = absurd (cc)

nowhere_by : (b : Bool) (t : Tree) (ts : Trees) → (if b then Some 0 else option_map suc (arrow_place ts)) ≡ None → (arrow_place ts ≡ None → divided ts ≡ None)
    → (if b then all_after ts else one_before t (divided ts)) ≡ None
nowhere_by true t ts h next = absurd (cc)
nowhere_by false t ts h next = ap (one_before t) (next (none_from (arrow_place ts) h))

pub divided_nowhere : (ts : Trees) → arrow_place ts ≡ None → divided ts ≡ None
divided_nowhere no_trees h = refl
divided_nowhere (tree t ts) h = nowhere_by (is_this_symbol (codes "=>") t) t ts h (λ e. divided_nowhere ts e)

one_less : (o : Option ℕ) (n : ℕ) → option_map suc o ≡ Some (suc n) → o ≡ Some n
one_less None n h = absurd (cc)
one_less (Some m) n h = let same : suc m ≡ suc n = cc in ap Some (omega arith)

not_first : (o : Option ℕ) → option_map suc o ≡ Some zero → ⊥
not_first None h = absurd (cc)
not_first (Some m) h = absurd (let same : suc m ≡ zero = cc in omega arith)

there_by : (b : Bool) (f : Form) (fs : List Form) (n : ℕ) → is_this_symbol (codes "=>") (tree_of f) ≡ b → (if b then Some 0 else option_map suc (arrow_place (members fs))) ≡ Some n
    → ((m : ℕ) → arrow_place (members fs) ≡ Some m → DividedAt fs m) → DividedAt (f ∷ fs) n
there_by true f fs zero e h next = record { within = omega arith; parts = ap (λ t. if t then all_after (members fs) else one_before (tree_of f) (divided (members fs))) e }
there_by true f fs (suc n) e h next = absurd (let same : zero ≡ suc n = cc in omega arith)
there_by false f fs zero e h next = absurd (not_first (arrow_place (members fs)) h)
there_by false f fs (suc n) e h next =
    let rest = next n (one_less (arrow_place (members fs)) n h) in
    let less = rest.within in
    record {
      within = omega arith;
      parts =
          ap (λ t. if t then all_after (members fs) else one_before (tree_of f) (divided (members fs))) e
          ∙ ap (one_before (tree_of f)) rest.parts;
    }

pub divided_there : (fs : List Form) (n : ℕ) → arrow_place (members fs) ≡ Some n → DividedAt fs n
divided_there [] n h = absurd (cc)
divided_there (f ∷ fs) n h =
    there_by (is_this_symbol (codes "=>") (tree_of f)) f fs n refl h (λ m e. divided_there fs m e)
