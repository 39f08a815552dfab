-- The values of names: a name's value by the order of names, a value more, and one less.
use Rattle.std.proofs.Common.{◌≡◌, ◌≢◌, ◌∙◌, ℕ, Bool, true, false, cond, List, [], ◌∷◌, Option, Some, refl, sym, ap}
use Rattle.std.proofs.lemmas.Map.Lookups.{exact_bytes}
use Rattle.std.specs.Cmp.{IsEquivalence}
use Rattle.std.specs.Cmp.Lexicographic.{slice_cmp, texts_ties, bytes_decides, nat_list_eq_equiv}
use Rattle.std.specs.Ordering.{is_eq, match_ordering, nat_cmp}
use Rattle.std.specs.Str.{bytes_eq}
use Rattle.std.specs.declared.cmp.Ordering.{Ordering}
use Rattle.std.specs.declared.cmp.Ordering.TheVariants.{Less, Equal, Greater}
use Rattle.cb_exprs.specs.Bindings.{Values, value_at, with_value, without_value}
use Rattle.cb_facts.specs.declared.value.Value.{Value}

abbrev order : List ℕ → List ℕ → Ordering
order = slice_cmp nat_cmp

settle : (r : Ordering) (here there : Bool) (rest put : Option Value) (v w : Value) → (r ≡ Equal → here ≡ there) → (r ≡ Greater → there ≡ true → here ≡ false) → put ≡ cond here (Some v) rest
    → match_ordering r (cond here (Some v) (cond there (Some w) rest)) (cond there (Some v) rest) (cond there (Some w) put) ≡ cond here (Some v) (cond there (Some w) rest)
settle Less here there rest put v w same apart e = refl
settle Equal true true rest put v w same apart e = refl
settle Equal false false rest put v w same apart e = refl
settle Equal true false rest put v w same apart e = let never : true ≡ false = same refl in cc
settle Equal false true rest put v w same apart e = let never : false ≡ true = same refl in cc
settle Greater here false rest put v w same apart e = e
settle Greater false true rest put v w same apart e = refl
settle Greater true true rest put v w same apart e = let never : true ≡ false = apart refl refl in cc

looked_up : (r : Ordering) (e : List ℕ × Value) (es put : Values) (q name : List ℕ) (v : Value)
    → value_at q (match_ordering r ((name, v) ∷ e ∷ es) ((e.0, v) ∷ es) (e ∷ put))
    ≡ match_ordering r (cond (bytes_eq q name) (Some v) (cond (bytes_eq q e.0) (Some e.1) (value_at q es))) (cond (bytes_eq q e.0) (Some v) (value_at q es)) (cond (bytes_eq q e.0) (Some e.1) (value_at q put))
looked_up Less e es put q name v = refl
looked_up Equal e es put q name v = refl
looked_up Greater e es put q name v = refl

-- the values after a name was given one
pub value_at-with_value : (values : Values) (q name : List ℕ) (v : Value) → value_at q (with_value name v values) ≡ cond (bytes_eq q name) (Some v) (value_at q values)
value_at-with_value [] q name v = refl
value_at-with_value (e ∷ es) q name v =
    looked_up (order name e.0) e es (with_value name v es) q name v
    ∙ settle (order name e.0) (bytes_eq q name) (bytes_eq q e.0) (value_at q es) (value_at q (with_value name v es)) v e.1
    (λ tied. ap (bytes_eq q) (exact_bytes name e.0 tied))
    (λ greater is. ap (λ n. bytes_eq n name) ((bytes_decides q e.0).0 is) ∙ IsEquivalence.symm nat_list_eq_equiv e.0 name ∙ texts_ties name e.0 ∙ ap is_eq greater)
    (value_at-with_value es q name v)

is_other : (t : Bool) → (t ≡ true → ⊥) → t ≡ false
is_other true never = absurd (never refl)
is_other false never = refl

pub names_differ : (q name : List ℕ) → q ≢ name → bytes_eq q name ≡ false
names_differ q name apart = is_other (bytes_eq q name) (λ e. apart ((bytes_decides q name).0 e))

pub value_at_set : (values : Values) (name : List ℕ) (v : Value) → value_at name (with_value name v values) ≡ Some v
value_at_set values name v = value_at-with_value values name name v ∙ ap (λ t. cond t (Some v) (value_at name values)) ((bytes_decides name name).1 refl)

pub value_at_other : (values : Values) (name other : List ℕ) (v : Value) → other ≢ name → value_at other (with_value name v values) ≡ value_at other values
value_at_other values name other v apart =
    value_at-with_value values other name v ∙ ap (λ t. cond t (Some v) (value_at other values)) (names_differ other name apart)

passed : (t u : Bool) (v : Value) (es es' : Option Value) → (t ≡ true → u ≡ false) → es' ≡ es → cond t es (cond u (Some v) es') ≡ cond u (Some v) es
passed true true v es es' apart e = let never : true ≡ false = apart refl in cc
passed true false v es es' apart e = refl
passed false u v es es' apart e = ap (cond u (Some v)) e

through : (t : Bool) (other : List ℕ) (e : List ℕ × Value) (es rest : Values) → value_at other (cond t es (e ∷ rest)) ≡ cond t (value_at other es) (cond (bytes_eq other e.0) (Some e.1) (value_at other rest))
through true other e es rest = refl
through false other e es rest = refl

pub value_at_left : (values : Values) (name other : List ℕ) → other ≢ name → value_at other (without_value name values) ≡ value_at other values
value_at_left [] name other apart = refl
value_at_left (e ∷ es) name other apart =
    through (bytes_eq name e.0) other e es (without_value name es)
    ∙ passed (bytes_eq name e.0) (bytes_eq other e.0) e.1 (value_at other es) (value_at other (without_value name es))
    (λ is. ap (bytes_eq other) (sym ((bytes_decides name e.0).0 is)) ∙ names_differ other name apart) (value_at_left es name other apart)
