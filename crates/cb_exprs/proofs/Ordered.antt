-- Values in the order of their names: what is found, given and taken away at the left or the right of a name.
use Rattle.std.proofs.Common.{◌≡◌, ◌∙◌, ℕ, Bool, true, false, cond, List, [], ◌∷◌, ◌++◌, Option, Some, None, IsSome, refl, sym, ap, subst}
use Rattle.std.specs.Cmp.{IsTotalOrder}
use Rattle.std.specs.Cmp.Lexicographic.{slice_cmp, texts_ties, bytes_decides, nat_list_cmp_total}
use Rattle.std.specs.List.{AllByRecursion}
use Rattle.std.specs.List.Sorted.{IsStrictlySortedBy}
use Rattle.std.specs.Map.{keys_of}
use Rattle.std.specs.Ordering.{is_eq, match_ordering, nat_cmp, ordering_reverse}
use Rattle.std.specs.Str.{bytes_eq}
use Rattle.std.specs.declared.cmp.Ordering.{Ordering}
use Rattle.std.specs.declared.cmp.Ordering.TheVariants.{Less, Equal, Greater}
use Rattle.cb_exprs.specs.Bindings.{Values, value_at, with_value, without_value}
use Rattle.cb_exprs.specs.Internal.Trees.{IsOrdered}
use Rattle.cb_facts.specs.declared.value.Value.{Value}

abbrev order : List ℕ → List ℕ → Ordering
order = slice_cmp nat_cmp

-- each name of the values has the property
abbrev Names : (List ℕ → Type 0) → Values → Type 0
Names P values = AllByRecursion P (keys_of values)

abbrev is_less : Ordering → Bool
is_less Less = true
is_less Equal = false
is_less Greater = false

-- ---- two names and a third

flipped : (x y : List ℕ) (r : Ordering) → order x y ≡ r → order y x ≡ ordering_reverse r
flipped x y r is = IsTotalOrder.antisymm nat_list_cmp_total y x ∙ ap ordering_reverse is

past_one : (r : Ordering) (k e name : List ℕ) → order name e ≡ r → order k e ≡ Less → (r ≡ Less → ⊥) → order name k ≡ Greater
past_one Less k e name is less never = absurd (never refl)
past_one Equal k e name is less never = IsTotalOrder.congr nat_list_cmp_total name e k is ∙ flipped k e Less less
past_one Greater k e name is less never = flipped k name Less (IsTotalOrder.trans nat_list_cmp_total k e name less (flipped name e Greater is))

apart : (r : Ordering) (name k : List ℕ) → order name k ≡ r → bytes_eq name k ≡ is_eq r
apart r name k is = texts_ties name k ∙ ap is_eq is

-- ---- the names of parts

names_front : (P : List ℕ → Type 0) (l r : Values) → Names P (l ++ r) → Names P l
names_front P [] r a = tt
names_front P (e ∷ l) r a = (a.0, names_front P l r a.1)

names_middle : (P : List ℕ → Type 0) (l : Values) (e : List ℕ × Value) (r : Values) → Names P (l ++ e ∷ r) → P e.0
names_middle P [] e r a = a.0
names_middle P (f ∷ l) e r a = names_middle P l e r a.1

names_map : (P Q : List ℕ → Type 0) → ((k : List ℕ) → P k → Q k) → (values : Values) → Names P values → Names Q values
names_map P Q f [] a = tt
names_map P Q f (e ∷ es) a = (f e.0 a.0, names_map P Q f es a.1)

pub ordered_front : (l r : Values) → IsOrdered (l ++ r) → IsOrdered l
unfolding IsStrictlySortedBy
ordered_front [] r s = tt
ordered_front (e ∷ l) r s = (names_front (λ k. order e.0 k ≡ Less) l r s.0, ordered_front l r s.1)

pub ordered_back : (l r : Values) → IsOrdered (l ++ r) → IsOrdered r
unfolding IsStrictlySortedBy
ordered_back [] r s = s
ordered_back (e ∷ l) r s = ordered_back l r s.1

pub ordered_right : (l : Values) (e : List ℕ × Value) (r : Values) → IsOrdered (l ++ e ∷ r) → IsOrdered r
unfolding IsStrictlySortedBy
ordered_right l e r s = (ordered_back l (e ∷ r) s).1

-- a name that isn't less than one is greater than those before that one
past_all : (l : Values) (e : List ℕ × Value) (r : Values) (name : List ℕ) (o : Ordering) → order name e.0 ≡ o → (o ≡ Less → ⊥) → IsOrdered (l ++ e ∷ r) → Names (λ k. order name k ≡ Greater) l
unfolding IsStrictlySortedBy
past_all [] e r name o is never s = tt
past_all (f ∷ l) e r name o is never s =
    (past_one o f.0 e.0 name is (names_middle (λ k. order f.0 k ≡ Less) l e r s.0) never, past_all l e r name o is never s.1)

-- a name that is less than one is less than those after that one
before_all : (e : List ℕ × Value) (r : Values) (name : List ℕ) → order name e.0 ≡ Less → IsOrdered (e ∷ r) → Names (λ k. order name k ≡ Less) (e ∷ r)
unfolding IsStrictlySortedBy
before_all e r name less s = (less, names_map (λ k. order e.0 k ≡ Less) (λ k. order name k ≡ Less) (λ k. IsTotalOrder.trans nat_list_cmp_total name e.0 k less) r s.0)

-- ---- what is found

value_none : (values : Values) (name : List ℕ) → Names (λ k. order name k ≡ Less) values → value_at name values ≡ None
value_none [] name a = refl
value_none (e ∷ es) name a = ap (λ t. cond t (Some e.1) (value_at name es)) (apart Less name e.0 a.0) ∙ value_none es name a.1

value_past : (l rest : Values) (name : List ℕ) → Names (λ k. order name k ≡ Greater) l → value_at name (l ++ rest) ≡ value_at name rest
value_past [] rest name a = refl
value_past (e ∷ l) rest name a = ap (λ t. cond t (Some e.1) (value_at name (l ++ rest))) (apart Greater name e.0 a.0) ∙ value_past l rest name a.1

pub value_left : (l : Values) (e : List ℕ × Value) (r : Values) (name : List ℕ) → order name e.0 ≡ Less → IsOrdered (l ++ e ∷ r) → value_at name (l ++ e ∷ r) ≡ value_at name l
value_left [] e r name less s = value_none (e ∷ r) name (before_all e r name less s)
value_left (f ∷ l) e r name less s = ap (cond (bytes_eq name f.0) (Some f.1)) (value_left l e r name less (ordered_back (f ∷ []) (l ++ e ∷ r) s))

pub value_here : (l : Values) (e : List ℕ × Value) (r : Values) (name : List ℕ) → order name e.0 ≡ Equal → IsOrdered (l ++ e ∷ r) → value_at name (l ++ e ∷ r) ≡ Some e.1
value_here l e r name same s =
    value_past l (e ∷ r) name (past_all l e r name Equal same (λ p. let never : true ≡ false = ap is_eq p in cc) s)
    ∙ ap (λ t. cond t (Some e.1) (value_at name r)) (apart Equal name e.0 same)

pub value_right : (l : Values) (e : List ℕ × Value) (r : Values) (name : List ℕ) → order name e.0 ≡ Greater → IsOrdered (l ++ e ∷ r) → value_at name (l ++ e ∷ r) ≡ value_at name r
value_right l e r name greater s =
    value_past l (e ∷ r) name (past_all l e r name Greater greater (λ p. let never : false ≡ true = ap is_less p in cc) s)
    ∙ ap (λ t. cond t (Some e.1) (value_at name r)) (apart Greater name e.0 greater)

-- ---- what is given

with_past : (l rest : Values) (name : List ℕ) (v : Value) → Names (λ k. order name k ≡ Greater) l → with_value name v (l ++ rest) ≡ l ++ with_value name v rest
with_past [] rest name v a = refl
with_past (e ∷ l) rest name v a =
    ap (λ o. match_ordering o ((name, v) ∷ e ∷ (l ++ rest)) ((e.0, v) ∷ (l ++ rest)) (e ∷ with_value name v (l ++ rest))) a.0
    ∙ ap (λ es. e ∷ es) (with_past l rest name v a.1)

given_before : (o : Ordering) (f e : List ℕ × Value) (l r put put' : Values) (name : List ℕ) (v : Value) → put' ≡ put ++ e ∷ r
    → match_ordering o ((name, v) ∷ f ∷ (l ++ e ∷ r)) ((f.0, v) ∷ (l ++ e ∷ r)) (f ∷ put') ≡ match_ordering o ((name, v) ∷ f ∷ l) ((f.0, v) ∷ l) (f ∷ put) ++ e ∷ r
given_before Less f e l r put put' name v is = refl
given_before Equal f e l r put put' name v is = refl
given_before Greater f e l r put put' name v is = ap (λ es. f ∷ es) is

pub with_left : (l : Values) (e : List ℕ × Value) (r : Values) (name : List ℕ) (v : Value) → order name e.0 ≡ Less → with_value name v (l ++ e ∷ r) ≡ with_value name v l ++ e ∷ r
with_left [] e r name v less = ap (λ o. match_ordering o ((name, v) ∷ e ∷ r) ((e.0, v) ∷ r) (e ∷ with_value name v r)) less
with_left (f ∷ l) e r name v less = given_before (order name f.0) f e l r (with_value name v l) (with_value name v (l ++ e ∷ r)) name v (with_left l e r name v less)

pub with_here : (l : Values) (e : List ℕ × Value) (r : Values) (name : List ℕ) (v : Value) → order name e.0 ≡ Equal → IsOrdered (l ++ e ∷ r) → with_value name v (l ++ e ∷ r) ≡ l ++ (e.0, v) ∷ r
with_here l e r name v same s =
    with_past l (e ∷ r) name v (past_all l e r name Equal same (λ p. let never : true ≡ false = ap is_eq p in cc) s)
    ∙ ap (λ o. l ++ match_ordering o ((name, v) ∷ e ∷ r) ((e.0, v) ∷ r) (e ∷ with_value name v r)) same

pub with_right : (l : Values) (e : List ℕ × Value) (r : Values) (name : List ℕ) (v : Value) → order name e.0 ≡ Greater → IsOrdered (l ++ e ∷ r) → with_value name v (l ++ e ∷ r) ≡ l ++ e ∷ with_value name v r
with_right l e r name v greater s =
    with_past l (e ∷ r) name v (past_all l e r name Greater greater (λ p. let never : false ≡ true = ap is_less p in cc) s)
    ∙ ap (λ o. l ++ match_ordering o ((name, v) ∷ e ∷ r) ((e.0, v) ∷ r) (e ∷ with_value name v r)) greater

names_with : (P : List ℕ → Type 0) (values : Values) (name : List ℕ) (v : Value) → P name → Names P values → Names P (with_value name v values)
names_with P [] name v p a = (p, tt)
names_with P (e ∷ es) name v p a =
    elim (order name e.0) as (λ o. Names P (match_ordering o ((name, v) ∷ e ∷ es) ((e.0, v) ∷ es) (e ∷ with_value name v es))) [
      | Less ↦ (p, a)
      | Equal ↦ a
      | Greater ↦ (a.0, names_with P es name v p a.1)
    ]

ordered_with_at : (o : Ordering) (e : List ℕ × Value) (es put : Values) (name : List ℕ) (v : Value) → order name e.0 ≡ o → IsOrdered (e ∷ es) → (o ≡ Greater → Names (λ k. order e.0 k ≡ Less) put) → IsOrdered put
    → IsOrdered (match_ordering o ((name, v) ∷ e ∷ es) ((e.0, v) ∷ es) (e ∷ put))
unfolding IsStrictlySortedBy
ordered_with_at Less e es put name v is s all rest = (before_all e es name is s, s)
ordered_with_at Equal e es put name v is s all rest = s
ordered_with_at Greater e es put name v is s all rest = (all refl, rest)

pub ordered_with : (values : Values) (name : List ℕ) (v : Value) → IsOrdered values → IsOrdered (with_value name v values)
unfolding IsStrictlySortedBy
ordered_with [] name v s = (tt, tt)
ordered_with (e ∷ es) name v s =
    ordered_with_at (order name e.0) e es (with_value name v es) name v refl s
    (λ greater. names_with (λ k. order e.0 k ≡ Less) es name v (flipped name e.0 Greater greater) s.0) (ordered_with es name v s.1)

-- ---- what is taken away

without_none : (values : Values) (name : List ℕ) → Names (λ k. order name k ≡ Less) values → without_value name values ≡ values
without_none [] name a = refl
without_none (e ∷ es) name a = ap (λ t. cond t es (e ∷ without_value name es)) (apart Less name e.0 a.0) ∙ ap (λ l. e ∷ l) (without_none es name a.1)

without_past : (l rest : Values) (name : List ℕ) → Names (λ k. order name k ≡ Greater) l → without_value name (l ++ rest) ≡ l ++ without_value name rest
without_past [] rest name a = refl
without_past (e ∷ l) rest name a =
    ap (λ t. cond t (l ++ rest) (e ∷ without_value name (l ++ rest))) (apart Greater name e.0 a.0) ∙ ap (λ es. e ∷ es) (without_past l rest name a.1)

taken_before : (t : Bool) (f e : List ℕ × Value) (l r left left' : Values) → left' ≡ left ++ e ∷ r → cond t (l ++ e ∷ r) (f ∷ left') ≡ cond t l (f ∷ left) ++ e ∷ r
taken_before true f e l r left left' is = refl
taken_before false f e l r left left' is = ap (λ es. f ∷ es) is

pub without_left : (l : Values) (e : List ℕ × Value) (r : Values) (name : List ℕ) → order name e.0 ≡ Less → IsOrdered (l ++ e ∷ r) → without_value name (l ++ e ∷ r) ≡ without_value name l ++ e ∷ r
without_left [] e r name less s = without_none (e ∷ r) name (before_all e r name less s)
without_left (f ∷ l) e r name less s =
    taken_before (bytes_eq name f.0) f e l r (without_value name l) (without_value name (l ++ e ∷ r)) (without_left l e r name less (ordered_back (f ∷ []) (l ++ e ∷ r) s))

pub without_here : (l : Values) (e : List ℕ × Value) (r : Values) (name : List ℕ) → order name e.0 ≡ Equal → IsOrdered (l ++ e ∷ r) → without_value name (l ++ e ∷ r) ≡ l ++ r
without_here l e r name same s =
    without_past l (e ∷ r) name (past_all l e r name Equal same (λ p. let never : true ≡ false = ap is_eq p in cc) s)
    ∙ ap (λ t. l ++ cond t r (e ∷ without_value name r)) (apart Equal name e.0 same)

pub without_right : (l : Values) (e : List ℕ × Value) (r : Values) (name : List ℕ) → order name e.0 ≡ Greater → IsOrdered (l ++ e ∷ r) → without_value name (l ++ e ∷ r) ≡ l ++ e ∷ without_value name r
without_right l e r name greater s =
    without_past l (e ∷ r) name (past_all l e r name Greater greater (λ p. let never : false ≡ true = ap is_less p in cc) s)
    ∙ ap (λ t. l ++ cond t r (e ∷ without_value name r)) (apart Greater name e.0 greater)

names_without : (P : List ℕ → Type 0) (values : Values) (name : List ℕ) → Names P values → Names P (without_value name values)
names_without P [] name a = tt
names_without P (e ∷ es) name a =
    elim (bytes_eq name e.0) as (λ t. Names P (cond t es (e ∷ without_value name es))) [
      | true ↦ a.1
      | false ↦ (a.0, names_without P es name a.1)
    ]

pub ordered_without : (values : Values) (name : List ℕ) → IsOrdered values → IsOrdered (without_value name values)
unfolding IsStrictlySortedBy
ordered_without [] name s = tt
ordered_without (e ∷ es) name s =
    elim (bytes_eq name e.0) as (λ t. IsOrdered (cond t es (e ∷ without_value name es))) [
      | true ↦ s.1
      | false ↦ (names_without (λ k. order e.0 k ≡ Less) es name s.0, ordered_without es name s.1)
    ]

gone_at : (t : Bool) (e : List ℕ × Value) (es left : Values) (name : List ℕ) → bytes_eq name e.0 ≡ t → (t ≡ true → value_at name es ≡ None) → value_at name left ≡ None → value_at name (cond t es (e ∷ left)) ≡ None
gone_at true e es left name is none rest = none refl
gone_at false e es left name is none rest = ap (λ t. cond t (Some e.1) (value_at name left)) is ∙ rest

-- a name whose value was taken away has none
pub value_gone : (values : Values) (name : List ℕ) → IsOrdered values → value_at name (without_value name values) ≡ None
unfolding IsStrictlySortedBy
value_gone [] name s = refl
value_gone (e ∷ es) name s =
    gone_at (bytes_eq name e.0) e es (without_value name es) name refl
    (λ is. value_none es name (subst (λ n. Names (λ k. order n k ≡ Less) es) (sym ((bytes_decides name e.0).0 is)) s.0))
    (value_gone es name s.1)

-- ---- a name that has no value

is_absent : (t : Bool) (v : Value) (rest : Option Value) → cond t (Some v) rest ≡ None → t ≡ false
is_absent true v rest none = let never : false ≡ true = subst IsSome none refl in cc
is_absent false v rest none = refl

none_after : (t : Bool) (v : Value) (rest : Option Value) → t ≡ false → cond t (Some v) rest ≡ None → rest ≡ None
none_after t v rest other none = sym (ap (λ t. cond t (Some v) rest) other) ∙ none

pub without_absent : (values : Values) (name : List ℕ) → value_at name values ≡ None → without_value name values ≡ values
without_absent [] name none = refl
without_absent (e ∷ es) name none =
    let other = is_absent (bytes_eq name e.0) e.1 (value_at name es) none in
    ap (λ t. cond t es (e ∷ without_value name es)) other ∙ ap (λ l. e ∷ l) (without_absent es name (none_after (bytes_eq name e.0) e.1 (value_at name es) other none))

pub ordered_none : IsOrdered []
unfolding IsStrictlySortedBy
ordered_none = tt
