-- The values that names have in frames: what is found, given and written.
use Rattle.std.proofs.Common.{◌≡◌, ◌∙◌, ◌+◌, ◌<◌, ℕ, Bool, true, false, cond, List, [], ◌∷◌, ◌++◌, Option, Some, None, refl, sym, ap, subst, length, slice_index_or, take}
use Rattle.std.proofs.lemmas.List.{take_more}
use Rattle.std.specs.Cmp.{IsTotalOrder}
use Rattle.std.specs.Cmp.Lexicographic.{slice_cmp, texts_ties, bytes_decides, nat_list_cmp_total}
use Rattle.std.specs.List.{IsLastAndRest}
use Rattle.std.specs.Option.{option_or}
use Rattle.std.specs.Ordering.{is_eq, match_ordering, nat_cmp, ordering_reverse}
use Rattle.std.specs.Str.{bytes_eq}
use Rattle.std.specs.declared.cmp.Ordering.{Ordering}
use Rattle.std.specs.declared.cmp.Ordering.TheVariants.{Less, Equal, Greater}
use Rattle.cb_exprs.specs.Bindings.{Bindings, Values, value_at, with_value, with_variables}
use Rattle.cb_exprs.specs.Internal.Frames.{with_each}
use Rattle.cb_exprs.proofs.ValueLaws.{value_at-with_value}
use Rattle.cb_facts.specs.declared.value.Value.{Value}

abbrev order : List ℕ → List ℕ → Ordering
order = slice_cmp nat_cmp

-- ---- what is found

pub value_here : (q name : List ℕ) (v : Value) (values : Values) → bytes_eq q name ≡ true → value_at q (with_value name v values) ≡ Some v
value_here q name v values is = value_at-with_value values q name v ∙ ap (λ t. cond t (Some v) (value_at q values)) is

pub value_before : (q name : List ℕ) (v : Value) (values : Values) → bytes_eq q name ≡ false → value_at q (with_value name v values) ≡ value_at q values
value_before q name v values is = value_at-with_value values q name v ∙ ap (λ t. cond t (Some v) (value_at q values)) is

over : (t : Bool) (v : Value) (last before : Option Value) → option_or last (cond t (Some v) before) ≡ option_or (option_or last (cond t (Some v) None)) before
over true v (Some w) before = refl
over true v None before = refl
over false v (Some w) before = refl
over false v None before = refl

-- a name has the value that the frame gives it, or the one that it had before
pub value_over : (q : List ℕ) (frame values : Values) → value_at q (with_each frame values) ≡ option_or (value_at q (with_each frame [])) (value_at q values)
value_over q [] values = refl
value_over q (e ∷ more) values =
    value_over q more (with_value e.0 e.1 values)
    ∙ ap (option_or (value_at q (with_each more []))) (value_at-with_value values q e.0 e.1)
    ∙ over (bytes_eq q e.0) e.1 (value_at q (with_each more [])) (value_at q values)
    ∙ ap (λ o. option_or o (value_at q values)) (sym (value_over q more (with_value e.0 e.1 [])))

pub value_in_frame : (q : List ℕ) (frame values : Values) (v : Value) → Some v ≡ value_at q (with_each frame []) → value_at q (with_each frame values) ≡ Some v
value_in_frame q frame values v is = value_over q frame values ∙ ap (λ o. option_or o (value_at q values)) (sym is)

pub value_before_frame : (q : List ℕ) (frame values : Values) → None ≡ value_at q (with_each frame []) → value_at q (with_each frame values) ≡ value_at q values
value_before_frame q frame values is = value_over q frame values ∙ ap (λ o. option_or o (value_at q values)) (sym is)

-- ---- what is given

one_more : (frame : Values) (e : List ℕ × Value) (values : Values) → with_each (frame ++ e ∷ []) values ≡ with_value e.0 e.1 (with_each frame values)
one_more [] e values = refl
one_more (f ∷ more) e values = one_more more e (with_value f.0 f.1 values)

pub each_after : (frame : Values) (i : ℕ) (e : List ℕ × Value) (values : Values) → i < length frame → e ≡ slice_index_or frame i e
    → with_value e.0 e.1 (with_each (take i frame) values) ≡ with_each (take (i + 1) frame) values
each_after frame i e values lt at =
    sym (one_more (take i frame) e values)
    ∙ ap (λ f. with_each f values) (ap (λ d. take i frame ++ d ∷ []) at ∙ sym (take_more frame i e lt))

pub last_here : (q : List ℕ) (frame rest : Values) (e : List ℕ × Value) → IsLastAndRest frame e rest → bytes_eq q e.0 ≡ true → Some e.1 ≡ value_at q (with_each frame [])
last_here q frame rest e is here =
    sym (ap (λ f. value_at q (with_each f [])) is.0 ∙ ap (value_at q) (one_more rest e []) ∙ value_here q e.0 e.1 (with_each rest []) here)

pub last_before : (q : List ℕ) (frame rest : Values) (e : List ℕ × Value) → IsLastAndRest frame e rest → bytes_eq q e.0 ≡ false → value_at q (with_each frame []) ≡ value_at q (with_each rest [])
last_before q frame rest e is other =
    ap (λ f. value_at q (with_each f [])) is.0 ∙ ap (value_at q) (one_more rest e []) ∙ value_before q e.0 e.1 (with_each rest []) other

pub variables_with_each : (bindings : Values) (env : Bindings) → with_variables bindings env ≡ record { variables = with_each bindings env.variables; globals = env.globals }
variables_with_each [] env = refl
variables_with_each (e ∷ more) env = variables_with_each more (record env { variables = with_value e.0 e.1 env.variables })

-- ---- what is written

flipped : (x y : List ℕ) (r : Ordering) → order x y ≡ r → order y x ≡ ordering_reverse r
flipped x y r is = IsTotalOrder.antisymm nat_list_cmp_total y x ∙ ap ordering_reverse is

abbrev is_less : Ordering → Bool
is_less Less = true
is_less Equal = false
is_less Greater = false

own : (r : Ordering) → r ≡ ordering_reverse r → r ≡ Equal
own Less e = let never : true ≡ false = ap is_less e in cc
own Equal e = refl
own Greater e = let never : false ≡ true = ap is_less e in cc

same : (x : List ℕ) → order x x ≡ Equal
same x = own (order x x) (IsTotalOrder.antisymm nat_list_cmp_total x x)

at_less : (name : List ℕ) (v : Value) (e : List ℕ × Value) (es : Values) → order name e.0 ≡ Less → with_value name v (e ∷ es) ≡ (name, v) ∷ e ∷ es
at_less name v e es is = ap (λ o. match_ordering o ((name, v) ∷ e ∷ es) ((e.0, v) ∷ es) (e ∷ with_value name v es)) is

at_equal : (name : List ℕ) (v : Value) (e : List ℕ × Value) (es : Values) → order name e.0 ≡ Equal → with_value name v (e ∷ es) ≡ (e.0, v) ∷ es
at_equal name v e es is = ap (λ o. match_ordering o ((name, v) ∷ e ∷ es) ((e.0, v) ∷ es) (e ∷ with_value name v es)) is

at_greater : (name : List ℕ) (v : Value) (e : List ℕ × Value) (es : Values) → order name e.0 ≡ Greater → with_value name v (e ∷ es) ≡ e ∷ with_value name v es
at_greater name v e es is = ap (λ o. match_ordering o ((name, v) ∷ e ∷ es) ((e.0, v) ∷ es) (e ∷ with_value name v es)) is

again_at : (o : Ordering) (name : List ℕ) (v w : Value) (e : List ℕ × Value) (es : Values) → order name e.0 ≡ o → with_value name v (with_value name w es) ≡ with_value name v es
    → with_value name v (with_value name w (e ∷ es)) ≡ with_value name v (e ∷ es)
again_at Less name v w e es is rest =
    ap (with_value name v) (at_less name w e es is) ∙ at_equal name v (name, w) (e ∷ es) (same name) ∙ sym (at_less name v e es is)
again_at Equal name v w e es is rest =
    ap (with_value name v) (at_equal name w e es is) ∙ at_equal name v (e.0, w) es is ∙ sym (at_equal name v e es is)
again_at Greater name v w e es is rest =
    ap (with_value name v) (at_greater name w e es is) ∙ at_greater name v e (with_value name w es) is ∙ ap (λ l. e ∷ l) rest ∙ sym (at_greater name v e es is)

-- a value that is given over another
again : (name : List ℕ) (v w : Value) (values : Values) → with_value name v (with_value name w values) ≡ with_value name v values
again name v w [] = at_equal name v (name, w) [] (same name)
again name v w (e ∷ es) = again_at (order name e.0) name v w e es refl (again name v w es)

-- a lesser name before what a greater one was given
before_given : (o : Ordering) (a b : List ℕ) (v w : Value) (e : List ℕ × Value) (es : Values) → order a b ≡ Less → order a e.0 ≡ Less → order b e.0 ≡ o
    → with_value a v (with_value b w (e ∷ es)) ≡ (a, v) ∷ with_value b w (e ∷ es)
before_given Less a b v w e es less first is =
    ap (with_value a v) (at_less b w e es is) ∙ at_less a v (b, w) (e ∷ es) less ∙ ap (λ l. (a, v) ∷ l) (sym (at_less b w e es is))
before_given Equal a b v w e es less first is =
    ap (with_value a v) (at_equal b w e es is) ∙ at_less a v (e.0, w) es first ∙ ap (λ l. (a, v) ∷ l) (sym (at_equal b w e es is))
before_given Greater a b v w e es less first is =
    ap (with_value a v) (at_greater b w e es is) ∙ at_less a v e (with_value b w es) first ∙ ap (λ l. (a, v) ∷ l) (sym (at_greater b w e es is))

turned_at : (o : Ordering) (a b : List ℕ) (v w : Value) (e : List ℕ × Value) (es : Values) → order a b ≡ Less → order a e.0 ≡ o → with_value a v (with_value b w es) ≡ with_value b w (with_value a v es)
    → with_value a v (with_value b w (e ∷ es)) ≡ with_value b w (with_value a v (e ∷ es))
turned_at Less a b v w e es less is rest =
    before_given (order b e.0) a b v w e es less is refl
    ∙ sym (ap (with_value b w) (at_less a v e es is) ∙ at_greater b w (a, v) (e ∷ es) (flipped a b Less less))
turned_at Equal a b v w e es less is rest =
    let greater : order b e.0 ≡ Greater = flipped e.0 b Less (sym (IsTotalOrder.congr nat_list_cmp_total a e.0 b is) ∙ less) in
    ap (with_value a v) (at_greater b w e es greater) ∙ at_equal a v e (with_value b w es) is
    ∙ sym (ap (with_value b w) (at_equal a v e es is) ∙ at_greater b w (e.0, v) es greater)
turned_at Greater a b v w e es less is rest =
    let greater : order b e.0 ≡ Greater = flipped e.0 b Less (IsTotalOrder.trans nat_list_cmp_total e.0 a b (flipped a e.0 Greater is) less) in
    ap (with_value a v) (at_greater b w e es greater) ∙ at_greater a v e (with_value b w es) is
    ∙ ap (λ l. e ∷ l) rest
    ∙ sym (ap (with_value b w) (at_greater a v e es is) ∙ at_greater b w e (with_value a v es) greater)

turned : (a b : List ℕ) (v w : Value) (values : Values) → order a b ≡ Less → with_value a v (with_value b w values) ≡ with_value b w (with_value a v values)
turned a b v w [] less = at_less a v (b, w) [] less ∙ sym (at_greater b w (a, v) [] (flipped a b Less less))
turned a b v w (e ∷ es) less = turned_at (order a e.0) a b v w e es less refl (turned a b v w es less)

either_way : (o : Ordering) (a b : List ℕ) (v w : Value) (values : Values) → order a b ≡ o → (o ≡ Equal → ⊥) → with_value a v (with_value b w values) ≡ with_value b w (with_value a v values)
either_way Less a b v w values is never = turned a b v w values is
either_way Equal a b v w values is never = absurd (never refl)
either_way Greater a b v w values is never = sym (turned b a w v values (flipped a b Greater is))

-- a value that is given before another name is given one
pub written_before : (name m : List ℕ) (v w : Value) (values : Values) → bytes_eq name m ≡ false → with_value m w (with_value name v values) ≡ with_value name v (with_value m w values)
written_before name m v w values other =
    sym (either_way (order name m) name m v w values refl (λ tied. let never : true ≡ false = sym (ap is_eq tied) ∙ sym (texts_ties name m) ∙ other in cc))

-- a value that is given in place of another
pub written_here : (name m : List ℕ) (v w : Value) (values : Values) → bytes_eq name m ≡ true → with_value m v values ≡ with_value name v (with_value m w values)
written_here name m v w values is =
    subst (λ n. with_value m v values ≡ with_value n v (with_value m w values)) (sym ((bytes_decides name m).0 is)) (sym (again m v w values))
