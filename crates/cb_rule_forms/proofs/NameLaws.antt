-- Names that are added to others, where they are not among them.
use Rattle.std.proofs.Common.{◌≡◌, ◌∙◌, ◌||◌, ◌&&◌, ◌++◌, ℕ, Bool, true, false, not, cond, List, [], ◌∷◌, filter, refl, sym, ap, ap₂, append_assoc, if◌then◌else◌}
use Rattle.std.proofs.lemmas.List.{append-nil}
use Rattle.std.proofs.lemmas.Slice.Eq.{bytes_eq-Decides}
use Rattle.std.specs.Str.{bytes_eq}
use Rattle.cb_expr_forms.specs.Scopes.{is_known}
use Rattle.cb_constraints.specs.Bound.{each_once}
use Rattle.cb_rule_forms.specs.Internal.{with_names}
use Rattle.cb_rule_forms.specs.Mentions.{with_name}

-- one after another
with_append : (known xs ys : List (List ℕ)) → with_names known (xs ++ ys) ≡ with_names (with_names known xs) ys
with_append known [] ys = refl
with_append known (x ∷ xs) ys = with_append (with_name known x) xs ys

pub two_parts : (old first xs ys all : List (List ℕ)) → all ≡ xs ++ ys → first ≡ with_names old xs → with_names first ys ≡ with_names old all
two_parts old first xs ys all is so = ap (λ k. with_names k ys) so ∙ (sym (with_append old xs ys) ∙ ap (with_names old) (sym is))

pub three_parts : (old first second xs ys zs all : List (List ℕ)) → all ≡ xs ++ (ys ++ zs) → first ≡ with_names old xs → second ≡ with_names first ys
    → with_names second zs ≡ with_names old all
three_parts old first second xs ys zs all is so next =
    ap (λ k. with_names k zs) next ∙ (sym (with_append first ys zs) ∙ two_parts old first xs (ys ++ zs) all is so)

-- a name is not among these; it is another one
abbrev is_new : List (List ℕ) → List ℕ → Bool
is_new known y = not (is_known known y)

abbrev differs : List ℕ → List ℕ → Bool
differs x y = not (bytes_eq x y)

-- two filters, one after the other, are one
filter_one : (p : List ℕ → Bool) (b : Bool) (x : List ℕ) (xs : List (List ℕ)) → filter p (cond b (x ∷ xs) xs) ≡ cond (b && p x) (x ∷ filter p xs) (filter p xs)
filter_one p true x xs = refl
filter_one p false x xs = refl

pub filter_both : (p q r : List ℕ → Bool) → ((y : List ℕ) → r y ≡ (q y && p y)) → (xs : List (List ℕ)) → filter p (filter q xs) ≡ filter r xs
filter_both p q r h [] = refl
filter_both p q r h (x ∷ xs) =
    filter_one p (q x) x (filter q xs) ∙ ap₂ (λ b (l : List (List ℕ)). cond b (x ∷ l) l) (sym (h x)) (filter_both p q r h xs)

all_pass : (xs : List (List ℕ)) → filter (is_new []) xs ≡ xs
all_pass [] = refl
all_pass (x ∷ xs) = ap (λ (l : List (List ℕ)). x ∷ l) (all_pass xs)

-- a name that is known is none of the new ones
known_apart : (known : List (List ℕ)) (x y : List ℕ) (t : Bool) → is_known known x ≡ true → bytes_eq x y ≡ t → is_new known y ≡ (not t && is_new known y)
known_apart known x y true h e = ap (λ z. is_new known z) (sym ((bytes_eq-Decides x y).0 e)) ∙ ap not h
known_apart known x y false h e = refl

or_false : (t : Bool) → (t || false) ≡ t
or_false true = refl
or_false false = refl

or_assoc : (s t u : Bool) → (s || (t || u)) ≡ ((s || t) || u)
or_assoc true t u = refl
or_assoc false t u = refl

is_known_more : (known : List (List ℕ)) (x y : List ℕ) → is_known (known ++ x ∷ []) y ≡ (is_known known y || bytes_eq x y)
is_known_more [] x y = or_false (bytes_eq x y)
is_known_more (n ∷ known) x y = ap (λ t. bytes_eq n y || t) (is_known_more known x y) ∙ or_assoc (bytes_eq n y) (is_known known y) (bytes_eq x y)

not_either : (s t : Bool) → not (s || t) ≡ (not t && not s)
not_either true true = refl
not_either true false = refl
not_either false true = refl
not_either false false = refl

-- with names that are added those that are known keep their places, and the new ones come after them
add_first : (t : Bool) (known names : List (List ℕ)) (x : List ℕ) → is_known known x ≡ t
    → ((k : List (List ℕ)) → with_names k names ≡ k ++ filter (is_new k) (each_once names))
    → with_names (if t then known else known ++ x ∷ []) names ≡ known ++ cond (not t) (x ∷ filter (is_new known) (filter (differs x) (each_once names))) (filter (is_new known) (filter (differs x) (each_once names)))
add_first true known names x h so =
    so known
    ∙ ap (λ (l : List (List ℕ)). known ++ l) (sym (filter_both (is_new known) (differs x) (is_new known) (λ y. known_apart known x y (bytes_eq x y) h refl) (each_once names)))
add_first false known names x h so =
    so (known ++ x ∷ [])
    ∙ (append_assoc known (x ∷ []) (filter (is_new (known ++ x ∷ [])) (each_once names))
    ∙ ap (λ (l : List (List ℕ)). known ++ x ∷ l) (sym (filter_both (is_new known) (differs x) (is_new (known ++ x ∷ [])) (λ y. ap not (is_known_more known x y) ∙ not_either (is_known known y) (bytes_eq x y)) (each_once names))))

with_all : (known names : List (List ℕ)) → with_names known names ≡ known ++ filter (is_new known) (each_once names)
with_all known [] = sym (append-nil known)
with_all known (x ∷ names) = add_first (is_known known x) known names x refl (λ k. with_all k names)

-- names that are added to none, and then others
pub all_once : (xs ys : List (List ℕ)) → with_names (with_names [] xs) ys ≡ each_once (xs ++ ys)
all_once xs ys = sym (with_append [] xs ys) ∙ (with_all [] (xs ++ ys) ∙ all_pass (each_once (xs ++ ys)))
