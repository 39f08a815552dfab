-- Which names are known.
use Rattle.std.proofs.Common.{◌≡◌, ◌∙◌, ◌||◌, ◌++◌, ℕ, suc, Bool, true, false, List, [], ◌∷◌, Option, Some, None, is_some, option_map, refl, sym, ap, ap₂, if◌then◌else◌}
use Rattle.std.proofs.lemmas.List.Folds.{list_any-append}
use Rattle.std.proofs.lemmas.Slice.Eq.{bytes_eq-Decides}
use Rattle.std.specs.List.{list_any}
use Rattle.std.specs.Str.{bytes_eq}
use Rattle.cb_expr_forms.specs.Scopes.{is_known, names_of}
use Rattle.cb_exprs.specs.Bindings.{Values, value_at}
use Rattle.std.proofs.lemmas.Bool.{false_from_ne_true}
use Rattle.cb_facts.specs.declared.value.Value.{Value}
use Rattle.cb_facts.specs.Places.{place_in}

pub same_words : (n k : List ℕ) → bytes_eq n k ≡ bytes_eq k n
same_words n k = same (bytes_eq n k) refl where
  same : (t : Bool) → bytes_eq n k ≡ t → t ≡ bytes_eq k n
  same true h = sym ((bytes_eq-Decides k n).1 (sym ((bytes_eq-Decides n k).0 h)))
  same false h = sym (false_from_ne_true (bytes_eq k n) (λ e. let yes : bytes_eq n k ≡ true = (bytes_eq-Decides n k).1 (sym ((bytes_eq-Decides k n).0 e)) in cc))

either : (t : Bool) (v : Value) (o : Option Value) → is_some (if t then Some v else o) ≡ (t || is_some o)
either true v o = refl
either false v o = refl

-- a name has a value where it is one of the names that have one
pub known_values : (values : Values) (name : List ℕ) → is_some (value_at name values) ≡ is_known (names_of values) name
known_values [] name = refl
known_values ((n, v) ∷ values) name =
    either (bytes_eq name n) v (value_at name values) ∙ ap₂ (λ t u. t || u) (same_words name n) (known_values values name)

placed : (t : Bool) (o : Option ℕ) → is_some (if t then Some 0 else option_map suc o) ≡ (t || is_some o)
placed true o = refl
placed false (Some i) = refl
placed false None = refl

-- a name has a place where it is one of the names
pub known_place : (names : List (List ℕ)) (name : List ℕ) → is_some (place_in names name) ≡ is_known names name
known_place [] name = refl
known_place (n ∷ names) name = placed (bytes_eq n name) (place_in names name) ∙ ap (λ t. bytes_eq n name || t) (known_place names name)

-- a name that has a value is known; one that has none is known where it is one of the others
pub known_left : (values : Values) (names : List (List ℕ)) (name : List ℕ) → is_some (value_at name values) ≡ true → true ≡ is_known (names_of values ++ names) name
known_left values names name h =
    ap (λ t. t || is_known names name) (sym h ∙ known_values values name) ∙ sym (list_any-append (λ n. bytes_eq n name) (names_of values) names)

pub known_right : (values : Values) (names : List (List ℕ)) (name : List ℕ) → is_some (value_at name values) ≡ false → is_known names name ≡ is_known (names_of values ++ names) name
known_right values names name h =
    ap (λ t. t || is_known names name) (sym h ∙ known_values values name) ∙ sym (list_any-append (λ n. bytes_eq n name) (names_of values) names)

-- whichever of two names is compared with the other
pub turned : (names : List (List ℕ)) (n : List ℕ) → list_any (bytes_eq n) names ≡ is_known names n
turned [] n = refl
turned (g ∷ names) n = ap₂ (λ b c. b || c) (same_words n g) (turned names n)
