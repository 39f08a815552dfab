-- The last evaluated argument of `and` and of `or` is the one that counts; every other function needs all of them.
use Rattle.std.proofs.Common.{◌≡◌, ◌∙◌, ◌++◌, ◌&&◌, ◌||◌, not, Bool, true, false, cond, IfSome, List, [], ◌∷◌, Option, None, Some, option_to_list, Result, Ok, Err, refl, sym, ap, ap₂, append_assoc, if◌then◌else◌}
use Rattle.std.proofs.lemmas.List.{append-nil}
use Rattle.std.specs.List.{list_all, list_any}
use Rattle.cb_eval.proofs.Deciding.{are_taken}
use Rattle.cb_eval.specs.Applied.{applied}
use Rattle.cb_eval.specs.Constants.{truth}
use Rattle.cb_eval.specs.Evaluation.{value_of, values_of}
use Rattle.cb_eval.specs.Internal.{may_be_decided}
use Rattle.cb_eval.specs.Laws.{all_values}
use Rattle.cb_eval.specs.Logic.{decides, is_true}
use Rattle.cb_exprs.specs.Bindings.{Bindings}
use Rattle.cb_exprs.specs.Terms.{Term, Terms, no_terms, term}
use Rattle.cb_facts.specs.Results.{and_then, with_first}
use Rattle.cb_facts.specs.declared.value.Value.{Value}
use Rattle.cb_forms.specs.declared.fault.Fault.{Fault}
use Rattle.cb_forms.specs.declared.fault.Fault.TheVariants.{WrongType}
use Rattle.cb_words.specs.declared.words.Function.{Function}
use Rattle.cb_words.specs.declared.words.Function.TheVariants as function

affirmed : (t : Bool) → not t ≡ false → t ≡ true
affirmed true e = refl
affirmed false e = sym e

-- a value that doesn't decide changes nothing where another comes after it
skipped : (f : Function) (v w : Value) (ws : List Value) → may_be_decided f ≡ true → decides f v ≡ false → applied f (v ∷ w ∷ ws) ≡ applied f (w ∷ ws)
skipped function.And v w ws is e =
    ap₂ (λ (t u : Bool). if t then Ok (truth u) else Err WrongType) (are_taken [] (w ∷ ws) v ∙ sym (are_taken [] ws w))
    (ap (λ t. t && list_all is_true (w ∷ ws)) (affirmed (is_true v) e))
skipped function.Or v w ws is e =
    ap₂ (λ (t u : Bool). if t then Ok (truth u) else Err WrongType) (are_taken [] (w ∷ ws) v ∙ sym (are_taken [] ws w)) (ap (λ t. t || list_any is_true (w ∷ ws)) e)
skipped f v w ws is e = let never : false ≡ true = is in cc

module _ (f : Function) (v : Value) (is : may_be_decided f ≡ true) (goes_on : decides f v ≡ false) where
  skipped_first : (us : List Value) (w : Value) → applied f (v ∷ us ++ w ∷ []) ≡ applied f (us ++ w ∷ [])
  skipped_first [] w = skipped f v w [] is goes_on
  skipped_first (u ∷ us) w = skipped f v u (us ++ w ∷ []) is goes_on

  ended : (us : List Value) (w : Value) (t : Bool) (with without : Result (List Value) Fault) → and_then with (applied f) ≡ and_then without (applied f)
      → and_then (cond t (Ok (v ∷ us ++ w ∷ [])) with) (applied f) ≡ and_then (cond t (Ok (us ++ w ∷ [])) without) (applied f)
  ended us w true with without same = skipped_first us w
  ended us w false with without same = same

  evaluated : (us : List Value) (r : Result Value Fault) (with without : Value → Result (List Value) Fault) → ((w : Value) → and_then (with w) (applied f) ≡ and_then (without w) (applied f))
      → and_then (and_then r (λ w. cond (decides f w) (Ok (v ∷ us ++ w ∷ [])) (with w))) (applied f)
      ≡ and_then (and_then r (λ w. cond (decides f w) (Ok (us ++ w ∷ [])) (without w))) (applied f)
  evaluated us (Ok w) with without same = ended us w (decides f w) (with w) (without w) (same w)
  evaluated us (Err fault) with without same = refl

  after_others : (us : List Value) (w : Value) (ts : Terms) (env : Bindings)
      → and_then (values_of f (v ∷ us ++ w ∷ []) ts env) (applied f) ≡ and_then (values_of f (us ++ w ∷ []) ts env) (applied f)
  after_others us w no_terms env = skipped_first us w
  after_others us w (term t ts) env =
      evaluated (us ++ w ∷ []) (value_of t env) (λ x. values_of f (v ∷ (us ++ w ∷ []) ++ x ∷ []) ts env) (λ x. values_of f ((us ++ w ∷ []) ++ x ∷ []) ts env)
      (λ x. after_others (us ++ w ∷ []) x ts env)

  pub after_one : (w : Value) (ts : Terms) (env : Bindings) → and_then (values_of f (v ∷ w ∷ []) ts env) (applied f) ≡ and_then (values_of f (w ∷ []) ts env) (applied f)
  after_one w ts env = after_others [] w ts env

-- Of a call that an argument may decide: the last value that didn't, if there is one, and the arguments that are left.
module _ (f : Function) (last : Option Value) (is : may_be_decided f ≡ true) (goes_on : IfSome last (λ v. decides f v ≡ false)) where
  after_last : (u : Option Value) (w : Value) (ts : Terms) (env : Bindings) → IfSome u (λ v. decides f v ≡ false)
      → and_then (values_of f (option_to_list u ++ w ∷ []) ts env) (applied f) ≡ and_then (values_of f (w ∷ []) ts env) (applied f)
  after_last None w ts env h = refl
  after_last (Some v) w ts env h = after_one f v is h w ts env

  module _ (t : Term) (ts : Terms) (env : Bindings) where
    first_then : (r : Result Value Fault) → value_of t env ≡ r
        → and_then (values_of f (option_to_list last) (term t ts) env) (applied f)
        ≡ and_then (and_then r (λ w. cond (decides f w) (Ok (option_to_list last ++ w ∷ [])) (values_of f (option_to_list last ++ w ∷ []) ts env))) (applied f)
    first_then r e = ap (λ q. and_then (and_then q (λ w. cond (decides f w) (Ok (option_to_list last ++ w ∷ [])) (values_of f (option_to_list last ++ w ∷ []) ts env))) (applied f)) e

    -- the first of them has a fault
    pub faulty : (fault : Fault) → value_of t env ≡ Err fault → and_then (values_of f (option_to_list last) (term t ts) env) (applied f) ≡ Err fault
    faulty fault e = first_then (Err fault) e

    -- it decides the call
    pub ends : (w : Value) → value_of t env ≡ Ok w → decides f w ≡ true → and_then (values_of f (option_to_list last) (term t ts) env) (applied f) ≡ applied f (w ∷ [])
    ends w e decided =
        first_then (Ok w) e
        ∙ (ap (λ b. and_then (cond b (Ok (option_to_list last ++ w ∷ [])) (values_of f (option_to_list last ++ w ∷ []) ts env)) (applied f)) decided
        ∙ after_last last w no_terms env goes_on)

    -- it doesn't
    pub passes : (w : Value) → value_of t env ≡ Ok w → decides f w ≡ false
        → and_then (values_of f (option_to_list last) (term t ts) env) (applied f) ≡ and_then (values_of f (w ∷ []) ts env) (applied f)
    passes w e more =
        first_then (Ok w) e
        ∙ (ap (λ b. and_then (cond b (Ok (option_to_list last ++ w ∷ [])) (values_of f (option_to_list last ++ w ∷ []) ts env)) (applied f)) more
        ∙ after_last last w ts env goes_on)

none_decides : (f : Function) (v : Value) → may_be_decided f ≡ false → decides f v ≡ false
none_decides function.And v is = let never : true ≡ false = is in cc
none_decides function.Or v is = let never : true ≡ false = is in cc
none_decides f v is = refl

with_more : (us : List Value) (v : Value) (r : Result (List Value) Fault) → and_then r (λ vs. Ok ((us ++ v ∷ []) ++ vs)) ≡ and_then (with_first (Ok v) r) (λ vs. Ok (us ++ vs))
with_more us v (Ok vs) = ap Ok (append_assoc us (v ∷ []) vs)
with_more us v (Err fault) = refl

go_on : (f : Function) (us : List Value) (r : Result Value Fault) (more : Value → Result (List Value) Fault) (others : Result (List Value) Fault) → may_be_decided f ≡ false
    → ((v : Value) → more v ≡ and_then others (λ vs. Ok ((us ++ v ∷ []) ++ vs)))
    → and_then r (λ v. cond (decides f v) (Ok (us ++ v ∷ [])) (more v)) ≡ and_then (with_first r others) (λ vs. Ok (us ++ vs))
go_on f us (Ok v) more others is same = ap (λ t. cond t (Ok (us ++ v ∷ [])) (more v)) (none_decides f v is) ∙ same v ∙ with_more us v others
go_on f us (Err fault) more others is same = refl

all_after : (f : Function) (us : List Value) (ts : Terms) (env : Bindings) → may_be_decided f ≡ false → values_of f us ts env ≡ and_then (all_values ts env) (λ vs. Ok (us ++ vs))
all_after f us no_terms env is = ap Ok (sym (append-nil us))
all_after f us (term t ts) env is =
    go_on f us (value_of t env) (λ v. values_of f (us ++ v ∷ []) ts env) (all_values ts env) is (λ v. all_after f (us ++ v ∷ []) ts env is)

unchanged : (r : Result (List Value) Fault) → and_then r (λ vs. Ok vs) ≡ r
unchanged (Ok vs) = refl
unchanged (Err fault) = refl

-- a function other than `and` and `or` needs the values of all its arguments
pub of_all : (f : Function) (ts : Terms) (env : Bindings) → may_be_decided f ≡ false → values_of f [] ts env ≡ all_values ts env
of_all f ts env is = all_after f [] ts env is ∙ unchanged (all_values ts env)
