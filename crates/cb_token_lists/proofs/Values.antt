-- What variables have where they are looked for one by one.
use Rattle.std.proofs.Common.{◌≡◌, ◌∙◌, ◌++◌, ℕ, zero, suc, List, [], ◌∷◌, Option, Some, None, ap, refl, slice_get, sym}
use Rattle.std.specs.Option.{option_map_or, option_or}
use Rattle.cb_beta.proofs.Values.{both_given, by_one, by_way, three}
use Rattle.cb_beta.specs.BetaMemories.{BetaMemoryValue}
use Rattle.cb_beta.specs.Tokens.{TakenValue, TokenValue, token_at, with_taken}
use Rattle.cb_exprs.specs.Bindings.{Bindings, Values, no_bindings, value_at, with_variable, with_variables}
use Rattle.cb_facts.specs.declared.value.Value.{Value}
use Rattle.cb_facts.specs.declared.value.Value.TheVariants as value
use Rattle.cb_matches.specs.Matches.{Partial, no_parts, with_address}
use Rattle.cb_token_lists.specs.Partials.{SourceValue, partial_at, partial_in, tokens_in}

-- ---- what a variable has

-- by the address of a fact
by_address : (q : List ℕ) (x : Option (List ℕ)) (ix : ℕ) (env : Bindings)
    → value_at q (with_address x ix env).variables ≡ option_or (value_at q (with_address x ix no_bindings).variables) (value_at q env.variables)
by_address q None ix env = refl
by_address q (Some x) ix env = by_one q x (value.Fact ix) env

-- by both, where the first to look in are the values of the way
by_both : (q : List ℕ) (bound : Values) (x : Option (List ℕ)) (ix : ℕ) (env : Bindings)
    → value_at q (with_variables bound (with_address x ix env)).variables
    ≡ option_or (option_or (value_at q (with_variables bound no_bindings).variables) (value_at q (with_address x ix no_bindings).variables)) (value_at q env.variables)
by_both q bound x ix env =
    by_way q bound (with_address x ix env)
    ∙ (ap (option_or (value_at q (with_variables bound no_bindings).variables)) (by_address q x ix env)
    ∙ three (value_at q (with_variables bound no_bindings).variables) (value_at q (with_address x ix no_bindings).variables) (value_at q env.variables))

pub way_gives : (q : List ℕ) (bound : Values) (x : Option (List ℕ)) (ix : ℕ) (v : Value) → Some v ≡ value_at q (with_variables bound no_bindings).variables
    → (env : Bindings) → value_at q (with_variables bound (with_address x ix env)).variables ≡ Some v
way_gives q bound x ix v is env =
    by_both q bound x ix env
    ∙ ap (λ o. option_or (option_or o (value_at q (with_address x ix no_bindings).variables)) (value_at q env.variables)) (sym is)

pub address_gives : (q : List ℕ) (bound : Values) (x : Option (List ℕ)) (ix : ℕ) (o : Option Value) → None ≡ value_at q (with_variables bound no_bindings).variables
    → o ≡ value_at q (with_address x ix no_bindings).variables
    → (env : Bindings) → value_at q (with_variables bound (with_address x ix env)).variables ≡ option_or o (value_at q env.variables)
address_gives q bound x ix o none is env =
    by_both q bound x ix env
    ∙ (ap (λ it. option_or (option_or it (value_at q (with_address x ix no_bindings).variables)) (value_at q env.variables)) (sym none)
    ∙ ap (λ it. option_or it (value_at q env.variables)) (sym is))

-- by a token, and then further down
pub value_further : (sources : List SourceValue) (lists : List BetaMemoryValue) (q : List ℕ) (start : Option Value) (n list i : ℕ) (s : SourceValue) (t : TokenValue) (found : Option Value)
    → start ≡ value_at q (partial_in sources lists (suc n) list i).env.variables → partial_in sources lists (suc n) list i ≡ with_taken s.address t.taken (partial_in sources lists n s.from t.parent)
    → ((m : Partial) → value_at q (with_taken s.address t.taken m).env.variables ≡ option_or found (value_at q m.env.variables))
    → start ≡ option_or found (value_at q (partial_in sources lists n s.from t.parent).env.variables)
value_further sources lists q start n list i s t found is goes gives =
    is ∙ (ap (λ (it : Partial). value_at q it.env.variables) goes ∙ gives (partial_in sources lists n s.from t.parent))

-- what a step adds to the values that variables got before
pub step_binds : (x : Option (List ℕ)) (t : TakenValue) (m : Partial) (old middle new : Values) → m.env ≡ with_variables old no_bindings
    → ((env : Bindings) → with_variables middle env ≡ with_address x t.index (with_variables old env)) → new ≡ middle ++ t.way.bound
    → with_variables new no_bindings ≡ (with_taken x (Some t) m).env
step_binds x t m old middle new is address added =
    ap (λ it. with_variables it no_bindings) added
    ∙ (both_given middle t.way.bound no_bindings ∙ ap (with_variables t.way.bound) (address no_bindings ∙ ap (with_address x t.index) (sym is)))

-- ---- a partial match has no globals

way_globals : (bound : Values) (env : Bindings) → (with_variables bound env).globals ≡ env.globals
way_globals [] env = refl
way_globals (e ∷ more) env = way_globals more (with_variable e.0 e.1 env)

address_globals : (x : Option (List ℕ)) (ix : ℕ) (env : Bindings) → (with_address x ix env).globals ≡ env.globals
address_globals None ix env = refl
address_globals (Some x) ix env = refl

pub grown_globals : (bound : Values) (x : Option (List ℕ)) (ix : ℕ) (env : Bindings) → (with_variables bound (with_address x ix env)).globals ≡ env.globals
grown_globals bound x ix env = way_globals bound (with_address x ix env) ∙ address_globals x ix env

taken_globals : (x : Option (List ℕ)) (t : Option TakenValue) (m : Partial) → (with_taken x t m).env.globals ≡ m.env.globals
taken_globals x None m = refl
taken_globals x (Some t) m = grown_globals t.way.bound x t.index m.env

token_globals : (x : Option (List ℕ)) (before : ℕ → Partial) → ((j : ℕ) → (before j).env.globals ≡ []) → (o : Option TokenValue)
    → (option_map_or (λ (t : TokenValue). with_taken x t.taken (before t.parent)) o no_parts).env.globals ≡ []
token_globals x before none None = refl
token_globals x before none (Some t) = taken_globals x t.taken (before t.parent) ∙ none t.parent

source_globals : (lists : List BetaMemoryValue) (k i : ℕ) (before : ℕ → ℕ → Partial) → ((j h : ℕ) → (before j h).env.globals ≡ []) → (o : Option SourceValue)
    → (option_map_or (λ (s : SourceValue). option_map_or (λ (t : TokenValue). with_taken s.address t.taken (before s.from t.parent)) (token_at (tokens_in lists k) i) no_parts) o no_parts).env.globals ≡ []
source_globals lists k i before none None = refl
source_globals lists k i before none (Some s) = token_globals s.address (before s.from) (none s.from) (token_at (tokens_in lists k) i)

globals_in : (sources : List SourceValue) (lists : List BetaMemoryValue) (n k i : ℕ) → (partial_in sources lists n k i).env.globals ≡ []
globals_in sources lists zero k i = refl
globals_in sources lists (suc n) zero i = refl
globals_in sources lists (suc n) (suc k) i = source_globals lists (suc k) i (partial_in sources lists n) (globals_in sources lists n) (slice_get sources k)

pub no_global : (sources : List SourceValue) (lists : List BetaMemoryValue) (k i : ℕ) (q : List ℕ) → value_at q (partial_at sources lists k i).env.globals ≡ None
no_global sources lists k i q = ap (value_at q) (globals_in sources lists (suc k) k i)
