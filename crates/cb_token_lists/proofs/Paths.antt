-- What was taken on the way down from a token.
use Rattle.std.proofs.Common.{◌≡◌, ◌∙◌, ◌++◌, ◌<◌, ℕ, suc, true, false, List, [], ◌∷◌, Option, None, Result, Ok, Err, IfOk, ap, arith, length, refl, sym}
use Rattle.cb_beta.specs.BetaMemories.{BetaMemoryValue}
use Rattle.cb_beta.specs.Tokens.{TokenValue, with_taken}
use Rattle.cb_matches.specs.Keys.{PartValue}
use Rattle.cb_matches.specs.Matches.{Partial}
use Rattle.cb_token_lists.specs.Internal.{with_path, with_step}
use Rattle.cb_token_lists.specs.Partials.{SourceValue, partial_in}
use Rattle.cb_token_lists.specs.declared.path.Step.{Step}

-- one step more at the end
pub with_last : (path : List (Option Step)) (s : Option Step) (m : Partial) → with_path (path ++ s ∷ []) m ≡ with_path path (with_step s m)
with_last [] s m = refl
with_last (x ∷ path) s m = ap (with_step x) (with_last path s m)

-- one list further down
pub one_further : (sources : List SourceValue) (lists : List BetaMemoryValue) (path path' : List (Option Step)) (start : Partial) (n list i : ℕ) (s : SourceValue) (t : TokenValue)
    → start ≡ with_path path (partial_in sources lists (suc n) list i) → partial_in sources lists (suc n) list i ≡ with_taken s.address t.taken (partial_in sources lists n s.from t.parent)
    → ((m : Partial) → with_path path' m ≡ with_path path (with_taken s.address t.taken m)) → start ≡ with_path path' (partial_in sources lists n s.from t.parent)
one_further sources lists path path' start n list i s t is goes more = is ∙ (ap (with_path path) goes ∙ sym (more (partial_in sources lists n s.from t.parent)))

-- where nothing was taken on the way down, the list further down stands for the same parts
pub none_taken : (sources : List SourceValue) (lists : List BetaMemoryValue) (start : List PartValue) (n list i : ℕ) (s : SourceValue) (t : TokenValue)
    → start ≡ (partial_in sources lists (suc n) list i).parts → partial_in sources lists (suc n) list i ≡ with_taken s.address t.taken (partial_in sources lists n s.from t.parent)
    → None ≡ t.taken → start ≡ (partial_in sources lists n s.from t.parent).parts
none_taken sources lists start n list i s t is goes none =
    let m = partial_in sources lists n s.from t.parent in
    is ∙ (ap (λ (it : Partial). it.parts) goes ∙ ap (λ k. (with_taken s.address k m).parts) (sym none))

-- a list of which nothing can be taken
pub nothing_left : {A : Type 0} (xs : List A) → (0 < length xs → false ≡ true) → xs ≡ []
nothing_left [] h = refl
nothing_left (x ∷ xs) h = absurd (let e : false ≡ true = h (omega arith) in cc)

-- what follows from a result
pub if_ok : {T E : Type 0} (P Q : T → Type 0) (r : Result T E) → ((x : T) → P x → Q x) → IfOk r P → IfOk r Q
if_ok P Q (Ok x) from h = from x h
if_ok P Q (Err e) from h = tt
