-- How the agenda keeps in step with the matcher.
use Rattle.std.proofs.Common.{◌≡◌, ◌<◌, ◌+◌, ◌≤◌, ◌++◌, ◌∷◌, inl, inr, ℕ, Bool, true, false, List, [], Option, Some, None, IfSome, add-one, ap, arith, drop, drop-cons, filter, get_or, length, suc, if◌then◌else◌, refl, subst, sym}
use Rattle.std.proofs.lemmas.Bool.{false≢true}
use Rattle.std.proofs.lemmas.List.Elements.{All-filter, All-push, All-weaker}
use Rattle.cb_actions.specs.Internal.{AreFiled, AreInStep, AreKnown, AreRulesGiven, AreTied, FirstHave, IsItsNumber, IsSplit}
use Rattle.cb_agenda.specs.Agendas.{IsTold}
use Rattle.cb_matches.specs.Chains.{In}
use Rattle.cb_matches.specs.Changes.{HaveNumbers, IsNumber, Numbers, TellsNumbers}
use Rattle.cb_matches.specs.Keys.{KeyValue}
use Rattle.cb_matches.specs.declared.delta.Delta.{Delta}
use Rattle.cb_rules.specs.RuleInfos.{RuleInfo}

-- numbers that are those of one relation are those of a weaker one
have_more : (Has Other : KeyValue → ℕ → Type 0) → ((k : KeyValue) (n : ℕ) → Has k n → Other k n) → (ks : List KeyValue) (ns : List ℕ) → HaveNumbers Has ks ns → HaveNumbers Other ks ns
have_more Has Other weaker [] [] h = tt
have_more Has Other weaker [] (n ∷ ns) h = h
have_more Has Other weaker (k ∷ ks) [] h = h
have_more Has Other weaker (k ∷ ks) (n ∷ ns) h = (weaker k n h.0, have_more Has Other weaker ks ns h.1)

-- what is told of one key
told_has : (Has : KeyValue → ℕ → Type 0) (ks : List KeyValue) (ns : List ℕ) (k : KeyValue) (n : ℕ) → HaveNumbers Has ks ns → IsTold ks ns k n → Has k n
told_has Has [] ns k n h t = absurd t
told_has Has (j ∷ ks) [] k n h t = absurd h
told_has Has (j ∷ ks) (m ∷ ns) k n h (inl t) = subst (λ it. Has it n) (sym t.0) (subst (λ it. Has j it) (sym t.1) h.0)
told_has Has (j ∷ ks) (m ∷ ns) k n h (inr t) = told_has Has ks ns k n h.1 t

-- the numbers of the matches that went
first_have : (Has : KeyValue → ℕ → Type 0) (ks : List KeyValue) (ns : List ℕ) → HaveNumbers Has ks ns → FirstHave Has ns ks
first_have Has [] [] h = tt
first_have Has [] (n ∷ ns) h = tt
first_have Has (k ∷ ks) [] h = tt
first_have Has (k ∷ ks) (n ∷ ns) h = (h.0, first_have Has ks ns h.1)

pub known_first : (due : Numbers) (in_step : Bool) (delta : Delta) → (in_step ≡ true → AreKnown due delta) → FirstHave (IsItsNumber due) (if in_step then delta.gone_numbers.items else []) delta.gone.items
known_first due true delta h = first_have (IsItsNumber due) delta.gone.items delta.gone_numbers.items (h refl).gone
known_first due false delta h = tt

first_known : (Has : KeyValue → ℕ → Type 0) (ns : List ℕ) (o : Option ℕ) (more : List ℕ) (k : KeyValue) (ks : List KeyValue) → IsSplit ns o more → FirstHave Has ns (k ∷ ks) → IfSome o (Has k) × FirstHave Has more ks
first_known Has ns None more k ks e h = (tt, subst (λ it. FirstHave Has it ks) (sym e.1) tt)
first_known Has ns (Some n) more k ks e h = subst (λ it. FirstHave Has it (k ∷ ks)) e h

-- the same at the next of a list of keys
pub next_known : (Has : KeyValue → ℕ → Type 0) (ks : List KeyValue) (i : ℕ) (k : KeyValue) (ns : List ℕ) (o : Option ℕ) (more : List ℕ) → k ≡ get_or ks i k → i < length ks → IsSplit ns o more → FirstHave Has ns (drop i ks)
    → IfSome o (Has k) × FirstHave Has more (drop (i + 1) ks)
next_known Has ks i k ns o more is below split h =
    let cut : drop i ks ≡ k ∷ drop (i + 1) ks = rw (add-one, drop-cons ks i k) (ap (λ it. it ∷ drop (suc i) ks) (sym is)) in
    first_known Has ns o more k (drop (i + 1) ks) split (subst (FirstHave Has ns) cut h)

-- a change of matches that an agenda in step with them can follow, and that it is in step when it has
module _ (due all all' : Numbers) (delta : Delta) (tells : TellsNumbers (IsNumber all) (IsNumber all') delta) where
  known : AreInStep due all → AreKnown due delta
  known step = record {
    gone = have_more (IsNumber all) (IsItsNumber due) (λ k n old m is. tells.once k m n (step k m is) old) delta.gone.items delta.gone_numbers.items tells.gone;
    come = have_more (IsNumber all') (λ k n. (m : ℕ) → IsNumber due k m → (In k delta.gone.items → ⊥) → m ≡ n)
        (λ k n now m is stays. tells.once_now k m n (tells.stay k m (step k m is) stays) now) delta.come.items delta.come_numbers.items tells.come;
  }

  follows : (due' : Numbers) → AreInStep due all → AreFiled due delta due' → AreInStep due' all'
  follows due' step filed k n is =
      elim (filed k n is) as (λ _. IsNumber all' k n) [
        | inl was ↦ tells.stay k n (step k n was.0) was.1
        | inr told ↦ told_has (IsNumber all') delta.come.items delta.come_numbers.items k n tells.come told
      ]

-- the same where nothing was due and all matches come
module _ (all' : Numbers) (delta : Delta) (gone : delta.gone.items ≡ []) (none : delta.gone_numbers.items ≡ []) (come : HaveNumbers (IsNumber all') delta.come.items delta.come_numbers.items) where
  pub anew_known : (due : Numbers) → due ≡ [] → AreKnown due delta
  anew_known due e = subst (λ (it : Numbers). AreKnown it delta) (sym e) (record {
    gone = subst (λ (ks : List KeyValue). HaveNumbers (IsItsNumber []) ks delta.gone_numbers.items) (sym gone) (subst (λ (ns : List ℕ). HaveNumbers (IsItsNumber []) [] ns) (sym none) tt);
    come = have_more (IsNumber all') (λ k n. (m : ℕ) → IsNumber [] k m → (In k delta.gone.items → ⊥) → m ≡ n) (λ k n now m is stays. absurd is) delta.come.items delta.come_numbers.items come;
  })

  pub anew_follows : (due due' : Numbers) → due ≡ [] → AreFiled due delta due' → AreInStep due' all'
  anew_follows due due' e filed k n is =
      elim (filed k n is) as (λ _. IsNumber all' k n) [
        | inl was ↦ absurd (subst (λ (it : Numbers). IsNumber it k n) e was.0)
        | inr told ↦ told_has (IsNumber all') delta.come.items delta.come_numbers.items k n come told
      ]

-- nothing is due
pub none_due : (due all : Numbers) → due ≡ [] → AreInStep due all
none_due due all e k n is = absurd (subst (λ (it : Numbers). IsNumber it k n) e is)

pub given_still : (last last' : ℕ) (rs : List RuleInfo) → last ≤ last' → AreRulesGiven last rs → AreRulesGiven last' rs
given_still last last' rs rises h = All-weaker (λ (r : RuleInfo). r.id ≤ last) (λ r. r.id ≤ last') (λ r below. omega arith) rs h

pub given_added : (last last' : ℕ) (rs rs' : List RuleInfo) (r : RuleInfo) → last ≤ last' → AreRulesGiven last rs → r.id ≤ last' → rs' ≡ rs ++ r ∷ [] → AreRulesGiven last' rs'
given_added last last' rs rs' r rises h below e =
    subst (AreRulesGiven last') (sym e) (All-push (λ (it : RuleInfo). it.id ≤ last') rs r (given_still last last' rs rises h) below)

pub tied_filtered : (p : RuleInfo → Bool) (last : ℕ) (rs rs' : List RuleInfo) (in_step : Bool) (due due' all : Numbers) → rs' ≡ filter p rs → due' ≡ due → AreTied last rs in_step due all → AreTied last rs' in_step due' all
tied_filtered p last rs rs' in_step due due' all e d tied = record {
  given = subst (AreRulesGiven last) (sym e) (All-filter p (λ (r : RuleInfo). r.id ≤ last) rs tied.given);
  step = λ on. subst (λ (it : Numbers). AreInStep it all) (sym d) (tied.step on);
}

-- the parts of a world in the middle of a change, when the agenda has followed it, and where nothing changed
pub tied_apart : (last : ℕ) (rs : List RuleInfo) (due all : Numbers) → AreRulesGiven last rs → AreTied last rs false due all
tied_apart last rs due all given = record { given = given; step = λ e. absurd (false≢true e) }

module _ (last : ℕ) (rs : List RuleInfo) (in_step : Bool) (due all all' : Numbers) (delta : Delta) (tied : AreTied last rs in_step due all) (tells : TellsNumbers (IsNumber all) (IsNumber all') delta) where
  pub tied_known : in_step ≡ true → AreKnown due delta
  tied_known e = known due all all' delta tells (tied.step e)

  pub tied_again : (last' : ℕ) (rs' : List RuleInfo) (fits keeps : Bool) (due' : Numbers) → AreRulesGiven last' rs' → (in_step ≡ true → fits ≡ true → AreFiled due delta due') → (keeps ≡ true → (in_step ≡ true) × (fits ≡ true))
      → AreTied last' rs' keeps due' all'
  tied_again last' rs' fits keeps due' given filed if_kept = record {
    given = given;
    step = λ e. let on = if_kept e in follows due all all' delta tells due' (tied.step on.0) (filed on.0 on.1);
  }

pub tied_due : (last : ℕ) (rs : List RuleInfo) (in_step : Bool) (due due' all : Numbers) → due' ≡ due → AreTied last rs in_step due all → AreTied last rs in_step due' all
tied_due last rs in_step due due' all e tied = subst (λ (it : Numbers). AreTied last rs in_step it all) (sym e) tied
