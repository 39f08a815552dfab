-- Numbers of matches that are told step by step.
use Rattle.std.proofs.Common.{◌≡◌, ◌∙◌, ◌++◌, ◌∷◌, ◌⊎◌, ℕ, List, [], ap, append-nil, append_assoc, inl, inr, subst, sym}
use Rattle.cb_matches.proofs.Lists.{in_left, in_right}
use Rattle.cb_matches.specs.Chains.{In}
use Rattle.cb_matches.specs.Changes.{AddsNumbers, HaveNumbers, TellsMoreNumbers, TellsNumbers}
use Rattle.cb_matches.specs.Keys.{KeyValue}
use Rattle.cb_matches.specs.declared.delta.Delta.{Delta}

-- which match has which number
abbrev pub Has : Type 1
Has = KeyValue → ℕ → Type 0

abbrev pub Implies : Has → Has → Type 0
Implies P Q = (k : KeyValue) (n : ℕ) → P k n → Q k n

pub have_weaker : (P Q : Has) → Implies P Q → (ks : List KeyValue) (ns : List ℕ) → HaveNumbers P ks ns → HaveNumbers Q ks ns
have_weaker P Q to [] [] h = tt
have_weaker P Q to [] (n ∷ ns) h = absurd h
have_weaker P Q to (k ∷ ks) [] h = absurd h
have_weaker P Q to (k ∷ ks) (n ∷ ns) h = (to k n h.0, have_weaker P Q to ks ns h.1)

pub have_both : (P : Has) (ks ls : List KeyValue) (ns ms : List ℕ) → HaveNumbers P ks ns → HaveNumbers P ls ms → HaveNumbers P (ks ++ ls) (ns ++ ms)
have_both P [] ls [] ms h g = g
have_both P [] ls (n ∷ ns) ms h g = absurd h
have_both P (k ∷ ks) ls [] ms h g = absurd h
have_both P (k ∷ ks) ls (n ∷ ns) ms h g = (h.0, have_both P ks ls ns ms h.1 g)

-- ---- numbers that are added

abbrev pub adds_none : (P : Has) (ks : List KeyValue) (ns : List ℕ) → AddsNumbers P ks ks ns ns
adds_none P ks ns = record { more = []; more_numbers = []; keys_are = sym (append-nil ks); numbers_are = sym (append-nil ns); have = tt }

abbrev pub adds_weaker : (P Q : Has) → Implies P Q → (ks ks' : List KeyValue) (ns ns' : List ℕ) → AddsNumbers P ks ks' ns ns' → AddsNumbers Q ks ks' ns ns'
adds_weaker P Q to ks ks' ns ns' a = record {
  more = a.more;
  more_numbers = a.more_numbers;
  keys_are = a.keys_are;
  numbers_are = a.numbers_are;
  have = have_weaker P Q to a.more a.more_numbers a.have;
}

abbrev pub adds_on : (P : Has) (ks ks' ks'' : List KeyValue) (ns ns' ns'' : List ℕ) → AddsNumbers P ks ks' ns ns' → AddsNumbers P ks' ks'' ns' ns'' → AddsNumbers P ks ks'' ns ns''
adds_on P ks ks' ks'' ns ns' ns'' a b = record {
  more = a.more ++ b.more;
  more_numbers = a.more_numbers ++ b.more_numbers;
  keys_are = b.keys_are ∙ (ap (λ it. it ++ b.more) a.keys_are ∙ append_assoc ks a.more b.more);
  numbers_are = b.numbers_are ∙ (ap (λ it. it ++ b.more_numbers) a.numbers_are ∙ append_assoc ns a.more_numbers b.more_numbers);
  have = have_both P a.more b.more a.more_numbers b.more_numbers a.have b.have;
}

-- where nothing was told before
pub adds_all : (P : Has) (ks ks' : List KeyValue) (ns ns' : List ℕ) → ks ≡ [] → ns ≡ [] → AddsNumbers P ks ks' ns ns' → HaveNumbers P ks' ns'
adds_all P ks ks' ns ns' none no_numbers a =
    let all : ks' ≡ a.more = a.keys_are ∙ ap (λ it. it ++ a.more) none in
    let all_numbers : ns' ≡ a.more_numbers = a.numbers_are ∙ ap (λ it. it ++ a.more_numbers) no_numbers in
    subst (λ it. HaveNumbers P it ns') (sym all) (subst (λ it. HaveNumbers P a.more it) (sym all_numbers) a.have)

pub have_nothing : (P : Has) (ks : List KeyValue) (ns : List ℕ) → ks ≡ [] → ns ≡ [] → HaveNumbers P ks ns
have_nothing P ks ns none no_numbers = subst (λ it. HaveNumbers P it ns) (sym none) (subst (λ it. HaveNumbers P [] it) (sym no_numbers) tt)

-- ---- numbers that are told

-- those that went had these, those that came are of what is done already, and those that stay have theirs still
pub record TellsSoFar (Old New Done : Has) (delta delta' : Delta) : Type 0 where
  pub gone : AddsNumbers Old delta.gone.items delta'.gone.items delta.gone_numbers.items delta'.gone_numbers.items
  pub come : AddsNumbers Done delta.come.items delta'.come.items delta.come_numbers.items delta'.come_numbers.items
  pub stay : (k : KeyValue) (n : ℕ) → Old k n → (In k gone.more → ⊥) → New k n

pub tells_none : (Old Done : Has) (delta : Delta) → TellsSoFar Old Old Done delta delta
tells_none Old Done delta = record {
  gone = adds_none Old delta.gone.items delta.gone_numbers.items;
  come = adds_none Done delta.come.items delta.come_numbers.items;
  stay = λ k n h none. h;
}

-- more is done
pub tells_done : (Old New Done Done' : Has) (delta delta' : Delta) → Implies Done Done' → TellsSoFar Old New Done delta delta' → TellsSoFar Old New Done' delta delta'
tells_done Old New Done Done' delta delta' to told = record {
  gone = told.gone;
  come = adds_weaker Done Done' to delta.come.items delta'.come.items delta.come_numbers.items delta'.come_numbers.items told.come;
  stay = told.stay;
}

-- a step changes what had `Was` to what has `Is`, and nothing else
pub tells_on : (Old New Next Done Done' Was Is : Has) (delta delta' delta'' : Delta) → Implies Was Old → Implies Done Done' → Implies Is Done' → Implies Is Next
    → ((k : KeyValue) (n : ℕ) → New k n → Was k n ⊎ Next k n) → TellsSoFar Old New Done delta delta' → TellsMoreNumbers Was Is delta' delta'' → TellsSoFar Old Next Done' delta delta''
tells_on Old New Next Done Done' Was Is delta delta' delta'' had done came is either told step = record {
  gone = adds_on Old delta.gone.items delta'.gone.items delta''.gone.items delta.gone_numbers.items delta'.gone_numbers.items delta''.gone_numbers.items told.gone
      (adds_weaker Was Old had delta'.gone.items delta''.gone.items delta'.gone_numbers.items delta''.gone_numbers.items step.gone);
  come = adds_on Done' delta.come.items delta'.come.items delta''.come.items delta.come_numbers.items delta'.come_numbers.items delta''.come_numbers.items
      (adds_weaker Done Done' done delta.come.items delta'.come.items delta.come_numbers.items delta'.come_numbers.items told.come)
      (adds_weaker Is Done' came delta'.come.items delta''.come.items delta'.come_numbers.items delta''.come_numbers.items step.come);
  stay = λ k n h none. elim (either k n (told.stay k n h (λ i. none (in_left k told.gone.more step.gone.more i)))) as (λ _. Next k n) [
    | inl was ↦ is k n (step.stay k n was (λ i. none (in_right k told.gone.more step.gone.more i)))
    | inr next ↦ next
  ];
}

pub tells_all : (Old New Done : Has) (delta delta' : Delta) → Implies Done New → TellsSoFar Old New Done delta delta' → TellsMoreNumbers Old New delta delta'
tells_all Old New Done delta delta' to told = record {
  gone = told.gone;
  come = adds_weaker Done New to delta.come.items delta'.come.items delta.come_numbers.items delta'.come_numbers.items told.come;
  stay = told.stay;
}

-- ---- a whole change

-- no match has two
abbrev pub IsOnce : Has → Type 0
IsOnce P = (k : KeyValue) (m n : ℕ) → P k m → P k n → m ≡ n

pub tells_from_none : (Old New : Has) (none delta : Delta) → none.gone.items ≡ [] → none.come.items ≡ [] → none.gone_numbers.items ≡ [] → none.come_numbers.items ≡ [] → IsOnce Old → IsOnce New
    → TellsMoreNumbers Old New none delta → TellsNumbers Old New delta
tells_from_none Old New none delta no_gone no_come no_gone_numbers no_come_numbers once once_now told = record {
  once = once;
  once_now = once_now;
  gone = adds_all Old none.gone.items delta.gone.items none.gone_numbers.items delta.gone_numbers.items no_gone no_gone_numbers told.gone;
  come = adds_all New none.come.items delta.come.items none.come_numbers.items delta.come_numbers.items no_come no_come_numbers told.come;
  stay = λ k n h absent. told.stay k n h (λ i. absent (subst (In k) (sym (told.gone.keys_are ∙ ap (λ it. it ++ told.gone.more) no_gone)) i));
}

-- the same in other words
pub tells_alike : (Old Old' New New' : Has) (delta : Delta) → Implies Old Old' → Implies Old' Old → Implies New New' → Implies New' New → TellsNumbers Old New delta → TellsNumbers Old' New' delta
tells_alike Old Old' New New' delta to from to_new from_new told = record {
  once = λ k m n h g. told.once k m n (from k m h) (from k n g);
  once_now = λ k m n h g. told.once_now k m n (from_new k m h) (from_new k n g);
  gone = have_weaker Old Old' to delta.gone.items delta.gone_numbers.items told.gone;
  come = have_weaker New New' to_new delta.come.items delta.come_numbers.items told.come;
  stay = λ k n h absent. to_new k n (told.stay k n (from k n h) absent);
}
