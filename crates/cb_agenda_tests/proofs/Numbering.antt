-- What follows where each match has its number.
use Rattle.std.proofs.Common.{◌≡◌, ◌∙◌, ◌++◌, ◌⊎◌, Err, IfErr, Ok, OnOk, Result, false, inl, inr, ℕ, List, [], ◌∷◌, refl, subst, sym, true}
use Rattle.cb_agenda.specs.Agendas.{IsTold, NumberedAgenda}
use Rattle.cb_agenda.specs.declared.agenda.ApplyFault.{ApplyFault}
use Rattle.cb_agenda.specs.declared.agenda.ApplyFault.TheVariants as fault
use Rattle.cb_agenda_tests.specs.Numbering.{AreOwn, IsOwn}
use Rattle.cb_matches.specs.Chains.{In}
use Rattle.cb_matches.specs.Changes.{HaveNumbers, IsNumber, Numbers}
use Rattle.cb_matches.specs.Keys.{KeyValue}

pub known_gone : (all : Numbers) → AreOwn all → (ks : List KeyValue) (ns : List ℕ) → HaveNumbers IsOwn ks ns → HaveNumbers (λ k n. (m : ℕ) → IsNumber all k m → m ≡ n) ks ns
known_gone all own [] [] h = tt
known_gone all own [] (n ∷ ns) h = h
known_gone all own (k ∷ ks) [] h = h
known_gone all own (k ∷ ks) (n ∷ ns) h = (λ m due. own k m due ∙ sym h.0, known_gone all own ks ns h.1)

pub known_come : (all : Numbers) → AreOwn all → (gone ks : List KeyValue) (ns : List ℕ) → HaveNumbers IsOwn ks ns → HaveNumbers (λ k n. (m : ℕ) → IsNumber all k m → (In k gone → ⊥) → m ≡ n) ks ns
known_come all own gone [] [] h = tt
known_come all own gone [] (n ∷ ns) h = h
known_come all own gone (k ∷ ks) [] h = h
known_come all own gone (k ∷ ks) (n ∷ ns) h = (λ m due stays. own k m due ∙ sym h.0, known_come all own gone ks ns h.1)

told_own : (ks : List KeyValue) (ns : List ℕ) → HaveNumbers IsOwn ks ns → (k : KeyValue) (n : ℕ) → IsTold ks ns k n → IsOwn k n
told_own [] ns h k n told = elim told [ ]
told_own (x ∷ xs) [] h k n told = elim told [ ]
told_own (x ∷ xs) (m ∷ ms) h k n (inl is) = cc (h.0, is.0, is.1)
told_own (x ∷ xs) (m ∷ ms) h k n (inr told) = told_own xs ms h.1 k n told

-- after a change each has its number still
pub own_after : (old new : Numbers) (gone come : List KeyValue) (ns : List ℕ) → AreOwn old → HaveNumbers IsOwn come ns
    → ((k : KeyValue) (n : ℕ) → IsNumber new k n → (IsNumber old k n × (In k gone → ⊥)) ⊎ IsTold come ns k n) → AreOwn new
own_after old new gone come ns own have after k n h = elim (after k n h) as (λ _. IsOwn k n) [
  | inl was ↦ own k n was.0
  | inr told ↦ told_own come ns have k n told
]

-- one more key and its number
pub have_more : (ks : List KeyValue) (ns : List ℕ) (k : KeyValue) (n : ℕ) → HaveNumbers IsOwn ks ns → IsOwn k n → HaveNumbers IsOwn (ks ++ k ∷ []) (ns ++ n ∷ [])
have_more [] [] k n h own = (own, tt)
have_more [] (m ∷ ms) k n h own = elim h [ ]
have_more (x ∷ xs) [] k n h own = elim h [ ]
have_more (x ∷ xs) (m ∷ ms) k n h own = (h.0, have_more xs ms k n h.1 own)

-- and after a call that may be refused, unless it has failed
pub after_apply : (r : Result (Unit {0}) ApplyFault) (old new : NumberedAgenda) (gone come : List KeyValue) (ns : List ℕ) (P : Type 0)
    → OnOk r ((k : KeyValue) (n : ℕ) → IsNumber new.numbers k n → (IsNumber old.numbers k n × (In k gone → ⊥)) ⊎ IsTold come ns k n)
    → IfErr r (λ e. e ≡ fault.Exhausted → P × (new ≡ old)) → IfErr r (λ e. e ≡ fault.NoMemory → new.agenda.failed ≡ true) → new.agenda.failed ≡ false
    → AreOwn old.numbers → HaveNumbers IsOwn come ns → AreOwn new.numbers
after_apply (Ok u) old new gone come ns P after same failed fine own have = own_after old.numbers new.numbers gone come ns own have after
after_apply (Err fault.Exhausted) old new gone come ns P after same failed fine own have = subst (λ (a : NumberedAgenda). AreOwn a.numbers) (sym (same refl).1) own
after_apply (Err fault.NoMemory) old new gone come ns P after same failed fine own have = let no : true ≡ false = sym (failed refl) ∙ fine in cc
