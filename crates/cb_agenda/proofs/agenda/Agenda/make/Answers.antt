use Rattle.std.proofs.Common.{◌≡◌, ◌⊎◌, inl, inr, ℕ, List, ap, subst, sym}
use Rattle.std.proofs.lemmas.Result.{on_ok_weaker}
use Rattle.cb_agenda.proofs.NumberLaws.{come_known, was_in}
use Rattle.cb_agenda.specs.Agendas.{NumberedAgenda}
use Rattle.cb_agenda.specs.Internal.{IsPut}
use Rattle.cb_matches.specs.Chains.{In}
use Rattle.cb_matches.specs.Changes.{HaveNumbers, IsNumber}
use Rattle.cb_matches.specs.Keys.{KeyValue}
use Rattle.cb_agenda.proofs.agenda.Agenda.make.Goals as goal

pub add_all-added-requires-clause-known : goal.add_all-added-requires-clause-known
add_all-added-requires-clause-known c = λ by_number.
    let old = c.args.self.now.numbers in
    let mid = c.remove_all.new.self.numbers in
    let gone = c.args.delta.now.gone.items in
    let come = c.args.delta.now.come.items in
    let left : (k : KeyValue) (n : ℕ) → IsNumber mid k n → IsNumber old k n × (In k gone → ⊥) =
    subst (λ (ks : List KeyValue). (k : KeyValue) (n : ℕ) → IsNumber mid k n → IsNumber old k n × (In k ks → ⊥)) c.as_slice.ensures.value c.remove_all.ensures.numbers in
    subst (λ (ks : List KeyValue). HaveNumbers (λ k n. (m : ℕ) → IsNumber mid k m ⊎ IsPut ks c.as_slice-4.result.now k m → m ≡ n) ks c.as_slice-4.result.now) (sym c.as_slice-3.ensures.value)
    (subst (λ (ns : List ℕ). HaveNumbers (λ k n. (m : ℕ) → IsNumber mid k m ⊎ IsPut come ns k m → m ≡ n) come ns) (sym c.as_slice-4.ensures.value)
    (come_known old mid gone come c.args.delta.now.come_numbers.items (c.requires.come by_number) (c.requires.once by_number) left))

pub returns-clause-numbers : goal.returns-clause-numbers
returns-clause-numbers c =
    let old = c.args.self.now.numbers in
    let mid = c.remove_all.new.self.numbers in
    let gone = c.args.delta.now.gone.items in
    let come = c.args.delta.now.come.items in
    let ns = c.args.delta.now.come_numbers.items in
    let left : (k : KeyValue) (n : ℕ) → IsNumber mid k n → IsNumber old k n × (In k gone → ⊥) =
    subst (λ (ks : List KeyValue). (k : KeyValue) (n : ℕ) → IsNumber mid k n → IsNumber old k n × (In k ks → ⊥)) c.as_slice.ensures.value c.remove_all.ensures.numbers in
    on_ok_weaker c.add_all-added.result
    (λ got k n h. elim (got k n (was_in c.self.inside.due.numbers c.add_all-added.new.self.numbers (ap (λ (a : NumberedAgenda). a.numbers) c.self.view_is) k n h)) as (λ _. (IsNumber old k n × (In k gone → ⊥)) ⊎ IsPut come ns k n) [
      | inl was ↦ inl (left k n was)
      | inr put ↦ inr (subst (λ (ks : List KeyValue). IsPut ks ns k n) c.as_slice-3.ensures.value (subst (λ (ms : List ℕ). IsPut c.as_slice-3.result.now ms k n) c.as_slice-4.ensures.value put))
    ])
    c.add_all-added.ensures.numbers
