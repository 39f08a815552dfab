use Rattle.std.proofs.Common.{◌≡◌, ◌⊎◌, inl, inr, ℕ}
use Rattle.std.proofs.lemmas.Result.{on_ok_weaker}
use Rattle.cb_agenda.proofs.NumberLaws.{told_of}
use Rattle.cb_agenda.specs.Agendas.{IsTold}
use Rattle.cb_matches.specs.Chains.{In}
use Rattle.cb_matches.specs.Changes.{IsNumber}
use Rattle.cb_matches.specs.Keys.{KeyValue}
use Rattle.cb_agenda.proofs.agenda.Agenda.apply.Goals as goal

pub returns-clause-numbers : goal.returns-clause-numbers
returns-clause-numbers c =
    let old = c.args.self.now.numbers in
    let gone = c.args.delta.now.gone.items in
    let come = c.args.delta.now.come.items in
    let ns = c.args.delta.now.come_numbers.items in
    let P : KeyValue → ℕ → Type 0 = λ k n. (m : ℕ) → IsNumber old k m → (In k gone → ⊥) → m ≡ n in
    on_ok_weaker c.make.result
    (λ got k n h. elim (got k n h) as (λ _. (IsNumber old k n × (In k gone → ⊥)) ⊎ IsTold come ns k n) [
      | inl was ↦ inl was
      | inr put ↦ inr (told_of P come ns c.requires.come k n put)
    ])
    c.make.ensures.numbers
