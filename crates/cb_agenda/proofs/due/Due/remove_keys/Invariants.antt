use Rattle.std.proofs.Common.{◌≡◌, ℕ, drop, false}
use Rattle.cb_agenda.specs.Agendas.{without_keys}
use Rattle.cb_matches.specs.Chains.{In}
use Rattle.cb_matches.specs.Changes.{HaveNumbers, IsNumber}
use Rattle.cb_matches.specs.Keys.{KeyValue}
use Rattle.cb_agenda.proofs.due.Due.remove_keys.Given as goal

abbrev pub invariant-loop-key : goal.invariant-loop-key
invariant-loop-key l = record {
  known : l.by_key ≡ false → HaveNumbers (λ k n. (m : ℕ) → IsNumber l.initial.self.numbers k m → m ≡ n) (drop l.key-index l.keys) l.left;
  goes : without_keys l.self.due.entries (drop l.key-index l.keys) ≡ without_keys l.initial.self.due.entries l.keys;
  last : l.self.due.last ≡ l.initial.self.due.last;
  numbers : (k : KeyValue) (n : ℕ) → IsNumber l.self.numbers k n → IsNumber l.initial.self.numbers k n × (In k l.keys → In k (drop l.key-index l.keys));
}
