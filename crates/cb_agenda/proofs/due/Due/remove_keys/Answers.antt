use Rattle.std.proofs.Common.{◌≡◌, ◌∙◌, ◌+◌, ◌∷◌, ℕ, List, ap, drop, get_or, rules, subst, sym}
use Rattle.std.proofs.lemmas.List.{at_drop_more, drop_all}
use Rattle.cb_agenda.proofs.NumberLaws.{not_here, split_have}
use Rattle.cb_agenda.specs.Agendas.{without_keys}
use Rattle.cb_agenda.specs.Internal.{DueValue}
use Rattle.cb_matches.specs.Chains.{In}
use Rattle.cb_matches.specs.Changes.{HaveNumbers, IsNumber}
use Rattle.cb_matches.specs.Keys.{KeyValue}
use Rattle.cb_agenda.proofs.due.Due.remove_keys.Goals as goal

pub remove-requires : goal.remove-requires
remove-requires c = λ by_number m h.
    let all = c.args.keys.now in
    let i = c.loop-key.key-index in
    let key = c.key-item.result in
    let rest = drop (i + 1) all in
    let same : get_or all i key ≡ key = search rules in
    let whole : drop i all ≡ key ∷ rest = at_drop_more (λ (ks : List KeyValue). ks) all i key c.loop-key-test.true ∙ ap (λ (k : KeyValue). k ∷ rest) same in
    let P : KeyValue → ℕ → Type 0 = λ k n. (m : ℕ) → IsNumber c.args.self.now.numbers k m → m ≡ n in
    let left = c.loop-key.left.now in
    let own = split_have P key rest left c.split_number-number.result.1.now c.split_number-number.result.0 c.split_number-number.ensures (subst (λ (ks : List KeyValue). HaveNumbers P ks left) whole (c.loop-key.invariant.known by_number)) in
    own.0 m (c.loop-key.invariant.numbers key m h).0

pub loop-key-preserved : goal.loop-key-preserved
loop-key-preserved c =
    let all = c.args.keys.now in
    let i = c.loop-key.key-index in
    let key = c.key-item.result in
    let rest = drop (i + 1) all in
    let same : get_or all i key ≡ key = search rules in
    let whole : drop i all ≡ key ∷ rest = at_drop_more (λ (ks : List KeyValue). ks) all i key c.loop-key-test.true ∙ ap (λ (k : KeyValue). k ∷ rest) same in
    let P : KeyValue → ℕ → Type 0 = λ k n. (m : ℕ) → IsNumber c.args.self.now.numbers k m → m ≡ n in
    let left = c.loop-key.left.now in
    let inv = c.loop-key.invariant in
    record {
      known = λ by_number. (split_have P key rest left c.split_number-number.result.1.now c.split_number-number.result.0 c.split_number-number.ensures (subst (λ (ks : List KeyValue). HaveNumbers P ks left) whole (inv.known by_number))).1;
      goes = ap (λ (d : DueValue). without_keys d.entries rest) c.remove.ensures.due ∙ ap (without_keys c.loop-key.self.due.entries) (sym whole) ∙ inv.goes;
      last = ap (λ (d : DueValue). d.last) c.remove.ensures.due ∙ inv.last;
      numbers = λ k n h.
          let was = c.remove.ensures.numbers k n h in
          let older = inv.numbers k n was.0 in
          (older.0, λ there. not_here key k rest was.1 (subst (λ (ks : List KeyValue). In k ks) whole (older.1 there)));
    }

pub returns-clause-numbers : goal.returns-clause-numbers
returns-clause-numbers c = λ k n h.
    let was = c.loop-key.invariant.numbers k n h in
    (was.0, λ there. subst (λ (ks : List KeyValue). In k ks) (drop_all c.loop-key.key-index c.args.keys.now c.loop-key-test.false) (was.1 there))
