use Rattle.std.proofs.Common.{◌≡◌, ◌⊎◌, ◌∙◌, ◌+◌, ◌∷◌, inl, inr, ℕ, List, ap, arith, drop, get_or, length, of_z, rules, subst, sym, to_z, w64}
use Rattle.std.proofs.lemmas.List.{at_drop_more}
use Rattle.cb_agenda.proofs.NumberLaws.{split_have, split_more, split_put}
use Rattle.cb_agenda.specs.Agendas.{AgendaValue, with_key, with_keys}
use Rattle.cb_agenda.specs.Internal.{IsPut}
use Rattle.cb_matches.specs.Changes.{HaveNumbers, IsNumber}
use Rattle.cb_matches.specs.Keys.{KeyValue}
use Rattle.cb_agenda.proofs.agenda.Agenda.add_all.Goals as goal

pub add-requires-clause-known : goal.add-requires-clause-known
add-requires-clause-known c = λ by_number m h.
    let all = c.args.keys.now in
    let i = c.loop-key.key-index in
    let key = c.key-item.result in
    let rest = drop (i + 1) all in
    let same : get_or all i key ≡ key = search rules in
    let whole : drop i all ≡ key ∷ rest = at_drop_more (λ (ks : List KeyValue). ks) all i key c.loop-key-test.true ∙ ap (λ (k : KeyValue). k ∷ rest) same in
    let P : KeyValue → ℕ → Type 0 = λ k n. (m : ℕ) → IsNumber c.args.self.now.numbers k m ⊎ IsPut all c.args.numbers.now k m → m ≡ n in
    let left = c.loop-key.left_numbers.now in
    let own = split_have P key rest left c.split_number-number.result.1.now c.split_number-number.result.0 c.split_number-number.ensures (subst (λ (ks : List KeyValue). HaveNumbers P ks left) whole (c.loop-key.invariant.known by_number)) in
    own.0 m (c.loop-key.invariant.numbers key m h)

pub loop-key-preserved : goal.loop-key-preserved
loop-key-preserved c =
    let all = c.args.keys.now in
    let i = c.loop-key.key-index in
    let key = c.key-item.result in
    let rest = drop (i + 1) all in
    let same : get_or all i key ≡ key = search rules in
    let whole : drop i all ≡ key ∷ rest = at_drop_more (λ (ks : List KeyValue). ks) all i key c.loop-key-test.true ∙ ap (λ (k : KeyValue). k ∷ rest) same in
    let P : KeyValue → ℕ → Type 0 = λ k n. (m : ℕ) → IsNumber c.args.self.now.numbers k m ⊎ IsPut all c.args.numbers.now k m → m ≡ n in
    let left = c.loop-key.left_numbers.now in
    let n = c.split_number-number.result.0 in
    let more = c.split_number-number.result.1.now in
    let old = c.loop-key.self.agenda in
    let inv = c.loop-key.invariant in
    let salience = c.split_salience-salience.result.0 in
    let level : to_z w64 (of_z w64 salience) ≡ salience = search rules in
    let comes : c.add.new.self.agenda ≡ with_key old key salience = c.in_ok-add.ensures.ok ∙ ap (with_key old key) level in
    let told : IsPut all c.args.numbers.now key n = inv.tells key n (subst (λ (ks : List KeyValue). IsPut ks left key n) (sym whole) (split_put key rest left more n c.split_number-number.ensures)) in
    record {
      goes =
          ap (λ (a : AgendaValue). with_keys a rest c.split_salience-salience.result.1.now) comes
          ∙ sym (c.split_salience-salience.ensures old key rest)
          ∙ ap (λ (ks : List KeyValue). with_keys old ks c.loop-key.left.now) (sym whole)
          ∙ inv.goes;
      room = omega (arith, inv.room, ap (λ (a : AgendaValue). a.last) comes, ap (λ (ks : List KeyValue). length ks) whole);
      same = c.in_ok-add.ensures.same ∙ inv.same;
      known = λ by_number. (split_have P key rest left more n c.split_number-number.ensures (subst (λ (ks : List KeyValue). HaveNumbers P ks left) whole (inv.known by_number))).1;
      tells = λ q m it. inv.tells q m (subst (λ (ks : List KeyValue). IsPut ks left q m) (sym whole) (split_more key rest left more n c.split_number-number.ensures q m it));
      numbers = λ q m h. elim (c.in_ok-add.ensures.numbers q m h) as (λ _. IsNumber c.args.self.now.numbers q m ⊎ IsPut all c.args.numbers.now q m) [
        | inl was ↦ inv.numbers q m was
        | inr is ↦ inr (subst (λ (k : KeyValue). IsPut all c.args.numbers.now k m) (sym is.0) (subst (IsPut all c.args.numbers.now key) (sym is.1) told))
      ];
    }
