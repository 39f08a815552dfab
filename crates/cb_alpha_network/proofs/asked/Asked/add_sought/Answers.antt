use Rattle.std.proofs.Common.{◌≡◌, ◌⊎◌, ◌∙◌, ◌++◌, ◌∷◌, ℕ, List, [], false, inl, inr, rules, subst, sym}
use Rattle.cb_alpha_network.proofs.Found.{has_sought, in_sought}
use Rattle.cb_alpha_network.proofs.Order.{not_so}
use Rattle.cb_alpha_network.proofs.Pieces.{none_further, one_further, run}
use Rattle.cb_alpha_network.proofs.asked.Asked.add_sought.Goals as goal
use Rattle.cb_alpha_network.specs.declared.wanted.Entry.{Entry}
use Rattle.cb_alpha_network.specs.declared.wanted.Sought.{Sought}
use Rattle.cb_matches.proofs.Lists.{in_left, in_right}
use Rattle.cb_matches.specs.Chains.{In}

pub returns-then-ne-clause-added : goal.returns-then-ne-clause-added
returns-then-ne-clause-added c =
    λ entry i e.
    let s : Sought = c.args.sought in
    let there = in_sought c.args.self.now.entries.keys c.range-entry-items.ensures.ordered s entry i e in
    let at : Entry = c.in-Some.entry.now in
    let rest : List Entry = c.next.new.self in
    let cut : c.loop-entry.entry-iterator ≡ at ∷ rest = search rules in
    let differs : has_sought s at ≡ false = not_so (has_sought s at) (sym c.ne.ensures ∙ c.if-ne.true) in
    elim (c.loop-entry.invariant.added entry there) as (λ _. In entry.number c.loop-entry.found.items) [
      | inl done ↦ done
      | inr more ↦ absurd (none_further (has_sought s) at rest differs entry (subst (λ it. In entry (run (has_sought s) it)) cut more))
    ]

pub loop-entry-preserved : goal.loop-entry-preserved
loop-entry-preserved c =
    let s : Sought = c.args.sought in
    let at : Entry = c.in-Some.entry.now in
    let rest : List Entry = c.next.new.self in
    let cut : c.loop-entry.entry-iterator ≡ at ∷ rest = search rules in
    let found : List ℕ = c.loop-entry.found.items in
    let now : List ℕ = c.push.new.self.items in
    let is : now ≡ found ++ at.number ∷ [] = c.in_ok-push.ensures.items in
    record {
      added = λ entry h. elim (c.loop-entry.invariant.added entry h) as (λ _. In entry.number now ⊎ In entry (run (has_sought s) rest)) [
        | inl done ↦ inl (subst (In entry.number) (sym is) (in_left entry.number found (at.number ∷ []) done))
        | inr more ↦ elim (one_further (has_sought s) at rest entry (subst (λ it. In entry (run (has_sought s) it)) cut more)) as (λ _. In entry.number now ⊎ In entry (run (has_sought s) rest)) [
          | inl same ↦ inl (subst (λ (it : Entry). In it.number now) (sym same) (subst (In at.number) (sym is) (in_right at.number found (at.number ∷ []) (inl (cc)))))
          | inr later ↦ inr later
        ]
      ];
      stay = λ n h. subst (In n) (sym is) (in_left n found (at.number ∷ []) (c.loop-entry.invariant.stay n h));
    }

pub returns-clause-added : goal.returns-clause-added
returns-clause-added c =
    λ entry i e.
    let s : Sought = c.args.sought in
    let there = in_sought c.args.self.now.entries.keys c.range-entry-items.ensures.ordered s entry i e in
    let none : c.loop-entry.entry-iterator ≡ [] = search rules in
    elim (c.loop-entry.invariant.added entry there) as (λ _. In entry.number c.loop-entry.found.items) [
      | inl done ↦ done
      | inr more ↦ absurd (subst (λ it. In entry (run (has_sought s) it)) none more)
    ]
