use Rattle.std.proofs.Common.{◌≡◌, List, None, Some, inl, refl, rules, subst, sym}
use Rattle.cb_alpha.specs.AlphaMemories.{live}
use Rattle.cb_alpha.specs.Buckets.{Refiles}
use Rattle.cb_facts.specs.declared.value.Value.{Value}
use Rattle.cb_lookup_node.proofs.Placed.{decided_false, decided_true, none_seen, one_seen, placed_at, same_filing, same_groups}
use Rattle.cb_lookup_node.proofs.witnesses.Witnesses.place_among.Goals as goal
use Rattle.cb_lookup_node.specs.LookupNodes.{SeesSome}
use Rattle.cb_token_lists.specs.Partials.{partial_at}

pub returns-in_ok-add-in-Some-clause-placed : goal.returns-in_ok-add-in-Some-clause-placed
returns-in_ok-add-in-Some-clause-placed c js its =
    let cs = c.args.compared.now in
    let alpha = c.args.alpha.now in
    let at = partial_at c.args.lists.now.sources.now c.args.lists.now.lists.now c.args.from in
    let n = c.args.number in
    let w₁ = c.take_out.new.self in
    let seen : c.in_ok-seen.seen ≡ Some c.in-Some.witness = search rules in
    let k = c.in_ok-seen.ensures.some c.in-Some.witness seen in
    placed_at cs js alpha at c.args.self.now w₁ (record w₁ { given = c.add.new.self }) n c.take_out.ensures (Some c.in-Some.witness) None c.in_ok-add-in-Some.ensures.ok
    (same_filing cs js alpha at w₁.unseen n None (c.take_out.ensures.here n (inl refl)).1)
    (one_seen cs js alpha at n c.args.values.now c.args.facts.now its c.in-Some.witness k.0 k.1, refl)

pub returns-in_ok-add-in-Some-clause-sees : goal.returns-in_ok-add-in-Some-clause-sees
returns-in_ok-add-in-Some-clause-sees c js its =
    let cs = c.args.compared.now in
    let alpha = c.args.alpha.now in
    let at = partial_at c.args.lists.now.sources.now c.args.lists.now.lists.now c.args.from in
    let n = c.args.number in
    let seen : c.in_ok-seen.seen ≡ Some c.in-Some.witness = search rules in
    let k = c.in_ok-seen.ensures.some c.in-Some.witness seen in
    decided_true (SeesSome cs js (live alpha) (at n)) (c.in-Some.witness, one_seen cs js alpha at n c.args.values.now c.args.facts.now its c.in-Some.witness k.0 k.1)

pub returns-in_ok-add-in-None-clause-placed : goal.returns-in_ok-add-in-None-clause-placed
returns-in_ok-add-in-None-clause-placed c js its =
    let cs = c.args.compared.now in
    let alpha = c.args.alpha.now in
    let at = partial_at c.args.lists.now.sources.now c.args.lists.now.lists.now c.args.from in
    let n = c.args.number in
    let w₁ = c.take_out.new.self in
    let seen : c.in_ok-seen.seen ≡ None = search rules in
    let none = none_seen cs js alpha at n c.args.values.now c.args.facts.now its (λ k h. c.in_ok-seen.ensures.none k seen h) in
    let filed = subst (λ (it : List Value). Refiles w₁.unseen c.add-in-None.new.self n (Some it)) c.in_ok-copy-in-None.ensures c.in_ok-add-in-None.ensures.ok in
    placed_at cs js alpha at c.args.self.now w₁ (record w₁ { unseen = c.add-in-None.new.self }) n c.take_out.ensures None (Some c.args.values.now)
    (same_groups cs js alpha at w₁.given n None (c.take_out.ensures.here n (inl refl)).0) filed (sym its.0, none)

pub returns-in_ok-add-in-None-clause-sees : goal.returns-in_ok-add-in-None-clause-sees
returns-in_ok-add-in-None-clause-sees c js its =
    let cs = c.args.compared.now in
    let alpha = c.args.alpha.now in
    let at = partial_at c.args.lists.now.sources.now c.args.lists.now.lists.now c.args.from in
    let n = c.args.number in
    let seen : c.in_ok-seen.seen ≡ None = search rules in
    let none = none_seen cs js alpha at n c.args.values.now c.args.facts.now its (λ k h. c.in_ok-seen.ensures.none k seen h) in
    decided_false (SeesSome cs js (live alpha) (at n)) (λ h. none h.0 h.1)
