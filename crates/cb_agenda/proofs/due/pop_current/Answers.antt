use Rattle.std.proofs.Common.{◌≡◌, ℕ, None, Some, rules, subst, sym, ◌∙◌}
use Rattle.cb_agenda.proofs.CurrentLaws.{key_of}
use Rattle.cb_agenda.proofs.DueLaws.{current_left, filed_left, stale_left, stamped_left}
use Rattle.cb_number_map.proofs.Filed.{some_none}
use Rattle.cb_agenda.specs.Agendas.{Entries, top_of}
use Rattle.cb_agenda.specs.Internal.{IsFiled, IsNext, IsStampedUpTo, KeepsNames, Placed, current, active_at, left_and_key}
use Rattle.cb_agenda.specs.declared.rank.Rank.{Rank}
use Rattle.cb_match_table.specs.MatchTables.{Held}
use Rattle.cb_agenda.proofs.due.pop_current.Goals as goal

pub returns-in-Some-take-clause-filed : goal.returns-in-Some-take-clause-filed
returns-in-Some-take-clause-filed c =
    let st = c.args.strategy in
    let es = c.loop-rank.lanes in
    let fs = c.pop.new.self in
    let find = active_at c.loop-rank.activations in
    let inv = c.loop-rank.invariant in
    let x : Placed = (c.in-Some.rank, c.in-Some.place) in
    let next : IsNext st es x fs = c.in-Some.ensures.some in
    let found = active_at c.take.new.activations in
    let k = c.in-Some-take.key in
    let there : key_of find x ≡ Some k = sym c.take.ensures.before ∙ c.in-Some-take.is in
    let change = c.take.ensures.some (λ e. some_none c.take.result c.in-Some-take.is e) in
    filed_left st es fs x k next find found inv.0 there change

pub returns-in-Some-take-clause-left : goal.returns-in-Some-take-clause-left
returns-in-Some-take-clause-left c =
    let st = c.args.strategy in
    let es = c.loop-rank.lanes in
    let fs = c.pop.new.self in
    let find = active_at c.loop-rank.activations in
    let inv = c.loop-rank.invariant in
    let x : Placed = (c.in-Some.rank, c.in-Some.place) in
    let next : IsNext st es x fs = c.in-Some.ensures.some in
    let found = active_at c.take.new.activations in
    let k = c.in-Some-take.key in
    let there : key_of find x ≡ Some k = sym c.take.ensures.before ∙ c.in-Some-take.is in
    let change = c.take.ensures.some (λ e. some_none c.take.result c.in-Some-take.is e) in
    subst (λ (d : Entries). left_and_key d (top_of st d) ≡ (current found fs, Some k)) inv.1 (current_left st es fs x k next find found inv.0 there change)

pub returns-in-Some-take-clause-stamped : goal.returns-in-Some-take-clause-stamped
returns-in-Some-take-clause-stamped c = λ n h.
    let st = c.args.strategy in
    let es = c.loop-rank.lanes in
    let fs = c.pop.new.self in
    let find = active_at c.loop-rank.activations in
    let inv = c.loop-rank.invariant in
    let x : Placed = (c.in-Some.rank, c.in-Some.place) in
    let next : IsNext st es x fs = c.in-Some.ensures.some in
    stamped_left st es fs x next n (inv.2 n h)

pub loop-rank-preserved : goal.loop-rank-preserved
loop-rank-preserved c =
    let st = c.args.strategy in
    let es = c.loop-rank.lanes in
    let fs = c.pop.new.self in
    let find = active_at c.loop-rank.activations in
    let inv = c.loop-rank.invariant in
    let x : Placed = (c.in-Some.rank, c.in-Some.place) in
    let next : IsNext st es x fs = c.in-Some.ensures.some in
    let none : c.take.result ≡ None = search rules in
    let same : c.take.new.activations ≡ c.loop-rank.activations = c.take.ensures.none none in
    let stale : key_of find x ≡ None = sym c.take.ensures.before ∙ none in
    let out = stale_left st es fs x next find inv.0 stale in
    subst (λ (held : Held Rank). IsFiled fs (active_at held) × (current (active_at held) fs ≡ current (active_at c.args.activations.now) c.args.lanes.now) × ((n : ℕ) → IsStampedUpTo n c.args.lanes.now → IsStampedUpTo n fs) × KeepsNames c.args.activations.now held) (sym same)
    (out.1, out.0 ∙ inv.1, λ n h. stamped_left st es fs x next n (inv.2 n h), inv.3)

pub returns-in-Some-take-clause-names : goal.returns-in-Some-take-clause-names
returns-in-Some-take-clause-names c = λ i m h. c.loop-rank.invariant.3 i m (c.take.ensures.names i m h)

pub returns-clause-names : goal.returns-clause-names
returns-clause-names c = c.loop-rank.invariant.3
