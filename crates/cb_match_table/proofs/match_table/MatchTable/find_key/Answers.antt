use Rattle.std.proofs.Common.{◌≡◌, ◌≢◌, ◌∙◌, rules, sym}
use Rattle.std.specs.BTreeMap.{get}
use Rattle.cb_match_index.specs.MatchIndices.{kept_at}
use Rattle.cb_match_table.proofs.EntriesLeft.{left_all, left_here, left_less, left_none}
use Rattle.cb_match_table.proofs.Equality.{key-Decides}
use Rattle.cb_match_table.proofs.FilingLaws.{found_key, found_none}
use Rattle.cb_matches.specs.Keys.{key_cmp}
use Rattle.cb_match_table.proofs.match_table.MatchTable.find_key.Goals as goal

pub loop-place-init : goal.loop-place-init
loop-place-init g c = (
  tt,
  tt,
  left_all c.self.inside.entries c.args.self.now c.into_iter-place-iterator.result c.args.key.now c.self.view_is (c.into_iter-place-iterator.ensures.into_iter_gives ∙ c.iter-place-items.ensures.rest),
)

pub loop-place-preserved : goal.loop-place-preserved
loop-place-preserved g c =
    let apart : c.in-Some.entry.now.key ≢ c.args.key.now = λ same. cc (c.eq.ensures, c.if-eq.false, (key-Decides c.in-Some.entry.now.key c.args.key.now).1 same) in
    (tt, tt, left_less c.args.self.now c.loop-place.place-iterator c.next.new.self (c.in-Some.place, c.in-Some.entry.now) c.args.key.now c.in-Some.ensures.steps apart c.loop-place.invariant.2)

pub returns-then-eq : goal.returns-then-eq
returns-then-eq g c =
    let own = c.self.inside in
    let same : c.in-Some.entry.now.key ≡ c.args.key.now = (key-Decides c.in-Some.entry.now.key c.args.key.now).0 (sym c.eq.ensures ∙ c.if-eq.true) in
    let there = left_here c.args.self.now c.loop-place.place-iterator c.next.new.self (c.in-Some.place, c.in-Some.entry.now) c.args.key.now c.in-Some.ensures.steps same c.loop-place.invariant.2 in
    found_key (kept_at own.filed) (get key_cmp own.aside) own.entries.slots c.args.self.now c.self.view_is c.self.invariant c.args.key.now c.in-Some.place there

pub returns : goal.returns
returns g c =
    found_none c.args.self.now c.args.key.now (left_none c.args.self.now c.loop-place.place-iterator c.args.key.now (search rules) c.loop-place.invariant.2)
