use Rattle.std.proofs.Common.{◌≡◌, Err, Ok, OnOk, Result, Some, arith, slice_get, subst, sym}
use Rattle.cb_alpha.specs.AlphaMemories.{AlphaMemoryValue}
use Rattle.cb_beta.proofs.Losses.{on_ok}
use Rattle.cb_branch.proofs.Changed.{Changes, Pays, group_changed, join_changed, join_pays, lone_changed, lookup_changed, never_join, never_lone, never_lookup, test_changed}
use Rattle.cb_branch.proofs.JoinKind.{join_same}
use Rattle.cb_branch.proofs.LookupKind.{lookup_same}
use Rattle.cb_branch.specs.Turning.{IsSameNode}
use Rattle.cb_branch.specs.declared.node.Node.{Node}
use Rattle.cb_branch.specs.declared.node.Node.TheVariants as kept
use Rattle.cb_token_lists.proofs.Down.{got}
use Rattle.cb_branch.proofs.one_node.change_node.Goals as goal

on_both : {A E P Q R : Type 0} (r : Result A E) → (P → Q → R) → OnOk r P → OnOk r Q → OnOk r R
on_both (Ok a) f h k = f h k
on_both (Err e) f h k = h

pub returns-in_default-clause-after : goal.returns-in_default-clause-after
returns-in_default-clause-after g c =
    let look = c.in_default.ensures.lookup in
    let this : Node g.row.T.Denot = kept.Join c.in-Join.alpha c.in-Join.node in
    subst (λ (n : Node g.row.T.Denot). Changes c.args.alphas.now c.args.lists.now.sources.now c.args.lists.now.lists.now c.args.own.now n this c.args.own.now) (sym c.in-Join.is)
    (never_join c.args.alphas.now c.args.lists.now.sources.now c.args.lists.now.lists.now c.args.own.now c.in-Join.alpha c.in-Join.node this c.args.own.now
    (λ l. omega (arith, l, look.3)))

pub returns-in_default-get-clause-after : goal.returns-in_default-get-clause-after
returns-in_default-get-clause-after g c =
    let look = c.in_default-get.ensures.lookup in
    let this : Node g.row.T.Denot = kept.Lone c.in-Lone.alpha c.in-Lone.node in
    subst (λ (n : Node g.row.T.Denot). Changes c.args.alphas.now c.args.lists.now.sources.now c.args.lists.now.lists.now c.args.own.now n this c.args.own.now) (sym c.in-Lone.is)
    (never_lone c.args.alphas.now c.args.lists.now.sources.now c.args.lists.now.lists.now c.args.own.now c.in-Lone.alpha c.in-Lone.node this c.args.own.now
    (λ l. omega (arith, l, look.3)))

pub returns-in-Some-clause-same : goal.returns-in-Some-clause-same
returns-in-Some-clause-same g c =
    subst (λ (n : Node g.row.T.Denot). IsSameNode n (kept.Join c.in-Join.alpha c.change.new.self)) (sym c.in-Join.is)
    (join_same c.in-Join.alpha c.in-Join.node c.change.new.self c.change.ensures.same)

pub returns-in-Some-clause-after : goal.returns-in-Some-clause-after
returns-in-Some-clause-after g c =
    let alphas = c.args.alphas.now in
    let sources = c.args.lists.now.sources.now in
    let read = c.args.lists.now.lists.now in
    let a : AlphaMemoryValue = c.in-Some.memory.now in
    let look = c.in-Some.ensures.lookup in
    let memory : slice_get alphas c.in-Join.alpha ≡ Some a = got alphas c.in-Join.alpha a look.3.0 (look.3.1 a) in
    on_both c.change.result
    (λ after keeps. subst (λ (n : Node g.row.T.Denot). Changes alphas sources read c.args.own.now n (kept.Join c.in-Join.alpha c.change.new.self) c.change.new.own) (sym c.in-Join.is)
    (join_changed alphas sources read c.args.own.now c.in-Join.alpha c.in-Join.node a memory c.change.new.self c.change.new.own c.change.ensures.same after keeps))
    c.change.ensures.after c.change.ensures.keeps

pub returns-in-Some-clause-probes : goal.returns-in-Some-clause-probes
returns-in-Some-clause-probes g c =
    let alphas = c.args.alphas.now in
    let sources = c.args.lists.now.sources.now in
    let read = c.args.lists.now.lists.now in
    let a : AlphaMemoryValue = c.in-Some.memory.now in
    let look = c.in-Some.ensures.lookup in
    let memory : slice_get alphas c.in-Join.alpha ≡ Some a = got alphas c.in-Join.alpha a look.3.0 (look.3.1 a) in
    on_ok c.change.result
    (λ pays. subst (λ (n : Node g.row.T.Denot). Pays alphas sources read c.args.own.now n c.args.meter.now c.change.new.meter) (sym c.in-Join.is)
    (join_pays alphas sources read c.args.own.now c.in-Join.alpha c.in-Join.node a memory c.args.meter.now c.change.new.meter pays))
    c.change.ensures.probes

pub returns-in-Test-clause-after : goal.returns-in-Test-clause-after
returns-in-Test-clause-after g c =
    let alphas = c.args.alphas.now in
    let sources = c.args.lists.now.sources.now in
    let read = c.args.lists.now.lists.now in
    on_both c.change_test.result
    (λ after keeps. subst (λ (n : Node g.row.T.Denot). Changes alphas sources read c.args.own.now n (kept.Test c.in-Test.from c.in-Test.test) c.change_test.new.own) (sym c.in-Test.is)
    (test_changed alphas sources read c.args.own.now c.in-Test.from c.in-Test.test c.change_test.new.own after keeps))
    c.change_test.ensures.after c.change_test.ensures.keeps

pub returns-in-Group-clause-after : goal.returns-in-Group-clause-after
returns-in-Group-clause-after g c =
    let alphas = c.args.alphas.now in
    let sources = c.args.lists.now.sources.now in
    let read = c.args.lists.now.lists.now in
    let it = c.change-in-Group in
    on_both it.result
    (λ after keeps. subst (λ (n : Node g.row.T.Denot). Changes alphas sources read c.args.own.now n (kept.Group c.in-Group.width it.new.self) it.new.own) (sym c.in-Group.is)
    (group_changed alphas sources read c.args.own.now c.in-Group.width c.in-Group.node it.new.self it.new.own it.ensures.from it.ensures.inner it.ensures.positive after keeps))
    it.ensures.after it.ensures.keeps

pub returns-in-Some-get-clause-after : goal.returns-in-Some-get-clause-after
returns-in-Some-get-clause-after g c =
    let alphas = c.args.alphas.now in
    let sources = c.args.lists.now.sources.now in
    let read = c.args.lists.now.lists.now in
    let a : AlphaMemoryValue = c.in-Some-get.memory.now in
    let look = c.in-Some-get.ensures.lookup in
    let memory : slice_get alphas c.in-Lone.alpha ≡ Some a = got alphas c.in-Lone.alpha a look.3.0 (look.3.1 a) in
    let it = c.change-in-Lone in
    on_both it.result
    (λ after keeps. subst (λ (n : Node g.row.T.Denot). Changes alphas sources read c.args.own.now n (kept.Lone c.in-Lone.alpha it.new.self) it.new.own) (sym c.in-Lone.is)
    (lone_changed alphas sources read c.args.own.now c.in-Lone.alpha c.in-Lone.node a memory it.new.self it.new.own it.ensures.from it.ensures.positive it.ensures.pattern after keeps))
    it.ensures.after it.ensures.keeps

pub returns-in_default-get-2-clause-after : goal.returns-in_default-get-2-clause-after
returns-in_default-get-2-clause-after g c =
    let look = c.in_default-get-2.ensures.lookup in
    let this : Node g.row.T.Denot = kept.Lookup c.in-Lookup.alpha c.in-Lookup.node in
    subst (λ (n : Node g.row.T.Denot). Changes c.args.alphas.now c.args.lists.now.sources.now c.args.lists.now.lists.now c.args.own.now n this c.args.own.now) (sym c.in-Lookup.is)
    (never_lookup c.args.alphas.now c.args.lists.now.sources.now c.args.lists.now.lists.now c.args.own.now c.in-Lookup.alpha c.in-Lookup.node this c.args.own.now
    (λ l. omega (arith, l, look.3)))

pub returns-in-Some-get-2-clause-same : goal.returns-in-Some-get-2-clause-same
returns-in-Some-get-2-clause-same g c =
    let it = c.change-in-Lookup in
    subst (λ (n : Node g.row.T.Denot). IsSameNode n (kept.Lookup c.in-Lookup.alpha it.new.self)) (sym c.in-Lookup.is)
    (lookup_same c.in-Lookup.alpha c.in-Lookup.node it.new.self it.ensures.same)

pub returns-in-Some-get-2-clause-after : goal.returns-in-Some-get-2-clause-after
returns-in-Some-get-2-clause-after g c =
    let alphas = c.args.alphas.now in
    let sources = c.args.lists.now.sources.now in
    let read = c.args.lists.now.lists.now in
    let a : AlphaMemoryValue = c.in-Some-get-2.memory.now in
    let look = c.in-Some-get-2.ensures.lookup in
    let memory : slice_get alphas c.in-Lookup.alpha ≡ Some a = got alphas c.in-Lookup.alpha a look.3.0 (look.3.1 a) in
    let it = c.change-in-Lookup in
    on_both it.result
    (λ after keeps. subst (λ (n : Node g.row.T.Denot). Changes alphas sources read c.args.own.now n (kept.Lookup c.in-Lookup.alpha it.new.self) it.new.own) (sym c.in-Lookup.is)
    (lookup_changed alphas sources read c.args.own.now c.in-Lookup.alpha c.in-Lookup.node a memory it.new.self it.new.own it.ensures.same after keeps))
    it.ensures.after it.ensures.keeps
