use Rattle.std.proofs.Common.{◌≡◌, ◌<◌, ◌∙◌, ℕ, List, Some, length, sym, ap, arith}
use Rattle.std.specs.BTreeMap as tree
use Rattle.std.specs.BTreeMap.{BTreeMap}
use Rattle.std.specs.Cmp.Lexicographic.{slice_cmp}
use Rattle.std.specs.Ordering.{nat_cmp}
use Rattle.cb_exprs.specs.GlobalTerms.{GlobalTerm}
use Rattle.cb_knowledge_base.proofs.GlobalLaws.{found_replaced, replaced, within}
use Rattle.cb_knowledge_base.proofs.globals.GlobalTable.define.Goals as goal
use Rattle.cb_knowledge_base.specs.Globals.{with_initial}
use Rattle.cb_knowledge_base.specs.Internal.GlobalPlaces.{AreFound, place_of_global}

found : (places : BTreeMap (List ℕ) ℕ) (g : GlobalTerm) (hs : List GlobalTerm) (name : List ℕ) (i : ℕ) → AreFound places hs → name ≡ g.0 → Some i ≡ tree.get (slice_cmp nat_cmp) places name
    → place_of_global g.0 hs ≡ Some i
found places g hs name i all same there = sym (all g.0) ∙ (ap (tree.get (slice_cmp nat_cmp) places) (sym same) ∙ sym there)

pub index_mut-requires : goal.index_mut-requires
index_mut-requires c =
    let is = found c.self.inside.places c.args.global c.self.inside.globals.items _ c.in-Some.place.now c.self.invariant c.name.ensures c.in-Some.ensures.value in
    let below : c.in-Some.place.now < length c.self.inside.globals.items = within c.args.global.0 c.self.inside.globals.items c.in-Some.place.now is in
    omega (arith, c.self.inside.globals.ok.0, below)

pub invariant_of-self : goal.invariant_of-self
invariant_of-self c =
    let is = found c.self.inside.places c.args.global c.self.inside.globals.items _ c.in-Some.place.now c.self.invariant c.name.ensures c.in-Some.ensures.value in
    found_replaced c.self.inside.places c.args.global c.self.inside.globals.items c.in-Some.place.now c.self.invariant is

pub returns-in-Some : goal.returns-in-Some
returns-in-Some c =
    let is = found c.self.inside.places c.args.global c.self.inside.globals.items _ c.in-Some.place.now c.self.invariant c.name.ensures c.in-Some.ensures.value in
    sym (replaced c.args.global c.self.inside.globals.items c.in-Some.place.now is) ∙ ap (with_initial c.args.global) c.self.view_is
