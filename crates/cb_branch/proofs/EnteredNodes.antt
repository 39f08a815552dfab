-- Nodes whose patterns stand in the alpha network, while others are entered and taken out.
use Rattle.std.proofs.Common.{◌≡◌, ◌≢◌, ◌≤◌, ◌<◌, ◌+◌, ◌∙◌, ℕ, List, ap, arith, length, refl, subst, sym}
use Rattle.cb_alpha.specs.AlphaMemories.{AlphaMemoryValue}
use Rattle.cb_alpha_network.specs.Networks.{AlphaNetworkValue, AreAlphas, AreAtRest, IsShapeOf, KeepsFacts, KeepsShapes, KeepsShapesBut, memory_at, use_count}
use Rattle.cb_alpha_network.specs.declared.node_place.NodePlace.{NodePlace}
use Rattle.cb_alpha_network.specs.declared.user.User.{User}
use Rattle.cb_branch.proofs.JoinAsked.{found_still}
use Rattle.cb_branch.specs.Entries.{GainsPatterns, IsNodeEntered, KeepsShapesElsewhere, node_at}
use Rattle.cb_branch.specs.declared.node.Node.{Node}
use Rattle.cb_branch.specs.declared.node.Node.TheVariants as kept
use Rattle.cb_constraints.specs.PatternValues.{PatternValue}
use Rattle.cb_facts.specs.FactLists.{IndexedFacts}

-- ---- memories

pub facts_same : (m n : AlphaMemoryValue) → n ≡ m → KeepsFacts m n
facts_same m n e = subst (KeepsFacts m) (sym e) (record { candidates = refl; gone = refl; come = refl; joins = λ join fields has. has })

facts_then : (l m n : AlphaMemoryValue) → KeepsFacts l m → KeepsFacts m n → KeepsFacts l n
facts_then l m n a b = record {
  candidates = b.candidates ∙ a.candidates;
  gone = b.gone ∙ a.gone;
  come = b.come ∙ a.come;
  joins = λ join fields has. b.joins join fields (a.joins join fields has);
}

stay_then : (u v w : AlphaNetworkValue) → KeepsShapes u v → KeepsShapes v w → KeepsShapes u w
stay_then u v w a b n p place h =
    let i = a n p place h in
    let j = b n p place i.0 in
    (j.0, facts_then (memory_at u n) (memory_at v n) (memory_at w n) i.1 j.1)

-- ---- patterns that are entered one after another

pub gains_none : (fs : IndexedFacts) (v : AlphaNetworkValue) → AreAtRest v.memories → GainsPatterns fs 0 v v
gains_none fs v rest = record {
  stay = λ n p place h. (h, facts_same (memory_at v n) (memory_at v n) refl);
  rest = rest;
  alphas = λ are. are;
  count = omega (arith);
}

pub gains_then : (fs : IndexedFacts) (i j k : ℕ) (u v w : AlphaNetworkValue) → k ≡ i + j → GainsPatterns fs i u v → GainsPatterns fs j v w → GainsPatterns fs k u w
gains_then fs i j k u v w sum a b = record {
  stay = stay_then u v w a.stay b.stay;
  rest = b.rest;
  alphas = λ are. b.alphas (a.alphas are);
  count = let m = a.count in let n = b.count in omega (arith, sum, m, n);
}

-- a join more needs no place
pub gains_joined : (fs : IndexedFacts) (u v w : AlphaNetworkValue) → KeepsShapes u v → use_count v ≤ use_count u + 1 → (AreAlphas u fs → AreAlphas v fs) → KeepsShapes v w → w.users ≡ v.users
    → AreAtRest w.memories → (AreAlphas v fs → AreAlphas w fs) → GainsPatterns fs 1 u w
gains_joined fs u v w stay few alphas stay' users rest alphas' = record {
  stay = stay_then u v w stay stay';
  rest = rest;
  alphas = λ are. alphas' (alphas are);
  count = let e = ap (λ (us : List User). length us) users in omega (arith, e, few);
}

-- ---- patterns that are taken out

-- those stay that are at no place before a number
abbrev pub KeepsShapesFrom : ℕ → ℕ → ℕ → AlphaNetworkValue → AlphaNetworkValue → Type 0
KeepsShapesFrom rule branch i old new =
    (n : ℕ) (p : PatternValue) (place : NodePlace) → IsShapeOf old n p place → ((k : ℕ) → k < i → place ≢ node_at rule branch k) → IsShapeOf new n p place × (memory_at new n ≡ memory_at old n)

other_place : (rule branch i k : ℕ) → k < i → node_at rule branch i ≢ node_at rule branch k
other_place rule branch i k l e = let same : i ≡ k = ap (λ (it : NodePlace). it.node) e in absurd (omega (arith, l, same))

pub kept_more : (rule branch i : ℕ) (u v w : AlphaNetworkValue) → KeepsShapesFrom rule branch i u v → KeepsShapesBut (node_at rule branch i) v w → KeepsShapesFrom rule branch (i + 1) u w
kept_more rule branch i u v w keeps but n p place h apart =
    let a = keeps n p place h (λ k l. apart k (omega (arith, l))) in
    let b = but n p place a.0 (apart i (omega (arith))) in
    (b.0, b.1 ∙ a.1)

pub kept_elsewhere : (rule branch i : ℕ) (u v : AlphaNetworkValue) → KeepsShapesFrom rule branch i u v → KeepsShapesElsewhere rule branch u v
kept_elsewhere rule branch i u v keeps n p place h apart = keeps n p place h (λ k l e. apart (ap (λ (it : NodePlace). it.rule) e) (ap (λ (it : NodePlace). it.branch) e))

-- ---- nodes

module _ {T : Type 0} where
  -- what is entered is, where its shape and the facts of its memory stay
  entered_by : (u v : AlphaNetworkValue) (place : NodePlace) (node : Node T) → ((n : ℕ) (p : PatternValue) → IsShapeOf u n p place → IsShapeOf v n p place × KeepsFacts (memory_at u n) (memory_at v n))
      → IsNodeEntered u place node → IsNodeEntered v place node
  entered_by u v place (kept.Join alpha node) same h = let i = same alpha node.asked.pattern h.0 in (i.0, found_still (memory_at u alpha) (memory_at v alpha) node.join node.asked.fields.items i.1.joins h.1)
  entered_by u v place (kept.Test from test) same h = tt
  entered_by u v place (kept.Group width node) same h = tt
  entered_by u v place (kept.Lone alpha node) same h = (same alpha node.pattern h).0
  entered_by u v place (kept.Lookup alpha node) same h = let i = same alpha node.pattern h.0 in (i.0, i.1.joins node.join node.fields.items h.1)

  pub entered_still : (u v : AlphaNetworkValue) (place : NodePlace) (node : Node T) → KeepsShapes u v → IsNodeEntered u place node → IsNodeEntered v place node
  entered_still u v place node keeps h = entered_by u v place node (λ n p i. keeps n p place i) h

  pub entered_before : (rule branch i : ℕ) (u v : AlphaNetworkValue) (node : Node T) → KeepsShapesFrom rule branch i u v → IsNodeEntered u (node_at rule branch i) node
      → IsNodeEntered v (node_at rule branch i) node
  entered_before rule branch i u v node keeps h =
      entered_by u v (node_at rule branch i) node
      (λ n p is. let k = keeps n p (node_at rule branch i) is (λ k l. other_place rule branch i k l) in (k.0, facts_same (memory_at u n) (memory_at v n) k.1)) h
