-- Patterns of rules that stay in the alpha network.
use Rattle.std.proofs.Common.{◌≡◌, ◌∙◌, ◌<◌, ℕ, List, Option, Some, None, ap, cond, inl, length, refl, subst, sym}
use Rattle.std.specs.List.{slice_get}
use Rattle.cb_alpha.specs.AlphaMemories.{AlphaMemoryValue, Candidates, candidate_in, live, live_in}
use Rattle.cb_alpha.specs.Turning.{AlphaTurns, AreCandidates, HasJoin, IsAlphaOver, is_number}
use Rattle.cb_alpha_network.specs.Networks.{AlphaNetworkValue, AreAlphas, IsShapeAt, IsShapeOf, KeepsFacts, KeepsShapes, MemoryValues, ShapeValues, memory_at, memory_in, shape_in}
use Rattle.cb_alpha_network.specs.declared.node_place.NodePlace.{NodePlace}
use Rattle.cb_alpha_network.specs.declared.user.User.{User}
use Rattle.cb_branch.specs.Branches.{AreTurned, HasAlpha, HasSameAlphas, IsBranchOver, IsEntered, IsUsed}
use Rattle.cb_branch.specs.Alphas.{AlphaUse, HasUsedJoin}
use Rattle.cb_branch.specs.Entries.{node_at}
use Rattle.cb_branch.specs.Alphas.{Facts, live_facts}
use Rattle.cb_branch.specs.declared.branch.Branch.{Branch}
use Rattle.cb_constraints.specs.PatternValues.{PatternValue}
use Rattle.cb_facts.specs.FactLists.{IndexedFacts}
use Rattle.cb_facts.specs.Facts.{FactValue}
use Rattle.cb_fit.specs.declared.join_fields.JoinField.{JoinField}
use Rattle.cb_matches.specs.Chains.{In}
use Rattle.cb_rete.specs.Rules.{AreBranchesEntered, AreBranchesOver}

-- what is there stays where a memory keeps its facts, and so does a join
pub live_kept : (m m' : AlphaMemoryValue) (n : ℕ) → KeepsFacts m m' → live m n ≡ live m' n
live_kept m m' n keeps = sym (ap (λ (o : Option ℕ). live_in m'.candidates o n) keeps.gone ∙ ap (λ (cs : Candidates). live_in cs m.gone n) keeps.candidates)

join_kept : (m m' : AlphaMemoryValue) (j : Option (ℕ × List JoinField)) → ((join : ℕ) (fields : List JoinField) → HasJoin m join fields → HasJoin m' join fields) → HasUsedJoin m j → HasUsedJoin m' j
join_kept m m' None keeps has = tt
join_kept m m' (Some j) keeps has = keeps j.0 j.1 has

-- what is used stays where its shape does, and the facts of its memory
pub used_stays : (v v' : AlphaNetworkValue) (place : NodePlace) (u : AlphaUse) → IsUsed v place u → IsShapeOf v' u.alpha u.pattern place → KeepsFacts (memory_at v u.alpha) (memory_at v' u.alpha) → IsUsed v' place u
used_stays v v' place u used shape keeps = record { shape = shape; joins = join_kept (memory_at v u.alpha) (memory_at v' u.alpha) u.join keeps.joins used.joins }

-- where shapes, their users and joins stay, it does whatever the facts are
pub used_in_change : (v v' : AlphaNetworkValue) (place : NodePlace) (u : AlphaUse) → v'.shapes ≡ v.shapes → v'.users ≡ v.users → ((n : ℕ) → (memory_at v' n).joins ≡ (memory_at v n).joins) → IsUsed v place u
    → IsUsed v' place u
used_in_change v v' place u shapes users joins used = record {
  shape = record {
    shape = ap (λ (ss : ShapeValues). shape_in ss u.alpha) shapes ∙ used.shape.shape;
    used = subst (λ (us : List User). In (record { alpha = u.alpha; place = place }) us) (sym users) used.shape.used;
  };
  joins = join_kept (memory_at v u.alpha) (memory_at v' u.alpha) u.join (λ join fields has. (has.0, ap (λ (js : List (List JoinField)). slice_get js join) (joins u.alpha) ∙ has.1, has.2)) used.joins;
}

-- the nodes of one rule use the shapes that they used, whose memories have the same facts
abbrev pub KeepsRule : ℕ → AlphaNetworkValue → AlphaNetworkValue → Type 0
KeepsRule rule v v' = (n : ℕ) (p : PatternValue) (place : NodePlace) → IsShapeOf v n p place → place.rule ≡ rule → IsShapeOf v' n p place × KeepsFacts (memory_at v n) (memory_at v' n)

pub keeps_all : (rule : ℕ) (v v' : AlphaNetworkValue) → KeepsShapes v v' → KeepsRule rule v v'
keeps_all rule v v' keeps n p place h e = keeps n p place h

module _ {T : Type 0} where
  pub entered_kept : (v v' : AlphaNetworkValue) (rule number : ℕ) (b : Branch T) → KeepsRule rule v v' → IsEntered v rule number b → IsEntered v' rule number b
  entered_kept v v' rule number b keeps entered k u h =
      let used = entered k u h in
      let kept = keeps u.alpha u.pattern (node_at rule number k) used.shape refl in
      used_stays v v' (node_at rule number k) u used kept.0 kept.1

  pub entered_in_change : (v v' : AlphaNetworkValue) (rule number : ℕ) (b : Branch T) → v'.shapes ≡ v.shapes → v'.users ≡ v.users → ((n : ℕ) → (memory_at v' n).joins ≡ (memory_at v n).joins) → IsEntered v rule number b → IsEntered v' rule number b
  entered_in_change v v' rule number b shapes users joins entered k u h = used_in_change v v' (node_at rule number k) u shapes users joins (entered k u h)

  -- another branch that has the same of the network is in it as well
  pub entered_alike : (v : AlphaNetworkValue) (rule number : ℕ) (old new : Branch T) → HasSameAlphas old new → IsEntered v rule number old → IsEntered v rule number new
  entered_alike v rule number old new same entered k u h = entered k u ((same k u).1 h)

  pub branches_kept : (v v' : AlphaNetworkValue) (rule : ℕ) (bs : List (Branch T)) → KeepsRule rule v v' → AreBranchesEntered v rule bs → AreBranchesEntered v' rule bs
  branches_kept v v' rule bs keeps entered j b h = entered_kept v v' rule j b keeps (entered j b h)

  -- what is kept for a branch stays right
  module _ (stays : (facts facts' : Facts) (fs : IndexedFacts) (b : Branch T) → IsBranchOver facts fs b → ((k : ℕ) (u : AlphaUse) → HasAlpha b k u → (n : ℕ) → facts u.alpha n ≡ facts' u.alpha n)
      → IsBranchOver facts' fs b) where
    pub over_kept : (v v' : AlphaNetworkValue) (rule : ℕ) (fs : IndexedFacts) (bs : List (Branch T)) → KeepsRule rule v v' → AreBranchesEntered v rule bs
        → AreBranchesOver (live_facts v.memories) fs bs → AreBranchesOver (live_facts v'.memories) fs bs
    over_kept v v' rule fs bs keeps entered over j b h =
        stays (live_facts v.memories) (live_facts v'.memories) fs b (over j b h)
        (λ k u has n. live_kept (memory_at v u.alpha) (memory_at v' u.alpha) n (keeps u.alpha u.pattern (node_at rule j k) (entered j b h k u has).shape refl).1)

-- a memory to which nothing came and from which nothing went turns to itself
pub rests : (p : PatternValue) (m : AlphaMemoryValue) (fs : IndexedFacts) → IsAlphaOver p fs m → AlphaTurns p m fs fs
rests p m fs over = record {
  was = subst (λ (o : Option ℕ). AreCandidates p fs (were_by m o)) (sym over.none_come) (subst (λ (o : Option ℕ). AreCandidates p fs (live_in m.candidates o)) over.none_gone over.has);
  is = over.has;
  one = over.one;
  apart = λ n c g. let no : None ≡ Some n = sym over.none_come ∙ c in absurd cc;
  single = inl over.none_gone;
}
  where
    were_by : AlphaMemoryValue → Option ℕ → ℕ → Option (ℕ × FactValue)
    were_by m o n = cond (is_number o n) None (candidate_in m.candidates n)

-- the branch's memories turn from the facts to the same facts
pub fill_turned : {T : Type 0} (v : AlphaNetworkValue) (given : MemoryValues) (fs : IndexedFacts) (rule number : ℕ) (b : Branch T) → given ≡ v.memories
    → ((n : ℕ) (p : PatternValue) → IsShapeAt v n p → n < length given) → AreAlphas v fs → IsEntered v rule number b → AreTurned given fs fs b
fill_turned v given fs rule number b is within alphas entered k u h =
    let used = entered k u h in (
      within u.alpha u.pattern used.shape.shape,
      subst (λ ms. AlphaTurns u.pattern (memory_in ms u.alpha) fs fs) (sym is) (rests u.pattern (memory_at v u.alpha) fs (alphas.over u.alpha u.pattern used.shape.shape)),
      subst (λ ms. HasUsedJoin (memory_in ms u.alpha) u.join) (sym is) used.joins,
    )
