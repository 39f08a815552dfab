-- What is told of keys: those that went and those that came, and all of them.
use Rattle.std.proofs.Common.{◌≡◌, ◌≢◌, ◌∙◌, ◌++◌, ℕ, List, [], ◌∷◌, ap, inl, inr, map, refl, subst, sym}
use Rattle.std.proofs.lemmas.List.Sorted.{IsPermutation-map}
use Rattle.std.specs.List.Sorted.{IsPermutation, IsSorted}
use Rattle.cb_beta.specs.BetaMemories.{AreLiveNumbers, BetaMemoryValue}
use Rattle.cb_branch_end.proofs.KeyOrder.{keys_in_order, one_sorted, sorted_come}
use Rattle.cb_branch_end.specs.Internal.{AddsInOrder}
use Rattle.cb_branch_end.specs.TellingKeys.{AreApart, Tells, key_of}
use Rattle.cb_matches.proofs.Lists.{in_map, map_in}
use Rattle.cb_matches.specs.Chains.{AreSame, Chain, In}
use Rattle.cb_matches.specs.Keys.{KeyValue, key_cmp}
use Rattle.cb_matches.specs.Matches.{Partial}
use Rattle.cb_matches.specs.Order.{IsSorted as IsSortedPartials}
use Rattle.cb_matches.specs.declared.delta.Delta.{Delta}
use Rattle.cb_nodes.proofs.Moves.{swapped}
use Rattle.cb_nodes.specs.Changes.{parts_of_partial}
use Rattle.cb_token_lists.proofs.Told.{come_told_once, gone_told_once, told}
use Rattle.cb_token_lists.specs.Turns.{IsThere, StandFor, Turns}

-- the keys of tokens, in the order of keys, stand behind those that were there
pub record AddsKeys (ks old new : List KeyValue) : Type 0 where
  pub more : List KeyValue
  pub is : new ≡ old ++ more
  pub permutes : IsPermutation ks more
  pub sorted : IsSorted key_cmp more

pub adds_keys : (key : ℕ → KeyValue) (ns : List ℕ) (old new : List KeyValue) (was now : List ℕ) → AddsInOrder key ns old new was now → AddsKeys (map key ns) old new
adds_keys key ns old new was now adds = record { more = map key adds.more; is = adds.is; permutes = IsPermutation-map key ns adds.more adds.permutes; sorted = adds.sorted }

module _ (rule branch : ℕ) (at : ℕ → Partial) (m : BetaMemoryValue) where
  abbrev key : ℕ → KeyValue
  key n = key_of rule branch (at n)

  mapped : (ns : List ℕ) → map key ns ≡ map (key_of rule branch) (map at ns)
  mapped [] = refl
  mapped (n ∷ ns) = ap (λ it. key n ∷ it) (mapped ns)

  -- the keys of what went and of what came
  pub tells : (old new : List Partial) → Turns at m old new → IsSortedPartials old → IsSortedPartials new → (delta delta' : Delta) → AddsKeys (map key m.gone) delta.gone.items delta'.gone.items
      → AddsKeys (map key m.come) delta.come.items delta'.come.items → Tells delta delta' (map (key_of rule branch) old) (map (key_of rule branch) new)
  tells old new turns old_sorted new_sorted delta delta' gone come =
      let moves = told at m old new turns in record {
        gone = gone.is ∙ ap (λ it. delta.gone.items ++ it)
            (sorted_come rule branch new old (map at m.come) (map at m.gone) gone.more old_sorted (swapped parts_of_partial old new (map at m.gone) (map at m.come) moves)
            (gone_told_once at m old new turns) (subst (λ ks. IsPermutation ks gone.more) (mapped m.gone) gone.permutes) gone.sorted);
        come = come.is ∙ ap (λ it. delta.come.items ++ it)
            (sorted_come rule branch old new (map at m.gone) (map at m.come) come.more new_sorted moves
            (come_told_once at m old new turns) (subst (λ ks. IsPermutation ks come.more) (mapped m.come) come.permutes) come.sorted);
      }

  -- tokens of which no two have the same parts have keys none of which is there twice
  keys_apart : AreApart at m → (ns : List ℕ) → Chain (λ (i : ℕ) (j : ℕ). i ≢ j) ns → ((i : ℕ) → In i ns → IsThere m i) → Chain (λ (k : KeyValue) (l : KeyValue). k ≢ l) (map key ns)
  keys_apart apart [] once there = tt
  keys_apart apart (n ∷ ns) once there = (
    λ z h e. let j = in_map key z ns h in once.0 j.0 j.1 (apart n j.0 (there n (inl refl)) (there j.0 (inr j.1)) (ap (λ (it : KeyValue). it.parts) (e ∙ j.2))),
    keys_apart apart ns once.1 (λ i h. there i (inr h)),
  )

  -- all keys
  pub all_told : (ns : List ℕ) (ms : List Partial) (old new : List KeyValue) → AreLiveNumbers m ns → StandFor at (IsThere m) ms → AreApart at m → IsSortedPartials ms
      → AddsKeys (map key ns) old new → new ≡ old ++ map (key_of rule branch) ms
  all_told ns ms old new live stand apart sorted adds =
      adds.is
      ∙ ap (λ it. old ++ it)
      (one_sorted (map key ns) adds.more (map (key_of rule branch) ms) adds.permutes adds.sorted (keys_apart apart ns live.once live.are) same (keys_in_order rule branch ms sorted))
    where
      same : AreSame (map key ns) (map (key_of rule branch) ms)
      same = (
        λ k h. let n = in_map key k ns h in
            subst (λ it. In it (map (key_of rule branch) ms)) (sym n.2) (map_in (key_of rule branch) ms (at n.0) (stand.to n.0 (live.are n.0 n.1))),
        λ k h. let x = in_map (key_of rule branch) k ms h in
            let n = stand.from x.0 x.1 in
            subst (λ it. In it (map key ns)) (sym (x.2 ∙ ap (key_of rule branch) n.2)) (map_in key ns n.0 (live.all n.0 n.1.0 n.1.1)),
      )
