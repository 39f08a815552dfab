-- The numbers of the matches of a branch in a change: those of the tokens at its end.
use Rattle.std.proofs.Common.{◌≡◌, ◌∙◌, ◌≤◌, ℕ, suc, List, [], ◌∷◌, Option, Some, ap, arith, length, map, slice_get, subst, sym}
use Rattle.cb_beta.proofs.Live.{there_is}
use Rattle.cb_beta.specs.BetaMemories.{BetaMemoryValue}
use Rattle.cb_branch.proofs.AtEnd.{at_last}
use Rattle.cb_branch.proofs.Matched.{last_within}
use Rattle.cb_branch.specs.Alphas.{Facts}
use Rattle.cb_branch.specs.Branches.{IsBranchOver, branch_numbers, end_numbers}
use Rattle.cb_branch.specs.Internal.{IsEndOf}
use Rattle.cb_branch.specs.declared.branch.Branch.{Branch}
use Rattle.cb_branch_end.specs.TellingKeys.{IsTokenOf, TellsTokens, at_end}
use Rattle.cb_branch_end.specs.declared.branch_end.BranchEnd.{BranchEnd}
use Rattle.cb_list_changes.proofs.Ends.{alike_then}
use Rattle.cb_facts.specs.FactLists.{IndexedFacts}
use Rattle.cb_list_changes.proofs.Places.{at_place, at_same}
use Rattle.cb_list_changes.proofs.Relying.{alike_was}
use Rattle.cb_list_changes.specs.Halfway.{AreHalfway}
use Rattle.cb_list_changes.specs.Resting.{AreEnded, AreResting}
use Rattle.cb_matches.proofs.Lists.{in_map, map_in}
use Rattle.cb_matches.specs.Chains.{In}
use Rattle.cb_matches.specs.Changes.{AddsNumbers, HaveNumbers, IsNumber, Numbers, TellsMoreNumbers}
use Rattle.cb_matches.specs.Keys.{KeyValue}
use Rattle.cb_matches.specs.Matches.{Partial}
use Rattle.cb_matches.specs.declared.delta.Delta.{Delta}
use Rattle.cb_nodes.specs.Flat.{Lists}
use Rattle.cb_rule_keys.specs.Keys.{key_of}
use Rattle.cb_token_lists.proofs.Told.{in_numbers, numbers_in}
use Rattle.cb_token_lists.specs.Keeping.{AreAlike}
use Rattle.cb_token_lists.specs.Partials.{SourceValue, partial_at}
use Rattle.cb_token_lists.specs.Turns.{IsThere, Turns, WasThere, numbers}

-- numbers that are those of one relation are those of a weaker one
pub have_more : (Has Other : KeyValue → ℕ → Type 0) → ((k : KeyValue) (n : ℕ) → Has k n → Other k n) → (ks : List KeyValue) (ns : List ℕ) → HaveNumbers Has ks ns → HaveNumbers Other ks ns
have_more Has Other weaker [] [] h = tt
have_more Has Other weaker [] (n ∷ ns) h = h
have_more Has Other weaker (k ∷ ks) [] h = h
have_more Has Other weaker (k ∷ ks) (n ∷ ns) h = (weaker k n h.0, have_more Has Other weaker ks ns h.1)

-- the numbers at an end are those of the tokens that are there
module _ (rule number : ℕ) (at : ℕ → Partial) (o : Option BetaMemoryValue) (m : BetaMemoryValue) (is : o ≡ Some m) where
  abbrev keyed : ℕ → KeyValue × ℕ
  keyed i = (key_of rule number (at i), i)

  pub has_number : (i : ℕ) → IsThere m i → IsNumber (end_numbers rule number at o) (key_of rule number (at i)) i
  has_number i there = subst (λ it. In (keyed i) (end_numbers rule number at it)) (sym is) (map_in keyed (numbers m) i (numbers_in m i there))

  pub is_token : (k : KeyValue) (n : ℕ) → IsNumber (end_numbers rule number at o) k n → IsThere m n × (k ≡ key_of rule number (at n))
  is_token k n h =
      let own : In (k, n) (map keyed (numbers m)) = subst (λ it. In (k, n) (end_numbers rule number at it)) is h in
      let j = in_map keyed (k, n) (numbers m) own in
      let e : n ≡ j.0 = ap (λ (p : KeyValue × ℕ). p.1) j.2 in
      (subst (IsThere m) (sym e) (in_numbers m j.0 j.1), ap (λ (p : KeyValue × ℕ). p.0) j.2 ∙ ap (λ (i : ℕ). key_of rule number (at i)) (sym e))

-- in a change of all lists
module _ (sources : List SourceValue) (before lists ended : List BetaMemoryValue) (old new : Lists) (k : ℕ) (rest : AreResting sources before old) (half : AreHalfway sources before lists old new k)
    (short : length lists ≤ suc k) (ends : AreEnded lists ended) (rule number last : ℕ) (m : BetaMemoryValue) (is : slice_get lists last ≡ Some m)
    (turns : Turns (partial_at sources lists last) m (old last) (new last)) where
  abbrev at : List BetaMemoryValue → ℕ → Partial
  at ls = partial_at sources ls last

  abbrev numbers_in_list : List BetaMemoryValue → Numbers
  numbers_in_list ls = end_numbers rule number (at ls) (slice_get ls last)

  first : (m' : BetaMemoryValue) × (slice_get before last ≡ Some m')
  first = at_same lists before last m (sym half.long) is

  final : (m' : BetaMemoryValue) × (slice_get ended last ≡ Some m')
  final = at_same lists ended last m ends.long is

  was : AreAlike (at before) (at lists) (IsThere first.0) (WasThere m)
  was = alike_was sources before lists old new k rest half last first.0 m first.1 is

  then : AreAlike (at lists) (at ended) (IsThere m) (IsThere final.0)
  then = alike_then sources before lists ended old new k half short ends last m final.0 is final.1

  gone_had : (key : KeyValue) (n : ℕ) → In n m.gone → key ≡ key_of rule number (at lists n) → IsNumber (numbers_in_list before) key n
  gone_had key n i e =
      let there = was.from n (turns.went n i) in
      subst (λ it. IsNumber (numbers_in_list before) it n) (sym (e ∙ ap (key_of rule number) (sym (was.same n there)))) (has_number rule number (at before) (slice_get before last) first.0 first.1 n there)

  there_has : (key : KeyValue) (n : ℕ) → IsThere m n → key ≡ key_of rule number (at lists n) → IsNumber (numbers_in_list ended) key n
  there_has key n there e =
      subst (λ it. IsNumber (numbers_in_list ended) it n) (sym (e ∙ ap (key_of rule number) (then.same n there)))
      (has_number rule number (at ended) (slice_get ended last) final.0 final.1 n (then.to n there))

  stays : (key : KeyValue) (n : ℕ) → IsNumber (numbers_in_list before) key n → (In n m.gone → ⊥) → IsNumber (numbers_in_list ended) key n
  stays key n h still =
      let o = is_token rule number (at before) (slice_get before last) first.0 first.1 key n h in
      let w = was.to n o.0 in
      there_has key n (w.0.0, there_is m.tokens m.gone n still ∙ w.0.1) (o.1 ∙ ap (key_of rule number) (was.same n o.0))

  module _ (end : BranchEnd) (rule_is : end.rule ≡ rule) (number_is : end.branch ≡ number) (at_is : at_end end ≡ at lists) where
    key_is : (n : ℕ) → key_of end.rule end.branch (at_end end n) ≡ key_of rule number (at lists n)
    key_is n =
        ap (λ (r : ℕ). key_of r end.branch (at_end end n)) rule_is
        ∙ (ap (λ (b : ℕ). key_of rule b (at_end end n)) number_is ∙ ap (λ (f : ℕ → Partial). key_of rule number (f n)) at_is)

    -- what is told of tokens is told of matches
    pub tells_more : (delta delta' : Delta) → TellsTokens end m delta delta' → TellsMoreNumbers (IsNumber (numbers_in_list before)) (IsNumber (numbers_in_list ended)) delta delta'
    tells_more delta delta' told = record {
      gone = record {
        more = told.gone.more;
        more_numbers = told.gone.more_numbers;
        keys_are = told.gone.keys_are;
        numbers_are = told.gone.numbers_are;
        have = have_more (IsTokenOf end (λ n. In n m.gone)) (IsNumber (numbers_in_list before)) (λ key n t. gone_had key n t.0 (t.1 ∙ key_is n)) told.gone.more told.gone.more_numbers told.gone.have;
      };
      come = record {
        more = told.come.more;
        more_numbers = told.come.more_numbers;
        keys_are = told.come.keys_are;
        numbers_are = told.come.numbers_are;
        have = have_more (IsTokenOf end (λ n. In n m.come)) (IsNumber (numbers_in_list ended)) (λ key n t. there_has key n (turns.came n t.0) (t.1 ∙ key_is n)) told.come.more told.come.more_numbers told.come.have;
      };
      stay = λ key n h other. stays key n h (λ i.
          let o = is_token rule number (at before) (slice_get before last) first.0 first.1 key n h in
          other (subst (λ it. In it told.gone.more) (key_is n ∙ sym (o.1 ∙ ap (key_of rule number) (was.same n o.0))) (told.went n i)));
    }

module _ {T : Type 0} (rule number : ℕ) (b : Branch T) where
  -- where all are told
  module _ (end : BranchEnd) (of : IsEndOf rule number b end) (m : BetaMemoryValue) (is : slice_get b.lists.items b.last ≡ Some m) where
    pub all_numbers : (keys keys' : List KeyValue) (ns ns' : List ℕ) → AddsNumbers (IsTokenOf end (IsThere m)) keys keys' ns ns' → AddsNumbers (IsNumber (branch_numbers rule number b)) keys keys' ns ns'
    all_numbers keys keys' ns ns' told =
        let own = partial_at b.sources.items b.lists.items b.last in
        record {
          more = told.more;
          more_numbers = told.more_numbers;
          keys_are = told.keys_are;
          numbers_are = told.numbers_are;
          have = have_more (IsTokenOf end (IsThere m)) (IsNumber (branch_numbers rule number b))
              (λ key n t.
              let e : key ≡ key_of rule number (own n) = t.1
              ∙ (ap (λ (r : ℕ). key_of r end.branch (at_end end n)) of.rule_is
              ∙ (ap (λ (j : ℕ). key_of rule j (at_end end n)) of.branch_is ∙ ap (λ (f : ℕ → Partial). key_of rule number (f n)) (at_last rule number b end of))) in
              subst (λ it. IsNumber (branch_numbers rule number b) it n) (sym e) (has_number rule number own (slice_get b.lists.items b.last) m is n t.0))
              told.more told.more_numbers told.have;
        }

  -- no match has two
  pub numbered_once : (facts : Facts) (fs : IndexedFacts) → IsBranchOver facts fs b → (k : KeyValue) (i j : ℕ) → IsNumber (branch_numbers rule number b) k i → IsNumber (branch_numbers rule number b) k j → i ≡ j
  numbered_once facts fs over k i j h l =
      let long = over.long in
      let within = last_within b over.planned in
      let last = at_place b.lists.items b.last (omega (arith, long, within)) in
      let own = partial_at b.sources.items b.lists.items b.last in
      let a = is_token rule number own (slice_get b.lists.items b.last) last.0 last.1 k i h in
      let c = is_token rule number own (slice_get b.lists.items b.last) last.0 last.1 k j l in
      (over.rest.each b.last last.0 last.1).one i j a.0 c.0 (ap (λ (it : KeyValue). it.parts) (sym a.1 ∙ c.1))
