-- How a change of all lists ends.
use Rattle.std.proofs.Common.{◌≡◌, ◌∙◌, ◌≤◌, ◌↔◌, ℕ, suc, List, Some, arith, length, slice_get, sym}
use Rattle.cb_beta.specs.BetaMemories.{BetaMemoryValue, live}
use Rattle.cb_beta.specs.Tokens.{TokenValue, token_at}
use Rattle.cb_list_changes.proofs.Memories.{live_read}
use Rattle.cb_list_changes.proofs.Meeting.{met_on}
use Rattle.cb_list_changes.proofs.Places.{at_same, list_of, token_is, within}
use Rattle.cb_list_changes.proofs.Rooted.{closed}
use Rattle.cb_list_changes.specs.Halfway.{AreHalfway}
use Rattle.cb_list_changes.specs.Resting.{AreEnded, AreResting, AreRooted}
use Rattle.cb_nodes.specs.Flat.{Lists}
use Rattle.cb_token_lists.proofs.Down.{stays}
use Rattle.cb_token_lists.proofs.Keeping.{ended_there, rests_alike, there_ended, turns_rest}
use Rattle.cb_token_lists.specs.Keeping.{AreAlike}
use Rattle.cb_token_lists.specs.Partials.{Extends, LeadsTo, Meets, SourceValue, partial_at, tokens_in}
use Rattle.cb_token_lists.specs.Turns.{IsThere}

module _ (sources : List SourceValue) (before lists ended : List BetaMemoryValue) (old new : Lists) (k : ℕ) (h : AreHalfway sources before lists old new k) (last : length lists ≤ suc k)
    (ends : AreEnded lists ended) where
  -- what can be read then was there
  was_live : (j i : ℕ) (t : TokenValue) → token_at (tokens_in ended j) i ≡ Some t → (m : BetaMemoryValue) × (slice_get lists j ≡ Some m) × (live m i ≡ Some t)
  was_live j i t there =
      let m' = list_of ended j i t there in
      let m = at_same ended lists j m'.0 (sym ends.long) m'.1 in
      (m.0, m.1, sym ((ends.each j m.0 m'.0 m.1 m'.1).tokens i) ∙ m'.2)

  -- and what was there can be read
  still_read : (j i : ℕ) (m : BetaMemoryValue) (t : TokenValue) → slice_get lists j ≡ Some m → live m i ≡ Some t → token_at (tokens_in ended j) i ≡ Some t
  still_read j i m t is there =
      let m' = at_same lists ended j m ends.long is in
      token_is ended j i m'.0 t m'.1 ((ends.each j m m'.0 is m'.1).tokens i ∙ there)

  narrows : Extends ended lists
  narrows j i t there =
      let m = was_live j i t there in
      token_is lists j i m.0 t m.1 (live_read m.0 i t m.2)

  rooted : AreRooted sources ended
  rooted = record {
    below = h.rooted.below;
    parents = λ n i s t is there.
        let own = was_live (suc n) i t there in
        let u = h.rooted.parents n i s t is (narrows (suc n) i t there) in
        let from = list_of lists s.from t.parent u.0 u.1 in
        let l = within lists (suc n) own.0 own.1 in
        let p = h.parents n i s from.0 own.0 t (omega (arith, l, last)) is from.1 own.1 own.2 in
        (p.0, still_read s.from t.parent from.0 p.0 from.1 p.1);
  }

  stays_on : (j i : ℕ) (m : BetaMemoryValue) → slice_get lists j ≡ Some m → IsThere m i → partial_at sources lists j i ≡ partial_at sources ended j i
  stays_on j i m is there = sym (stays sources ended lists (closed sources ended rooted) narrows j i there.0 (still_read j i m there.0 is there.1))

  pub all_rest : AreResting sources ended new
  all_rest = record {
    each = λ j m' is'.
        let m = at_same ended lists j m' (sym ends.long) is' in
        let l = within lists j m.0 m.1 in
        let e = ends.each j m.0 m' m.1 is' in
        rests_alike (partial_at sources lists j) (partial_at sources ended j) m' (new j) (λ i there. stays_on j i m.0 m.1 (there_ended m.0 m' e i there))
        (turns_rest m.0 m' e (partial_at sources lists j) (old j) (new j) (h.turned j m.0 (omega (arith, l, last)) m.1));
    rooted = rooted;
  }

  pub alike_then : (j : ℕ) (m m' : BetaMemoryValue) → slice_get lists j ≡ Some m → slice_get ended j ≡ Some m'
      → AreAlike (partial_at sources lists j) (partial_at sources ended j) (IsThere m) (IsThere m')
  alike_then j m m' is is' =
      let e = ends.each j m m' is is' in
      record { to = λ i there. ended_there m m' e i there; from = λ i there. there_ended m m' e i there; same = λ i there. stays_on j i m is there }

  pub met_then : (from inner g i : ℕ) (m : BetaMemoryValue) → LeadsTo sources from inner → slice_get lists inner ≡ Some m → IsThere m i
      → Meets sources lists from g inner i ↔ Meets sources ended from g inner i
  met_then from inner g i m leads is there =
      let both = met_on sources ended lists rooted narrows from inner g i there.0 leads (still_read inner i m there.0 is there.1) in
      (both.1, both.0)
