-- What a node may rely on in a change.
use Rattle.std.proofs.Common.{◌≡◌, ◌↔◌, ℕ, List, Some, slice_get}
use Rattle.cb_beta.specs.BetaMemories.{BetaMemoryValue}
use Rattle.cb_list_changes.proofs.Meeting.{met_on}
use Rattle.cb_list_changes.proofs.Places.{at_same, list_of, token_is}
use Rattle.cb_list_changes.proofs.Rooted.{closed}
use Rattle.cb_list_changes.specs.Halfway.{AreHalfway}
use Rattle.cb_list_changes.specs.Resting.{AreResting}
use Rattle.cb_nodes.specs.Flat.{Lists}
use Rattle.cb_token_lists.proofs.Down.{stays}
use Rattle.cb_token_lists.proofs.Keeping.{read_is_there, read_was_there, there_read}
use Rattle.cb_token_lists.specs.Keeping.{AreAlike}
use Rattle.cb_token_lists.specs.Partials.{Extends, LeadsTo, Meets, SourceValue, partial_at}
use Rattle.cb_token_lists.specs.Turns.{IsThere, WasThere}

module _ (sources : List SourceValue) (before lists : List BetaMemoryValue) (old new : Lists) (k : ℕ) (rest : AreResting sources before old) (h : AreHalfway sources before lists old new k) where
  -- what could be read can be read
  pub extended : Extends before lists
  extended j i t there =
      let m = list_of before j i t there in
      let m' = at_same before lists j m.0 h.long m.1 in
      token_is lists j i m'.0 t m'.1 ((h.keeps j m.0 m'.0 m.1 m'.1).tokens i t m.2)

  pub alike_was : (j : ℕ) (m m' : BetaMemoryValue) → slice_get before j ≡ Some m → slice_get lists j ≡ Some m'
      → AreAlike (partial_at sources before j) (partial_at sources lists j) (IsThere m) (WasThere m')
  alike_was j m m' is is' =
      let rests = rest.each j m is in
      let keeps = h.keeps j m m' is is' in
      record {
        to = λ i there. keeps.was i (read_was_there m rests.none_gone rests.none_come i (there_read m i there));
        from = λ i was. read_is_there m rests.none_gone rests.none_come i (keeps.was_only i was).0;
        same = λ i there. let r = there_read m i there in stays sources before lists (closed sources before rest.rooted) extended j i r.0 (token_is before j i m r.0 is r.1);
      }

  pub met_was : (from inner g i : ℕ) (m : BetaMemoryValue) → LeadsTo sources from inner → slice_get before inner ≡ Some m → IsThere m i
      → Meets sources before from g inner i ↔ Meets sources lists from g inner i
  met_was from inner g i m leads is there =
      let r = there_read m i there in
      met_on sources before lists rest.rooted extended from inner g i r.0 leads (token_is before inner i m r.0 is r.1)
