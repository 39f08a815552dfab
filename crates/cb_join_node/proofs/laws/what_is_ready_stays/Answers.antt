use Rattle.cb_join_node.proofs.Staying.{ready_stays}
use Rattle.cb_join_node.proofs.laws.what_is_ready_stays.Goals as goal
use Rattle.cb_token_lists.specs.Turns.{IsThere, WasThere}

pub returns : goal.returns
returns g c = record {
  fills = λ node at at' m facts facts' own own' is none same tokens.
      ready_stays node at at' (λ n. ⊥) (WasThere m) facts facts' own own' is (record { to = λ i h. absurd h; from = none; same = λ i h. absurd h }) same tokens;
  begins = λ node at at' m m'. ready_stays node at at' (IsThere m) (WasThere m');
  ends = λ node at at' m m'. ready_stays node at at' (IsThere m) (IsThere m');
}
