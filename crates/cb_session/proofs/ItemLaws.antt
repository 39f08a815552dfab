-- Calls that carry out items.
use Rattle.std.proofs.Common.{◌≡◌, ℕ, true, false, List, [], ◌++◌, Option, Some, None, Result, Ok, Err, OnOk, IfOk, refl, sym, ap, ◌∙◌, subst}
use Rattle.std.proofs.lemmas.List.{append-nil}
use Rattle.cb_actions.proofs.ActLaws.{stopped-more, went_as, went_then}
use Rattle.cb_forms.specs.Laws.{BeginsWith}
use Rattle.cb_actions.specs.Acts.{follow, give_or_fault}
use Rattle.cb_actions.specs.Went.{Went}
use Rattle.cb_actions.specs.Internal.{broken_by}
use Rattle.cb_actions.specs.declared.act.Break.TheVariants as break
use Rattle.cb_actions.specs.declared.act.EarlyEnd.TheVariants as ended
use Rattle.cb_actions.specs.declared.act.EarlyEnd.{EarlyEnd}
use Rattle.cb_actions.specs.declared.act.Limit.{Limit}
use Rattle.cb_io.specs.declared.stop.Stop.TheVariants as stop
use Rattle.cb_io.specs.declared.stop.Stop.{Stop}
use Rattle.cb_facts.specs.Results.{Reports}
use Rattle.cb_facts.specs.declared.refused.Refused.TheVariants as refused
use Rattle.cb_facts.specs.declared.refused.Refused.{Refused}
use Rattle.cb_facts.specs.declared.value.Value.TheVariants as value
use Rattle.cb_facts.specs.declared.value.Value.{Value}
use Rattle.cb_forms.specs.Trees.{atom, Reading, reading_of}
use Rattle.cb_forms.specs.declared.cut.Cut.TheVariants as cut
use Rattle.cb_forms.specs.declared.cut.Cut.{Cut}
use Rattle.cb_forms.specs.declared.fault.Fault.{Fault}
use Rattle.cb_forms.specs.declared.form.Item.{Item}
use Rattle.cb_forms.specs.declared.token.Token.TheVariants as token
use Rattle.cb_io.specs.Histories.{PastWrites}
use Rattle.cb_io.specs.Output.{OutState, Puts, all_put, extent_at, stop_extent}
use Rattle.cb_io.proofs.PutLaws.{puts_as, puts_failed, puts_less, puts_none, puts_nothing, puts_then}
use Rattle.cb_requests.specs.Requests.{Request}
use Rattle.cb_session.proofs.SoFarLaws.{grows-status}
use Rattle.cb_session.specs.Actions.{acted, performed, performed_and_shown, requested, shown, shown_line}
use Rattle.cb_session.specs.Internal.Executing.{Executes}
use Rattle.cb_session.specs.Lines.{fault_line, limit_line, too_long_line, value_line}
use Rattle.cb_session.specs.Internal.Scripts.{from, cut_run}
use Rattle.cb_session.specs.Places.{FaultPlaces, noted, noted_item}
use Rattle.cb_session.specs.States.{State}
use Rattle.cb_session.specs.Transcripts.{Run, runs_joined, after_status, concluded, executed, exit_status, limit_status}
use Rattle.cb_session.specs.declared.status.Status.{Status}

-- what an item does, by how its act went
pub executed-done : (s t : State) (r : Reading) (v : Unit {0}) → t ≡ (acted r s).state → (acted r s).answer ≡ Ok v → executed s r ≡ record { state = t; written = (acted r s).written; status = None }
unfolding executed
executed-done s t r v state_is is = ap (concluded (acted r s).state (acted r s).written) is ∙ ap (λ u. record { state = u; written = (acted r s).written; status = None }) (sym state_is)

-- an item that has ended so, and what its end adds
joined-concluded : (s : State) (w : List ℕ) (e : EarlyEnd) → concluded s w (Err e) ≡ runs_joined (record { state = s; written = w; status = None }) (concluded s [] (Err e))
joined-concluded s w (ended.Fault f) = refl
joined-concluded s w (ended.FaultIn f id) = refl
joined-concluded s w (ended.Limit limit) = refl
joined-concluded s w (ended.Exit code) = ap (λ it. record { state = s; written = it; status = Some (exit_status code s.is_faulted) }) (sym (append-nil w))

executed-ended : (s t : State) (r : Reading) (e : EarlyEnd) → t ≡ (acted r s).state → (acted r s).answer ≡ Err e → executed s r ≡ runs_joined (record { state = t; written = (acted r s).written; status = None }) (concluded t [] (Err e))
unfolding executed
executed-ended s t r e state_is is =
    ap (concluded (acted r s).state (acted r s).written) is ∙ (joined-concluded (acted r s).state (acted r s).written e
    ∙ ap (λ u. runs_joined (record { state = u; written = (acted r s).written; status = None }) (concluded u [] (Err e))) (sym state_is))

concluded_begins : (s : State) (w : List ℕ) (r : Result (Unit {0}) EarlyEnd) → BeginsWith w (concluded s w r).written
concluded_begins s w (Ok v) = ([], sym (append-nil w))
concluded_begins s w (Err (ended.Fault f)) = (fault_line f, refl)
concluded_begins s w (Err (ended.FaultIn f id)) = (fault_line f, refl)
concluded_begins s w (Err (ended.Limit limit)) = (limit_line limit, refl)
concluded_begins s w (Err (ended.Exit code)) = ([], sym (append-nil w))

pub executed_begins : (s : State) (r : Reading) → BeginsWith (acted r s).written (executed s r).written
unfolding executed
executed_begins s r = concluded_begins (acted r s).state (acted r s).written (acted r s).answer

module _ {K : Type 0} (writes : K → PastWrites) (o o1 : OutState K) (s t : State) (r : Reading) where
  -- an item that stopped
  pub executes-stopped : (e : Stop) → Went {K = K} {S = State} {A = Unit {0}} writes o o1 t (Err (break.Stop e)) (acted r s) → Executes writes o o1 t (Err e) (executed s r)
  executes-stopped stop.NoMemory h =
      let begins = executed_begins s r in
      record { puts = puts_as writes o o1 _ _ _ _ refl begins.1 (puts_less writes o o1 (acted r s).written begins.0 h.puts); state_is = tt; status_is = tt }
  executes-stopped stop.WriteFault h =
      let begins = executed_begins s r in
      record { puts = puts_as writes o o1 _ _ _ _ refl begins.1 (puts_failed writes o o1 (acted r s).written begins.0 h.puts); state_is = tt; status_is = tt }

  pub executes-done : (v : Unit {0}) → Went writes o o1 t (Ok v) (acted r s) → Executes writes o o1 t (Ok None) (executed s r)
  executes-done v h =
      let is = executed-done s t r v h.answers.0 h.answers.1 in
      record { puts = puts_as writes o o1 _ _ _ _ refl (ap (λ it. it.written) is) h.puts; state_is = sym (ap (λ it. it.state) is); status_is = sym (ap (λ it. it.status) is) }

if_ok : {T E : Type 0} (P Q : T → Type 0) (r : Result T E) → ((x : T) → P x → Q x) → IfOk r P → IfOk r Q
if_ok P Q (Ok x) f h = f x h
if_ok P Q (Err e) f h = tt

pub always : {T E : Type 0} (P : Type 0) (r : Result T E) → P → OnOk r P
always P (Ok x) h = h
always P (Err e) h = tt

module _ {K : Type 0} (writes : K → PastWrites) (o : OutState K) (t : State) where
  -- the end of an item, where memory is refused before it
  pub concludes-refused : (e : EarlyEnd) → o.fault ≡ false → Executes writes o o t (Err stop.NoMemory) (concluded t [] (Err e))
  concludes-refused e fine = record { puts = puts_nothing writes o (concluded t [] (Err e)).written fine; state_is = tt; status_is = tt }

  -- by `exit`
  pub concludes-exit : (code : Option ℕ) (status : Status) → o.fault ≡ false → status ≡ exit_status code t.is_faulted → Executes writes o o t (Ok (Some status)) (concluded t [] (Err (ended.Exit code)))
  concludes-exit code status fine is = record { puts = puts_none writes o fine; state_is = refl; status_is = ap Some is }

module _ {K : Type 0} (writes : K → PastWrites) (o o1 o2 : OutState K) (s t u : State) (r : Reading) where
  -- an item that has ended before it was done, and its end
  pub executes-ended : (e : EarlyEnd) (result : Result (Option Status) Stop) → Went {K = K} {S = State} {A = Unit {0}} writes o o1 t (Err (break.Ended e)) (acted r s)
      → Executes writes o1 o2 u result (concluded t [] (Err e)) → Executes writes o o2 u result (executed s r)
  executes-ended e result first last =
      let is = executed-ended s t r e first.answers.0 first.answers.1 in
      subst (λ (run : Run). Executes writes o o2 u result run) (sym is) (record {
        puts = puts_then writes o o1 o2 (stop_extent result) (acted r s).written (concluded t [] (Err e)).written first.puts last.puts;
        state_is = last.state_is;
        status_is = last.status_is;
      })

-- what an item adds to the places, by how its act went
pub noted-done : (line : ℕ) (s : State) (r : Reading) (v : Unit {0}) (ps : FaultPlaces) → (acted r s).answer ≡ Ok v → noted_item line s r ps ≡ ps
unfolding noted_item
noted-done line s r v ps is = ap (λ (it : Result (Unit {0}) EarlyEnd). noted line (acted r s).state it ps) is

pub noted-ended : (line : ℕ) (s t : State) (r : Reading) (e : EarlyEnd) (ps : FaultPlaces) → t ≡ (acted r s).state → (acted r s).answer ≡ Err e → noted_item line s r ps ≡ noted line t (Err e) ps
unfolding noted_item
noted-ended line s t r e ps state_is is = ap (λ (it : Result (Unit {0}) EarlyEnd). noted line (acted r s).state it ps) is ∙ ap (λ u. noted line u (Err e) ps) (sym state_is)

pub noted-symbol : (line : ℕ) (s : State) (r : Reading) (name : List ℕ) (ps : FaultPlaces) → r ≡ Ok (atom (token.Symbol name)) → noted_item line s r ps ≡ ps
unfolding noted_item acted
noted-symbol line s r name ps is = ap (λ it. noted_item line s it ps) is

-- a symbol shows itself
pub executed-symbol : (s : State) (r : Reading) (name : List ℕ) → r ≡ Ok (atom (token.Symbol name)) → executed s r ≡ record { state = s; written = value_line (value.Symbol name); status = None }
unfolding executed acted
executed-symbol s r name is = ap (executed s) is

-- an item whose request is read
pub acted-request : (s : State) (r : Reading) (request : Request) → requested s r ≡ Ok request → acted r s ≡ performed_and_shown request s
unfolding acted
acted-request s r request is = ap (λ it. follow (give_or_fault it s).state (give_or_fault it s).written (give_or_fault it s).answer performed_and_shown) is

acted-fault : (s : State) (r : Reading) (f : Fault) → requested s r ≡ Err f → acted r s ≡ record { state = s; written = []; answer = Err (ended.Fault f) }
unfolding acted
acted-fault s r f is = ap (λ it. follow (give_or_fault it s).state (give_or_fault it s).written (give_or_fault it s).answer performed_and_shown) is

module _ {K : Type 0} (writes : K → PastWrites) (o : OutState K) (s : State) (r : Reading) where
  -- an item whose request is refused
  pub went_refused : (refusal : Refused) → o.fault ≡ false → Reports refusal (λ f. requested s r ≡ Err f) → Went {K = K} {S = State} {A = Unit {0}} writes o o s (Err (broken_by refusal)) (acted r s)
  went_refused (refused.Fault f) fine tells = went_as writes o o s _ _ _ _ refl (acted-fault s r f tells) (record { puts = puts_none writes o fine; answers = (refl, refl) })
  went_refused refused.NoMemory fine tells = record { puts = puts_nothing writes o (acted r s).written fine; answers = tt }

module _ {K : Type 0} (writes : K → PastWrites) (o o1 o2 : OutState K) (s t : State) (request : Request) where
  -- a value that is shown after the request was done
  pub went_shown : (v : Option Value) → Went writes o o1 t (Ok v) (performed request s) → Puts writes o1 o2 all_put (shown_line v) → Went {K = K} {S = State} {A = Unit {0}} writes o o2 t (Ok tt) (performed_and_shown request s)
  went_shown v first line = went_then writes o o1 o2 t t v (Ok tt) (performed request s) shown first (record { puts = line; answers = (refl, refl) })

  pub went_not_shown : (v : Option Value) (e : Stop) → Went writes o o1 t (Ok v) (performed request s) → Puts writes o1 o2 (extent_at e) (shown_line v) → Went {K = K} {S = State} {A = Unit {0}} writes o o2 t (Err (break.Stop e)) (performed_and_shown request s)
  went_not_shown v e first line = went_then writes o o1 o2 t t v (Err (break.Stop e)) (performed request s) shown first (record { puts = line; answers = tt })

-- two items, the first of which doesn't end the script
two-items : (s : State) (first second : Item) → (executed s (reading_of first)).status ≡ None
    → cut_run s (cut.TwoItems first second) ≡ runs_joined (executed s (reading_of first)) (executed (executed s (reading_of first)).state (reading_of second))
two-items s first second h = ap (λ o. after_status o (runs_joined (from s) (executed s (reading_of first))) (reading_of second)) h

module _ {K : Type 0} (writes : K → PastWrites) (o : OutState K) (s : State) (given : Cut) where
  pub executes-none : given ≡ cut.More → o.fault ≡ false → Executes writes o o s (Ok None) (cut_run s given)
  executes-none is fine =
      let P : Cut → Type 0 = λ it. Executes writes o o s (Ok None) (cut_run s it) in
      subst P (sym is) (record { puts = puts_none writes o fine; state_is = refl; status_is = refl })

module _ {K : Type 0} (writes : K → PastWrites) (o o1 : OutState K) (s : State) (given : Cut) where
  pub executes-long : (result : Result (Option Status) Stop) → given ≡ cut.TooLong → Puts writes o o1 (stop_extent result) too_long_line → IfOk result (λ status. status ≡ Some limit_status)
      → Executes writes o o1 s result (cut_run s given)
  executes-long result is line ends =
      let P : Cut → Type 0 = λ it. Executes writes o o1 s result (cut_run s it) in
      subst P (sym is) (record { puts = line; state_is = always _ result refl; status_is = ends })

module _ {K : Type 0} (writes : K → PastWrites) (o o1 o2 : OutState K) (s t u : State) (given : Cut) where
  pub executes-two : (first second : Item) (result : Result (Option Status) Stop) → given ≡ cut.TwoItems first second → Executes writes o o1 t (Ok None) (executed s (reading_of first))
      → Executes writes o1 o2 u result (executed t (reading_of second)) → Executes writes o o2 u result (cut_run s given)
  executes-two first second result is one two =
      let here = executed s (reading_of first) in
      let two' : Executes writes o1 o2 u result (executed here.state (reading_of second)) = subst (λ (it : State). Executes writes o1 o2 u result (executed it (reading_of second))) one.state_is two in
      let all : cut_run s given ≡ runs_joined here (executed here.state (reading_of second)) = ap (cut_run s) is ∙ two-items s first second (sym one.status_is) in
      subst (λ (it : Run). Executes writes o o2 u result it) (sym all) (record {
        puts = puts_then writes o o1 o2 (stop_extent result) here.written (executed here.state (reading_of second)).written one.puts two'.puts;
        state_is = two'.state_is;
        status_is = two'.status_is;
      })

module _ {K : Type 0} (writes : K → PastWrites) (o o1 : OutState K) (s t : State) (given : Cut) where
  pub executes-first : (first second : Item) (e : Stop) → given ≡ cut.TwoItems first second → Executes writes o o1 t (Err e) (executed s (reading_of first)) → Executes writes o o1 t (Err e) (cut_run s given)
  executes-first first second e is one =
      let here = executed s (reading_of first) in
      let grows = grows-status here.status (runs_joined (from s) here) (reading_of second) in
      let P : Cut → Type 0 = λ it. Executes writes o o1 t (Err e) (cut_run s it) in
      subst P (sym is) (record {
        puts = puts_as writes o o1 _ _ _ _ refl grows.is (stopped-more writes o o1 e here.written grows.more one.puts);
        state_is = tt;
        status_is = tt;
      })

-- a symbol that is shown
pub executes-shown : {K : Type 0} (writes : K → PastWrites) (o o1 : OutState K) (s : State) (r : Reading) (name : List ℕ) (result : Result (Option Status) Stop) → r ≡ Ok (atom (token.Symbol name))
    → Puts writes o o1 (stop_extent result) (value_line (value.Symbol name)) → IfOk result (λ status. status ≡ None) → Executes writes o o1 s result (executed s r)
executes-shown writes o o1 s r name result is line none =
    let shows = executed-symbol s r name is in
    record {
      puts = puts_as writes o o1 _ _ _ _ refl (ap (λ it. it.written) shows) line;
      state_is = always _ result (sym (ap (λ it. it.state) shows));
      status_is = if_ok _ _ result (λ status e. e ∙ sym (ap (λ it. it.status) shows)) none;
    }
