-- How a run grows with its script.
use Rattle.std.proofs.Common.{◌≡◌, ◌≢◌, ℕ, Bool, true, false, List, [], ◌∷◌, ◌++◌, Option, Some, None, Result, Ok, Err, refl, sym, ap, ◌∙◌, subst, inl, inr, if◌then◌else◌}
use Rattle.std.proofs.lemmas.Bool.{cases_Bool}
use Rattle.std.proofs.lemmas.List.{append-nil, append_assoc}
use Rattle.cb_forms.specs.Items.{items, parts, whole, over, fitting}
use Rattle.cb_forms.specs.Trees.{Reading}
use Rattle.cb_forms.proofs.FittingLaws.{fitting-items, fitting-kept, over-kept_all, whole-fitting, whole-more}
use Rattle.cb_session.specs.Actions.{acted}
use Rattle.cb_session.specs.Setups.{Setup}
use Rattle.cb_session.specs.States.{State}
use Rattle.cb_session.specs.Lines.{too_long_line}
use Rattle.cb_session.specs.Transcripts.{Run, begun, concluded, executed, exit_status, limit_status, after_status, after, after_all, too_long_status, too_long, so_far, complete}
use Rattle.cb_actions.specs.declared.act.EarlyEnd.{EarlyEnd}
use Rattle.cb_actions.specs.declared.act.EarlyEnd.TheVariants as ended
use Rattle.cb_session.specs.declared.status.Ending.TheVariants as ending
use Rattle.cb_session.specs.declared.status.Status.{Status}

pub after_all-append : (run : Run) (xs ys : List Reading) → after_all run (xs ++ ys) ≡ after_all (after_all run xs) ys
after_all-append run [] ys = refl
after_all-append run (x ∷ xs) ys = after_all-append (after run x) xs ys

-- after the end nothing counts
pub after_all-ended : (run : Run) (status : Status) (xs : List Reading) → run.status ≡ Some status → after_all run xs ≡ run
after_all-ended run status [] h = refl
after_all-ended run status (x ∷ xs) h =
    let same : after run x ≡ run = ap (λ o. after_status o run x) h in
    ap (λ it. after_all it xs) same ∙ after_all-ended run status xs h

pub too_long-ended : (run : Run) (status : Status) → run.status ≡ Some status → too_long run ≡ run
too_long-ended run status h = ap (λ o. too_long_status o run) h

-- what is written is a beginning of what is written later
pub record Grows (old new : List ℕ) : Type 0 where
  pub more : List ℕ
  pub is : new ≡ old ++ more

pub grows-same : (a b : List ℕ) → b ≡ a → Grows a b
grows-same a b e = record { more = []; is = e ∙ sym (append-nil a) }

pub grows-trans : (a b c : List ℕ) → Grows a b → Grows b c → Grows a c
grows-trans a b c f g = record { more = f.more ++ g.more; is = g.is ∙ (ap (λ it. it ++ g.more) f.is ∙ append_assoc a f.more g.more) }

pub grows-status : (o : Option Status) (run : Run) (x : Reading) → Grows run.written (after_status o run x).written
grows-status None run x = record { more = (executed run.state x).written; is = refl }
grows-status (Some status) run x = grows-same run.written run.written refl

pub grows-all : (run : Run) (xs : List Reading) → Grows run.written (after_all run xs).written
grows-all run [] = grows-same run.written run.written refl
grows-all run (x ∷ xs) = grows-trans run.written (after run x).written (after_all (after run x) xs).written (grows-status run.status run x) (grows-all (after run x) xs)

grows-long_status : (o : Option Status) (run : Run) → Grows run.written (too_long_status o run).written
grows-long_status None run = record { more = too_long_line; is = refl }
grows-long_status (Some status) run = grows-same run.written run.written refl

pub grows-long : (run : Run) → Grows run.written (too_long run).written
grows-long run = grows-long_status run.status run

-- the run so far, by whether an item is too long
pub so_far-fits : (l : Setup) (p : List ℕ) → over l.max_form p ≡ false → so_far l p ≡ after_all (begun l) (whole p)
unfolding so_far
so_far-fits l p h = ap (λ t. if t then too_long (after_all (begun l) (fitting l.max_form p)) else after_all (begun l) (whole p)) h

pub so_far-long : (l : Setup) (p : List ℕ) → over l.max_form p ≡ true → so_far l p ≡ too_long (after_all (begun l) (fitting l.max_form p))
unfolding so_far
so_far-long l p h = ap (λ t. if t then too_long (after_all (begun l) (fitting l.max_form p)) else after_all (begun l) (whole p)) h

pub complete-fits : (l : Setup) (s : List ℕ) → over l.max_form s ≡ false → complete l s ≡ after_all (begun l) (items s)
unfolding complete
complete-fits l s h = ap (λ t. if t then too_long (after_all (begun l) (fitting l.max_form s)) else after_all (begun l) (fitting l.max_form s)) h ∙ ap (after_all (begun l)) (fitting-items l.max_form s h)

pub complete-long : (l : Setup) (s : List ℕ) → over l.max_form s ≡ true → complete l s ≡ too_long (after_all (begun l) (fitting l.max_form s))
unfolding complete
complete-long l s h = ap (λ t. if t then too_long (after_all (begun l) (fitting l.max_form s)) else after_all (begun l) (fitting l.max_form s)) h

-- what fits, after what has ended
pub fitting-run : (l : Setup) (p r : List ℕ) → over l.max_form p ≡ false → (more : List Reading) × (after_all (begun l) (fitting l.max_form (p ++ r)) ≡ after_all (after_all (begun l) (whole p)) more)
fitting-run l p r fits =
    let begins = whole-fitting l.max_form p r fits in (begins.more, ap (after_all (begun l)) begins.is ∙ after_all-append (begun l) (whole p) begins.more)

-- however the script goes on, what is written so far is a beginning of all
pub so_far-grows : (l : Setup) (p r : List ℕ) → Grows (so_far l p).written (complete l (p ++ r)).written
unfolding so_far complete
so_far-grows l p r = elim (cases_Bool (over l.max_form p)) [
  | inl long ↦
      let long' = over-kept_all l.max_form p r long in
      let same : complete l (p ++ r) ≡ so_far l p = complete-long l (p ++ r) long' ∙ (ap (λ xs. too_long (after_all (begun l) xs)) (fitting-kept l.max_form p r long) ∙ sym (so_far-long l p long)) in
      grows-same (so_far l p).written (complete l (p ++ r)).written (ap (λ it. it.written) same)
  | inr fits ↦
      let more = fitting-run l p r fits in
      let here = after_all (begun l) (whole p) in
      let grown : Grows here.written (after_all (begun l) (fitting l.max_form (p ++ r))).written = subst (λ (it : Run). Grows here.written it.written) (sym more.1) (grows-all here more.0) in
      let P : Bool → Type 0 = λ t. Grows here.written (if t then too_long (after_all (begun l) (fitting l.max_form (p ++ r))) else after_all (begun l) (fitting l.max_form (p ++ r))).written in
      let all : P (over l.max_form (p ++ r)) = elim (over l.max_form (p ++ r)) as P [
        | true ↦ grows-trans here.written (after_all (begun l) (fitting l.max_form (p ++ r))).written (too_long (after_all (begun l) (fitting l.max_form (p ++ r)))).written grown (grows-long (after_all (begun l) (fitting l.max_form (p ++ r))))
        | false ↦ grown
      ] in
      subst (λ (it : Run). Grows it.written (complete l (p ++ r)).written) (sym (so_far-fits l p fits)) all
]

-- a script that has ended so far has ended so
pub so_far-ended : (l : Setup) (p r : List ℕ) (status : Status) → (so_far l p).status ≡ Some status → (so_far l (p ++ r) ≡ so_far l p) × (complete l (p ++ r) ≡ so_far l p)
unfolding so_far complete
so_far-ended l p r status ended = elim (cases_Bool (over l.max_form p)) [
  | inl long ↦
      let long' = over-kept_all l.max_form p r long in
      let same = ap (λ xs. too_long (after_all (begun l) xs)) (fitting-kept l.max_form p r long) ∙ sym (so_far-long l p long) in
      (so_far-long l (p ++ r) long' ∙ same, complete-long l (p ++ r) long' ∙ same)
  | inr fits ↦
      let here = after_all (begun l) (whole p) in
      let is = so_far-fits l p fits in
      let over_here : here.status ≡ Some status = ap (λ it. it.status) (sym is) ∙ ended in
      let more = fitting-run l p r fits in
      let rest : after_all (begun l) (fitting l.max_form (p ++ r)) ≡ here = more.1 ∙ after_all-ended here status more.0 over_here in
      let long_rest : too_long (after_all (begun l) (fitting l.max_form (p ++ r))) ≡ here = ap too_long rest ∙ too_long-ended here status over_here in
      let wholes = whole-more p r in
      let whole_rest : after_all (begun l) (whole (p ++ r)) ≡ here = ap (after_all (begun l)) wholes.is ∙ (after_all-append (begun l) (whole p) wholes.more ∙ after_all-ended here status wholes.more over_here) in
      let P : Bool → Type 0 = λ t. ((if t then too_long (after_all (begun l) (fitting l.max_form (p ++ r))) else after_all (begun l) (whole (p ++ r))) ≡ here) × ((if t then too_long (after_all (begun l) (fitting l.max_form (p ++ r))) else after_all (begun l) (fitting l.max_form (p ++ r))) ≡ here) in
      let both : P (over l.max_form (p ++ r)) = elim (over l.max_form (p ++ r)) as P [ true ↦ (long_rest, long_rest) | false ↦ (whole_rest, rest) ] in
      (both.0 ∙ sym is, both.1 ∙ sym is)
]

-- however the script goes on, what is written so far is a beginning of what is written then
pub so_far-grows_far : (l : Setup) (p r : List ℕ) → Grows (so_far l p).written (so_far l (p ++ r)).written
unfolding so_far
so_far-grows_far l p r = elim (cases_Bool (over l.max_form p)) [
  | inl long ↦
      let long' = over-kept_all l.max_form p r long in
      let same : so_far l (p ++ r) ≡ so_far l p = so_far-long l (p ++ r) long' ∙ (ap (λ xs. too_long (after_all (begun l) xs)) (fitting-kept l.max_form p r long) ∙ sym (so_far-long l p long)) in
      grows-same (so_far l p).written (so_far l (p ++ r)).written (ap (λ it. it.written) same)
  | inr fits ↦
      let more = fitting-run l p r fits in
      let wholes = whole-more p r in
      let here = after_all (begun l) (whole p) in
      let whole_is : after_all (begun l) (whole (p ++ r)) ≡ after_all here wholes.more = ap (after_all (begun l)) wholes.is ∙ after_all-append (begun l) (whole p) wholes.more in
      let one : Grows here.written (too_long (after_all (begun l) (fitting l.max_form (p ++ r)))).written = grows-trans here.written (after_all (begun l) (fitting l.max_form (p ++ r))).written (too_long (after_all (begun l) (fitting l.max_form (p ++ r)))).written (subst (λ (it : Run). Grows here.written it.written) (sym more.1) (grows-all here more.0)) (grows-long (after_all (begun l) (fitting l.max_form (p ++ r)))) in
      let two : Grows here.written (after_all (begun l) (whole (p ++ r))).written = subst (λ (it : Run). Grows here.written it.written) (sym whole_is) (grows-all here wholes.more) in
      let P : Bool → Type 0 = λ t. Grows here.written (if t then too_long (after_all (begun l) (fitting l.max_form (p ++ r))) else after_all (begun l) (whole (p ++ r))).written in
      let all : P (over l.max_form (p ++ r)) = elim (over l.max_form (p ++ r)) as P [ true ↦ one | false ↦ two ] in
      subst (λ (it : Run). Grows it.written (so_far l (p ++ r)).written) (sym (so_far-fits l p fits)) all
]

pub so_far-none : (l : Setup) → so_far l [] ≡ begun l
unfolding so_far over whole parts
so_far-none l = refl

-- where a script has ended before its end, it has not ended by its end
abbrev IsEarly : Option Status → Type 0
IsEarly o = (status : Status) → o ≡ Some status → status.ending ≢ ending.Done

concluded-early : (s : State) (w : List ℕ) (r : Result (Unit {0}) EarlyEnd) → IsEarly (concluded s w r).status
concluded-early s w (Ok _) status h = absurd (cc)
concluded-early s w (Err (ended.Fault f)) status h = absurd (cc)
concluded-early s w (Err (ended.FaultIn f id)) status h = absurd (cc)
concluded-early s w (Err (ended.Limit limit)) status h = let is : limit_status ≡ status = cc in λ done. (let no : limit_status.ending ≡ ending.Done = ap (λ it. it.ending) is ∙ done in cc)
concluded-early s w (Err (ended.Exit code)) status h =
    let is : exit_status code s.is_faulted ≡ status = cc in λ done. (let no : (exit_status code s.is_faulted).ending ≡ ending.Done = ap (λ it. it.ending) is ∙ done in cc)

executed-early : (s : State) (r : Reading) → IsEarly (executed s r).status
unfolding executed
executed-early s r = concluded-early (acted r s).state (acted r s).written (acted r s).answer

after-early : (o : Option Status) (run : Run) (x : Reading) → o ≡ run.status → IsEarly run.status → IsEarly (after_status o run x).status
after-early None run x is early = executed-early run.state x
after-early (Some status) run x is early = early

all-early : (run : Run) (xs : List Reading) → IsEarly run.status → IsEarly (after_all run xs).status
all-early run [] early = early
all-early run (x ∷ xs) early = all-early (after run x) xs (after-early run.status run x refl early)

long-early : (o : Option Status) (run : Run) → o ≡ run.status → IsEarly run.status → IsEarly (too_long_status o run).status
long-early None run is early = λ status h done. let same : limit_status ≡ status = cc in (let no : limit_status.ending ≡ ending.Done = ap (λ it. it.ending) same ∙ done in cc)
long-early (Some status) run is early = early

begun-early : (l : Setup) → IsEarly (begun l).status
begun-early l status h = absurd (cc)

pub so_far-early : (l : Setup) (p : List ℕ) (status : Status) → (so_far l p).status ≡ Some status → status.ending ≢ ending.Done
unfolding so_far
so_far-early l p = elim (cases_Bool (over l.max_form p)) [
  | inl long ↦ subst (λ (it : Run). IsEarly it.status) (sym (so_far-long l p long)) (long-early (after_all (begun l) (fitting l.max_form p)).status (after_all (begun l) (fitting l.max_form p)) refl (all-early (begun l) (fitting l.max_form p) (begun-early l)))
  | inr fits ↦ subst (λ (it : Run). IsEarly it.status) (sym (so_far-fits l p fits)) (all-early (begun l) (whole p) (begun-early l))
]
