-- Acts on the world, as acts on the whole state, and acts after acts that put nothing.
use denote.Ref.{Bor}
use Rattle.std.proofs.Common.{◌≡◌, [], ℕ, List, Option, Some, None, Result, Ok, Err, option_copied, option_map, refl, sym, ap, subst}
use Rattle.cb_actions.specs.Acts.{Act, Effect, follow}
use Rattle.cb_actions.specs.Went.{Quietly, Went}
use Rattle.cb_actions.specs.Worlds.{World}
use Rattle.cb_actions.specs.declared.act.Break.TheVariants as break
use Rattle.cb_actions.specs.declared.act.Break.{Break}
use Rattle.cb_io.specs.declared.stop.Stop.TheVariants as stop
use Rattle.cb_io.specs.Histories.{PastWrites}
use Rattle.cb_io.specs.Output.{OutState}
use Rattle.cb_exprs.specs.GlobalTerms.{GlobalTerm}
use Rattle.cb_exprs.specs.Terms.{term_of}
use Rattle.cb_exprs.specs.declared.expr.Expr.{Expr}
use Rattle.cb_knowledge_base.specs.Deffacts.{DeffactsTable}
use Rattle.cb_session.specs.Deeds.{in_state, keep, no_definitions, on_world}
use Rattle.cb_session.specs.States.{State}

-- an act on the world that went so
pub went_on_world : {K A : Type 0} (writes : K → PastWrites) (o o1 : OutState K) (s : State) (w : World) (r : Result A Break) (act : Act World A) → Went writes o o1 w r (act s.world)
    → Went writes o o1 (record s { world = w }) r (on_world act s)
went_on_world writes o o1 s w (Ok a) act h = record { puts = h.puts; answers = (ap (λ v. record s { world = v }) h.answers.0, h.answers.1) }
went_on_world writes o o1 s w (Err (break.Ended e)) act h = record { puts = h.puts; answers = (ap (λ v. record s { world = v }) h.answers.0, h.answers.1) }
went_on_world writes o o1 s w (Err (break.Stop e)) act h = record { puts = h.puts; answers = tt }

-- the same in the state that is shown so
pub went_inside : {K A : Type 0} (writes : K → PastWrites) (o o1 : OutState K) (s now : State) (w : World) (r : Result A Break) (act : Act World A) → s ≡ now → Went writes o o1 w r (act s.world)
    → Went writes o o1 (record s { world = w }) r (on_world act now)
went_inside writes o o1 s now w r act is h = subst (λ (it : State). Went writes o o1 (record s { world = w }) r (on_world act it)) is (went_on_world writes o o1 s w r act h)

-- what was defined goes
pub definitions_go : (s : State) (deffacts : DeffactsTable) (globals : List GlobalTerm) → deffacts ≡ [] → globals ≡ []
    → keep (λ _. no_definitions) s ≡ record { state = record s { deffacts = deffacts; globals = globals }; written = []; answer = Ok None }
definitions_go s deffacts globals p q = rw (p, q) refl

-- an expression and a name that are lent
pub lent_term : (lent : Option (Bor Expr)) (o : Option Expr) → option_copied lent ≡ o → option_map (λ e. term_of e.now) lent ≡ option_map term_of o
lent_term None o is = ap (option_map term_of) is
lent_term (Some e) o is = ap (option_map term_of) is

pub lent_name : (lent : Option (Bor (List ℕ))) (o : Option (List ℕ)) → option_copied lent ≡ o → option_map (λ n. n.now) lent ≡ o
lent_name None o is = is
lent_name (Some n) o is = is

-- the same of one that puts nothing
pub quietly_on_world : {A : Type 0} (s : State) (w : World) (r : Result A Break) (act : Act World A) → Quietly w r (act s.world) → Quietly (record s { world = w }) r (on_world act s)
quietly_on_world s w (Ok a) act h = ap (in_state s) h
quietly_on_world s w (Err (break.Ended e)) act h = ap (in_state s) h
quietly_on_world s w (Err (break.Stop stop.NoMemory)) act h = tt
quietly_on_world s w (Err (break.Stop stop.WriteFault)) act h = h

-- what follows an act that puts nothing
pub quietly_then : {S A B : Type 0} (s1 s2 : S) (a : A) (r : Result B Break) (m : Effect S A) (next : A → Act S B) → m ≡ record { state = s1; written = []; answer = Ok a }
    → Quietly s2 r (next a s1) → Quietly s2 r (follow m.state m.written m.answer next)
quietly_then s1 s2 a r m next is h = subst (λ (it : Effect _ _). Quietly s2 r (follow it.state it.written it.answer next)) (sym is) h

pub quietly_off : {S A B : Type 0} (s1 : S) (e : Break) (m : Effect S A) (next : A → Act S B) → Quietly {S = S} {A = A} s1 (Err e) m → Quietly {S = S} {A = B} s1 (Err e) (follow m.state m.written m.answer next)
quietly_off s1 (break.Ended e) m next h = subst (λ (it : Effect _ _). follow it.state it.written it.answer next ≡ record { state = s1; written = []; answer = Err e }) (sym h) refl
quietly_off s1 (break.Stop stop.NoMemory) m next h = tt
quietly_off s1 (break.Stop stop.WriteFault) m next h = h

pub quietly_as : {S A : Type 0} (s : S) (r r' : Result A Break) (m m' : Effect S A) → r' ≡ r → m' ≡ m → Quietly s r m → Quietly s r' m'
quietly_as s r r' m m' result effect h = subst (λ it. Quietly s it m') (sym result) (subst (λ (it : Effect _ _). Quietly s r it) (sym effect) h)
