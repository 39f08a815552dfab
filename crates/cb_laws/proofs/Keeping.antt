-- Acts that keep what holds of a state.
use Rattle.std.proofs.Common.{List, ℕ, [], ◌∷◌, Result, Ok, Err}
use Rattle.cb_actions.specs.Acts.{Act, answer_in_rule, each, follow, ◌>>=◌}
use Rattle.cb_actions.specs.declared.act.EarlyEnd.{EarlyEnd}
use Rattle.cb_actions.specs.declared.act.EarlyEnd.TheVariants as ended
use Rattle.cb_actions.specs.declared.act.Limit.TheVariants.{Firings, Numbers, Turns}

-- what holds after an act: this, or that where it ended at the limit of numbers
abbrev pub After : {S A : Type 0} → (S → Type 0) → (S → Type 0) → S → Result A EarlyEnd → Type 0
After P Q s (Ok a) = P s
After P Q s (Err (ended.Fault f)) = P s
After P Q s (Err (ended.FaultIn f id)) = P s
After P Q s (Err (ended.Limit Numbers)) = Q s
After P Q s (Err (ended.Limit Firings)) = P s
After P Q s (Err (ended.Limit Turns)) = P s
After P Q s (Err (ended.Exit code)) = P s

-- what holds before the act holds after it
abbrev pub Keeps : {S A : Type 0} → (S → Type 0) → (S → Type 0) → Act S A → Type 0
Keeps {S} P Q act = (s : S) → P s → After P Q (act s).state (act s).answer

pub follow_keeps : {S A B : Type 0} (P Q : S → Type 0) (s : S) (w : List ℕ) (r : Result A EarlyEnd) (next : A → Act S B) → After P Q s r → ((a : A) → Keeps P Q (next a))
    → After P Q (follow s w r next).state (follow s w r next).answer
follow_keeps P Q s w (Ok a) next h more = more a s h
follow_keeps P Q s w (Err (ended.Fault f)) next h more = h
follow_keeps P Q s w (Err (ended.FaultIn f id)) next h more = h
follow_keeps P Q s w (Err (ended.Limit Numbers)) next h more = h
follow_keeps P Q s w (Err (ended.Limit Firings)) next h more = h
follow_keeps P Q s w (Err (ended.Limit Turns)) next h more = h
follow_keeps P Q s w (Err (ended.Exit code)) next h more = h

pub keeps_then : {S A B : Type 0} (P Q : S → Type 0) (first : Act S A) (next : A → Act S B) → Keeps P Q first → ((a : A) → Keeps P Q (next a)) → Keeps P Q (first >>= next)
keeps_then P Q first next f more s h = follow_keeps P Q (first s).state (first s).written (first s).answer next (f s h) more

pub keeps_each : {S X : Type 0} (P Q : S → Type 0) (act : X → Act S (Unit {0})) (xs : List X) → ((x : X) → Keeps P Q (act x)) → Keeps P Q (each act xs)
keeps_each P Q act [] f s h = h
keeps_each P Q act (x ∷ xs) f s h = keeps_then P Q (act x) (λ _. each act xs) (f x) (λ _. keeps_each P Q act xs f) s h

-- where it makes no difference how an act ends
pub after_any : {S A : Type 0} (P : S → Type 0) (s : S) (r : Result A EarlyEnd) → P s → After P P s r
after_any P s (Ok a) h = h
after_any P s (Err (ended.Fault f)) h = h
after_any P s (Err (ended.FaultIn f id)) h = h
after_any P s (Err (ended.Limit Numbers)) h = h
after_any P s (Err (ended.Limit Firings)) h = h
after_any P s (Err (ended.Limit Turns)) h = h
after_any P s (Err (ended.Exit code)) h = h

-- of an act that keeps it however it ends
pub after_kept : {S A : Type 0} (P Q : S → Type 0) (s : S) (r : Result A EarlyEnd) → ((t : S) → P t → Q t) → P s → After P Q s r
after_kept P Q s (Ok a) weaken h = h
after_kept P Q s (Err (ended.Fault f)) weaken h = h
after_kept P Q s (Err (ended.FaultIn f id)) weaken h = h
after_kept P Q s (Err (ended.Limit Numbers)) weaken h = weaken s h
after_kept P Q s (Err (ended.Limit Firings)) weaken h = h
after_kept P Q s (Err (ended.Limit Turns)) weaken h = h
after_kept P Q s (Err (ended.Exit code)) weaken h = h

pub from_any : {S A : Type 0} (P : S → Type 0) (s : S) (r : Result A EarlyEnd) → After P P s r → P s
from_any P s (Ok a) h = h
from_any P s (Err (ended.Fault f)) h = h
from_any P s (Err (ended.FaultIn f id)) h = h
from_any P s (Err (ended.Limit Numbers)) h = h
from_any P s (Err (ended.Limit Firings)) h = h
from_any P s (Err (ended.Limit Turns)) h = h
from_any P s (Err (ended.Exit code)) h = h

-- the same of what the state becomes
pub after_map : {S A : Type 0} (P Q : S → Type 0) (f : S → S) (s : S) (r : Result A EarlyEnd) → ((t : S) → P t → P (f t)) → ((t : S) → Q t → Q (f t)) → After P Q s r → After P Q (f s) r
after_map P Q f s (Ok a) p q h = p s h
after_map P Q f s (Err (ended.Fault x)) p q h = p s h
after_map P Q f s (Err (ended.FaultIn x id)) p q h = p s h
after_map P Q f s (Err (ended.Limit Numbers)) p q h = q s h
after_map P Q f s (Err (ended.Limit Firings)) p q h = p s h
after_map P Q f s (Err (ended.Limit Turns)) p q h = p s h
after_map P Q f s (Err (ended.Exit code)) p q h = p s h

-- the same where a fault is one of a rule
pub after_in_rule : {S A : Type 0} (P Q : S → Type 0) (id : ℕ) (s : S) (r : Result A EarlyEnd) → After P Q s r → After P Q s (answer_in_rule id r)
after_in_rule P Q id s (Ok a) h = h
after_in_rule P Q id s (Err (ended.Fault f)) h = h
after_in_rule P Q id s (Err (ended.FaultIn f inner)) h = h
after_in_rule P Q id s (Err (ended.Limit Numbers)) h = h
after_in_rule P Q id s (Err (ended.Limit Firings)) h = h
after_in_rule P Q id s (Err (ended.Limit Turns)) h = h
after_in_rule P Q id s (Err (ended.Exit code)) h = h
