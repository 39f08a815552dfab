-- What calls on lanes keep.
use Rattle.std.proofs.Common.{◌≡◌, ◌≢◌, ◌⊎◌, inl, inr, ◌-◌, ◌++◌, ℕ, ℤ, Bool, true, false, [], ◌∷◌, Err, IfSome, List, None, Ok, OnErr, OnOk, Option, Result, Some, ap, append_assoc, filter, int_cmp, is_err, length, map, refl, slice_get, subst, sym, ◌∙◌}
use Rattle.std.proofs.lemmas.Bool.{false≢true}
use Rattle.std.proofs.lemmas.List.{map-append}
use Rattle.std.specs.BTreeMap.{insert_entry, is_at}
use Rattle.std.specs.Map.{lookup, remove_entry, set_value}
use Rattle.cb_agenda.proofs.CurrentLaws.{current_append}
use Rattle.cb_agenda.proofs.EntryLaws.{rises_more, rises_without}
use Rattle.cb_agenda.proofs.LaneLaws.{Lanes, SaliencesRise, last_found, popped_last, ranked_append, set_same, settled_filled, settled_same, thinned_lane}
use Rattle.cb_agenda.specs.Agendas.{Entries, key_and_salience}
use Rattle.cb_agenda.specs.Internal.{Active, AreFilled, IsNext, Line, Placed, Rises, TookAt, current, is_current, laned, ranked, ranked_all, stays}
use Rattle.cb_agenda.specs.Ranks.{rank_cmp}
use Rattle.cb_agenda.specs.declared.lanes.Popped.{Popped}
use Rattle.cb_agenda.specs.declared.rank.Rank.{Rank}
use Rattle.cb_agenda.specs.declared.strategy.Strategy.{Strategy}
use Rattle.cb_matches.specs.Keys.{KeyValue}

pub on_ok : {T E : Type 0} (P Q : Type 0) (r : Result T E) → (P → Q) → OnOk r P → OnOk r Q
on_ok P Q (Ok x) from h = from h
on_ok P Q (Err e) from h = tt

pub on_err : {T E : Type 0} (P Q : Type 0) (r : Result T E) → (P → Q) → OnErr r P → OnErr r Q
on_err P Q (Ok x) from h = tt
on_err P Q (Err e) from h = from h

pub ok_of : {T E : Type 0} (P : Type 0) (r : Result T E) → is_err r ≡ false → OnOk r P → P
ok_of P (Ok x) is h = h
ok_of P (Err e) is h = absurd (false≢true (sym is))

not_nil : (xs : Line) (x : ℕ × ℕ) → xs ++ x ∷ [] ≢ []
not_nil [] x h = cc
not_nil (y ∷ ys) x h = cc

pub pushed_filled : {T E : Type 0} (r : Result T E) (x : ℕ × ℕ) (xs ys : Line) → OnOk r (ys ≡ xs ++ x ∷ []) → OnErr r (ys ≡ xs) → xs ≢ [] → ys ≢ []
pushed_filled (Ok u) x xs ys ok err some is = not_nil xs x (sym ok ∙ is)
pushed_filled (Err e) x xs ys ok err some is = some (sym err ∙ is)

pub popped_rises : (st : Strategy) (es fs : List Placed) (o : Option Placed) → IfSome o (λ x. IsNext st es x fs) → (o ≡ None → (es ≡ []) × (fs ≡ [])) → Rises es → Rises fs
popped_rises st es fs None some none up = subst (λ (gs : List Placed). Rises gs) (sym (none refl).1) tt
popped_rises st es fs (Some x) some none up = subst (λ (gs : List Placed). Rises gs) (sym some.left) (rises_without some.before some.behind x (subst (λ (gs : List Placed). Rises gs) some.whole up))

pub thin_lane : (find : ℕ → Option Active) (s : ℤ) (xs ys : Line) (ls ms : Lanes) → SaliencesRise ls → lookup (is_at (int_cmp s)) ls ≡ Some xs → ms ≡ set_value (is_at (int_cmp s)) ls ys
    → (ys ≡ xs) ⊎ (ys ≡ filter (λ (x : ℕ × ℕ). is_current find (ranked s x)) xs) → (laned ms ≡ laned ls) ⊎ (laned ms ≡ filter (stays find s) (laned ls))
thin_lane find s xs ys ls ms up there set (inl is) = inl (ap laned (set ∙ ap (set_value (is_at (int_cmp s)) ls) is ∙ set_same (is_at (int_cmp s)) xs ls there))
thin_lane find s xs ys ls ms up there set (inr is) = inr (ap laned (set ∙ ap (set_value (is_at (int_cmp s)) ls) is) ∙ thinned_lane find s xs ls up there)

-- the lane that p picks was removed if it was empty, and otherwise all lanes stay
abbrev pub IsSettled : (ℤ → Bool) → Lanes → Lanes → Type 0
IsSettled p ms ns = (lookup p ms ≡ Some [] → ns ≡ remove_entry p ms) × (lookup p ms ≢ Some [] → ns ≡ ms)

pub settled_gone : (p : ℤ → Bool) (ms ns : Lanes) → lookup p ms ≡ Some [] → ns ≡ remove_entry p ms → IsSettled p ms ns
settled_gone p ms ns empty is = (λ e. is, λ e. absurd (e empty))

pub settled_kept : (p : ℤ → Bool) (ms : Lanes) → lookup p ms ≢ Some [] → IsSettled p ms ms
settled_kept p ms other = (λ e. absurd (other e), λ e. refl)

pub settled_after : (p : ℤ → Bool) (ls ms ns : Lanes) (v : Line) → AreFilled ls → ms ≡ set_value p ls v → IsSettled p ms ns → AreFilled ns
settled_after p ls ms ns v h is settled =
    settled_filled p ls ns v h (λ e. settled.0 (ap (lookup p) is ∙ e) ∙ ap (remove_entry p) is) (λ e. settled.1 (λ f. e (sym (ap (lookup p) is) ∙ f)) ∙ is)

pub pushed_rises : {T E : Type 0} (r : Result T E) (t : Rank) (k : ℕ) (es fs : List Placed) → OnOk r (fs ≡ insert_entry rank_cmp es t k) → OnErr r (fs ≡ es) → Rises es → Rises fs
pushed_rises (Ok x) t k es fs ok err up = subst (λ (gs : List Placed). Rises gs) (sym ok) (rises_more t k es up)
pushed_rises (Err e) t k es fs ok err up = subst (λ (gs : List Placed). Rises gs) (sym err) up

pub thinned_there : (find : ℕ → Option Active) (s : ℤ) (p : ℤ → Bool) (es : List Placed) (ms ns : Lanes) → (laned ms ≡ es) ⊎ (laned ms ≡ filter (stays find s) es) → IsSettled p ms ns → (laned ns ≡ es) ⊎ (laned ns ≡ filter (stays find s) es)
thinned_there find s p es ms ns (inl is) settled = inl (settled_same p ms ns settled.0 settled.1 ∙ is)
thinned_there find s p es ms ns (inr is) settled = inr (settled_same p ms ns settled.0 settled.1 ∙ is)

none_by : (b : Bool) (p : ℤ → Bool) (xs : Line) (l : ℤ × Line) (ls : Lanes) → p l.0 ≡ b → lookup p (l ∷ ls) ≡ None → (lookup p ls ≡ None → set_value p ls xs ≡ ls) → set_value p (l ∷ ls) xs ≡ l ∷ ls
none_by true p xs l ls e h next = let found : lookup p (l ∷ ls) ≡ Some l.1 = rw (e) refl in cc
none_by false p xs l ls e h next =
    let rest : lookup p (l ∷ ls) ≡ lookup p ls = rw (e) refl in
    let put : set_value p (l ∷ ls) xs ≡ l ∷ set_value p ls xs = rw (e) refl in
    put ∙ ap (λ (ms : Lanes). l ∷ ms) (next (sym rest ∙ h))

pub none_set : (p : ℤ → Bool) (xs : Line) (ls : Lanes) → lookup p ls ≡ None → set_value p ls xs ≡ ls
none_set p xs [] h = refl
none_set p xs (l ∷ ls) h = none_by (p l.0) p xs l ls refl h (none_set p xs ls)

set_by : (b : Bool) (p : ℤ → Bool) (v xs : Line) (l : ℤ × Line) (ls : Lanes) → p l.0 ≡ b → lookup p (l ∷ ls) ≡ Some xs → (lookup p ls ≡ Some xs → lookup p (set_value p ls v) ≡ Some v) → lookup p (set_value p (l ∷ ls) v) ≡ Some v
set_by true p v xs l ls e h next = rw (e, e) refl
set_by false p v xs l ls e h next =
    let rest : lookup p (l ∷ ls) ≡ lookup p ls = rw (e) refl in
    let put : set_value p (l ∷ ls) v ≡ l ∷ set_value p ls v = rw (e) refl in
    let later : lookup p (l ∷ set_value p ls v) ≡ lookup p (set_value p ls v) = rw (e) refl in
    ap (lookup p) put ∙ later ∙ next (sym rest ∙ h)

-- a lane that was set is found
set_found : (p : ℤ → Bool) (v xs : Line) (ls : Lanes) → lookup p ls ≡ Some xs → lookup p (set_value p ls v) ≡ Some v
set_found p v xs [] h = cc
set_found p v xs (l ∷ ls) h = set_by (p l.0) p v xs l ls refl h (set_found p v xs ls)

pub found_set : (p : ℤ → Bool) (v xs : Line) (ls ms : Lanes) → lookup p ls ≡ Some xs → ms ≡ set_value p ls v → lookup p ms ≡ Some v
found_set p v xs ls ms h set = ap (lookup p) set ∙ set_found p v xs ls h

pub some_same : {a b : Line} → Some a ≡ Some b → a ≡ b
some_same h = cc

filled_by : (b : Bool) (p : ℤ → Bool) (xs : Line) (l : ℤ × Line) (ls : Lanes) → p l.0 ≡ b → AreFilled (l ∷ ls) → lookup p (l ∷ ls) ≡ Some xs → (lookup p ls ≡ Some xs → xs ≢ []) → xs ≢ []
filled_by true p xs l ls e h at next =
    let found : lookup p (l ∷ ls) ≡ Some l.1 = rw (e) refl in
    let both : Some l.1 ≡ Some xs = sym found ∙ at in
    let line : l.1 ≡ xs = cc in
    subst (λ (ys : Line). ys ≢ []) line h.0
filled_by false p xs l ls e h at next = let rest : lookup p (l ∷ ls) ≡ lookup p ls = rw (e) refl in next (sym rest ∙ at)

pub filled_at : (p : ℤ → Bool) (xs : Line) (ls : Lanes) → AreFilled ls → lookup p ls ≡ Some xs → xs ≢ []
filled_at p xs [] h at = cc
filled_at p xs (l ∷ ls) h at = filled_by (p l.0) p xs l ls refl h at (filled_at p xs ls h.1)

-- the last lane has something to take out
pub some_popped : (st : Strategy) (s : ℤ) (xs : Line) (ls ms : Lanes) → SaliencesRise ls → AreFilled ls → slice_get ls (length ls - 1) ≡ Some (s, xs) → (lookup (is_at (int_cmp s)) ls ≡ Some xs → TookAt st s xs ls ms None) → ⊥
some_popped st s xs ls ms up filled last took =
    let at = last_found s xs ls up last in
    filled_at (is_at (int_cmp s)) xs ls filled at ((took at).none refl)

-- what was taken out of the last lane, whatever is left of it
module _ (st : Strategy) (s : ℤ) (x : Popped) (xs : Line) (ls ms : Lanes) (up : SaliencesRise ls) (last : slice_get ls (length ls - 1) ≡ Some (s, xs)) (took : lookup (is_at (int_cmp s)) ls ≡ Some xs → TookAt st s xs ls ms (Some x)) where
  left_at : lookup (is_at (int_cmp s)) ms ≡ Some (took (last_found s xs ls up last)).left
  left_at =
      let at = last_found s xs ls up last in
      found_set (is_at (int_cmp s)) (took at).left xs ls ms at (took at).set

  pub emptied_settles : (ns : Lanes) → x.emptied ≡ true → ns ≡ remove_entry (is_at (int_cmp s)) ms → IsSettled (is_at (int_cmp s)) ms ns
  emptied_settles ns h is =
      settled_gone (is_at (int_cmp s)) ms ns (left_at ∙ ap (λ (ys : Line). Some ys) ((took (last_found s xs ls up last)).empty h)) is

  pub other_settles : x.emptied ≡ false → IsSettled (is_at (int_cmp s)) ms ms
  other_settles h =
      settled_kept (is_at (int_cmp s)) ms (λ e. (took (last_found s xs ls up last)).other h (some_same (sym left_at ∙ e)))

  pub popped_is : (ns : Lanes) → IsSettled (is_at (int_cmp s)) ms ns → IsNext st (laned ls) (ranked s (x.stamp, x.place)) (laned ns)
  popped_is ns settled =
      let took_it = took (last_found s xs ls up last) in
      subst (λ (es : List Placed). IsNext st (laned ls) (ranked s (x.stamp, x.place)) es) (ap laned (sym took_it.set) ∙ sym (settled_same (is_at (int_cmp s)) ms ns settled.0 settled.1)) (popped_last st s (x.stamp, x.place) xs took_it.left ls up last took_it.some)

  pub popped_filled : (ns : Lanes) → AreFilled ls → IsSettled (is_at (int_cmp s)) ms ns → AreFilled ns
  popped_filled ns filled settled =
      let took_it = took (last_found s xs ls up last) in
      settled_after (is_at (int_cmp s)) ls ms ns took_it.left filled took_it.set settled

-- what is listed of a lane in two pieces
pub both_listed : (find : ℕ → Option Active) (s : ℤ) (listed : List (KeyValue × ℤ)) (xs ys zs : Line) → xs ++ ys ≡ zs
    → (listed ++ map key_and_salience (current find (ranked_all s xs))) ++ map key_and_salience (current find (ranked_all s ys)) ≡ listed ++ map key_and_salience (current find (ranked_all s zs))
both_listed find s listed xs ys zs is =
    append_assoc listed (map key_and_salience (current find (ranked_all s xs))) (map key_and_salience (current find (ranked_all s ys)))
    ∙ ap (λ (all : List (KeyValue × ℤ)). listed ++ all) (sym (map-append key_and_salience (current find (ranked_all s xs)) (current find (ranked_all s ys))))
    ∙ ap (λ (es : Entries). listed ++ map key_and_salience es) (sym (current_append find (ranked_all s xs) (ranked_all s ys)))
    ∙ ap (λ (es : List Placed). listed ++ map key_and_salience (current find es)) (sym (ranked_append s xs ys)) ∙ ap (λ (ws : Line). listed ++ map key_and_salience (current find (ranked_all s ws))) is

-- what is listed of one lane and of those after it
pub lane_listed : (find : ℕ → Option Active) (s : ℤ) (xs : Line) (ls ms : Lanes) (listed more all : List (KeyValue × ℤ)) → ms ≡ (s, xs) ∷ ls → more ≡ listed ++ map key_and_salience (current find (ranked_all s xs))
    → listed ++ map key_and_salience (current find (laned ms)) ≡ all → more ++ map key_and_salience (current find (laned ls)) ≡ all
lane_listed find s xs ls ms listed more all is adds so_far =
    ap (λ (es : List (KeyValue × ℤ)). es ++ map key_and_salience (current find (laned ls))) adds ∙ append_assoc listed (map key_and_salience (current find (ranked_all s xs))) (map key_and_salience (current find (laned ls)))
    ∙ ap (λ (es : List (KeyValue × ℤ)). listed ++ es) (sym (map-append key_and_salience (current find (ranked_all s xs)) (current find (laned ls))))
    ∙ ap (λ (es : Entries). listed ++ map key_and_salience es) (sym (current_append find (ranked_all s xs) (laned ls))) ∙ ap (λ (ks : Lanes). listed ++ map key_and_salience (current find (laned ks))) (sym is) ∙ so_far
