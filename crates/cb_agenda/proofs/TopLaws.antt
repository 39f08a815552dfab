-- The top fires before all others, and is the first of the list.
use Rattle.std.proofs.Common.{◌≡◌, ◌≢◌, Bool, true, false, ◌∷◌, [], None, Option, Some, suc, ap, arith, if◌then◌else◌, map, option_map, refl, subst, sym, ◌∙◌}
use Rattle.std.proofs.lemmas.Bool.{false_from_ne_true, false≢true}
use Rattle.std.proofs.lemmas.List.Elements.{All-from_recursion}
use Rattle.std.proofs.lemmas.List.Sorted.{All-permutation, IsPermutation-sym}
use Rattle.std.specs.Cmp.{nat_cmp_total}
use Rattle.std.specs.List.{All, AllByRecursion, Contains, slice_get}
use Rattle.std.specs.Ordering.{int_cmp, is_eq, is_lt, nat_cmp, ordering_reverse, ordering_then}
use Rattle.std.specs.declared.cmp.Ordering.{Ordering}
use Rattle.std.specs.declared.cmp.Ordering.TheVariants.{Equal, Greater, Less}
use Rattle.cb_agenda.proofs.Equality.{rank-Decides}
use Rattle.cb_agenda.proofs.Firing.{first, first_order, firing_total}
use Rattle.cb_agenda.proofs.Sorting.{in_order_sorted, same_sorted}
use Rattle.cb_agenda.specs.Agendas.{Activation, AgendaValue, Entries, agenda_list, firing_order, first_to_fire, key_and_salience, popped, taken_out, top_of}
use Rattle.cb_agenda.specs.Internal.RankLaws.{rank_tied}
use Rattle.cb_agenda.specs.Orders.{IsInOrder, placed}
use Rattle.cb_agenda.specs.Ranks.{fires_before, firing_cmp, rank_cmp}
use Rattle.cb_agenda.specs.declared.rank.Rank.{Rank}
use Rattle.cb_agenda.specs.declared.strategy.Strategy.{Strategy}
use Rattle.cb_agenda.specs.declared.strategy.Strategy.TheVariants.{Breadth, Depth}

first_placed_by : (b : Bool) (e f : Activation) (fs rest : Entries) → Some (if b then f else e) ≡ slice_get (if b then f ∷ rest else e ∷ f ∷ fs) 0
first_placed_by true e f fs rest = refl
first_placed_by false e f fs rest = refl

first_placed : (s : Strategy) (e : Activation) (zs : Entries) → Some (first_to_fire s e (slice_get zs 0)) ≡ slice_get (placed (first s) e zs) 0
first_placed s e [] = refl
first_placed s e (f ∷ fs) = first_placed_by (fires_before s f.0 e.0) e f fs (placed (first s) e fs)

pub first_is_top : (s : Strategy) (es : Entries) → slice_get (firing_order s es) 0 ≡ top_of s es
first_is_top s [] = refl
first_is_top s (e ∷ es) = sym (first_placed s e (firing_order s es)) ∙ ap (λ o. Some (first_to_fire s e o)) (first_is_top s es)

not_before_itself : (s : Strategy) (e : Activation) → fires_before s e.0 e.0 ≡ false
not_before_itself s e = false_from_ne_true (fires_before s e.0 e.0) (λ h. false≢true (sym ((first_order s).one_way e e h) ∙ h))

none_before_first : (s : Strategy) (zs : Entries) (t : Activation) → IsInOrder (first s) zs → slice_get zs 0 ≡ Some t → AllByRecursion (λ e. first s e t ≡ false) zs
none_before_first s [] t h e = tt
none_before_first s (z ∷ zs) t h e =
    let is : z ≡ t = cc in
    subst (λ u. AllByRecursion (λ x. first s x u ≡ false) (z ∷ zs)) is (not_before_itself s z, h.0)

pub none_before_top : (s : Strategy) (es : Entries) (t : Activation) → top_of s es ≡ Some t → All (λ e. first s e t ≡ false) es
none_before_top s es t h =
    All-permutation (λ e. first s e t ≡ false) (firing_order s es) es (IsPermutation-sym es (firing_order s es) (same_sorted (first s) es))
    (All-from_recursion (λ e. first s e t ≡ false) (firing_order s es)
    (none_before_first s (firing_order s es) t (in_order_sorted (first s) (first_order s) es) (first_is_top s es ∙ h)))

-- of two ranks that differ one fires before the other
same_rank : (t u : Rank) → rank_cmp t u ≡ Equal → t ≡ u
same_rank t u h = (rank-Decides t u).0 (rank_tied t u ∙ ap is_eq h)

then_equal : (o p : Ordering) → ordering_then o p ≡ Equal → (o ≡ Equal) × (p ≡ Equal)
then_equal Less p h = cc
then_equal Equal p h = (refl, h)
then_equal Greater p h = cc

same_firing : (s : Strategy) (t u : Rank) → firing_cmp s t u ≡ Equal → rank_cmp u t ≡ Equal
same_firing Depth t u h = h
same_firing Breadth t u h =
    let both = then_equal (int_cmp u.salience t.salience) (nat_cmp t.stamp u.stamp) h in
    let stamps : nat_cmp u.stamp t.stamp ≡ Equal = nat_cmp_total.antisymm u.stamp t.stamp ∙ ap ordering_reverse both.1 in
    let saliences : int_cmp u.salience t.salience ≡ Equal = both.0 in
    rw (saliences) stamps

other_way : (s : Strategy) (t u : Rank) (o : Ordering) → firing_cmp s t u ≡ o → t ≢ u → fires_before s u t ≡ false → fires_before s t u ≡ true
other_way s t u Less e apart h = ap is_lt e
other_way s t u Equal e apart h = absurd (apart (sym (same_rank u t (same_firing s t u e))))
other_way s t u Greater e apart h =
    let before : fires_before s u t ≡ true = ap is_lt ((firing_total s).antisymm u t ∙ ap ordering_reverse e) in
    absurd (false≢true (sym h ∙ before))

pub top_before_others : (s : Strategy) (es : Entries) (t e : Activation) → top_of s es ≡ Some t → Contains es e → t.0 ≢ e.0 → fires_before s t.0 e.0 ≡ true
top_before_others s es t e top there apart =
    let none : fires_before s e.0 t.0 ≡ false = subst (λ f. fires_before s f.0 t.0 ≡ false) there.2 (none_before_top s es t top there.0 e there.1) in
    other_way s t.0 e.0 (firing_cmp s t.0 e.0) refl apart none

contained_by : (b : Bool) (s : Strategy) (x f : Activation) (xs : Entries) → Contains xs f → Contains (x ∷ xs) (if b then f else x)
contained_by true s x f xs h = (suc h.0, let below = h.1 in omega arith, h.2)
contained_by false s x f xs h = (0, omega arith, refl)

contained : (s : Strategy) (x : Activation) (xs : Entries) (o : Option Activation) → ((f : Activation) → o ≡ Some f → Contains xs f) → Contains (x ∷ xs) (first_to_fire s x o)
contained s x xs None h = (0, omega arith, refl)
contained s x xs (Some f) h = contained_by (fires_before s f.0 x.0) s x f xs (h f refl)

pub top_contained : (s : Strategy) (es : Entries) (t : Activation) → top_of s es ≡ Some t → Contains es t
top_contained s [] t h = cc
top_contained s (x ∷ xs) t h =
    let is : first_to_fire s x (top_of s xs) ≡ t = cc in
    subst (Contains (x ∷ xs)) is (contained s x xs (top_of s xs) (top_contained s xs))

-- what is taken out is the top
key_of : (a : AgendaValue) (o : Option Activation) → (taken_out a o).1 ≡ option_map (λ e. e.1) o
key_of a None = refl
key_of a (Some e) = refl

pub fires_top : (a : AgendaValue) → (popped a).1 ≡ option_map (λ e. e.1) (top_of a.strategy a.entries)
unfolding popped
fires_top a = key_of a (top_of a.strategy a.entries)

pub listed_is : (a : AgendaValue) → agenda_list a ≡ map key_and_salience (firing_order a.strategy a.entries)
unfolding agenda_list
listed_is a = refl
