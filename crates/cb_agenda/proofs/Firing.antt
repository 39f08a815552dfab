-- Conflict resolution: which activation is the top, and in which order all of them fire.
use Rattle.std.proofs.Common.{◌≡◌, ℤ, Bool, true, false, List, [], ◌∷◌, ◌++◌, ap, if◌then◌else◌, map, refl, reverse, sym, ◌∙◌}
use Rattle.std.proofs.lemmas.List.{map-append, reverse-append}
use Rattle.std.proofs.lemmas.List.Sorted.{ranks_by}
use Rattle.std.specs.Cmp.{Equal-is, IsStrictWeakOrder, IsTotalOrder, back_total, int_cmp_total, nat_cmp_total, on_total, signed_Decides, then_total}
use Rattle.std.specs.List.{AllByRecursion}
use Rattle.std.specs.List.Sorted.{IsSortedBy, IsStableBy}
use Rattle.std.specs.Ordering.{int_cmp, is_lt, nat_cmp, ordering_reverse, ordering_then}
use Rattle.std.specs.declared.cmp.Ordering.{Ordering}
use Rattle.std.specs.declared.cmp.Ordering.TheVariants.{Equal, Greater, Less}
use Rattle.cb_agenda.proofs.Sorting.{all_sorted, sorted_is}
use Rattle.cb_agenda.specs.Agendas.{Activation, Entries, firing_order, key_and_salience}
use Rattle.cb_agenda.specs.Internal.{Rises}
use Rattle.cb_agenda.specs.Orders.{placed, sorted}
use Rattle.cb_agenda.specs.Ranks.{fires_before, firing_cmp, rank_cmp}
use Rattle.cb_agenda.specs.declared.rank.Rank.{Rank}
use Rattle.cb_agenda.specs.declared.strategy.Strategy.{Strategy}
use Rattle.cb_agenda.specs.declared.strategy.Strategy.TheVariants.{Breadth, Depth}
use Rattle.cb_matches.specs.Keys.{KeyValue}

pub firing_total : (s : Strategy) → IsTotalOrder (firing_cmp s)
firing_total Depth = then_total (back_total (on_total (λ (t : Rank). t.salience) int_cmp_total)) (back_total (on_total (λ (t : Rank). t.stamp) nat_cmp_total))
firing_total Breadth = then_total (back_total (on_total (λ (t : Rank). t.salience) int_cmp_total)) (on_total (λ (t : Rank). t.stamp) nat_cmp_total)

-- an activation fires before another
abbrev pub first : Strategy → Activation → Activation → Bool
first s e f = fires_before s e.0 f.0

pub first_order : (s : Strategy) → IsStrictWeakOrder (first s)
first_order s = ranks_by (firing_total s) (λ (e : Activation). e.0)

-- of two ranks, under depth the higher one fires first, and under breadth it does where its salience is greater
pub depth_fires : (t u : Rank) → rank_cmp t u ≡ Less → fires_before Depth u t ≡ true
depth_fires t u h = ap is_lt h

breadth_by : (o p q : Ordering) → ordering_then o p ≡ Less → q ≡ ordering_reverse p → is_lt (ordering_then o q) ≡ is_lt o
breadth_by Less p q h e = refl
breadth_by Equal p q h e = ap is_lt (e ∙ ap ordering_reverse h)
breadth_by Greater p q h e = refl

pub breadth_fires : (t u : Rank) → rank_cmp t u ≡ Less → fires_before Breadth u t ≡ is_lt (int_cmp t.salience u.salience)
breadth_fires t u h = breadth_by (int_cmp t.salience u.salience) (nat_cmp t.stamp u.stamp) (nat_cmp u.stamp t.stamp) h (nat_cmp_total.antisymm u.stamp t.stamp)

-- saliences that are the same
pub level : (s u : ℤ) → s ≡ u → int_cmp s u ≡ Equal
level s u e = (Equal-is (int_cmp s u)).0 ((signed_Decides s u).1 e)

-- where ranks rise, the order of firing under depth is the reverse
placed_last : (x : Activation) (zs : Entries) → AllByRecursion (λ (e : Activation). rank_cmp x.0 e.0 ≡ Less) zs → placed (first Depth) x zs ≡ zs ++ x ∷ []
placed_last x [] h = refl
placed_last x (z ∷ zs) h = let before : fires_before Depth z.0 x.0 ≡ true = depth_fires x.0 z.0 h.0 in rw (before, placed_last x zs h.1) refl

pub newest_first : (es : Entries) → Rises es → firing_order Depth es ≡ reverse es
newest_first [] h = refl
newest_first (x ∷ xs) h =
    placed_last x (sorted (first Depth) xs) (all_sorted (first Depth) (λ (e : Activation). rank_cmp x.0 e.0 ≡ Less) xs h.0)
    ∙ ap (λ zs. zs ++ x ∷ []) (newest_first xs h.1) ∙ sym (reverse-append (x ∷ []) xs)

pub reversed : (es : Entries) → map key_and_salience (reverse es) ≡ reverse (map key_and_salience es)
reversed [] = refl
reversed (x ∷ xs) =
    ap (map key_and_salience) (reverse-append (x ∷ []) xs) ∙ map-append key_and_salience (reverse xs) (x ∷ []) ∙ ap (λ zs. zs ++ key_and_salience x ∷ []) (reversed xs) ∙ sym (reverse-append (key_and_salience x ∷ []) (map key_and_salience xs))

-- and under breadth the order by falling salience
abbrev pub saliences_fall : KeyValue × ℤ → KeyValue × ℤ → Bool
saliences_fall a b = is_lt (int_cmp b.1 a.1)

pub saliences_order : IsStrictWeakOrder saliences_fall
saliences_order = ranks_by (back_total int_cmp_total) (λ (a : KeyValue × ℤ). a.1)

shown_placed_by : (b c : Bool) (x z : Activation) (zs rest : Entries) (more : List (KeyValue × ℤ)) → b ≡ c → map key_and_salience rest ≡ more
    → map key_and_salience (if b then z ∷ rest else x ∷ z ∷ zs) ≡ (if c then key_and_salience z ∷ more else key_and_salience x ∷ key_and_salience z ∷ map key_and_salience zs)
shown_placed_by true true x z zs rest more e h = ap (λ es. key_and_salience z ∷ es) h
shown_placed_by true false x z zs rest more e h = cc
shown_placed_by false true x z zs rest more e h = cc
shown_placed_by false false x z zs rest more e h = refl

shown_placed : (x : Activation) (zs : Entries) → AllByRecursion (λ (e : Activation). rank_cmp x.0 e.0 ≡ Less) zs → map key_and_salience (placed (first Breadth) x zs) ≡ placed saliences_fall (key_and_salience x) (map key_and_salience zs)
shown_placed x [] h = refl
shown_placed x (z ∷ zs) h =
    shown_placed_by (fires_before Breadth z.0 x.0) (saliences_fall (key_and_salience z) (key_and_salience x)) x z zs (placed (first Breadth) x zs) (placed saliences_fall (key_and_salience x) (map key_and_salience zs))
    (breadth_fires x.0 z.0 h.0) (shown_placed x zs h.1)

pub oldest_first : (es : Entries) → Rises es → map key_and_salience (firing_order Breadth es) ≡ sorted saliences_fall (map key_and_salience es)
oldest_first [] h = refl
oldest_first (x ∷ xs) h =
    shown_placed x (sorted (first Breadth) xs) (all_sorted (first Breadth) (λ (e : Activation). rank_cmp x.0 e.0 ≡ Less) xs h.0)
    ∙ ap (placed saliences_fall (key_and_salience x)) (oldest_first xs h.1)

-- what a reversal and a sort by salience make of it
module _ (s : Strategy) (es : Entries) (rise : Rises es) where
  pub depth_list : (xs ys : List (KeyValue × ℤ)) → s ≡ Depth → xs ≡ map key_and_salience es → ys ≡ reverse xs → ys ≡ map key_and_salience (firing_order s es)
  depth_list xs ys is e h =
      h ∙ ap reverse e ∙ sym (reversed es) ∙ ap (map key_and_salience) (sym (newest_first es rise)) ∙ ap (λ (t : Strategy). map key_and_salience (firing_order t es)) (sym is)

  pub breadth_list : (xs ys : List (KeyValue × ℤ)) → s ≡ Breadth → xs ≡ map key_and_salience es → IsSortedBy saliences_fall ys → IsStableBy saliences_fall xs ys → ys ≡ map key_and_salience (firing_order s es)
  breadth_list xs ys is e up stable =
      sorted_is saliences_fall saliences_order xs ys up stable ∙ ap (sorted saliences_fall) e ∙ sym (oldest_first es rise)
      ∙ ap (λ (t : Strategy). map key_and_salience (firing_order t es)) (sym is)
