-- Ranks of activations, and conflict resolution by them.
use Rattle.std.specs.Prelude.{◌&&◌, ℕ, Bool, nat_eq}
use Rattle.std.specs.Ordering.{flip_args, int_cmp, int_eq, is_lt, nat_cmp, on, then_cmp}
use Rattle.std.specs.declared.cmp.Ordering.{Ordering}
use Rattle.cb_agenda.specs.declared.rank.Rank.{Rank}
use Rattle.cb_agenda.specs.declared.strategy.Strategy.{Strategy}
use Rattle.cb_agenda.specs.declared.strategy.Strategy.TheVariants.{Depth, Breadth}

-- two ranks are the same: the same salience and the same stamp
abbrev pub rank_eq : Rank → Rank → Bool
rank_eq t u = int_eq t.salience u.salience && nat_eq t.stamp u.stamp

-- the order of ranks: by the salience, and then by the stamp
abbrev pub rank_cmp : Rank → Rank → Ordering
rank_cmp = then_cmp (on (λ t. t.salience) int_cmp) (on (λ t. t.stamp) nat_cmp)

-- conflict resolution as an order: first the greatest salience; of one salience, under depth the newest stamp, under breadth the oldest
abbrev pub firing_cmp : Strategy → Rank → Rank → Ordering
firing_cmp Depth = then_cmp (flip_args (on (λ t. t.salience) int_cmp)) (flip_args (on (λ t. t.stamp) nat_cmp))
firing_cmp Breadth = then_cmp (flip_args (on (λ t. t.salience) int_cmp)) (on (λ t. t.stamp) nat_cmp)

-- an activation of the rank t fires before one of the rank u
abbrev pub fires_before : Strategy → Rank → Rank → Bool
fires_before s t u = is_lt (firing_cmp s t u)

-- the greatest stamp that an activation can have
abbrev pub greatest_stamp : ℕ
greatest_stamp = 9223372036854775807
