-- `==` of ranks is an equivalence, and their order is total and agrees with `==`.
use Rattle.std.specs.Prelude.{◌≡◌, nat_eq, refl}
use Rattle.std.specs.Cmp.{IsEquivalence, IsTotalOrder, and_equiv, on_equiv, on_total, then_total, both_tied, int_cmp_total, int_eq_equiv, nat_cmp_total, nat_eq_equiv, unsigned_ties}
use Rattle.std.specs.Ordering.{eq_by_cmp, int_cmp, int_eq, nat_cmp}
use Rattle.cb_agenda.specs.Ranks.{rank_cmp, rank_eq}
use Rattle.cb_agenda.specs.declared.rank.Rank.{Rank}

pub rank_equiv : IsEquivalence rank_eq
rank_equiv = and_equiv (on_equiv (λ (t : Rank). t.salience) int_eq_equiv) (on_equiv (λ (t : Rank). t.stamp) nat_eq_equiv)

pub rank_total : IsTotalOrder rank_cmp
rank_total = then_total (on_total (λ (t : Rank). t.salience) int_cmp_total) (on_total (λ (t : Rank). t.stamp) nat_cmp_total)

pub rank_tied : (t u : Rank) → rank_eq t u ≡ eq_by_cmp rank_cmp t u
rank_tied t u =
    both_tied (int_eq t.salience u.salience) (nat_eq t.stamp u.stamp) (int_cmp t.salience u.salience) (nat_cmp t.stamp u.stamp)
    refl (unsigned_ties t.stamp u.stamp)
