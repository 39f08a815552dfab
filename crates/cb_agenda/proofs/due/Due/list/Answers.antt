use Rattle.std.proofs.Common.{rules}
use Rattle.std.proofs.lemmas.List.Sorted.{answers_always}
use Rattle.cb_agenda.proofs.Firing.{breadth_list, depth_list, saliences_fall, saliences_order}
use Rattle.cb_agenda.proofs.due.Due.list.Goals as goal

pub returns-in-Depth : goal.returns-in-Depth
returns-in-Depth c = depth_list c.args.strategy c.args.self.now.due.entries c.by_rank.ensures.rising _ _ c.in-Depth.is c.in_ok-listed.ensures.all c.reverse.ensures.items

pub returns-in_ok-sort_by-in-Breadth : goal.returns-in_ok-sort_by-in-Breadth
returns-in_ok-sort_by-in-Breadth c =
    breadth_list c.args.strategy c.args.self.now.due.entries c.by_rank.ensures.rising _ _ c.in-Breadth.is c.in_ok-listed.ensures.all
    (c.in_ok-sort_by-in-Breadth.ensures.sorted saliences_fall saliences_order (answers_always _ _ _ (λ f a r g h. search rules)))
    (c.sort_by.ensures.stable saliences_fall saliences_order (answers_always _ _ _ (λ f a r g h. search rules)))
