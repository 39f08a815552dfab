use Rattle.std.proofs.Common.{◌≡◌, Some, refl}
use Rattle.cb_group_node.proofs.Touching.{one_touched}
use Rattle.cb_group_node.proofs.inside.touch_one.Goals as goal
use Rattle.cb_token_lists.specs.Partials.{Meets}

pub returns-in-Some : goal.returns-in-Some
returns-in-Some c below =
    one_touched (λ a i. Meets c.args.lists.now.sources.now c.args.lists.now.lists.now c.args.from a c.args.inner i) c.args.touched.now.items c.push.new.self.items c.args.number c.in-Some.group
    c.in_ok-push.ensures.items ((c.in-Some.ensures below c.in-Some.group).0 refl) (λ g m. let e : Some c.in-Some.group ≡ Some g = (c.in-Some.ensures below g).1 m in cc)
