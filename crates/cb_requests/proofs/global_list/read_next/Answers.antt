use Rattle.cb_requests.proofs.global_list.read_next.Goals as goal

pub returns-in_default-clause-parts : goal.returns-in_default-clause-parts
returns-in_default-clause-parts c = c.in_default.ensures.parts c.args.relations.now c.args.env.now c.args.given.now
