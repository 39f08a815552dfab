use Rattle.cb_alpha.proofs.Turned.{here, joined}
use Rattle.cb_alpha.proofs.laws.a_join_more_leaves_the_facts.Goals as goal

pub returns-clause-facts : goal.returns-clause-facts
returns-clause-facts c p m m' fs join fields over is = joined p m fs over m' join fields is

pub returns-clause-others : goal.returns-clause-others
returns-clause-others c m m' join other fields others is has = (has.0, is.others other has.0 has.1, has.2)

pub returns-clause-here : goal.returns-clause-here
returns-clause-here c m m' join fields is = here m m' join fields is
