use Rattle.cb_laws.proofs.FiringLaws.{at_most, never_rise, none_left, one_spent}
use Rattle.cb_laws.proofs.ScriptLaws.{script_within, so_far_within}
use Rattle.cb_laws.proofs.firing.a_run_stays_within_its_firings.Goals as goal

pub returns-clause-never_rise : goal.returns-clause-never_rise
returns-clause-never_rise c = never_rise

pub returns-clause-one_each : goal.returns-clause-one_each
returns-clause-one_each c = one_spent

pub returns-clause-at_most : goal.returns-clause-at_most
returns-clause-at_most c = at_most

pub returns-clause-none_left : goal.returns-clause-none_left
returns-clause-none_left c = none_left

pub returns-clause-so_far : goal.returns-clause-so_far
returns-clause-so_far c = so_far_within

pub returns-clause-whole : goal.returns-clause-whole
returns-clause-whole c = script_within
