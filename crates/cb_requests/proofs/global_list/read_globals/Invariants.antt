use Rattle.std.proofs.Common.{◌≡◌, [], length}
use Rattle.cb_facts.specs.Internal.{after_those}
use Rattle.cb_forms.specs.Members.{members}
use Rattle.cb_requests.specs.Reads.{globals_in}
use Rattle.cb_requests.proofs.global_list.read_globals.Given as goal

abbrev pub invariant-loop-first : goal.invariant-loop-first
invariant-loop-first l =
    after_those l.read.globals.items (globals_in l.relations l.env l.read.given (members l.rest)) ≡ globals_in l.relations l.env [] (members l.forms)

abbrev pub decreases-loop-first : goal.decreases-loop-first
decreases-loop-first l = length l.rest
