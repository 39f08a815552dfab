use Rattle.std.proofs.Common.{◌≡◌, length}
use Rattle.std.specs.Vec.Iter.{into_iter_items, into_iter_len}
use Rattle.cb_knowledge_base.proofs.globals.GlobalTable.define_all.Given as goal
use Rattle.cb_knowledge_base.specs.Globals.{with_initials}

-- what is left leads from here to where all lead from the start
abbrev pub invariant-loop-global : goal.invariant-loop-global
invariant-loop-global l = record {
  leads : with_initials (into_iter_items l.global-iterator) l.self ≡ with_initials l.fn.globals.items l.initial.self;
  count : into_iter_len l.global-iterator ≡ length (into_iter_items l.global-iterator);
}
