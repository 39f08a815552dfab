use Rattle.std.proofs.Common.{refl}
use Rattle.cb_actions.proofs.ActLaws.{went_quietly}
use Rattle.cb_actions.proofs.CallLaws.{by_effect}
use Rattle.cb_actions.proofs.WentLaws.{went_ok}
use Rattle.cb_actions.proofs.world.World.perform.Goals as goal

pub returns-in-Retract-clause-went : goal.returns-in-Retract-clause-went
returns-in-Retract-clause-went g c = by_effect g.K.Sink.writes c.args.self.now c.in-Retract.is c.as_slice.ensures.value c.retract.ensures.went

pub returns-in-Modify-clause-went : goal.returns-in-Modify-clause-went
returns-in-Modify-clause-went g c = by_effect g.K.Sink.writes c.args.self.now c.in-Modify.is c.as_slice-in-Modify.ensures.value c.modify.ensures.went

pub returns-in-Bind-clause-went : goal.returns-in-Bind-clause-went
returns-in-Bind-clause-went g c = by_effect g.K.Sink.writes c.args.self.now c.in-Bind.is refl (went_quietly g.K.Sink.writes _ _ _ _ c.requires c.bind_all.ensures)

pub returns-in-BindGlobal-clause-went : goal.returns-in-BindGlobal-clause-went
returns-in-BindGlobal-clause-went g c = by_effect g.K.Sink.writes c.args.self.now c.in-BindGlobal.is refl (went_quietly g.K.Sink.writes _ _ _ _ c.requires c.bind_global_all.ensures)

pub returns-in-Printout-clause-went : goal.returns-in-Printout-clause-went
returns-in-Printout-clause-went g c = by_effect g.K.Sink.writes c.args.self.now c.in-Printout.is c.as_slice-in-Printout.ensures.value c.print.ensures

pub returns-in-Printout-clause-fine : goal.returns-in-Printout-clause-fine
returns-in-Printout-clause-fine g c = went_ok g.K.Sink.writes _ _ _ _ _ c.print.ensures

pub returns-in-Print-clause-went : goal.returns-in-Print-clause-went
returns-in-Print-clause-went g c = by_effect g.K.Sink.writes c.args.self.now c.in-Print.is c.as_slice-in-Print.ensures.value c.print-in-Print.ensures

pub returns-in-Print-clause-fine : goal.returns-in-Print-clause-fine
returns-in-Print-clause-fine g c = went_ok g.K.Sink.writes _ _ _ _ _ c.print-in-Print.ensures

pub returns-in-Println-clause-went : goal.returns-in-Println-clause-went
returns-in-Println-clause-went g c = by_effect g.K.Sink.writes c.args.self.now c.in-Println.is c.as_slice-in-Println.ensures.value c.print_line.ensures

pub returns-in-Println-clause-fine : goal.returns-in-Println-clause-fine
returns-in-Println-clause-fine g c = went_ok g.K.Sink.writes _ _ _ _ _ c.print_line.ensures

pub returns-in-Halt-clause-went : goal.returns-in-Halt-clause-went
returns-in-Halt-clause-went g c = by_effect g.K.Sink.writes c.args.self.now c.in-Halt.is refl (went_quietly g.K.Sink.writes _ _ _ _ c.requires c.halt.ensures)
