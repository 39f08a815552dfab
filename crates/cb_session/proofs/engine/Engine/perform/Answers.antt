use Rattle.cb_actions.proofs.ActLaws.{went_quietly}
use Rattle.cb_session.proofs.AskedLaws.{performed_so}
use Rattle.cb_session.proofs.engine.Engine.perform.Goals as goal

pub returns-in-Act : goal.returns-in-Act
returns-in-Act g c = performed_so g.K.Sink.writes _ _ c.args.self.now _ _ _ _ c.in-Act.is c.evaluate.ensures

pub returns-in-DefineTemplate : goal.returns-in-DefineTemplate
returns-in-DefineTemplate g c = performed_so g.K.Sink.writes _ _ c.args.self.now _ _ _ _ c.in-DefineTemplate.is (went_quietly g.K.Sink.writes _ _ _ _ c.requires c.define_template.ensures)

pub returns-in-DefineDeffacts : goal.returns-in-DefineDeffacts
returns-in-DefineDeffacts g c = performed_so g.K.Sink.writes _ _ c.args.self.now _ _ _ _ c.in-DefineDeffacts.is (went_quietly g.K.Sink.writes _ _ _ _ c.requires c.define_deffacts.ensures)

pub returns-in-DefineGlobals : goal.returns-in-DefineGlobals
returns-in-DefineGlobals g c = performed_so g.K.Sink.writes _ _ c.args.self.now _ _ _ _ c.in-DefineGlobals.is (went_quietly g.K.Sink.writes _ _ _ _ c.requires c.define_globals.ensures)

pub returns-in-DefineRule : goal.returns-in-DefineRule
returns-in-DefineRule g c = performed_so g.K.Sink.writes _ _ c.args.self.now _ _ _ _ c.in-DefineRule.is c.define_rule.ensures

pub returns-in-ListFacts : goal.returns-in-ListFacts
returns-in-ListFacts g c = performed_so g.K.Sink.writes _ _ c.args.self.now _ _ _ _ c.in-ListFacts.is c.list_facts.ensures

pub returns-in-ListAgenda : goal.returns-in-ListAgenda
returns-in-ListAgenda g c = performed_so g.K.Sink.writes _ _ c.args.self.now _ _ _ _ c.in-ListAgenda.is c.list_agenda.ensures

pub returns-in-ListRules : goal.returns-in-ListRules
returns-in-ListRules g c = performed_so g.K.Sink.writes _ _ c.args.self.now _ _ _ _ c.in-ListRules.is c.list_rules.ensures

pub returns-in-Reset : goal.returns-in-Reset
returns-in-Reset g c = performed_so g.K.Sink.writes _ _ c.args.self.now _ _ _ _ c.in-Reset.is c.reset.ensures

pub returns-in-Clear : goal.returns-in-Clear
returns-in-Clear g c = performed_so g.K.Sink.writes _ _ c.args.self.now _ _ _ _ c.in-Clear.is c.clear.ensures

pub returns-in-Run : goal.returns-in-Run
returns-in-Run g c = performed_so g.K.Sink.writes _ _ c.args.self.now _ _ _ _ c.in-Run.is c.run.ensures

pub returns-in-Exit : goal.returns-in-Exit
returns-in-Exit g c = performed_so g.K.Sink.writes _ _ c.args.self.now _ _ _ _ c.in-Exit.is c.exit.ensures

pub returns-in-Undefine : goal.returns-in-Undefine
returns-in-Undefine g c = performed_so g.K.Sink.writes _ _ c.args.self.now _ _ _ _ c.in-Undefine.is c.undefine.ensures

pub returns-in-Watch : goal.returns-in-Watch
returns-in-Watch g c = performed_so g.K.Sink.writes _ _ c.args.self.now _ _ _ _ c.in-Watch.is (went_quietly g.K.Sink.writes _ _ _ _ c.requires c.watch.ensures)

pub returns-in-SetStrategy : goal.returns-in-SetStrategy
returns-in-SetStrategy g c = performed_so g.K.Sink.writes _ _ c.args.self.now _ _ _ _ c.in-SetStrategy.is (went_quietly g.K.Sink.writes _ _ _ _ c.requires c.set_strategy.ensures)
