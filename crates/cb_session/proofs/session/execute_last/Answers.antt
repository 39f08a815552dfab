use Rattle.std.proofs.Common.{◌≡◌, ◌++◌, ◌∙◌, Option, None, Some, false, refl, subst}
use Rattle.cb_forms.specs.Cuts.{item_readings}
use Rattle.cb_forms.specs.Cutter.{readings_in}
use Rattle.cb_forms.specs.Items.{items, over}
use Rattle.cb_forms.specs.declared.form.Item.{Item}
use Rattle.cb_io.proofs.PutLaws.{puts_nothing}
use Rattle.cb_session.proofs.PlaceLaws.{line-here, places-end}
use Rattle.cb_session.proofs.StepLaws.{ends-item, ends-none, on_ok}
use Rattle.cb_session.proofs.session.execute_last.Goals as goal

pub returns-in-Ok-Some : goal.returns-in-Ok-Some
returns-in-Ok-Some g c = record {
  run = λ l fed way.
      let P : Option Item → Type 0 = λ it. over c.args.cutter.now.limit c.args.cutter.now.stepped ≡ false → readings_in c.args.cutter.now.given ++ item_readings it ≡ items c.args.cutter.now.stepped in
      ends-item g.K.Sink.writes _ _ l fed _ _ _ way c.in-Ok-Some.item _ (subst P c.in-Ok-Some.field-0-is c.in-Ok-Some.ensures.items) c.execute.ensures.run;
  places = λ l fed way known.
      let P : Option Item → Type 0 = λ it. over c.args.cutter.now.limit c.args.cutter.now.stepped ≡ false → readings_in c.args.cutter.now.given ++ item_readings it ≡ items c.args.cutter.now.stepped in
      on_ok _ _ c.execute.result (λ e. e ∙ places-end l fed _ _ way (Some c.in-Ok-Some.item) c.line-line.result c.args.places.now (line-here l fed _ _ way c.line-line.result c.line-line.ensures) (subst P c.in-Ok-Some.field-0-is c.in-Ok-Some.ensures.items) known) c.execute.ensures.places;
}

pub returns-in-Ok-None : goal.returns-in-Ok-None
returns-in-Ok-None g c = record {
  run = λ l fed way.
      let P : Option Item → Type 0 = λ it. over c.args.cutter.now.limit c.args.cutter.now.stepped ≡ false → readings_in c.args.cutter.now.given ++ item_readings it ≡ items c.args.cutter.now.stepped in
      ends-none g.K.Sink.writes _ _ l fed _ _ _ way refl refl c.requires (subst P c.in-Ok-None.field-0-is c.in-Ok-None.ensures.items);
  places = λ l fed way known.
      let P : Option Item → Type 0 = λ it. over c.args.cutter.now.limit c.args.cutter.now.stepped ≡ false → readings_in c.args.cutter.now.given ++ item_readings it ≡ items c.args.cutter.now.stepped in
      places-end l fed _ _ way None c.line-line.result c.args.places.now (line-here l fed _ _ way c.line-line.result c.line-line.ensures) (subst P c.in-Ok-None.field-0-is c.in-Ok-None.ensures.items) known;
}

pub returns-in-Err : goal.returns-in-Err
returns-in-Err g c = record { run = λ l fed way. record { puts = puts_nothing g.K.Sink.writes _ _ c.requires; state_is = tt; status = tt }; places = λ l fed way known. tt }
