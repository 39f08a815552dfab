use Rattle.std.proofs.Common.{length, map, sym, ◌∙◌}
use Rattle.std.proofs.lemmas.Bool.{eqb-true}
use Rattle.cb_forms.specs.Cuts.{item_readings}
use Rattle.cb_forms.specs.Trees.{reading_of}
use Rattle.cb_forms.proofs.ReaderLaws.{read-more, read-all}
use Rattle.cb_forms.proofs.reader.read_items.Goals as goal

pub loop-rest-preserved : goal.loop-rest-preserved
loop-rest-preserved c =
    read-more c.args.text.now c.loop-rest.rest.now c.split_part.result.0.now c.split_part.result.1.now (map reading_of c.loop-rest.read.items) (map reading_of c.keep.new.read.items) (item_readings c.in_ok-read_last_part.field-0) c.loop-rest.invariant c.split_part.ensures.cut c.in_ok-read_last_part.ensures c.in_ok-keep.ensures

pub returns : goal.returns
returns c = read-all c.args.text.now c.loop-rest.rest.now (map reading_of c.loop-rest.read.items) c.loop-rest.invariant (eqb-true (length c.loop-rest.rest.now) 0 (sym c.is_empty.ensures ∙ c.loop-rest-test.false))
