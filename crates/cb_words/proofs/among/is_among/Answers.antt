use Rattle.std.proofs.Common.{◌∙◌, sym}
use Rattle.std.specs.Str.{bytes_eq}
use Rattle.cb_words.proofs.ListLaws.{any_of_map}
use Rattle.cb_words.proofs.among.is_among.Goals as goal

pub returns : goal.returns
returns c = c.has_one.ensures ∙ sym (any_of_map (λ w. w.now) (λ w. bytes_eq w c.args.word.now) c.args.words.now)
