use Rattle.std.proofs.Common.{◌≡◌, ◌∙◌, map, refl, ap}
use Rattle.std.specs.List.{list_any}
use Rattle.std.specs.Str.{bytes_eq}
use Rattle.cb_words.specs.Reserved.{is_reserved, reserved_words}
use Rattle.cb_words.specs.declared.reserved.TheConstants.{RESERVED_WORDS}
use Rattle.cb_words.proofs.reserved.is_reserved.Goals as goal

words_are : map (λ w. w.now) RESERVED_WORDS ≡ reserved_words
words_are = refl

pub returns : goal.returns
unfolding is_reserved
returns c = c.is_among.ensures ∙ ap (list_any (λ w. bytes_eq w c.args.word.now)) words_are
