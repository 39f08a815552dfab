-- Lines of matches, worked out by hand.
use Rattle.std.proofs.Common.{◌≡◌, negsuc, true, false, [], ◌∷◌, codes, refl}
use Rattle.cb_exprs.specs.Terms.{no_terms}
use Rattle.cb_lines.specs.Lines.{activation, activation_line, firing_line}
use Rattle.cb_matches.specs.Keys.{KeyValue}
use Rattle.cb_rules.specs.RuleInfos.{RuleInfo}
use Rattle.std.specs.Fmt.{digits}

abbrev told_rule : RuleInfo
told_rule = record { id = 7; name = codes "r"; salience = negsuc 4; relations = []; layouts = (true ∷ false ∷ true ∷ []) ∷ [] ∷ []; actions = no_terms }

abbrev told_key : KeyValue
told_key = record { rule = 7; branch = 0; parts = record { index = 3; cuts = [] } ∷ record { index = 12; cuts = [] } ∷ [] }

a_firing : firing_line 1 (told_rule ∷ []) told_key ≡ codes "FIRE    1 r: f-3,*,f-12\n"
unfolding digits
a_firing = refl

an_activation : activation_line (codes "==> ") (told_rule ∷ []) told_key ≡ codes "==> Activation -5     r: f-3,*,f-12\n"
unfolding digits
an_activation = unfold activation in refl

no_members : firing_line 10000 (told_rule ∷ []) (record { rule = 7; branch = 1; parts = [] }) ≡ codes "FIRE 10000 r: *\n"
unfolding digits
no_members = refl
