-- What some words of the program are refused for, and the status then.
use Rattle.std.proofs.Common.{◌≡◌, ◌⊎◌, ℕ, [], ◌∷◌, codes, refl, rules}
use Rattle.clap.proofs.OnLiterals.{clap_on_literals}
use Rattle.clap.specs.Words.{fault_of}
use Rattle.clap.specs.declared.error.kind.ErrorKind.TheVariants as kind
use Rattle.cb_command_line.specs.Commands.{limits_app}
use Rattle.cb_command_line.specs.Statuses.{IsStatusFor}

no_words : fault_of limits_app (codes "clipsbatch" ∷ []) ≡ []
unfolding clap_on_literals
no_words = refl

least : fault_of limits_app (codes "clipsbatch" ∷ codes "--max-form" ∷ codes "1" ∷ codes "--max-firings=0" ∷ []) ≡ []
unfolding clap_on_literals
least = refl

help : fault_of limits_app (codes "clipsbatch" ∷ codes "-h" ∷ []) ≡ kind.DisplayHelp ∷ []
unfolding clap_on_literals
help = refl

below_its_range : fault_of limits_app (codes "clipsbatch" ∷ codes "--max-form" ∷ codes "0" ∷ []) ≡ kind.ValueValidation ∷ []
unfolding clap_on_literals
below_its_range = refl

no_number : fault_of limits_app (codes "clipsbatch" ∷ codes "--max-turns" ∷ codes "many" ∷ []) ≡ kind.ValueValidation ∷ []
unfolding clap_on_literals
no_number = refl

no_option : fault_of limits_app (codes "clipsbatch" ∷ codes "--max-items" ∷ codes "9" ∷ []) ≡ kind.UnknownArgument ∷ []
unfolding clap_on_literals
no_option = refl

twice : fault_of limits_app (codes "clipsbatch" ∷ codes "--max-form" ∷ codes "5" ∷ codes "--max-form" ∷ codes "6" ∷ []) ≡ kind.ArgumentConflict ∷ []
unfolding clap_on_literals
twice = refl

-- the status for help, for words that are refused, and where memory is
help_ends : (status : ℕ) → IsStatusFor kind.DisplayHelp status → (status ≡ 0) ⊎ (status ≡ 3)
help_ends status s = s.help refl

refusal_ends : (status : ℕ) → IsStatusFor kind.UnknownArgument status → status ≡ 2
refusal_ends status s = s.wrong (search rules) (search rules) (search rules)

no_memory_ends : (status : ℕ) → IsStatusFor kind.OutOfMemory status → status ≡ 3
no_memory_ends status s = s.memory refl
