-- What only the code needs.
use Rattle.std.specs.Prelude.{ℕ, List, Bool, refl}
use Rattle.std.specs.Coded.{Coded, code_by, coded×, coded_list, coded_ℕ, coded_bool}
use Rattle.cb_io.specs.Output.{OutState}

-- a state is stored as the tuple of its fields
abbrev pub out_state_code : {K : Type 0} → Coded K → Coded (OutState K)
out_state_code {K} code =
    code_by (K × (List ℕ × Bool)) (coded× code (coded× (coded_list coded_ℕ) coded_bool)) (λ s. (s.sink, (s.pending, s.fault)))
    (λ p. record { sink = p.0; pending = p.1.0; fault = p.1.1 }) (λ _. refl)
