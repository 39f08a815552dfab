-- What only the code needs.
pub mod Executing
pub mod Scripts
use Rattle.std.specs.Prelude.{◌≡◌, ◌++◌, ℕ, List, Result, OnOk, Bool, refl}
use Rattle.cb_knowledge_base.specs.Deffacts.{DeffactsTable}
use Rattle.cb_knowledge_base.specs.Internal.{table_code}
use Rattle.cb_session.specs.Transcripts.{so_far}
use Rattle.cb_io.specs.declared.stop.Stop.{Stop}
use Rattle.cb_session.specs.Sessions.{SessionState, session_after}
use Rattle.std.specs.Coded.{Coded, code_by, coded_bool, coded_list, coded×}
use Rattle.cb_actions.specs.Worlds.{World}
use Rattle.cb_exprs.specs.Internal.Codes.{Piece}
use Rattle.cb_exprs.specs.GlobalTerms.{GlobalTerm}
use Rattle.cb_exprs.specs.Internal.{global_code}
use Rattle.cb_exprs.specs.Shapes.{Shape}
use Rattle.cb_session.specs.States.{State}

-- a session was fed these bytes, where the call answers so
abbrev pub WasFed : {T : Type 0} → SessionState → List ℕ → SessionState → Result T Stop → Type 0
WasFed old bytes new result =
    OnOk result (new ≡ session_after old.setup (old.fed ++ bytes) (so_far old.setup (old.fed ++ bytes)).status)

-- how the logic stores it
abbrev pub state_code : Coded World → Coded (List ℕ) → Coded Shape → Coded Piece → Coded State
state_code world name shape piece =
    code_by (World × (DeffactsTable × (List GlobalTerm × Bool)))
    (coded× world (coded× (table_code name shape piece) (coded× (coded_list (global_code name piece)) coded_bool)))
    (λ s. (s.world, (s.deffacts, (s.globals, s.is_faulted))))
    (λ p. record { world = p.0; deffacts = p.1.0; globals = p.1.1.0; is_faulted = p.1.1.1 })
    (λ _. refl)
