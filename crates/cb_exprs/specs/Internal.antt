-- What only the code needs.
pub mod Codes
pub mod Frames
pub mod Trees
use Rattle.std.specs.Prelude.{refl, ℕ, List}
use Rattle.std.specs.Coded.{Coded, code_by, coded×}
use Rattle.cb_exprs.specs.Internal.Codes.{Piece, term_code, terms_code}
use Rattle.cb_exprs.specs.Shapes.{Shape}
use Rattle.cb_exprs.specs.Terms.{Terms}
use Rattle.cb_exprs.specs.FactTerms.{FactTerm}
use Rattle.cb_exprs.specs.GlobalTerms.{GlobalTerm}

-- how the logic stores it
abbrev pub fact_code : Coded Shape → Coded Piece → Coded FactTerm
fact_code shape piece =
    code_by (Shape × Terms) (coded× shape (terms_code piece)) (λ f. (f.shape, f.values)) (λ p. record { shape = p.0; values = p.1 }) (λ _. refl)

-- how the logic stores it
abbrev pub global_code : Coded (List ℕ) → Coded Piece → Coded GlobalTerm
global_code name piece = coded× name (term_code piece)
