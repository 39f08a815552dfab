-- A change where each partial match keeps a witness, from its steps.
use Rattle.std.proofs.Common.{◌↔◌, ℕ, Bool, List, cond}
use Rattle.cb_alpha.specs.AlphaMemories.{AlphaMemoryValue, live}
use Rattle.cb_alpha.specs.Turning.{were_in}
use Rattle.cb_beta.specs.BetaMemories.{BetaMemoryValue, Loses}
use Rattle.cb_fit.specs.declared.comparison.ComparedField.{ComparedField}
use Rattle.cb_fit.specs.declared.join_fields.JoinField.{JoinField}
use Rattle.cb_lookup_node.proofs.Stayed.{stayed_or_came, there_again}
use Rattle.cb_lookup_node.proofs.Witnessed.{AreTurned, turned, witnesses_and, witnesses_but}
use Rattle.cb_lookup_node.specs.Internal.{AreOf, AreReplaced, HasChanged, HasGained, HasLost, IsOut, IsPlaced, IsToChange, Stays}
use Rattle.cb_lookup_node.specs.LookupNodes.{ArePassedOn, HaveWitnesses, Passes, SeesSome, by_witness}
use Rattle.cb_lookup_node.specs.declared.by_witness.ByWitness.{ByWitness}
use Rattle.cb_lookup_node.specs.declared.sight.Sight.TheVariants as sight
use Rattle.cb_lookup_node.specs.declared.witnesses.Witnesses.{Witnesses}
use Rattle.cb_matches.specs.Chains.{In}
use Rattle.cb_matches.specs.Matches.{Partial}
use Rattle.cb_token_lists.proofs.Arrivals.{come_alike}
use Rattle.cb_token_lists.specs.Growth.{Comes}
use Rattle.cb_token_lists.specs.Turns.{IsThere, WasThere}

pub completed : (me : ByWitness) (js : List JoinField) (at : ℕ → Partial) (before : BetaMemoryValue) (alpha : AlphaMemoryValue) (join : ℕ) (b : IsToChange (sight.ByWitness me) js at before alpha join)
    (w₁ w₂ w₃ w₄ : Witnesses) (positive : Bool) (own₁ between own₃ own : BetaMemoryValue) (lost gained passed : List ℕ) → AreReplaced me.kept w₁ before.gone IsOut
    → HasLost me.compared.items js alpha at w₁ w₂ lost → HasGained me.compared.items js alpha at w₂ w₃ gained → AreReplaced w₃ w₄ before.come (IsPlaced me.compared.items js (live alpha) at)
    → ((n : ℕ) → In n passed ↔ (In n before.come × Passes positive (SeesSome me.compared.items js (live alpha) (at n)))) → Loses own₁ between (λ t. In t.parent (cond positive lost gained))
    → Comes between own₃ (AreOf (λ n. In n (cond positive gained lost))) → Comes own₃ own (AreOf (λ n. In n passed))
    → HasChanged positive (sight.ByWitness me) (sight.ByWitness (record me { kept = w₄ })) js at before alpha own₁ own
completed me js at before alpha join b w₁ w₂ w₃ w₄ positive own₁ between own₃ own lost gained passed out left given placed are goes comes come =
    let cs : List ComparedField = me.compared.items in
    let kept₁ : HaveWitnesses cs js w₁ at (Stays before) (were_in alpha) = witnesses_but cs js at (WasThere before) (were_in alpha) me.kept w₁ before.gone out b.kept in
    let now : AreTurned cs js alpha at (Stays before) w₃ lost gained = turned cs js alpha at (Stays before) w₁ w₂ w₃ lost gained b.single kept₁ left given in
    record {
      kept = witnesses_and cs js at (Stays before) (IsThere before) (live alpha) w₃ w₄ before.come (there_again before b.came) (stayed_or_came before) placed now.kept;
      lost = lost;
      gained = gained;
      between = between;
      turned = own₃;
      losing = now.losing;
      gaining = now.gaining;
      goes = goes;
      comes = comes;
      passed = come_alike own₃ own (AreOf (λ n. In n passed)) (ArePassedOn positive (by_witness cs) js (live alpha) at (λ n. In n before.come))
          (λ t h. let k = (are h.0).0 h.1 in (h.0, k.0, k.1, h.2)) (λ t h. (h.0, (are h.0).1 (h.1, h.2), h.3)) come;
    }
