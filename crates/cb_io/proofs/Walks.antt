-- What the walks of `History` share: a struct of one field, where that field is a struct of none. Assumes `Logic`.
use Rattle.std.proofs.Common.{List, [], ◌∷◌, refl}
use seplogic.Ra.Ura.{Ura}
use mir.Val.{Val, vstruct, vcons, vnil}
use types.Logic.{Logic}
use types.Kit.{Goal, Step, step, Item, ‵, ◌$◌, move, fjoin, fpack, feq_i}
use denote.RattleType.{RattleType, Valss}
use denote.Steps.{nothing}
use denote.Struct.Struct.{Struct, within}

-- what a struct of these fields owns; its name plays no part in that
abbrev pub fields_alone : List RattleType → RattleType
fields_alone Rs = Struct (record { name = []; args = []; types = []; fields = Rs })

-- the machine's value of a struct with no field
abbrev pub empty : Val
empty = vstruct vnil

-- and of a struct with this one field
abbrev pub wrapped : Val → Val
wrapped u = vstruct (vcons u vnil)

module _ {M : Type 1} {𝓤 : Ura M} {𝓛 : Logic 𝓤} {K : Type 0} {Γ : List (Item 𝓤)} {G : Goal 𝓤 𝓛.H} where
  -- who owns the field owns the struct round it
  pub wrap : K → (R : RattleType) (x : R.Denot) (u : Val)
      → Step K 𝓛 (‵ ((fields_alone (R ∷ [])).own_val (x, tt) (wrapped u ∷ [])) ∷ Γ) G (‵ (R.own_val x (u ∷ [])) ∷ Γ) G
  wrap k R x u =
      step (λ rest.
      nothing k $ move k (1 ∷ 0 ∷ []) $ fjoin k $ feq_i k (List Val) (wrapped u ∷ []) (wrapped u ∷ []) refl $ fjoin k $
      fpack k (Valss (R ∷ [])) (within (record { name = []; args = []; types = []; fields = R ∷ [] }) (x, tt) (wrapped u ∷ [])) (u ∷ [], tt) $ rest)
