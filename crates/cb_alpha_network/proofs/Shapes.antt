-- A shape more, and one less, and a join more, and users more and less.
use Rattle.std.proofs.Common.{◌≡◌, ◌≢◌, ◌∙◌, ℕ, List, None, ap, inl, inr, refl, subst, sym}
use Rattle.std.proofs.lemmas.Bool.{cases_eq}
use Rattle.cb_alpha.specs.AlphaMemories.{AlphaMemoryValue, GainsJoin}
use Rattle.cb_alpha.specs.Turning.{HasJoin, IsAlphaOver}
use Rattle.cb_alpha_network.proofs.Numbered.{not_there, same_shape}
use Rattle.cb_alpha_network.proofs.Users.{user_at}
use Rattle.cb_alpha_network.specs.Internal.{KeepsOtherMemories}
use Rattle.cb_alpha_network.specs.Networks.{AlphaNetworkValue, AreAlphas, AreAtRest, IsAtRest, IsShapeAt, KeepsFacts, KeepsShapes, KeepsShapesBut, MemoryValues, ShapeValues, memory_at, memory_in, shape_at}
use Rattle.cb_alpha_network.specs.declared.node_place.NodePlace.{NodePlace}
use Rattle.cb_alpha_network.specs.declared.user.User.{User}
use Rattle.cb_constraints.specs.PatternValues.{PatternValue}
use Rattle.cb_facts.specs.FactLists.{IndexedFacts}
use Rattle.cb_facts.specs.Facts.{FactValue}
use Rattle.cb_fit.specs.Shapes.{is_selected, selection, selects}
use Rattle.cb_fit.specs.declared.join_fields.JoinField.{JoinField}
use Rattle.cb_matches.specs.Chains.{In}

-- patterns that ask the same of a fact alone have the same facts
pub over_alike : (p q : PatternValue) (fs : IndexedFacts) (m : AlphaMemoryValue) → selection p ≡ selection q → IsAlphaOver p fs m → IsAlphaOver q fs m
over_alike p q fs m e is = record {
  has = record {
    are = λ n f there. let found = is.has.are n f there in (found.0, sym (alike f.1) ∙ found.1);
    all = λ f i t. is.has.all f i (alike f.1 ∙ t);
  };
  one = is.one;
  none_gone = is.none_gone;
  none_come = is.none_come;
}
  where
    alike : (f : FactValue) → is_selected p f ≡ is_selected q f
    alike f = ap (λ it. selects it f) e

pub facts_stay : (m : AlphaMemoryValue) → KeepsFacts m m
facts_stay m = record { candidates = refl; gone = refl; come = refl; joins = λ join fields has. has }

-- all numbers but one have the shape and the memory that they had
pub record KeepsOthers (number : ℕ) (old new : AlphaNetworkValue) : Type 0 where
  pub shapes : (n : ℕ) → n ≢ number → shape_at new n ≡ shape_at old n
  pub memories : (n : ℕ) → n ≢ number → memory_at new n ≡ memory_at old n

-- all users but one are there still
abbrev pub UsersStayBut : ℕ → NodePlace → List User → List User → Type 0
UsersStayBut number place us us' = (u : User) → u ≢ user_at number place → In u us → In u us'

another_place : (m n : ℕ) (p q : NodePlace) → p ≢ q → user_at m p ≢ user_at n q
another_place m n p q d e = d (ap (λ (u : User). u.place) e)

-- ---- a shape more, or one less

module _ (v v' : AlphaNetworkValue) (number : ℕ) (keeps : KeepsOthers number v v') where
  -- a shape more
  pub others_kept : shape_at v number ≡ None → ((u : User) → In u v.users → In u v'.users) → KeepsShapes v v'
  others_kept none users n p place is =
      let d : n ≢ number = λ e. not_there (shape_at v number) (selection p) none (ap (shape_at v) (sym e) ∙ is.shape) in
      (record { shape = keeps.shapes n d ∙ is.shape; used = users (user_at n place) is.used }, subst (KeepsFacts (memory_at v n)) (sym (keeps.memories n d)) (facts_stay (memory_at v n)))

  -- one less, which no node uses any more
  pub dropped : (place : NodePlace) → UsersStayBut number place v.users v'.users → ((other : NodePlace) → In (user_at number other) v'.users → ⊥) → KeepsShapesBut place v v'
  dropped place stay unused n p other is apart =
      let used : In (user_at n other) v'.users = stay (user_at n other) (another_place n number other place apart) is.used in
      let d : n ≢ number = λ e. unused other (subst (λ i. In (user_at i other) v'.users) e used) in
      (record { shape = keeps.shapes n d ∙ is.shape; used = used }, keeps.memories n d)

  module _ (fs : IndexedFacts) (was : AreAlphas v fs) where
    over_others : (n : ℕ) (p : PatternValue) → n ≢ number → IsShapeAt v' n p → IsAlphaOver p fs (memory_at v' n)
    over_others n p d is = subst (IsAlphaOver p fs) (sym (keeps.memories n d)) (was.over n p (sym (keeps.shapes n d) ∙ is))

    rest_all : IsAtRest (memory_at v' number) → (n : ℕ) → IsAtRest (memory_at v' n)
    rest_all rest n = elim (cases_eq n number) as (λ _. IsAtRest (memory_at v' n)) [
      | inl e ↦ subst (λ i. IsAtRest (memory_at v' i)) (sym e) rest
      | inr d ↦ subst IsAtRest (sym (keeps.memories n d)) (was.rest n)
    ]

    pub shape_more : (p : PatternValue) → IsShapeAt v' number p → IsAlphaOver p fs (memory_at v' number) → AreAlphas v' fs
    shape_more p at over = record {
      over = λ n q is. elim (cases_eq n number) as (λ _. IsAlphaOver q fs (memory_at v' n)) [
        | inl e ↦
            let same : selection p ≡ selection q = same_shape (selection p) (selection q) (sym at ∙ (ap (shape_at v') (sym e) ∙ is)) in
            subst (λ i. IsAlphaOver q fs (memory_at v' i)) (sym e) (over_alike p q fs (memory_at v' number) same over)
        | inr d ↦ over_others n q d is
      ];
      rest = rest_all (record { none_gone = over.none_gone; none_come = over.none_come });
    }

    pub shape_less : shape_at v' number ≡ None → IsAtRest (memory_at v' number) → AreAlphas v' fs
    shape_less none rest = record {
      over = λ n p is. elim (cases_eq n number) as (λ _. IsAlphaOver p fs (memory_at v' n)) [
        | inl e ↦ absurd (not_there (shape_at v' number) (selection p) none (ap (shape_at v') (sym e) ∙ is))
        | inr d ↦ over_others n p d is
      ];
      rest = rest_all rest;
    }

-- where the memory of one number is at rest, and the others stay, all are
pub rest_put : (ms ms' : MemoryValues) (number : ℕ) → AreAtRest ms → KeepsOtherMemories number ms ms' → IsAtRest (memory_in ms' number) → AreAtRest ms'
rest_put ms ms' number was others rest n = elim (cases_eq n number) as (λ _. IsAtRest (memory_in ms' n)) [
  | inl e ↦ subst (λ i. IsAtRest (memory_in ms' i)) (sym e) rest
  | inr d ↦ subst IsAtRest (sym (others n d)) (was n)
]

-- ---- users more and less

module _ (ss : ShapeValues) (us us' : List User) (ms : MemoryValues) where
  abbrev before : AlphaNetworkValue
  before = record { shapes = ss; users = us; memories = ms }

  abbrev after : AlphaNetworkValue
  after = record { shapes = ss; users = us'; memories = ms }

  pub users_more : ((u : User) → In u us → In u us') → KeepsShapes before after
  users_more users n p place is = (record { shape = is.shape; used = users (user_at n place) is.used }, facts_stay (memory_in ms n))

  pub users_less : (number : ℕ) (place : NodePlace) → UsersStayBut number place us us' → KeepsShapesBut place before after
  users_less number place stay n p other is apart = (record { shape = is.shape; used = stay (user_at n other) (another_place n number other place apart) is.used }, refl)

  pub alphas_still : (fs : IndexedFacts) → AreAlphas before fs → AreAlphas after fs
  alphas_still fs was = record { over = was.over; rest = was.rest }

-- ---- a join more

module _ (v : AlphaNetworkValue) (ms' : MemoryValues) (number join : ℕ) (fields : List JoinField) (gains : GainsJoin (memory_at v number) (memory_in ms' number) join fields)
    (others : KeepsOtherMemories number v.memories ms') where
  abbrev joined : AlphaNetworkValue
  joined = record { shapes = v.shapes; users = v.users; memories = ms' }

  pub joined_rest : AreAtRest v.memories → AreAtRest ms'
  joined_rest was = rest_put v.memories ms' number was others (record { none_gone = gains.gone ∙ (was number).none_gone; none_come = gains.come ∙ (was number).none_come })

  pub joined_keeps : ((m m' : AlphaMemoryValue) (k other : ℕ) (js os : List JoinField) → GainsJoin m m' k js → HasJoin m other os → HasJoin m' other os) → KeepsShapes v joined
  joined_keeps law n p place is = (
    record { shape = is.shape; used = is.used },
    elim (cases_eq n number) as (λ _. KeepsFacts (memory_at v n) (memory_in ms' n)) [
      | inl e ↦ subst (λ i. KeepsFacts (memory_at v i) (memory_in ms' i)) (sym e) (record {
        candidates = gains.candidates;
        gone = gains.gone;
        come = gains.come;
        joins = λ k os has. law (memory_at v number) (memory_in ms' number) join k fields os gains has;
      })
      | inr d ↦ subst (KeepsFacts (memory_at v n)) (sym (others n d)) (facts_stay (memory_at v n))
    ],
  )

  pub joined_alphas : ((p : PatternValue) (m m' : AlphaMemoryValue) (fs : IndexedFacts) (k : ℕ) (js : List JoinField) → IsAlphaOver p fs m → GainsJoin m m' k js → IsAlphaOver p fs m')
      → (fs : IndexedFacts) → AreAlphas v fs → AreAlphas joined fs
  joined_alphas law fs was = record {
    over = λ n p at. elim (cases_eq n number) as (λ _. IsAlphaOver p fs (memory_in ms' n)) [
      | inl e ↦ subst (λ i. IsAlphaOver p fs (memory_in ms' i)) (sym e) (law p (memory_at v number) (memory_in ms' number) fs join fields (was.over number p (ap (shape_at v) (sym e) ∙ at)) gains)
      | inr d ↦ subst (IsAlphaOver p fs) (sym (others n d)) (was.over n p at)
    ];
    rest = joined_rest was.rest;
  }
