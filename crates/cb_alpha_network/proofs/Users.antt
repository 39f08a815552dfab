-- The nodes that use shapes, in their order: those of one shape, and one less.
use Rattle.std.proofs.Common.{◌≡◌, ◌≢◌, ◌↔◌, ◌∙◌, ◌+◌, ◌||◌, ℕ, Bool, true, false, List, [], ◌∷◌, Ordering, Equal, ap, ap₂, arith, eq-eqb, filter, if◌then◌else◌, inl, inr, is_eq, is_le, length, nat_cmp, nat_eq, refl, subst, sym}
use Rattle.std.proofs.lemmas.Map.Lookups.{exact_unsigned}
use Rattle.std.specs.BTreeMap.{is_at}
use Rattle.std.specs.BTreeMap.Range.{range_contains}
use Rattle.std.specs.Cmp.{nat_cmp_total, tied_itself}
use Rattle.std.specs.List.{list_any}
use Rattle.std.specs.List.Sorted.{IsStrictlySortedBy}
use Rattle.std.specs.Ordering.{ordering_then}
use Rattle.std.specs.Set.{remove_key}
use Rattle.std.specs.declared.ops.Bound.TheVariants.{Included, Unbounded}
use Rattle.cb_alpha_network.proofs.Order.{place_exact}
use Rattle.cb_alpha_network.proofs.Pieces.{in_piece, key_stays, le_then, least_number, none_further, not_equal, run, then_equal}
use Rattle.cb_alpha_network.specs.Places.{place_cmp}
use Rattle.cb_alpha_network.specs.contracts.user.UserOrd.TheImpl as user_ord
use Rattle.cb_alpha_network.specs.contracts.user.UserOrd.TheImpl.Laws as user_laws
use Rattle.cb_alpha_network.specs.declared.node_place.NodePlace.{NodePlace}
use Rattle.cb_alpha_network.specs.declared.user.User.{User}
use Rattle.cb_matches.proofs.Lists.{by_test, in_filter}
use Rattle.cb_matches.specs.Chains.{In}

abbrev pub user_at : ℕ → NodePlace → User
user_at n place = record { alpha = n; place = place }

make_user : ℕ → NodePlace → User
make_user n place = record { alpha = n; place = place }

abbrev pub user_cmp : User → User → Ordering
user_cmp = user_ord.ghosts.cmp

pub user_exact : (a b : User) → user_cmp a b ≡ Equal → a ≡ b
unfolding make_user
user_exact a b h =
    let both = then_equal (nat_cmp a.alpha b.alpha) (place_cmp a.place b.place) h in
    ap₂ make_user (exact_unsigned a.alpha b.alpha both.0) (place_exact a.place b.place both.1)

user_level : (a b : User) → a ≡ b → user_cmp a b ≡ Equal
user_level a b e = subst (λ it. user_cmp a it ≡ Equal) e (tied_itself user_laws.total-law a)

-- ---- those of one shape

abbrev pub uses : ℕ → User → Bool
uses n u = nat_eq u.alpha n

pub same_number : (a b : ℕ) → nat_eq a b ≡ true → a ≡ b
same_number a b t = grind arith

pub not_uses : (n : ℕ) (u : User) → (u.alpha ≡ n → ⊥) → uses n u ≡ false
not_uses n u d = by_test (uses n u) (λ t. absurd (d (same_number u.alpha n t))) (λ f. f)

abbrev more_user : User → User → Ordering
more_user a b = place_cmp a.place b.place

by_alpha : (a b : User) → user_cmp a b ≡ ordering_then (nat_cmp a.alpha b.alpha) (more_user a b)
by_alpha a b = refl

-- what stands before all users of a shape, or is the first
abbrev pub first_of : ℕ → User
first_of n = record { alpha = n; place = record { rule = 0; branch = 0; node = 0 } }

least_user : (n : ℕ) (z : User) → is_le (more_user (first_of n) z) ≡ true
least_user n z =
    le_then (nat_cmp 0 z.place.rule) (ordering_then (nat_cmp 0 z.place.branch) (nat_cmp 0 z.place.node)) (least_number z.place.rule)
    (le_then (nat_cmp 0 z.place.branch) (nat_cmp 0 z.place.node) (least_number z.place.branch) (least_number z.place.node))

pub in_users : (keys : List User) → IsStrictlySortedBy user_cmp keys → (n : ℕ) (u : User) → In u keys → u.alpha ≡ n
    → In u (run (uses n) (filter (range_contains user_cmp (Included (first_of n)) Unbounded) keys))
in_users keys sorted n =
    in_piece user_cmp more_user (λ u. u.alpha) nat_cmp nat_cmp_total exact_unsigned by_alpha (first_of n) (least_user n)
    (uses n) (λ z t. same_number z.alpha n t) (λ z e. eq-eqb z.alpha n e) keys sorted

-- the user at which the look-up begins is of the shape just where one is
abbrev begun : User → List User → List User
begun first keys = filter (range_contains user_cmp (Included first) Unbounded) keys

in_begun : (keys : List User) → IsStrictlySortedBy user_cmp keys → (n : ℕ) (first : User) → first ≡ first_of n → (cut : List User) → begun first keys ≡ cut
    → (place : NodePlace) → In (user_at n place) keys → In (user_at n place) (run (uses n) cut)
in_begun keys sorted n first is cut e place i =
    subst (λ it. In (user_at n place) (run (uses n) it)) (ap (λ it. begun it keys) (sym is) ∙ e) (in_users keys sorted n (user_at n place) i refl)

pub begun_in : (keys : List User) → IsStrictlySortedBy user_cmp keys → (n : ℕ) (first : User) → first ≡ first_of n → (place : NodePlace) → In (user_at n place) keys
    → In (user_at n place) (run (uses n) (begun first keys))
begun_in keys sorted n first is place i = in_begun keys sorted n first is (begun first keys) refl place i

pub first_uses : (keys : List User) → IsStrictlySortedBy user_cmp keys → (n : ℕ) (first : User) → first ≡ first_of n → (at : User) (rest : List User) → begun first keys ≡ at ∷ rest
    → (uses n at ≡ true) ↔ ((place : NodePlace) × In (user_at n place) keys)
first_uses keys sorted n first is at rest cut = (
  λ t. (
    at.place,
    subst (λ i. In (user_at i at.place) keys) (same_number at.alpha n t)
        (in_filter (range_contains user_cmp (Included first) Unbounded) at keys (subst (In at) (sym cut) (inl refl))).0,
  ),
  λ there. by_test (uses n at) (λ t. t) (λ f. absurd (none_further (uses n) at rest f (user_at n there.0) (in_begun keys sorted n first is (at ∷ rest) cut there.0 there.1))),
)

pub none_uses : (keys : List User) → IsStrictlySortedBy user_cmp keys → (n : ℕ) (first : User) → first ≡ first_of n → begun first keys ≡ []
    → (false ≡ true) ↔ ((place : NodePlace) × In (user_at n place) keys)
none_uses keys sorted n first is none = (λ t. cc, λ there. absurd (in_begun keys sorted n first is [] none there.0 there.1))

-- ---- one less

pub user_stays : (keys : List User) (lost other : User) → other ≢ lost → In other keys → In other (remove_key (is_at (user_cmp lost)) keys)
user_stays keys lost other apart i = key_stays (is_at (user_cmp lost)) keys other i (not_equal (user_cmp lost other) (λ e. apart (sym (user_exact lost other e))))

pub other_alpha : (u : User) (n : ℕ) (place : NodePlace) → u.alpha ≢ n → u ≢ user_at n place
other_alpha u n place d e = d (ap (λ (it : User). it.alpha) e)

has_user : (keys : List User) (u : User) → In u keys → list_any (is_at (user_cmp u)) keys ≡ true
has_user [] u i = absurd i
has_user (x ∷ xs) u (inl e) = ap (λ b. is_eq b || list_any (is_at (user_cmp u)) xs) (user_level u x e)
has_user (x ∷ xs) u (inr i) =
    by_test (is_at (user_cmp u) x)
    (λ t. ap (λ b. b || list_any (is_at (user_cmp u)) xs) t)
    (λ f. ap (λ b. b || list_any (is_at (user_cmp u)) xs) f ∙ has_user xs u i)

pub one_user_less : (keys keys' : List User) (u : User) (removed : Bool) → In u keys → removed ≡ list_any (is_at (user_cmp u)) keys
    → length keys' + (if removed then 1 else 0) ≡ length keys → length keys' + 1 ≡ length keys
one_user_less keys keys' u removed i is less = ap (λ (b : Bool). length keys' + (if b then 1 else 0)) (sym (is ∙ has_user keys u i)) ∙ less
