-- `==` of facts is equality.
use Rattle.std.proofs.Common.{◌≡◌, List, Bool, true, false, ℕ, rules, ap, ap₂, refl, sym, ◌∙◌}
use Rattle.std.proofs.lemmas.Bool.{and_from}
use Rattle.std.specs.Bool.{Decides}
use Rattle.std.specs.Cmp.{first_so, second_so}
use Rattle.std.specs.Cmp.Lexicographic.{bytes_decides}
use Rattle.cb_facts.specs.Facts.{FactContent, fields, slots, FactValue, content_eq, fact_eq}
use Rattle.cb_facts.specs.Internal.{body_fact, IsHashOf}
use Rattle.cb_facts.specs.Internal.FactLaws.{hash_of_equal}
use Rattle.cb_facts.specs.declared.fact.Body.{Body}
use Rattle.cb_facts.proofs.Equality.{singles-Decides, slots-Decides}

pub content-Decides : (c d : FactContent) → Decides (content_eq c d) (c ≡ d)
content-Decides (fields xs) (fields ys) = (λ e. ap fields ((singles-Decides xs ys).0 e), λ e. (singles-Decides xs ys).1 (cc))
content-Decides (fields xs) (slots ts) = search rules
content-Decides (slots ss) (fields ys) = search rules
content-Decides (slots ss) (slots ts) = (λ e. ap slots ((slots-Decides ss ts).0 e), λ e. (slots-Decides ss ts).1 (cc))

pub fact-same : (f g : FactValue) → f.relation ≡ g.relation → f.content ≡ g.content → f ≡ g
fact-same f g p q = ap₂ (λ (r : List ℕ) (c : FactContent). record { relation = r; content = c }) p q

pub fact-Decides : (f g : FactValue) → Decides (fact_eq f g) (f ≡ g)
fact-Decides f g = (
  λ e. fact-same f g ((bytes_decides f.relation g.relation).0 (first_so _ _ e)) ((content-Decides f.content g.content).0 (second_so _ _ e)),
  λ e. and_from _ _ ((bytes_decides f.relation g.relation).1 (ap (λ (h : FactValue). h.relation) e)) ((content-Decides f.content g.content).1 (ap (λ (h : FactValue). h.content) e)),
)

not-true : (t : Bool) → (t ≡ true → ⊥) → false ≡ t
not-true true n = absurd (n refl)
not-true false n = refl

-- facts that are kept with two numbers differ
pub fact_eq-apart : (i j : ℕ) (x y : Body) → IsHashOf i x → IsHashOf j y → (i ≡ j → ⊥) → false ≡ fact_eq (body_fact x) (body_fact y)
fact_eq-apart i j x y p q n = not-true (fact_eq (body_fact x) (body_fact y)) (λ e. n (p ∙ hash_of_equal (body_fact x) (body_fact y) e ∙ sym q))
