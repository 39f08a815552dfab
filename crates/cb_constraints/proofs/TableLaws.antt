-- The table of a pattern's variables grows by one constraint after another.
use Rattle.std.proofs.Common.{arith, ◌≡◌, ◌∙◌, ◌++◌, ◌∷◌, ◌+◌, ℕ, suc, List, [], ap, length, map, refl, sym}
use Rattle.std.proofs.lemmas.List.{append-nil, append_assoc, length-append, length-map}
use Rattle.cb_constraints.specs.Internal.Places.{places, places_for, sites_of}
use Rattle.cb_constraints.specs.Constraints.{Constraint}
use Rattle.cb_constraints.proofs.PlaceLaws.{with_both}
use Rattle.cb_constraints.specs.Internal.Tables.{Going, Grows, IsNamed, with_places}
use Rattle.cb_constraints.specs.declared.place.Place.{Place}
use Rattle.cb_constraints.specs.declared.site.Site.{Site}
use Rattle.cb_constraints.specs.declared.table.Table as program

pub going_begun : (t : program.Table) (all : List (List ℕ × Place)) (total : List Site) → IsNamed t → Going t t all all total total
going_begun t all total e = record { named = e; variables = refl; sites = refl }

pub going_more : (o a b : program.Table) (found rest all : List (List ℕ × Place)) (m more total : List Site)
    → Going o a (found ++ rest) all (m ++ more) total → Grows a b found m → Going o b rest all more total
going_more o a b found rest all m more total g h = record {
  named = h.named;
  variables = ap (λ es. with_places es rest) h.variables ∙ (sym (with_both a.variables.items found rest) ∙ g.variables);
  sites = ap (λ ss. ss ++ more) h.sites ∙ (append_assoc a.sites.items m more ∙ g.sites);
}

pub going_ended : (o a : program.Table) (all : List (List ℕ × Place)) (total : List Site) → Going o a [] all [] total → Grows o a all total
going_ended o a all total g = record { named = g.named; variables = g.variables; sites = sym (append-nil a.sites.items) ∙ g.sites }

one_longer : (xs : List Site) (s : Site) → length (xs ++ s ∷ []) ≡ suc (length xs)
one_longer [] s = refl
one_longer (x ∷ xs) s = ap suc (one_longer xs s)

-- the variables of a constraint were added, and then its site
pub going_on : (o a b now : program.Table) (found rest all : List (List ℕ × Place)) (s : Site) (more total : List Site)
    → Going o a (found ++ rest) all (s ∷ more) total → Grows a b found []
    → now.names ≡ b.names → now.variables.items ≡ b.variables.items → now.sites.items ≡ b.sites.items ++ s ∷ [] → Going o now rest all more total
going_on o a b now found rest all s more total g h en ev es =
    going_more o a now found rest all (s ∷ []) more total g
    (record {
      named = en ∙ (h.named ∙ ap (map (λ e. e.0)) (sym ev));
      variables = ev ∙ h.variables;
      sites = es ∙ ap (λ xs. xs ++ s ∷ []) (h.sites ∙ append-nil a.sites.items);
    })

pub counted_on : (old new : List Site) (s : Site) → new ≡ old ++ s ∷ [] → suc (length old) ≡ length new
counted_on old new s e = sym (ap length e ∙ one_longer old s)

pub places_both : (n : ℕ) (cs ds : List Constraint) → places n (cs ++ ds) ≡ places n cs ++ places (n + length cs) ds
places_both n [] ds = ap (λ k. places k ds) (omega arith)
places_both n (c ∷ cs) ds =
    ap (λ ps. places_for n c.demand ++ ps) (places_both (suc n) cs ds)
    ∙ (ap (λ k. places_for n c.demand ++ (places (suc n) cs ++ places k ds)) (omega arith)
    ∙ sym (append_assoc (places_for n c.demand) (places (suc n) cs) (places (n + suc (length cs)) ds)))

pub counted_row : (old new : List Site) (r n : ℕ) (cs : List Constraint) → new ≡ old ++ sites_of r n cs → length old + length cs ≡ length new
counted_row old new r n cs e = sym (ap length e ∙ (length-append old (sites_of r n cs) ∙ ap (λ k. length old + k) (length-map cs (λ c. record { row = r; start = n; takes_segment = c.segment }))))
