-- What is known before elements is known after them, in its place.
use Rattle.std.proofs.Common.{◌≡◌, ◌∙◌, ◌++◌, ℕ, Bool, true, false, List, [], ◌∷◌, length, refl, sym, ap, append_assoc, take, if◌then◌else◌}
use Rattle.std.proofs.Math.Seq.{take-append_seam}
use Rattle.std.proofs.lemmas.List.{append-nil}
use Rattle.cb_expr_forms.specs.Scopes.{is_known}
use Rattle.cb_rule_forms.specs.Mentions.{Mention, address, place, needed, after_mention, known_after, known_in, known_past, pattern_mentions}
use Rattle.cb_rules.specs.Elements.{Element, pattern, test, group, Elements, no_elements, element}

-- the second begins with the first
abbrev Goes : List (List ℕ) → List (List ℕ) → Type 0
Goes first second = (rest : List (List ℕ)) × (second ≡ first ++ rest)

stays : (known : List (List ℕ)) → Goes known known
stays known = ([], sym (append-nil known))

further : (first second third : List (List ℕ)) → Goes first second → Goes second third → Goes first third
further first second third g h = (g.0 ++ h.0, h.1 ∙ (ap (λ names. names ++ h.0) g.1 ∙ append_assoc first g.0 h.0))

past_name : (t : Bool) (known : List (List ℕ)) (x : List ℕ) → Goes known (if t then known else known ++ x ∷ [])
past_name true known x = stays known
past_name false known x = (x ∷ [], refl)

past_mention : (known : List (List ℕ)) (m : Mention) → Goes known (after_mention known m)
past_mention known (address x) = past_name (is_known known x) known x
past_mention known (place x) = past_name (is_known known x) known x
past_mention known (needed x) = stays known

past_all : (known : List (List ℕ)) (ms : List Mention) → Goes known (known_after known ms)
past_all known [] = stays known
past_all known (m ∷ ms) = further _ _ _ (past_mention known m) (past_all (after_mention known m) ms)

past_one : (known : List (List ℕ)) (e : Element) → Goes known (known_past known e)
past_one known (pattern x p) = past_all known (pattern_mentions x p)
past_one known (test t) = stays known
past_one known (group positive es) = stays known

past : (known : List (List ℕ)) (es : Elements) → Goes known (known_in known es)
past known no_elements = stays known
past known (element e es) = further _ _ _ (past_one known e) (past (known_past known e) es)

-- so it is there again when the names after it are taken away
pub known_again : (known : List (List ℕ)) (es : Elements) → take (length known) (known_in known es) ≡ known
known_again known es = let p = past known es in ap (take (length known)) p.1 ∙ take-append_seam known p.0
