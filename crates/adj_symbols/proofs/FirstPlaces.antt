-- Where names first stand.
use Rattle.std.proofs.Common.{◌≡◌, ℕ, Bool, true, false, List, [], ◌∷◌, ◌++◌, refl, sym, ap, ap₂, ◌∙◌, if◌then◌else◌}
use Rattle.std.specs.Prelude.{◌||◌, not, filter}
use Rattle.std.specs.List.{list_any, flat_map}
use Rattle.adj_tree.specs.Code.{name_eq}
use Rattle.adj_tree.proofs.Names.{name_same}
use Rattle.def_meaning.specs.Apart.{has_name}
use Rattle.def_names.specs.Statements.{At}
use Rattle.def_names.specs.Variables.{Name, first_places}
use Rattle.def_names.specs.Fault.{fault, faults_if}
use Rattle.adj_sets.specs.Sets.{with_name}
use Rattle.adj_symbols.proofs.Repeats.{with_name-has}
use Rattle.adj_symbols_writes.proofs.Rows.{name_comm}

-- the places of names that aren't among some
abbrev pub others_at : List Name → List (At Name) → List (At Name)
others_at made ps = filter (λ q. not (has_name q.1 made)) ps

abbrev without : Name → List (At Name) → List (At Name)
without x ps = filter (λ q. not (name_eq x q.1)) ps

-- those that aren't among some and one more
more_made : (x : Name) (made : List Name) (ps : List (At Name)) → others_at (with_name made x) ps ≡ others_at made (without x ps)
more_made x made [] = refl
more_made x made (q ∷ ps) =
    ap₂ (λ b z. if not b then q ∷ z else z) (with_name-has q.1 x made ∙ ap (λ b. b || has_name q.1 made) (name_comm q.1 x)) (more_made x made ps)
    ∙ go (name_eq x q.1)
  where
    go : (b : Bool) → (if not (b || has_name q.1 made) then q ∷ others_at made (without x ps) else others_at made (without x ps)) ≡ others_at made (if not b then q ∷ without x ps else without x ps)
    go true = refl
    go false = refl

-- all names are none of no names
pub others_none : (ps : List (At Name)) → others_at [] ps ≡ ps
others_none [] = refl
others_none (q ∷ ps) = ap (λ z. q ∷ z) (others_none ps)

-- one more place is looked at
pub place_more : (p : At Name) (ps : List (At Name)) (made after : List Name) → after ≡ with_name made p.1 → (if has_name p.1 made then [] else p ∷ []) ++ others_at after (first_places ps) ≡ others_at made (first_places (p ∷ ps))
place_more p ps made after e = ap (λ z. (if has_name p.1 made then [] else p ∷ []) ++ others_at z (first_places ps)) e ∙ go (has_name p.1 made) refl
  where
    go : (b : Bool) → has_name p.1 made ≡ b → (if b then [] else p ∷ []) ++ others_at (with_name made p.1) (first_places ps) ≡ (if not b then p ∷ others_at made (without p.1 (first_places ps)) else others_at made (without p.1 (first_places ps)))
    go true h = more_made p.1 made (first_places ps)
    go false h = ap (λ z. p ∷ z) (more_made p.1 made (first_places ps))

-- a test that fails at a name, and at all other names of some places, fails at all of them
any_without : (f : Name → Bool) (x : Name) (ps : List (At Name)) → f x ≡ false → list_any (λ q. f q.1) (without x ps) ≡ false → list_any (λ q. f q.1) ps ≡ false
any_without f x [] e h = refl
any_without f x (q ∷ ps) e h = go (name_eq x q.1) refl h (any_without f x ps e)
  where
    kept : (b : Bool) → (b || list_any (λ r. f r.1) (without x ps)) ≡ false → (list_any (λ r. f r.1) (without x ps) ≡ false → list_any (λ r. f r.1) ps ≡ false) → (b || list_any (λ r. f r.1) ps) ≡ false
    kept true h ih = absurd cc
    kept false h ih = ih h

    go : (b : Bool) → name_eq x q.1 ≡ b → list_any (λ r. f r.1) (if not b then q ∷ without x ps else without x ps) ≡ false → (list_any (λ r. f r.1) (without x ps) ≡ false → list_any (λ r. f r.1) ps ≡ false) → (f q.1 || list_any (λ r. f r.1) ps) ≡ false
    go true s h ih = ap₂ (λ a b. a || b) (ap f (sym (name_same x q.1 s)) ∙ e) (ih h)
    go false s h ih = kept (f q.1) h ih

-- where names have faults, and none of the first places has one, there is none
pub none_at_first : (f : Name → Bool) (code : ℕ) (ps : List (At Name)) → list_any (λ q. f q.1) (first_places ps) ≡ false → flat_map (λ q. faults_if (f q.1) (fault code q.0)) ps ≡ []
none_at_first f code [] h = refl
none_at_first f code (p ∷ ps) h = go (f p.1) refl h (none_at_first f code ps)
  where
    go : (b : Bool) → f p.1 ≡ b → (b || list_any (λ q. f q.1) (without p.1 (first_places ps))) ≡ false → (list_any (λ q. f q.1) (first_places ps) ≡ false → flat_map (λ q. faults_if (f q.1) (fault code q.0)) ps ≡ []) → faults_if b (fault code p.0) ++ flat_map (λ q. faults_if (f q.1) (fault code q.0)) ps ≡ []
    go true e h ih = absurd cc
    go false e h ih = ih (any_without f p.1 (first_places ps) e h)
