-- Names once, in the order in which they first stand, are the names at the first places.
use Rattle.std.proofs.Common.{◌≡◌, Bool, true, false, List, [], ◌∷◌, ◌++◌, refl, sym, ap, ap₂, ◌∙◌, append_assoc, if◌then◌else◌}
use Rattle.std.specs.Prelude.{◌||◌, not, fold, filter}
use Rattle.adj_tree.specs.Code.{name_eq}
use Rattle.adj_tree.proofs.Names.{name_same, name_refl}
use Rattle.def_meaning.specs.Apart.{has_name}
use Rattle.def_names.specs.Statements.{At}
use Rattle.def_names.specs.Variables.{Name, first_places}
use Rattle.adj_sets.specs.Sets.{with_name}
use Rattle.adj_symbols.specs.Table.{once}
use Rattle.adj_symbols.specs.View.{names_at}
use Rattle.adj_symbols.proofs.Repeats.{has_behind}

-- the names without one
abbrev without : Name → List Name → List Name
without x ys = filter (λ y. not (name_eq x y)) ys

-- each name once
abbrev firsts : List Name → List Name
firsts [] = []
firsts (x ∷ xs) = x ∷ without x (firsts xs)

-- those that aren't among some
abbrev others : List Name → List Name → List Name
others made ys = filter (λ y. not (has_name y made)) ys

without_places : (x : Name) (ps : List (At Name)) → names_at (filter (λ q. not (name_eq x q.1)) ps) ≡ without x (names_at ps)
without_places x [] = refl
without_places x (q ∷ ps) = go (name_eq x q.1) (without_places x ps)
  where
    go : (b : Bool) → names_at (filter (λ q. not (name_eq x q.1)) ps) ≡ without x (names_at ps) → names_at (if not b then q ∷ filter (λ q. not (name_eq x q.1)) ps else filter (λ q. not (name_eq x q.1)) ps) ≡ (if not b then q.1 ∷ without x (names_at ps) else without x (names_at ps))
    go true ih = ih
    go false ih = ap (λ z. q.1 ∷ z) ih

firsts_places : (ps : List (At Name)) → names_at (first_places ps) ≡ firsts (names_at ps)
firsts_places [] = refl
firsts_places (p ∷ ps) = ap (λ z. p.1 ∷ z) (without_places p.1 (first_places ps) ∙ ap (without p.1) (firsts_places ps))

-- where a name is among some, it is none of the others
others_known : (x : Name) (made ys : List Name) → has_name x made ≡ true → others made (without x ys) ≡ others made ys
others_known x made [] h = refl
others_known x made (y ∷ ys) h = go (name_eq x y) refl (others_known x made ys h)
  where
    go : (b : Bool) → name_eq x y ≡ b → others made (without x ys) ≡ others made ys → others made (if not b then y ∷ without x ys else without x ys) ≡ others made (y ∷ ys)
    go true e ih =
        let there : has_name y made ≡ true = ap (λ z. has_name z made) (sym (name_same x y e)) ∙ h in
        ih ∙ ap (λ b. if not b then y ∷ others made ys else others made ys) (sym there)
    go false e ih = ap (λ z. if not (has_name y made) then y ∷ z else z) ih

-- those that aren't among some and one more
others_more : (x : Name) (made ys : List Name) → others (made ++ x ∷ []) ys ≡ others made (without x ys)
others_more x made [] = refl
others_more x made (y ∷ ys) = ap₂ (λ b z. if not b then y ∷ z else z) (has_behind y x made) (others_more x made ys) ∙ go (name_eq y x) (name_eq x y) refl refl
  where
    go : (a b : Bool) → name_eq y x ≡ a → name_eq x y ≡ b → (if not (a || has_name y made) then y ∷ others made (without x ys) else others made (without x ys)) ≡ others made (if not b then y ∷ without x ys else without x ys)
    go true true e d = refl
    go true false e d = absurd (let p : name_eq x y ≡ true = ap (λ z. name_eq x z) (name_same y x e) ∙ name_refl x in cc)
    go false true e d = absurd (let p : name_eq y x ≡ true = ap (λ z. name_eq y z) (name_same x y d) ∙ name_refl y in cc)
    go false false e d = refl

-- names that are added to some
added : (made xs : List Name) → fold with_name made xs ≡ made ++ others made (firsts xs)
added made [] = nothing made
  where
    nothing : (ys : List Name) → ys ≡ ys ++ []
    nothing [] = refl
    nothing (y ∷ ys) = ap (λ z. y ∷ z) (nothing ys)
added made (x ∷ xs) = go (added made xs) (added (made ++ x ∷ []) xs) (has_name x made) refl
  where
    go : fold with_name made xs ≡ made ++ others made (firsts xs) → fold with_name (made ++ x ∷ []) xs ≡ (made ++ x ∷ []) ++ others (made ++ x ∷ []) (firsts xs) → (b : Bool) → has_name x made ≡ b → fold with_name (if b then made else made ++ x ∷ []) xs ≡ made ++ (if not b then x ∷ others made (without x (firsts xs)) else others made (without x (firsts xs)))
    go kept more true e = kept ∙ ap (λ z. made ++ z) (sym (others_known x made (firsts xs) e))
    go kept more false e = more ∙ append_assoc made (x ∷ []) (others (made ++ x ∷ []) (firsts xs)) ∙ ap (λ z. made ++ (x ∷ z)) (others_more x made (firsts xs))

-- all names are none of no names
others_none : (ys : List Name) → others [] ys ≡ ys
others_none [] = refl
others_none (y ∷ ys) = ap (λ z. y ∷ z) (others_none ys)

pub once_first : (ps : List (At Name)) → once (names_at ps) ≡ names_at (first_places ps)
once_first ps = added [] (names_at ps) ∙ others_none (firsts (names_at ps)) ∙ sym (firsts_places ps)
