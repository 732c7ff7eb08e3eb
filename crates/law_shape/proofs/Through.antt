-- What holds of each statement of a list, at any depth.
use Rattle.std.proofs.Common.{◌≡◌, Bool, true, false, List, [], ◌∷◌, ◌++◌, refl, sym, ◌∙◌, subst}
use Rattle.std.specs.Prelude.{◌||◌, ◌&&◌}
use Rattle.std.specs.List.{list_any, list_all}
use Rattle.std.proofs.lemmas.Grind.{flat_map-append}
use Rattle.adj_tree.specs.Code.{Var, Act, assign, choose, loop, during, call, runtime, Code, stop, step}
use Rattle.def_meaning.specs.Append.{◌+++◌}
use Rattle.def_names.specs.Statements.{At, statements}
use Rattle.def_sweep.specs.Marked.{code_if}
use Rattle.def_adjoint.specs.Shape.{gathered}
use Rattle.law_shape.proofs.Gathered.{gathered_step, inside, seen, seen_append}

module _ (P : Act → Type 0) where
  abbrev mutual
    pub Through' : Act → Type 0
    Through' (assign x subs e) = P (assign x subs e)
    Through' (choose c a b) = P (choose c a b) × (Through a × Through b)
    Through' (loop x a b c body m) = P (loop x a b c body m) × Through body
    Through' (during c body) = P (during c body) × Through body
    Through' (call name args) = P (call name args)
    Through' (runtime r) = P (runtime r)

    pub Through : Code → Type 0
    Through stop = Unit {0}
    Through (step line a rest) = Through' a × Through rest

  pub through_append : (c d : Code) → Through c → Through d → Through (c +++ d)
  through_append stop d h g = g
  through_append (step line a c) d h g = (h.0, through_append c d h.1 g)

  pub seen_through : (r : Var → Var) (c d : Code) → Through (seen r c) → Through (seen r d) → Through (seen r (c +++ d))
  seen_through r c d h g = subst Through (sym (seen_append r c d)) (through_append (seen r c) (seen r d) h g)

  pub guarded_through : (r : Var → Var) (b : Bool) (c : Code) → (b ≡ true → Through (seen r c)) → Through (seen r (code_if b c))
  guarded_through r true c h = h refl
  guarded_through r false c h = tt

-- ---- the same, by whether the list stands in the body of a loop

module _ (P : Bool → Act → Type 0) where
  abbrev mutual
    pub Placed' : Bool → Act → Type 0
    Placed' inside (assign x subs e) = P inside (assign x subs e)
    Placed' inside (choose c a b) = P inside (choose c a b) × (Placed inside a × Placed inside b)
    Placed' inside (loop x a b c body m) = P inside (loop x a b c body m) × Placed true body
    Placed' inside (during c body) = P inside (during c body) × Placed true body
    Placed' inside (call name args) = P inside (call name args)
    Placed' inside (runtime r) = P inside (runtime r)

    pub Placed : Bool → Code → Type 0
    Placed inside stop = Unit {0}
    Placed inside (step line a rest) = Placed' inside a × Placed inside rest

  pub placed_append : (inside : Bool) (c d : Code) → Placed inside c → Placed inside d → Placed inside (c +++ d)
  placed_append inside stop d h g = g
  placed_append inside (step line a c) d h g = (h.0, placed_append inside c d h.1 g)

  pub seen_placed : (inside : Bool) (r : Var → Var) (c d : Code) → Placed inside (seen r c) → Placed inside (seen r d) → Placed inside (seen r (c +++ d))
  seen_placed inside r c d h g = subst (Placed inside) (sym (seen_append r c d)) (placed_append inside (seen r c) (seen r d) h g)

  pub guarded_placed : (inside : Bool) (r : Var → Var) (b : Bool) (c : Code) → (b ≡ true → Placed inside (seen r c)) → Placed inside (seen r (code_if b c))
  guarded_placed inside r true c h = h refl
  guarded_placed inside r false c h = tt

-- ---- what is gathered

-- a property of lists that joined lists have, too
module _ {X : Type 0} (L : List X → Type 0) (none : L []) (join : (xs ys : List X) → L xs → L ys → L (xs ++ ys)) (f : Act → List X) (P : Act → Type 0) (of : (a : Act) → P a → L (f a)) where
  mutual
    gathered_act : (a : Act) → Through' P a → L (f a) × L (inside f a)
    gathered_act (assign x subs e) h = (of (assign x subs e) h, none)
    gathered_act (choose c a b) h = (of (choose c a b) h.0, subst L (sym (flat_map-append (λ (s : At Act). f s.1) (statements a) (statements b))) (join (gathered f a) (gathered f b) (gathered_has a h.1.0) (gathered_has b h.1.1)))
    gathered_act (loop x a b c body m) h = (of (loop x a b c body m) h.0, gathered_has body h.1)
    gathered_act (during c body) h = (of (during c body) h.0, gathered_has body h.1)
    gathered_act (call name args) h = (of (call name args) h, none)
    gathered_act (runtime r) h = (of (runtime r) h, none)

    pub gathered_has : (c : Code) → Through P c → L (gathered f c)
    gathered_has stop h = none
    gathered_has (step line a rest) h =
        let here = gathered_act a h.0 in
        subst L (sym (gathered_step f line a rest)) (join (f a) (inside f a ++ gathered f rest) here.0 (join (inside f a) (gathered f rest) here.1 (gathered_has rest h.1)))

-- ---- such properties

pub none_join : {X : Type 0} (xs ys : List X) → xs ≡ [] → ys ≡ [] → xs ++ ys ≡ []
none_join xs ys h g = λ j. h j ++ g j

pub any_append : {X : Type 0} (p : X → Bool) (xs ys : List X) → list_any p (xs ++ ys) ≡ (list_any p xs || list_any p ys)
any_append p [] ys = refl
any_append p (x ∷ xs) ys = go (p x) (any_append p xs ys)
  where
    go : (b : Bool) → list_any p (xs ++ ys) ≡ (list_any p xs || list_any p ys) → (b || list_any p (xs ++ ys)) ≡ ((b || list_any p xs) || list_any p ys)
    go true ih = refl
    go false ih = ih

pub any_join : {X : Type 0} (p : X → Bool) (xs ys : List X) → list_any p xs ≡ false → list_any p ys ≡ false → list_any p (xs ++ ys) ≡ false
any_join p xs ys h g = any_append p xs ys ∙ (λ j. h j || g j)

pub all_join : {X : Type 0} (p : X → Bool) (xs ys : List X) → list_all p xs ≡ true → list_all p ys ≡ true → list_all p (xs ++ ys) ≡ true
all_join p [] ys h g = g
all_join p (x ∷ xs) ys h g = go (p x) h (λ e. all_join p xs ys e g)
  where
    go : (b : Bool) → (b && list_all p xs) ≡ true → (list_all p xs ≡ true → list_all p (xs ++ ys) ≡ true) → (b && list_all p (xs ++ ys)) ≡ true
    go true h ih = ih h
    go false h ih = h
