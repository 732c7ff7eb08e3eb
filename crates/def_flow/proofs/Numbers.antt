-- A number belongs to one statement of one unit.
use Rattle.std.proofs.Common.{◌≡◌, ◌⊎◌, inl, inr, ℕ, suc, ◌≤◌, List, [], ◌∷◌, ◌++◌, sym, ap, ◌∙◌, subst, arith}
use Rattle.std.specs.Prelude.{Contains, map, Some, Bool, true, false, if◌then◌else◌, slice_get}
use Rattle.std.proofs.lemmas.List.{map-append}
use Rattle.std.proofs.lemmas.List.Elements.{Contains-append_left, Contains-append_right}
use Rattle.std.proofs.lemmas.Option.{slice_get_within, get_or_from_slice_get}
use Rattle.adj_tree.specs.Code.{name_eq, Act, assign, choose, loop, during, call, runtime, Code, stop, step, Procedure}
use Rattle.def_names.specs.Numbers.{next, behind}
use Rattle.adj_reach.specs.Reached.{begins, leads}
use Rattle.def_flow.specs.Parts.{Part, part, parts_from, parts, find_part}
use Rattle.def_names.specs.StatementsIn.{statements_in}
use Rattle.def_flow.specs.Standing.{Place, outermost, part_of, body_of, Standing, held_in, standing}
use Rattle.def_flow.specs.Problem.{Problem, statements_of, TakesPart}
use Rattle.adj_reach.proofs.Members.{is_first, is_later, is_among, is_none}

-- the statements of a unit with it
abbrev owned : Part → List Standing → List (Part × Standing)
owned g ss = map (λ s. (g, s)) ss

-- the numbers rise, from i on, and stay below j
abbrev Rise : ℕ → ℕ → List (Part × Standing) → Type 0
Rise i j [] = i ≤ j
Rise i j (s ∷ ss) = (i ≤ s.1.number) × Rise (suc s.1.number) j ss

rise_from : (i k j : ℕ) (xs : List (Part × Standing)) → i ≤ k → Rise k j xs → Rise i j xs
rise_from i k j [] l h = omega arith
rise_from i k j (x ∷ xs) l h = (omega (arith, h.0), h.1)

rise_append : (i j k : ℕ) (xs ys : List (Part × Standing)) → Rise i j xs → Rise j k ys → Rise i k (xs ++ ys)
rise_append i j k [] ys f h = rise_from i j k ys f h
rise_append i j k (x ∷ xs) ys f h = (f.0, rise_append (suc x.1.number) j k xs ys f.1 h)

mutual
  rise_held : (g : Part) (i : ℕ) (a : Act) → Rise (suc i) (next i a) (owned g (held_in i a))
  rise_held g i (assign x subs e) = omega arith
  rise_held g i (choose c a b) =
      subst (λ z. Rise (suc i) (behind (behind (suc i) a) b) z) (sym (map-append (λ s. (g, s)) (standing (part_of i) (suc i) a) (standing (part_of i) (behind (suc i) a) b)))
      (rise_append (suc i) (behind (suc i) a) (behind (behind (suc i) a) b) (owned g (standing (part_of i) (suc i) a)) (owned g (standing (part_of i) (behind (suc i) a) b)) (rise_list g (part_of i) (suc i) a) (rise_list g (part_of i) (behind (suc i) a) b))
  rise_held g i (loop x first last by body m) = rise_list g (body_of i x m) (suc i) body
  rise_held g i (during c body) = rise_list g (part_of i) (suc i) body
  rise_held g i (call name args) = omega arith
  rise_held g i (runtime r) = omega arith

  rise_list : (g : Part) (at : Place) (i : ℕ) (c : Code) → Rise i (behind i c) (owned g (standing at i c))
  rise_list g at i stop = omega arith
  rise_list g at i (step line a rest) = (
    omega arith,
    subst (λ z. Rise (suc i) (behind (next i a) rest) z) (sym (map-append (λ s. (g, s)) (held_in i a) (standing at (next i a) rest)))
        (rise_append (suc i) (next i a) (behind (next i a) rest) (owned g (held_in i a)) (owned g (standing at (next i a) rest)) (rise_held g i a) (rise_list g at (next i a) rest)),
  )

-- all statements of a program
abbrev all_of : List Part → List (Part × Standing)
all_of [] = []
all_of (g ∷ gs) = owned g (statements_of g) ++ all_of gs

rise_parts : (t u i : ℕ) (ps : List Procedure) → Rise i (statements_in i ps) (all_of (parts_from t u i ps))
rise_parts t u i [] = omega arith
rise_parts t u i (p ∷ ps) =
    rise_append i (behind i p.body) (statements_in (behind i p.body) ps) (owned (part t u i p) (statements_of (part t u i p))) (all_of (parts_from t (suc u) (behind i p.body) ps))
    (rise_list (part t u i p) outermost i p.body) (rise_parts t (suc u) (behind i p.body) ps)

-- ---- members

rise_above : (i j : ℕ) (xs : List (Part × Standing)) (x : Part × Standing) → Rise i j xs → Contains xs x → i ≤ x.1.number
rise_above i j [] x h c = absurd (is_none x c)
rise_above i j (y ∷ ys) x h c = go (is_among x y ys c) (λ d. rise_above (suc y.1.number) j ys x h.1 d)
  where
    go : (y ≡ x) ⊎ Contains ys x → (Contains ys x → suc y.1.number ≤ x.1.number) → i ≤ x.1.number
    go (inl e) r = let f : y.1.number ≡ x.1.number = ap (λ z. z.1.number) e in omega (arith, h.0)
    go (inr d) r = omega (arith, h.0, r d)

rise_one : (i j : ℕ) (xs : List (Part × Standing)) (x y : Part × Standing) → Rise i j xs → Contains xs x → Contains xs y → x.1.number ≡ y.1.number → x ≡ y
rise_one i j [] x y h c d e = absurd (is_none x c)
rise_one i j (z ∷ zs) x y h c d e = go (is_among x z zs c) (is_among y z zs d) (λ f g. rise_one (suc z.1.number) j zs x y h.1 f g e)
  where
    go : (z ≡ x) ⊎ Contains zs x → (z ≡ y) ⊎ Contains zs y → (Contains zs x → Contains zs y → x ≡ y) → x ≡ y
    go (inl f) (inl g) r = sym f ∙ g
    go (inl f) (inr g) r = let b : suc z.1.number ≤ y.1.number = rise_above (suc z.1.number) j zs y h.1 g in let q : z.1.number ≡ x.1.number = ap (λ s. s.1.number) f in absurd (omega arith)
    go (inr f) (inl g) r = let b : suc z.1.number ≤ x.1.number = rise_above (suc z.1.number) j zs x h.1 f in let q : z.1.number ≡ y.1.number = ap (λ s. s.1.number) g in absurd (omega arith)
    go (inr f) (inr g) r = r f g

owned_has : (g : Part) (ss : List Standing) (s : Standing) → Contains ss s → Contains (owned g ss) (g, s)
owned_has g [] s c = absurd (is_none s c)
owned_has g (t ∷ ts) s c = go (is_among s t ts c) (owned_has g ts s)
  where
    go : (t ≡ s) ⊎ Contains ts s → (Contains ts s → Contains (owned g ts) (g, s)) → Contains (owned g (t ∷ ts)) (g, s)
    go (inl e) r = is_first (g, s) (g, t) (owned g ts) (λ i. (g, e i))
    go (inr d) r = is_later (g, s) (g, t) (owned g ts) (r d)

all_has : (gs : List Part) (g : Part) (s : Standing) → Contains gs g → Contains (statements_of g) s → Contains (all_of gs) (g, s)
all_has [] g s c d = absurd (is_none g c)
all_has (h ∷ hs) g s c d = go (is_among g h hs c) (λ e. all_has hs g s e d)
  where
    go : (h ≡ g) ⊎ Contains hs g → (Contains hs g → Contains (all_of hs) (g, s)) → Contains (owned h (statements_of h) ++ all_of hs) (g, s)
    go (inl e) r = Contains-append_left (owned h (statements_of h)) (all_of hs) (g, s) (subst (λ z. Contains (owned z (statements_of z)) (g, s)) (sym e) (owned_has g (statements_of g) s d))
    go (inr e) r = Contains-append_right (owned h (statements_of h)) (all_of hs) (g, s) (r e)

-- ---- the units that take part are units

pub found_part : (gs : List Part) (name : List ℕ) (g : Part) → find_part gs name ≡ Some g → Contains gs g
found_part [] name g e = absurd cc
found_part (h ∷ hs) name g e = go (name_eq h.unit.name name) e (found_part hs name g)
  where
    go : (b : Bool) → (if b then Some h else find_part hs name) ≡ Some g → (find_part hs name ≡ Some g → Contains hs g) → Contains (h ∷ hs) g
    go true f r = is_first g h hs cc
    go false f r = is_later g h hs (r f)

slice_get_has : (gs : List Part) (n : ℕ) (g : Part) → slice_get gs n ≡ Some g → Contains gs g
slice_get_has gs n g e = (n, slice_get_within gs n g e, get_or_from_slice_get gs n g g e)

pub part_is_there : (k : Problem) (g : Part) → TakesPart k g → Contains (parts k.units) g
part_is_there k g (begins h) = slice_get_has (parts k.units) k.head g h.is
part_is_there k g (leads r c) = found_part (parts k.units) c.2.name g c.2.finds

-- ---- a number belongs to one statement

pub one_statement : (k : Problem) (f g : Part) (s t : Standing) → TakesPart k f → TakesPart k g → Contains (statements_of f) s → Contains (statements_of g) t → s.number ≡ t.number → (f ≡ g) × (s ≡ t)
one_statement k f g s t p q c d e =
    let o : (f, s) ≡ (g, t) = rise_one 0 (statements_in 0 k.units) (all_of (parts k.units)) (f, s) (g, t) (rise_parts (statements_in 0 k.units) 0 0 k.units) (all_has (parts k.units) f s (part_is_there k f p) c) (all_has (parts k.units) g t (part_is_there k g q) d) e in
    (ap (λ z. z.0) o, ap (λ z. z.1) o)
