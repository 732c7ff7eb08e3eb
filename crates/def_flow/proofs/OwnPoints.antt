-- The points of a statement are points of its unit, and so are the entry and the end.
use Rattle.std.proofs.Common.{◌≡◌, inl, inr, ℕ, suc, [], ◌∷◌, ◌++◌, refl, sym, subst}
use Rattle.std.specs.Prelude.{Contains}
use Rattle.std.proofs.lemmas.List.Elements.{Contains-append_left, Contains-append_right}
use Rattle.adj_tree.specs.Code.{Test, none, more, Act, assign, choose, loop, during, call, runtime, Code, stop, step}
use Rattle.def_names.specs.Numbers.{next, behind}
use Rattle.def_names.specs.Numbering.{point_before, point_after, point_inside}
use Rattle.def_flow.specs.Parts.{Part}
use Rattle.def_flow.specs.Ways.{Deed, passing, assigning, calling, Way, way, act_ways, ways}
use Rattle.def_flow.specs.Standing.{Standing}
use Rattle.def_flow.specs.Problem.{statements_of}
use Rattle.def_flow.specs.Activity.{IsPoint}
use Rattle.def_flow.specs.Uses.{use_point}
use Rattle.adj_reach.proofs.Members.{is_first, is_later}
use Rattle.def_flow.proofs.Placed.{way_of_statement}

-- the first way of a list, and its last
pub first_way : (i p q : ℕ) (last : Deed) (c : Code) → (w : Way) × Contains (ways i p q last c) w × (w.from ≡ p)
first_way i p q last stop = (way p q last, is_first (way p q last) (way p q last) [] refl, refl)
first_way i p q last (step line a rest) = (way p (point_before i) passing, is_first (way p (point_before i) passing) (way p (point_before i) passing) (act_ways i a ++ ways (next i a) (point_after i) q last rest) refl, refl)

pub last_way : (i p q : ℕ) (last : Deed) (c : Code) → (w : Way) × Contains (ways i p q last c) w × (w.to ≡ q)
last_way i p q last stop = (way p q last, is_first (way p q last) (way p q last) [] refl, refl)
last_way i p q last (step line a rest) =
    let r : (w : Way) × Contains (ways (next i a) (point_after i) q last rest) w × (w.to ≡ q) = last_way (next i a) (point_after i) q last rest in
    (r.0, is_later r.0 (way p (point_before i) passing) (act_ways i a ++ ways (next i a) (point_after i) q last rest) (Contains-append_right (act_ways i a) (ways (next i a) (point_after i) q last rest) r.0 r.1), r.2)

pub entry_point : (g : Part) → IsPoint g g.entry
entry_point g = let w = first_way g.first g.entry g.end passing g.unit.body in (w.0, w.1, inl w.2)

pub end_point : (g : Part) → IsPoint g g.end
end_point g = let w = last_way g.first g.entry g.end passing g.unit.body in (w.0, w.1, inr w.2)

-- a way that leads from before a statement, and one that leads to after it
only : (i p q : ℕ) (d : Deed) → Contains (way p q d ∷ []) (way p q d)
only i p q d = is_first (way p q d) (way p q d) [] refl

from_before : (i : ℕ) (a : Act) → (w : Way) × Contains (act_ways i a) w × (w.from ≡ point_before i)
from_before i (assign x none e) = (way (point_before i) (point_after i) (assigning i x), only i (point_before i) (point_after i) (assigning i x), refl)
from_before i (assign x (more j js) e) = (way (point_before i) (point_after i) passing, only i (point_before i) (point_after i) passing, refl)
from_before i (choose c a b) =
    let r = first_way (suc i) (point_before i) (point_after i) passing a in
    (r.0, Contains-append_left (ways (suc i) (point_before i) (point_after i) passing a) (ways (behind (suc i) a) (point_before i) (point_after i) passing b) r.0 r.1, r.2)
from_before i (loop x first last by body m) =
    let w = way (point_before i) (point_inside i) (assigning i x) in
    (w, is_first w w (way (point_inside i) (point_after i) passing ∷ ways (suc i) (point_inside i) (point_inside i) (assigning i x) body) refl, refl)
from_before i (during c body) =
    let w = way (point_before i) (point_inside i) passing in
    (w, is_first w w (way (point_inside i) (point_after i) passing ∷ ways (suc i) (point_inside i) (point_inside i) passing body) refl, refl)
from_before i (call name args) = (way (point_before i) (point_after i) (calling args), only i (point_before i) (point_after i) (calling args), refl)
from_before i (runtime r) = (way (point_before i) (point_after i) passing, only i (point_before i) (point_after i) passing, refl)

to_after : (i : ℕ) (a : Act) → (w : Way) × Contains (act_ways i a) w × (w.to ≡ point_after i)
to_after i (assign x none e) = (way (point_before i) (point_after i) (assigning i x), only i (point_before i) (point_after i) (assigning i x), refl)
to_after i (assign x (more j js) e) = (way (point_before i) (point_after i) passing, only i (point_before i) (point_after i) passing, refl)
to_after i (choose c a b) =
    let r = last_way (suc i) (point_before i) (point_after i) passing a in
    (r.0, Contains-append_left (ways (suc i) (point_before i) (point_after i) passing a) (ways (behind (suc i) a) (point_before i) (point_after i) passing b) r.0 r.1, r.2)
to_after i (loop x first last by body m) =
    let w = way (point_inside i) (point_after i) passing in
    let rest = ways (suc i) (point_inside i) (point_inside i) (assigning i x) body in
    (w, is_later w (way (point_before i) (point_inside i) (assigning i x)) (w ∷ rest) (is_first w w rest refl), refl)
to_after i (during c body) =
    let w = way (point_inside i) (point_after i) passing in
    let rest = ways (suc i) (point_inside i) (point_inside i) passing body in
    (w, is_later w (way (point_before i) (point_inside i) passing) (w ∷ rest) (is_first w w rest refl), refl)
to_after i (call name args) = (way (point_before i) (point_after i) (calling args), only i (point_before i) (point_after i) (calling args), refl)
to_after i (runtime r) = (way (point_before i) (point_after i) passing, only i (point_before i) (point_after i) passing, refl)

pub own_before : (g : Part) (s : Standing) → Contains (statements_of g) s → IsPoint g (point_before s.number)
own_before g s c = let r = from_before s.number s.act in (r.0, way_of_statement g s r.0 c r.1, inl r.2)

pub own_after : (g : Part) (s : Standing) → Contains (statements_of g) s → IsPoint g (point_after s.number)
own_after g s c = let r = to_after s.number s.act in (r.0, way_of_statement g s r.0 c r.1, inr r.2)

-- the test of a DO WHILE
inside_while : (i : ℕ) (q : Test) (body : Code) → (w : Way) × Contains (act_ways i (during q body)) w × (w.to ≡ point_inside i)
inside_while i q body =
    let w = way (point_before i) (point_inside i) passing in
    (w, is_first w w (way (point_inside i) (point_after i) passing ∷ ways (suc i) (point_inside i) (point_inside i) passing body) refl, refl)

-- the point at which a statement uses what it does
pub use_is_point : (g : Part) (s : Standing) → Contains (statements_of g) s → IsPoint g (use_point s.number s.act)
use_is_point g s c = go s.act refl
  where
    go : (a : Act) → s.act ≡ a → IsPoint g (use_point s.number a)
    go (assign x subs e) h = own_before g s c
    go (choose q a b) h = own_before g s c
    go (loop x first last by body m) h = own_before g s c
    go (during q body) h = let r = inside_while s.number q body in (r.0, way_of_statement g s r.0 c (subst (λ a. Contains (act_ways s.number a) r.0) (sym h) r.1), inr r.2)
    go (call name args) h = own_before g s c
    go (runtime r) h = own_before g s c
