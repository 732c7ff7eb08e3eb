-- The rows of the units that take part are those of the definitions, and so is what is told of them.
use Rattle.std.proofs.Common.{◌≡◌, ℕ, suc, ◌-◌, ◌≤◌, List, [], ◌∷◌, ◌++◌, Bool, true, false, map, refl, sym, ap, ◌∙◌, arith}
use Rattle.std.specs.Prelude.{Contains, Option, Some, None, filter, flat_map, slice_get, if◌then◌else◌}
use Rattle.std.specs.Option.{option_map}
use Rattle.std.proofs.lemmas.List.{map-append}
use Rattle.std.proofs.lemmas.List.Concat.{flat_map-cons}
use Rattle.std.proofs.lemmas.List.Folds.{flat_map-map}
use Rattle.adj_tree.specs.Code.{Var, plain, name_eq, Procedure}
use Rattle.def_names.specs.Numbers.{behind}
use Rattle.def_flow.specs.Parts.{Part, part, parts_from, parts, find_part}
use Rattle.def_names.specs.StatementsIn.{statements_in}
use Rattle.def_names.specs.VariableLists.{list_if}
use Rattle.def_flow.specs.Problem.{Problem, TakesPart}
use Rattle.def_flow.specs.Activity.{IsPoint}
use Rattle.def_flow.specs.Rules.{Scope, Covers}
use Rattle.adj_reach.proofs.Members.{is_first, is_later}
use Rattle.adj_symbols_writes.specs.Graph.{number_from, place_from}
use Rattle.adj_symbols_writes.proofs.Numbers.{place_above}
use Rattle.adj_symbols_writes.proofs.Rows.{name_comm}
use Rattle.adj_flow.specs.Rows.{Row, row_at, row_in, rows}
use Rattle.adj_reach.specs.Edges.{flag}
use Rattle.adj_flow.specs.Nodes.{node_in}
use Rattle.adj_flow.specs.Told.{flag_at, told_in, told}
use Rattle.adj_flow.specs.NodeView.{told_at, found_at}
use Rattle.adj_flow.specs.Scoped.{scope_by}
use Rattle.adj_flow.proofs.Telling.{point_found}

-- ---- lists

-- what is made of the members is the same where it is of each
pub flat_same : {X Y : Type 0} (f g : X → List Y) (xs : List X) → ((x : X) → Contains xs x → f x ≡ g x) → flat_map f xs ≡ flat_map g xs
flat_same f g [] h = refl
flat_same f g (x ∷ xs) h =
    let first : f x ≡ g x = h x (is_first x x xs refl) in
    let later : flat_map f xs ≡ flat_map g xs = flat_same f g xs (λ z c. h z (is_later z x xs c)) in
    flat_map-cons f x xs ∙ (λ i. first i ++ later i) ∙ sym (flat_map-cons g x xs)

-- what is made of the chosen members
pub flat_chosen : {X Y : Type 0} (b : X → Bool) (f : X → List Y) (xs : List X) → flat_map (λ x. list_if (b x) (f x)) xs ≡ flat_map f (filter b xs)
flat_chosen b f [] = refl
flat_chosen b f (x ∷ xs) = flat_map-cons (λ y. list_if (b y) (f y)) x xs ∙ go (b x) (flat_chosen b f xs)
  where
    go : (c : Bool) → flat_map (λ y. list_if (b y) (f y)) xs ≡ flat_map f (filter b xs) → list_if c (f x) ++ flat_map (λ y. list_if (b y) (f y)) xs ≡ flat_map f (if c then x ∷ filter b xs else filter b xs)
    go true h = ap (λ z. f x ++ z) h ∙ sym (flat_map-cons f x (filter b xs))
    go false h = h

-- an image of all that is made
pub map_flat : {X Y Z : Type 0} (h : Y → Z) (f : X → List Y) (xs : List X) → flat_map (λ x. map h (f x)) xs ≡ map h (flat_map f xs)
map_flat h f [] = refl
map_flat h f (x ∷ xs) = flat_map-cons (λ z. map h (f z)) x xs ∙ ap (λ z. map h (f x) ++ z) (map_flat h f xs) ∙ sym (map-append h (f x) (flat_map f xs)) ∙ ap (map h) (sym (flat_map-cons f x xs))

-- ---- the unit of a name

abbrev found_behind : ℕ → List Row → Option ℕ → Option Row
found_behind k rs None = None
found_behind k rs (Some n) = slice_get rs (n - k)

-- among the units from the k-th on
found_from : (vss : List (List (List ℕ))) (t u i k : ℕ) (ps : List Procedure) (x : List ℕ) → found_behind k (map (row_in vss) (parts_from t u i ps)) (place_from k (map (λ p. p.name) ps) x) ≡ option_map (row_in vss) (find_part (parts_from t u i ps) x)
found_from vss t u i k [] x = refl
found_from vss t u i k (p ∷ ps) x =
    go (name_eq x p.name) (found_from vss t (suc u) (behind i p.body) (suc k) ps x) ∙ ap (λ b. option_map (row_in vss) (if b then Some (part t u i p) else find_part (parts_from t (suc u) (behind i p.body) ps) x)) (name_comm x p.name)
  where
    rest : List Row
    rest = map (row_in vss) (parts_from t (suc u) (behind i p.body) ps)

    here : (j : ℕ) → j ≡ 0 → slice_get (row_in vss (part t u i p) ∷ rest) j ≡ Some (row_in vss (part t u i p))
    here j e = ap (λ z. slice_get (row_in vss (part t u i p) ∷ rest) z) e

    deeper : (o : Option ℕ) → place_from (suc k) (map (λ q. q.name) ps) x ≡ o → found_behind k (row_in vss (part t u i p) ∷ rest) o ≡ found_behind (suc k) rest o
    deeper None e = refl
    deeper (Some n) e = let l : suc k ≤ n = place_above (suc k) (map (λ q. q.name) ps) x n e in let h : n - k ≡ suc (n - suc k) = omega arith in ap (λ z. slice_get (row_in vss (part t u i p) ∷ rest) z) h

    go : (b : Bool) → found_behind (suc k) rest (place_from (suc k) (map (λ q. q.name) ps) x) ≡ option_map (row_in vss) (find_part (parts_from t (suc u) (behind i p.body) ps) x) →
        found_behind k (row_in vss (part t u i p) ∷ rest) (if b then Some k else place_from (suc k) (map (λ q. q.name) ps) x) ≡ option_map (row_in vss) (if b then Some (part t u i p) else find_part (parts_from t (suc u) (behind i p.body) ps) x)
    go true r = here (k - k) (omega arith)
    go false r = deeper (place_from (suc k) (map (λ q. q.name) ps) x) refl ∙ r

unmoved : (rs : List Row) (o : Option ℕ) → found_behind 0 rs o ≡ found_at rs o
unmoved rs None = refl
unmoved rs (Some n) = let h : n - 0 ≡ n = omega arith in ap (slice_get rs) h

pub found_unit : (vss : List (List (List ℕ))) (ps : List Procedure) (x : List ℕ) → found_at (rows vss ps) (number_from 0 ps x) ≡ option_map (row_in vss) (find_part (parts ps) x)
found_unit vss ps x = sym (unmoved (rows vss ps) (number_from 0 ps x)) ∙ found_from vss (statements_in 0 ps) 0 0 0 ps x

-- ---- rows

module _ (k : Problem) (vss : List (List (List ℕ))) (flags : List Bool) where
  abbrev taking_part : Scope
  taking_part = scope_by vss (flag flags) k.units

  -- all units that take part
  pub scoped : {Y : Type 0} (f : Row → List Y) (g : Part → List Y) → ((p : Part) → Contains taking_part.parts p → f (row_in vss p) ≡ g p) → flat_map (λ r. list_if (flag flags r.part.number) (f r)) (rows vss k.units) ≡ flat_map g taking_part.parts
  scoped f g h =
      flat_map-map (λ r. list_if (flag flags r.part.number) (f r)) (row_in vss) (parts k.units)
      ∙ flat_chosen (λ (p : Part). flag flags p.number) (λ p. f (row_in vss p)) (parts k.units)
      ∙ flat_same (λ p. f (row_in vss p)) g (filter (λ (p : Part). flag flags p.number) (parts k.units)) h

-- what is told of a unit at its points
pub told_there : (k : Problem) (o : Scope) (y : Covers k o) (by : List Bool) (w : ℕ) (vs : List (List ℕ)) (g : Part) (p : ℕ) → TakesPart k g → IsPoint g p → map plain vs ≡ o.variables g → (v : Var) → told_at by w (row_at vs g) p v ≡ told by o w p v
told_there k o y by w vs g p u i e v = ap (λ z. flag_at by (node_in w z (p, v))) e ∙ sym (ap (λ z. told_in by o w p z v) (point_found k o y g p u i))
