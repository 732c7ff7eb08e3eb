-- The flow of a program has its units in the order of their numbers.
use Rattle.std.proofs.Common.{◌≡◌, ℕ, zero, suc, ◌+◌, ◌<◌, ◌≤◌, List, [], ◌∷◌, map, length, get_or, refl, sym, ap, ◌∙◌, arith, max}
use Rattle.std.specs.Prelude.{Contains}
use Rattle.std.proofs.lemmas.List.{length-map, get_or-map}
use Rattle.std.proofs.lemmas.List.Elements.{All-contains}
use Rattle.adj_tree.specs.Code.{Var, plain, Procedure}
use Rattle.adj_reach.proofs.Members.{map_has, map_only}
use Rattle.def_names.specs.Numbers.{behind}
use Rattle.def_names.specs.StatementsIn.{statements_in}
use Rattle.def_flow.specs.Parts.{Part, parts_from, parts}
use Rattle.def_flow.specs.Flow.{Node}
use Rattle.adj_flow.specs.Asked.{IsFlow, units_of, variables_of}
use Rattle.adj_flow.specs.NodeView.{vars_of}
use Rattle.adj_flow.specs.Nodes.{node_in}
use Rattle.adj_flow.specs.Rows.{Row, row_of, row_in, rows}
use Rattle.adj_flow.specs.declared.units.Flow.{Flow}
use Rattle.adj_flow.specs.UnitRows.{AreNumbered}

pub parts_length : (t u i : ℕ) (ps : List Procedure) → length (parts_from t u i ps) ≡ length ps
parts_length t u i [] = refl
parts_length t u i (p ∷ ps) = ap suc (parts_length t (suc u) (behind i p.body) ps)

part_number : (t u i : ℕ) (ps : List Procedure) (k : ℕ) (d : Part) → k < length ps → (get_or (parts_from t u i ps) k d).number ≡ u + k
part_number t u i [] k d l = absurd (omega (arith, l))
part_number t u i (p ∷ ps) zero d l = omega arith
part_number t u i (p ∷ ps) (suc k) d l = let h : (get_or (parts_from t (suc u) (behind i p.body) ps) k d).number ≡ suc u + k = part_number t (suc u) (behind i p.body) ps k d (omega (arith, l)) in omega (arith, h)

pub flow_numbered : (f : Flow) (h : ℕ) → IsFlow f h → AreNumbered f f.width
flow_numbered f h is = record { numbers = numbers; narrow = is.width }
  where
    count : length f.parts.items ≡ length (units_of f)
    count =
        let a : length (map row_of f.parts.items) ≡ length (rows (variables_of f) (units_of f)) = ap length is.rows in
        omega (arith, a, length-map f.parts.items row_of, length-map (parts (units_of f)) (row_in (variables_of f)), parts_length (statements_in 0 (units_of f)) 0 0 (units_of f))

    numbers : (i : ℕ) (d : Row) → i < length f.parts.items → (get_or (map row_of f.parts.items) i d).part.number ≡ i
    numbers i d l =
        let t = statements_in 0 (units_of f) in
        let e : i < length (parts (units_of f)) = omega (arith, l, count, parts_length t 0 0 (units_of f)) in
        let z : 0 + i ≡ i = omega arith in
        ap (λ rs. (get_or rs i d).part.number) is.rows ∙ ap (λ (r : Row). r.part.number) (get_or-map (row_in (variables_of f)) (parts (units_of f)) i d.part d e) ∙ part_number t 0 0 (units_of f) i d.part (omega (arith, l, count)) ∙ z

-- ---- a stride that is never 0

-- where there are at most w variables, each has the number that it has where there is room for one at least
pub same_stride : (w : ℕ) (vs : List Var) (n : Node) → length vs ≤ w → node_in (max w 1) vs n ≡ node_in w vs n
same_stride zero [] n l = refl
same_stride zero (v ∷ vs) n l = absurd (omega (arith, l))
same_stride (suc w) vs n l = let e : max (suc w) 1 ≡ suc w = omega arith in ap (λ z. node_in z vs n) e

-- ---- the rows of the units

-- no unit has more variables than the width
pub rows_narrow : (f : Flow) (w : ℕ) → AreNumbered f w → (r : Row) → Contains (map row_of f.parts.items) r → length (vars_of r) ≤ w
rows_narrow f w is r c =
    let p = map_only row_of f.parts.items r c in
    let l : length p.0.variables.now ≤ w = All-contains (λ vs. length vs ≤ w) (map (λ p. p.variables.now) f.parts.items) p.0.variables.now is.narrow (map_has (λ p. p.variables.now) f.parts.items p.0 p.1) in
    let e : length (vars_of r) ≡ length p.0.variables.now = ap (λ (g : Row). length (vars_of g)) (sym p.2) ∙ length-map p.0.variables.now (λ x. plain x) in
    omega (arith, l, e)

-- a greater width serves as well
pub wider : (f : Flow) (w v : ℕ) → w ≤ v → AreNumbered f w → AreNumbered f v
wider f w v l is = record { numbers = is.numbers; narrow = λ k d h. let n : length (get_or (map (λ p. p.variables.now) f.parts.items) k d) ≤ w = is.narrow k d h in omega (arith, n, l) }
