-- Numbers of statements don't fall, so that each is below those that come after.
use Rattle.std.proofs.Common.{◌≡◌, ℕ, ◌<◌, ◌≤◌, ◌++◌, List, [], ◌∷◌, ap, arith, length, map, length-append}
use Rattle.std.proofs.lemmas.List.{length-map}
use Rattle.adj_tree.specs.Code.{Act, Code, step, Procedure}
use Rattle.def_names.specs.Numbers.{next, behind}
use Rattle.def_names.specs.StatementsIn.{statements_in}
use Rattle.def_flow.specs.Standing.{Place, outermost, Standing, standing}
use Rattle.adj_flow.proofs.Numbering.{next_by_length, behind_by_length}

pub next_above : (i : ℕ) (a : Act) → i < next i a
next_above i a = omega (arith, next_by_length i a)

pub behind_above : (i : ℕ) (c : Code) → i ≤ behind i c
behind_above i c = omega (arith, behind_by_length outermost i c)

pub all_above : (i : ℕ) (ps : List Procedure) → i ≤ statements_in i ps
all_above i [] = omega arith
all_above i (p ∷ ps) = omega (arith, behind_above i p.body, all_above (behind i p.body) ps)

-- a list and a part of it, after which the rest is listed, end at the same number
pub same_end : {X : Type 0} (view : X → Standing) (old new : List X) (at : Place) (c d : Code) → map view new ++ standing at (length new) c ≡ map view old ++ standing at (length old) d → behind (length new) c ≡ behind (length old) d
same_end view old new at c d e =
    let l : length (map view new ++ standing at (length new) c) ≡ length (map view old ++ standing at (length old) d) = ap length e in
    omega (arith, l, length-map new view, length-map old view, length-append (map view new) (standing at (length new) c), length-append (map view old) (standing at (length old) d), behind_by_length at (length new) c, behind_by_length at (length old) d)

-- where a list ends below a bound, its first statement does
pub first_room : (i n line : ℕ) (a : Act) (rest : Code) → behind i (step line a rest) < n → next i a < n
first_room i n line a rest l = omega (arith, l, behind_above (next i a) rest)
