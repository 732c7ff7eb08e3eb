-- What flags tell of a unit is what they tell of the program there.
use Rattle.std.proofs.Common.{◌≡◌, ℕ, suc, ◌*◌, Bool, true, List, [], ◌∷◌, ◌++◌, map, refl, sym, ap, ◌∙◌, subst}
use Rattle.std.specs.Prelude.{◌&&◌, Contains, Option, Some, slice_index_or}
use Rattle.std.proofs.lemmas.List.Elements.{Contains-append_left, Contains-append_right}
use Rattle.adj_tree.specs.Code.{Var, plain, Act, assign, choose, loop, during, call, runtime, Code, stop, step, Procedure}
use Rattle.adj_tree.specs.declared.marks.Marks as flags
use Rattle.def_meaning.specs.Written.{find_unit}
use Rattle.def_sweep.specs.Marks.{Marks}
use Rattle.def_names.specs.Numbers.{next, behind}
use Rattle.def_names.specs.Numbering.{point_before}
use Rattle.def_meaning.specs.Apart.{AreApart}
use Rattle.def_sweep.specs.Declared.{unit_name, unit_at}
use Rattle.def_sweep.specs.Marking.{marks_in, first_statement, place_from}
use Rattle.def_sweep.specs.Program.{takes_part}
use Rattle.def_flow.specs.Parts.{Part}
use Rattle.def_flow.specs.Standing.{Place, outermost, part_of, body_of, Standing, held_in, standing}
use Rattle.def_flow.specs.Problem.{statements_of}
use Rattle.def_flow.specs.Rules.{Covers}
use Rattle.adj_reach.proofs.Members.{is_first, is_later}
use Rattle.def_flow.proofs.OwnPoints.{own_before}
use Rattle.adj_reach.specs.Edges.{flag}
use Rattle.adj_symbols_writes.specs.Table.{value_of}
use Rattle.adj_flow.specs.declared.units.Flow.{Flow}
use Rattle.adj_flow.specs.Asked.{units_of, variables_of}
use Rattle.adj_symbols_writes.specs.Graph as places
use Rattle.adj_flow.specs.declared.row.Part as row
use Rattle.adj_flow.specs.Nodes.{node_in}
use Rattle.adj_flow.specs.Told as told
use Rattle.adj_flow.specs.Told.{flag_at, told_in, told_of}
use Rattle.adj_flow.proofs.Covering.{scope_covers}
use Rattle.adj_flow.proofs.Telling.{point_found, number_found}
use Rattle.adj_sweep_assignment.specs.View as view
use Rattle.adj_weave.specs.Alike.{AreSameAt, AreSameIn, AreSameOver, AreAlike}
use Rattle.adj_weave_units.specs.Flowing.{scope_in, IsFlowOf}
use Rattle.adj_weave.specs.Marked.{marks_told, marks_at}
use Rattle.adj_weave_units.proofs.Places.{At}
use Rattle.adj_weave_units.proofs.Flagged.{flags_same, unit_variables}
use Rattle.adj_weave.proofs.Taking.{problem_for, IsTaking, part_takes}

-- ---- the statements of a list

module _ (m n : Marks) where
  mutual
    same_in : (i : ℕ) (a : Act) → ((s : Standing) → Contains (held_in i a) s → AreSameAt m n s.number) → AreSameIn m n i a
    same_in i (assign x subs e) h = tt
    same_in i (choose c a b) h =
        let first = standing (part_of i) (suc i) a in
        let other = standing (part_of i) (behind (suc i) a) b in
        (same_over (part_of i) (suc i) a (λ s c. h s (Contains-append_left first other s c)), same_over (part_of i) (behind (suc i) a) b (λ s c. h s (Contains-append_right first other s c)))
    same_in i (loop x first last by body k) h = same_over (body_of i x k) (suc i) body h
    same_in i (during c body) h = same_over (part_of i) (suc i) body h
    same_in i (call name args) h = tt
    same_in i (runtime r) h = tt

    same_over : (at : Place) (i : ℕ) (c : Code) → ((s : Standing) → Contains (standing at i c) s → AreSameAt m n s.number) → AreSameOver m n i c
    same_over at i stop h = tt
    same_over at i (step line a rest) h =
        let self : Standing = record { number = i; place = at; act = a } in
        let inside = held_in i a in
        let later = standing at (next i a) rest in (
          h self (is_first self self (inside ++ later) refl),
          same_in i a (λ s c. h s (is_later s self (inside ++ later) (Contains-append_left inside later s c))),
          same_over at (next i a) rest (λ s c. h s (is_later s self (inside ++ later) (Contains-append_right inside later s c))),
        )

-- ---- the marks of a unit

module _ (f : Flow) (t : flags.Marks) (h : ℕ) (over : IsFlowOf (units_of f) h f) (u : Procedure) (it : IsTaking (units_of f) h u) where
  covers : Covers (problem_for (units_of f) h) (scope_in f)
  covers = let w = over.flow in scope_covers (problem_for (units_of f) h) (variables_of f) (flag f.taking) w.variables w.taking

  -- where a variable of the unit is told of
  told_same : (by : List Bool) (n : ℕ) (o : Option Part) → o ≡ Some it.part → (λ v. flag_at by (node_in f.width (map plain (slice_index_or (variables_of f) it.part.number [])) (n, v))) ≡ told_in by (scope_in f) f.width n o
  told_same by n o e = ap (λ (z : Option Part). told_in by (scope_in f) f.width n z) (sym e)

  at_point : (s : Standing) → Contains (statements_of it.part) s → told.unit_at (scope_in f).parts (point_before s.number) ≡ Some it.part
  at_point s c = point_found (problem_for (units_of f) h) (scope_in f) covers it.part (point_before s.number) it.takes (own_before it.part s c)

  same_at : (s : Standing) → Contains (statements_of it.part) s → AreSameAt (marks_at f t it.part.number) (marks_in (marks_told f t) u.name) s.number
  same_at s c = record {
    kept = refl;
    adjointed = refl;
    split = refl;
    saved = told_same t.saved.saved s.number (told.unit_at (scope_in f).parts (point_before s.number)) (at_point s c);
    varied = told_same t.activity.varied (point_before s.number) (told.unit_at (scope_in f).parts (point_before s.number)) (at_point s c);
  }

  shadows_same : (marks_at f t it.part.number).shadowed ≡ (marks_in (marks_told f t) u.name).shadowed
  shadows_same =
      told_same t.activity.shadowed it.part.number (told.unit_of (scope_in f).parts it.part.number) (number_found (problem_for (units_of f) h) (scope_in f) covers it.part it.part.number it.takes refl)
      ∙ ap (λ n. told_of t.activity.shadowed (scope_in f) f.width n) it.number

  part_alike : AreAlike (marks_at f t it.part.number) (marks_in (marks_told f t) u.name) (first_statement (units_of f) u.name) u.body
  part_alike = record {
    shadowed = shadows_same;
    over =
        let m = marks_at f t it.part.number in
        let n = marks_in (marks_told f t) u.name in
        let own : AreSameOver m n it.part.first it.part.unit.body = same_over m n outermost it.part.first it.part.unit.body same_at in
        subst (λ (v : Procedure). AreSameOver m n (first_statement (units_of f) u.name) v.body) it.unit (subst (λ i. AreSameOver m n i it.part.unit.body) it.first own);
  }

-- so of each unit that takes part the marks at its place are those of the program
pub unit_alike : (ps : List Procedure) (h : ℕ) (f : Flow) (t : flags.Marks) → IsFlowOf ps h f → AreApart (map unit_name ps) → (head : Procedure) → unit_at h ps ≡ head ∷ [] → (k : ℕ) (u : Procedure) → place_from 0 ps u.name ≡ k → find_unit ps u.name ≡ Some u → takes_part (marks_told f t) ps head u.name ≡ true →
    AreAlike (marks_at f t k) (marks_in (marks_told f t) u.name) (first_statement ps u.name) u.body
unit_alike ps h f t over apart head at k u place found has =
    let n = marks_in (marks_told f t) u.name in
    let it : IsTaking ps h u = part_takes (marks_told f t) ps apart h head at u found has in
    let own : (qs : List Procedure) → units_of f ≡ qs → IsFlowOf qs h f → (i : IsTaking qs h u) → AreAlike (marks_at f t i.part.number) n (first_statement qs u.name) u.body =
    λ qs e. subst (λ rs. IsFlowOf rs h f → (i : IsTaking rs h u) → AreAlike (marks_at f t i.part.number) n (first_statement rs u.name) u.body) e (λ o i. part_alike f t h o u i) in
    subst (λ j. AreAlike (marks_at f t j) n (first_statement ps u.name) u.body) (it.number ∙ place) (own ps over.units over it)

-- the marks of a unit by the places of its variables
pub marks_found : (f : Flow) (t : flags.Marks) (k : ℕ) (p : row.Part) → At f.parts.items k p → (es : List (List ℕ × ℕ)) → es ≡ p.places → (splits : List Bool) → splits ≡ f.split →
    (let m : Marks = record {
      kept = flag t.kept.kept;
      adjointed = λ i. flag t.activity.adjointed i;
      split = λ i. flag splits i && flag t.activity.adjointed i;
      saved = λ i v. view.flag_of t.saved.saved f.width i (view.place_of es v);
      varied = λ q v. view.flag_of t.activity.varied f.width q (view.place_of es v);
      useful = λ q v. view.flag_of t.activity.useful f.width q (view.place_of es v);
      shadowed = λ v. view.flag_of t.activity.shadowed f.width k (view.place_of es v);
    } in m ≡ marks_at f t k)
marks_found f t k p at es is splits split =
    λ j. record {
      kept = flag t.kept.kept;
      adjointed = λ i. flag t.activity.adjointed i;
      split = λ i. flag (split j) i && flag t.activity.adjointed i;
      saved = λ i v. same t.saved.saved i v j;
      varied = λ q v. same t.activity.varied q v j;
      useful = λ q v. same t.activity.useful q v j;
      shadowed = λ v. same t.activity.shadowed k v j;
    }
  where
    known : (x : List ℕ) → value_of x es ≡ places.place_from 0 (slice_index_or (variables_of f) k []) x
    known x = ap (value_of x) is ∙ p.known x ∙ ap (λ ys. places.place_from 0 ys x) (sym (unit_variables f k p at))

    same : (by : List Bool) (n : ℕ) (v : Var) → view.flag_of by f.width n (view.place_of es v) ≡ flag_at by (node_in f.width (map plain (slice_index_or (variables_of f) k [])) (n, v))
    same by n v = flags_same es (slice_index_or (variables_of f) k []) known by f.width n v
