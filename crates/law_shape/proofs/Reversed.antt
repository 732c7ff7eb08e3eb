-- Programs whose marked loop is reversed: what is emitted for them has the shape that their marks say, and other forms haven't.
use Rattle.std.proofs.Common.{◌≡◌, ℕ, ◌+◌, ◌*◌, Bool, true, false, List, [], ◌∷◌, ◌++◌, map, refl, sym, ap, ◌∙◌, subst, codes, if◌then◌else◌}
use Rattle.std.specs.Prelude.{◌&&◌, Some, None}
use Rattle.adj_tree.specs.Code.{Var, name_eq, var_eq, plain, Term, var, begin_reversal, end_reversal, Mark, with_count, count_from, Act, choose, loop, call, runtime, Code, stop, Extent, Declaration, Procedure}
use Rattle.std.specs.List.{list_any, list_all}
use Rattle.adj_tree.specs.Lines.{unlined_code, unlined_procedure, unlined}
use Rattle.def_meaning.specs.Append.{◌+++◌}
use Rattle.def_meaning.specs.Units.{declared}
use Rattle.def_meaning.specs.Written.{find_unit}
use Rattle.def_meaning.proofs.Appends.{append-stop}
use Rattle.def_meaning.specs.Apart.{has_name}
use Rattle.def_sweep.specs.Declared.{unit_name}
use Rattle.def_names.proofs.Variables.{and_true}
use Rattle.def_sweep.specs.Marking.{first_statement, plan_in}
use Rattle.def_sweep.specs.Program.{emitted_program_with, schedules_in}
use Rattle.def_adjoint.specs.Shape.{gathered, is_own, primal, ran, is_push, turned as loop_variables, restores, done_list, deeds, deeds_back, is_called, IsAdjointUnit, HasShape}
use Rattle.law_shape.specs.Worked.{squared_back, all_at}
use Rattle.law_shape.proofs.Cuts.{none_cut, cut_not}
use Rattle.law_shape.specs.Reversed.{directed, turning, numbered, squaring, only_second, directed_program, turning_program, numbered_program, snapshots, reversing, dropping, turned, keeps, steps_once, turns_once, turning_forth, turning_back, numbered_forth, numbered_back, unit_with, numbered_unit, squaring_back, reversed, numbered_reversed, counting_itself, pushing_in_steps, taking_twice, stepping_back, setting_outside, zeroing_own, dropped}

-- ---- what is emitted

pub reversed_so : emitted_program_with true reversing turning_program 0 only_second only_second ≡ reversed
reversed_so = refl

pub dropped_so : emitted_program_with true dropping turning_program 0 only_second only_second ≡ dropped
dropped_so = refl

abbrev no_extent : List Extent → Bool
no_extent [] = true
no_extent (e ∷ es) = false

-- where no extents are declared all are scalars
abbrev all_scalars : List Declaration → Bool
all_scalars [] = true
all_scalars (d ∷ ds) = no_extent d.extents && all_scalars ds

are_scalars : (ds : List Declaration) (v : Var) → all_scalars ds ≡ true → declared ds v ≡ []
are_scalars [] v h = refl
are_scalars (d ∷ ds) v h = let p = and_true (no_extent d.extents) (all_scalars ds) h in go (var_eq v (plain d.name)) d.extents p.0 (are_scalars ds v p.1)
  where
    go : (b : Bool) (es : List Extent) → no_extent es ≡ true → declared ds v ≡ [] → (if b then es else declared ds v) ≡ []
    go true [] h ih = refl
    go true (e ∷ es) h ih = absurd cc
    go false es h ih = ih

turning_shaped : IsAdjointUnit true reversing turning_program turning only_second only_second turning (unlined_procedure (unit_with (turning_forth turned (turning_back keeps steps_once turns_once))))
turning_shaped = record {
  name = refl;
  dummies = refl;
  scalars = λ v a b. are_scalars (unlined_procedure (unit_with (turning_forth turned (turning_back keeps steps_once turns_once)))).declarations v refl;
  forth = unlined_code (turning_forth turned stop);
  back = unlined_code (turning_back keeps steps_once turns_once);
  body = refl;
  forward = record { keeps = refl; spares = refl; pushes_alone = refl; saves = refl; sparing = refl };
  backward = record { reverses = refl; assigns = refl };
}

squaring_shaped : IsAdjointUnit true reversing turning_program turning only_second only_second squaring (unlined_procedure squaring_back)
squaring_shaped = record {
  name = refl;
  dummies = refl;
  scalars = λ v a b. are_scalars (unlined_procedure squaring_back).declarations v refl;
  forth = stop;
  back = unlined_code (all_at 11 squared_back stop);
  body = refl;
  forward = record { keeps = refl; spares = refl; pushes_alone = refl; saves = refl; sparing = refl };
  backward = record { reverses = refl; assigns = refl };
}

-- the same where N says how many snapshots there are
pub numbered_so : emitted_program_with true reversing numbered_program 0 only_second only_second ≡ numbered_reversed
numbered_so = refl

numbered_adjoint : IsAdjointUnit true reversing numbered_program numbered only_second only_second numbered (unlined_procedure (numbered_unit (numbered_forth turned (numbered_back snapshots))))
numbered_adjoint = record {
  name = refl;
  dummies = refl;
  scalars = λ v a b. are_scalars (unlined_procedure (numbered_unit (numbered_forth turned (numbered_back snapshots)))).declarations v refl;
  forth = unlined_code (numbered_forth turned stop);
  back = unlined_code (numbered_back snapshots);
  body = refl;
  forward = record { keeps = refl; spares = refl; pushes_alone = refl; saves = refl; sparing = refl };
  backward = record { reverses = refl; assigns = refl };
}

numbered_squaring : IsAdjointUnit true reversing numbered_program numbered only_second only_second squaring (unlined_procedure squaring_back)
numbered_squaring = record {
  name = refl;
  dummies = refl;
  scalars = λ v a b. are_scalars (unlined_procedure squaring_back).declarations v refl;
  forth = stop;
  back = unlined_code (all_at 11 squared_back stop);
  body = refl;
  forward = record { keeps = refl; spares = refl; pushes_alone = refl; saves = refl; sparing = refl };
  backward = record { reverses = refl; assigns = refl };
}

abbrev made_numbered : Procedure → Procedure
made_numbered u = if name_eq (codes "P") u.name then unlined_procedure (numbered_unit (numbered_forth turned (numbered_back snapshots))) else unlined_procedure squaring_back

pub numbered_shaped : HasShape true reversing numbered_program numbered only_second only_second numbered_reversed
numbered_shaped = record { made = made_numbered; forth = λ u. u; back = λ u. u; units = refl; adjoints = λ u f a. go u (name_eq (codes "P") u.name) refl (name_eq (codes "Q") u.name) f; pairs = λ u f a. absurd (let z : false ≡ true = a in cc) }
  where
    go : (u : Procedure) (b : Bool) → name_eq (codes "P") u.name ≡ b → (c : Bool) → (if b then Some numbered else (if c then Some squaring else find_unit [] u.name)) ≡ Some u → IsAdjointUnit true reversing numbered_program numbered only_second only_second u (made_numbered u)
    go u true e c f = let same : numbered ≡ u = cc in subst (λ v. IsAdjointUnit true reversing numbered_program numbered only_second only_second v (made_numbered v)) same numbered_adjoint
    go u false e true f = let same : squaring ≡ u = cc in subst (λ v. IsAdjointUnit true reversing numbered_program numbered only_second only_second v (made_numbered v)) same numbered_squaring
    go u false e false f = absurd cc

abbrev made : Procedure → Procedure
made u = if name_eq (codes "P") u.name then unlined_procedure (unit_with (turning_forth turned (turning_back keeps steps_once turns_once))) else unlined_procedure squaring_back

pub reversed_shaped : HasShape true reversing turning_program turning only_second only_second reversed
reversed_shaped = record { made = made; forth = λ u. u; back = λ u. u; units = refl; adjoints = λ u f a. go u (name_eq (codes "P") u.name) refl (name_eq (codes "Q") u.name) f; pairs = λ u f a. absurd (let z : false ≡ true = a in cc) }
  where
    go : (u : Procedure) (b : Bool) → name_eq (codes "P") u.name ≡ b → (c : Bool) → (if b then Some turning else (if c then Some squaring else find_unit [] u.name)) ≡ Some u → IsAdjointUnit true reversing turning_program turning only_second only_second u (made u)
    go u true e c f = let same : turning ≡ u = cc in subst (λ v. IsAdjointUnit true reversing turning_program turning only_second only_second v (made v)) same turning_shaped
    go u false e true f = let same : squaring ≡ u = cc in subst (λ v. IsAdjointUnit true reversing turning_program turning only_second only_second v (made v)) same squaring_shaped
    go u false e false f = absurd cc

-- ---- other forms

abbrev first_unit : List Procedure → Procedure
first_unit [] = turning
first_unit (a ∷ others) = a

-- the first of two lists, of which the front is empty
first_made : (b : Bool) (a t : Procedure) (later : List Procedure) → b ≡ false → first_unit (((if b then t ∷ [] else []) ++ (a ∷ [])) ++ later) ≡ a
first_made true a t later h = absurd cc
first_made false a t later h = refl

-- a number for each kind of statement; where a reversal begins, by how its number of snapshots is told
abbrev begin_kind : Term → ℕ
begin_kind (var x) = 6
begin_kind e = 2

abbrev kind : Act → ℕ
kind (call name args) = 1
kind (runtime (begin_reversal l s)) = begin_kind s
kind (runtime end_reversal) = 3
kind (loop x first last by body m) = 4
kind (choose c a b) = 5
kind a = 0

-- and for each with its action
abbrev deed_kind : ℕ × Act → ℕ
deed_kind d = 7 * d.0 + kind d.1

-- those of a reversal
abbrev are_due : List (ℕ × Act) → Bool
are_due ds = name_eq (map deed_kind ds) (2 ∷ 7 ∷ 15 ∷ 28 ∷ 3 ∷ [])

abbrev due_here : Mark → List (ℕ × Act)
due_here mark = deeds_back (schedules_in true (directed_program mark)) (plan_in reversing (directed_program mark) (directed mark)) (first_statement (directed_program mark) (codes "P")) (directed mark).body

-- of a program that has the shape, and in which no unit calls P, the first unit is the adjoint unit of P
module _ (mark : Mark) (due : are_due (due_here mark) ≡ true) (a : Procedure) (others : List Procedure) (called_none : is_called (unlined (a ∷ others)) (codes "P") ≡ false) where
  first_shaped : HasShape true reversing (directed_program mark) (directed mark) only_second only_second (a ∷ others) → IsAdjointUnit true reversing (directed_program mark) (directed mark) only_second only_second (directed mark) (unlined_procedure a)
  first_shaped x =
      let same : unlined_procedure a ≡ x.made (directed mark) = ap first_unit x.units ∙ first_made (is_called (unlined (a ∷ others)) (codes "P")) (x.made (directed mark)) (unlined_procedure (directed mark)) _ called_none in
      subst (IsAdjointUnit true reversing (directed_program mark) (directed mark) only_second only_second (directed mark)) (sym same) (x.adjoints (directed mark) refl refl)

  -- a property that no cut of its body has its two sweeps haven't
  not_cut : (s : IsAdjointUnit true reversing (directed_program mark) (directed mark) only_second only_second (directed mark) (unlined_procedure a)) (p : Code → Code → Bool) → none_cut p stop (unlined_code a.body) ≡ true → p s.forth s.back ≡ false
  not_cut s p h = let cut : unlined_code a.body ≡ s.forth +++ s.back = s.body ∙ ap (λ c. s.forth +++ c) (append-stop s.back) in cut_not p stop s.forth s.back (ap (none_cut p stop) (sym cut) ∙ h)

  -- what a backward sweep does
  abbrev reverses_so : Code → Code → Bool
  reverses_so c d = are_due (done_list (deeds (is_own (directed mark)) (λ x. has_name x (map unit_name (directed_program mark)))) None 0 d)

  -- so it hasn't the shape where no cut does that
  pub not_reversed : none_cut reverses_so stop (unlined_code a.body) ≡ true → HasShape true reversing (directed_program mark) (directed mark) only_second only_second (a ∷ others) → ⊥
  not_reversed h x =
      let s = first_shaped x in
      let yes : reverses_so s.forth s.back ≡ true = ap are_due s.backward.reverses ∙ due in
      let z : true ≡ false = sym yes ∙ not_cut s reverses_so h in
      cc

  -- what a forward sweep keeps
  abbrev keeps_so : Code → Code → Bool
  keeps_so c d = name_eq (map kind (gathered (primal (is_own (directed mark))) c)) (4 ∷ 1 ∷ [])

  pub not_kept : none_cut keeps_so stop (unlined_code a.body) ≡ true → HasShape true reversing (directed_program mark) (directed mark) only_second only_second (a ∷ others) → ⊥
  not_kept h x =
      let s = first_shaped x in
      let yes : keeps_so s.forth s.back ≡ true = ap (λ l. name_eq (map kind l) (4 ∷ 1 ∷ [])) s.forward.keeps in
      let z : true ≡ false = sym yes ∙ not_cut s keeps_so h in
      cc

  -- a forward sweep that keeps so and of the runtime's calls has pushes alone, and a backward sweep that assigns the unit's variables in loops alone
  abbrev restores_so : Code → Code → Bool
  restores_so c d = (keeps_so c d && list_all is_push (gathered ran c)) && restores (is_own (directed mark)) (λ v. list_any (var_eq v) (gathered loop_variables (directed mark).body)) false d

  pub not_restoring : none_cut restores_so stop (unlined_code a.body) ≡ true → HasShape true reversing (directed_program mark) (directed mark) only_second only_second (a ∷ others) → ⊥
  not_restoring h x =
      let s = first_shaped x in
      let yes : restores_so s.forth s.back ≡ true = λ j. (name_eq (map kind (s.forward.keeps j)) (4 ∷ 1 ∷ []) && s.forward.pushes_alone j) && s.backward.assigns j in
      let z : true ≡ false = sym yes ∙ not_cut s restores_so h in
      cc

pub not_pushing_in_steps : HasShape true reversing turning_program turning only_second only_second pushing_in_steps → ⊥
not_pushing_in_steps = not_reversed (with_count 2) refl (first_unit pushing_in_steps) (squaring ∷ squaring_back ∷ []) refl refl

pub not_taking_twice : HasShape true reversing turning_program turning only_second only_second taking_twice → ⊥
not_taking_twice = not_reversed (with_count 2) refl (first_unit taking_twice) (squaring ∷ squaring_back ∷ []) refl refl

pub not_stepping_back : HasShape true reversing turning_program turning only_second only_second stepping_back → ⊥
not_stepping_back = not_reversed (with_count 2) refl (first_unit stepping_back) (squaring ∷ squaring_back ∷ []) refl refl

pub not_setting_outside : HasShape true reversing turning_program turning only_second only_second setting_outside → ⊥
not_setting_outside = not_restoring (with_count 2) refl (first_unit setting_outside) (squaring ∷ squaring_back ∷ []) refl refl

pub not_zeroing_own : HasShape true reversing turning_program turning only_second only_second zeroing_own → ⊥
not_zeroing_own = not_restoring (with_count 2) refl (first_unit zeroing_own) (squaring ∷ squaring_back ∷ []) refl refl

pub not_dropped : HasShape true reversing turning_program turning only_second only_second dropped → ⊥
not_dropped = not_kept (with_count 2) refl (first_unit dropped) (squaring ∷ squaring_back ∷ []) refl refl

abbrev plainly : List Procedure
plainly = emitted_program_with false reversing turning_program 0 only_second only_second

abbrev other_units : List Procedure → List Procedure
other_units [] = []
other_units (a ∷ others) = others

-- nor has what is emitted where the loop is one as others
pub not_as_others : HasShape true reversing turning_program turning only_second only_second (emitted_program_with false reversing turning_program 0 only_second only_second) → ⊥
not_as_others = not_reversed (with_count 2) refl (first_unit plainly) (other_units plainly) refl refl

-- nor one in which the number of snapshots of the reversal is N itself
pub not_itself : HasShape true reversing numbered_program numbered only_second only_second counting_itself → ⊥
not_itself = not_reversed (count_from (plain (codes "N"))) refl (first_unit counting_itself) (squaring ∷ squaring_back ∷ []) refl refl
