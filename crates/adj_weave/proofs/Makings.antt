-- What is made of a unit by the marks of its part is what the definitions make of it.
use Rattle.std.proofs.Common.{◌≡◌, ℕ, Bool, List, map, refl, ap, ◌∙◌}
use Rattle.adj_tree.specs.Code.{Var, Code, Procedure}
use Rattle.adj_tree.specs.View.{procedure_of}
use Rattle.def_names.specs.Numbers.{Vars}
use Rattle.def_sweep.specs.Emission.{adjoint_body_with}
use Rattle.def_sweep.specs.Marking.{ProgramMarks, first_statement, marks_in, arrays_of, callee_in}
use Rattle.def_sweep.specs.Plan.{Plan, Schedules}
use Rattle.def_sweep.specs.Program.{helpers_used_with, helpers_forth, schedules_in, left_by}
use Rattle.def_sweep.specs.SplitMarks.{split_marks}
use Rattle.def_sweep.specs.SplitRows.{forth_body, back_body}
use Rattle.law_emitted.proofs.Makings as law
use Rattle.law_emitted.proofs.Makings.{as_adjoint, as_forth, as_back, ClearsOwn}
use Rattle.adj_naming.specs.Sets.{AreDifferent}
use Rattle.adj_sweep_assignment.specs.View.{marks_of}
use Rattle.adj_weave.specs.declared.making.Half.{Half}
use Rattle.adj_weave.specs.declared.making.Half.TheVariants as half
use Rattle.adj_weave.specs.declared.making.Making.{Making}
use Rattle.adj_weave.specs.declared.making.Making.TheVariants as by
use Rattle.adj_weave.specs.declared.unit.Part.{Part}
use Rattle.adj_weave.specs.Left.{read_only, unless_among}
use Rattle.adj_weave.specs.Making.{its_marks, its_shadows, its_name, its_helpers, its_left, its_code, ClearsShadows, made_of}
use Rattle.adj_weave.specs.Shared.{IsPart}
use Rattle.adj_weave.proofs.Alike.{helpers_same, forth_helpers_same, alike_body, alike_forth, alike_back}
use Rattle.adj_weave.proofs.Leaving.{left_is}
use Rattle.adj_weave.proofs.Units.{cleared_own, helpers_different, forth_different}

-- what is made, in the words of the definitions
abbrev pub half_making : Half → law.Making
half_making half.Forth = as_forth
half_making half.Back = as_back

abbrev pub making_of : Making → law.Making
making_of (by.Adjoint z) = as_adjoint z.at_turn.now z.at_end.now
making_of (by.Pair h) = half_making h

-- the helpers of what is made stand once
pub helpers_apart : (sc : Schedules) (p : Plan) (i : ℕ) (c : Code) (k : Making) → AreDifferent (its_helpers sc p i c k)
helpers_apart sc p i c (by.Adjoint z) = helpers_different sc p i c
helpers_apart sc p i c (by.Pair half.Forth) = forth_different sc p i c
helpers_apart sc p i c (by.Pair half.Back) = helpers_different sc p i c

-- what it clears are variables of the unit
pub clears_own : (m : ProgramMarks) (u : Procedure) (k : Making) → ClearsShadows m u k → ClearsOwn m u (making_of k)
clears_own m u (by.Adjoint z) h = (cleared_own m u z.at_turn.now h.0, cleared_own m u z.at_end.now h.1)
clears_own m u (by.Pair half.Forth) h = tt
clears_own m u (by.Pair half.Back) h = tt

pub made_is : (b : Bool) (m : ProgramMarks) (ps : List Procedure) (units : List (List ℕ)) (u : Procedure) (k : Making) → made_of b m ps units u k ≡ law.made b m ps units u (making_of k)
made_is b m ps units u (by.Adjoint z) = refl
made_is b m ps units u (by.Pair half.Forth) = refl
made_is b m ps units u (by.Pair half.Back) = refl

module _ (sb : Bool) (m : ProgramMarks) (ps : List Procedure) (g : Part) (part : IsPart m ps g) where
  abbrev u : Procedure
  u = procedure_of g.unit.now

  -- a plan by the marks of the part
  abbrev pub plan_for : Making → Plan
  plan_for k = record { marks = its_marks g k; arrays = arrays_of (procedure_of g.unit.now); callees = callee_in m ps }

  pub shadows_are : (k : Making) → its_shadows g k ≡ law.its_shadows m u (making_of k)
  shadows_are (by.Adjoint z) = let alike = part.marks in alike.shadowed
  shadows_are (by.Pair half.Forth) = refl
  shadows_are (by.Pair half.Back) = let alike = part.pairing in alike.shadowed

  pub name_is : (k : Making) → its_name g k ≡ law.its_name ps u (making_of k)
  name_is (by.Adjoint z) = part.adjoint
  name_is (by.Pair half.Forth) = part.forth
  name_is (by.Pair half.Back) = part.back

  pub helpers_are : (k : Making) → its_helpers (schedules_in sb ps) (plan_for k) g.number u.body k ≡ law.its_helpers sb m ps u (making_of k)
  helpers_are (by.Adjoint z) =
      let alike = part.marks in
      ap (λ n. helpers_used_with (schedules_in sb ps) (plan_for (by.Adjoint z)) n u.body) part.number
      ∙ helpers_same (marks_of g.marking) (marks_in m u.name) alike.shadowed (schedules_in sb ps) (arrays_of u) (callee_in m ps) (first_statement ps u.name) u.body alike.over
  helpers_are (by.Pair half.Forth) =
      let alike = part.pairing in
      ap (λ n. helpers_forth (schedules_in sb ps) (plan_for (by.Pair half.Forth)) n u.body) part.number
      ∙ forth_helpers_same (marks_of g.pairing) (split_marks (marks_in m u.name)) alike.shadowed (schedules_in sb ps) (arrays_of u) (callee_in m ps) (first_statement ps u.name) u.body alike.over
  helpers_are (by.Pair half.Back) =
      let alike = part.pairing in
      ap (λ n. helpers_used_with (schedules_in sb ps) (plan_for (by.Pair half.Back)) n u.body) part.number
      ∙ helpers_same (marks_of g.pairing) (split_marks (marks_in m u.name)) alike.shadowed (schedules_in sb ps) (arrays_of u) (callee_in m ps) (first_statement ps u.name) u.body alike.over

  left_by_flags : its_left g ≡ left_by ps u
  left_by_flags = (λ j. unless_among (read_only u.dummies (part.written j)) (part.variables j)) ∙ left_is ps u

  pub code_is : (k : Making) → its_code (schedules_in sb ps) (plan_for k) g k ≡ law.its_code sb m ps u (making_of k)
  code_is (by.Adjoint z) =
      let alike = part.marks in
      ap (λ n. adjoint_body_with (schedules_in sb ps) (plan_for (by.Adjoint z)) n u.line u.body z.at_turn.now z.at_end.now) part.number
      ∙ alike_body (marks_of g.marking) (marks_in m u.name) alike.shadowed (schedules_in sb ps) (arrays_of u) (callee_in m ps) (first_statement ps u.name) u.line u.body z.at_turn.now z.at_end.now alike.over
  code_is (by.Pair half.Forth) =
      let alike = part.pairing in
      (λ j. forth_body (schedules_in sb ps) (plan_for (by.Pair half.Forth)) (part.number j) u.line (left_by_flags j) u.body)
      ∙ alike_forth (marks_of g.pairing) (split_marks (marks_in m u.name)) alike.shadowed (schedules_in sb ps) (arrays_of u) (callee_in m ps) (first_statement ps u.name) u.line (left_by ps u) u.body alike.over
  code_is (by.Pair half.Back) =
      let alike = part.pairing in
      (λ j. back_body (schedules_in sb ps) (plan_for (by.Pair half.Back)) (part.number j) u.line (left_by_flags j) u.body)
      ∙ alike_back (marks_of g.pairing) (split_marks (marks_in m u.name)) alike.shadowed (schedules_in sb ps) (arrays_of u) (callee_in m ps) (first_statement ps u.name) u.line (left_by ps u) u.body alike.over
