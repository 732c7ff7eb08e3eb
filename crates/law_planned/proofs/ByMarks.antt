-- Which loops are reversed by schedules, and by which units, hangs on the marks alone.
use Rattle.std.proofs.Common.{◌≡◌, ℕ, suc, List, [], ◌∷◌, ◌++◌, Bool, true, refl, if◌then◌else◌}
use Rattle.std.specs.Prelude.{Option, Some, None}
use Rattle.adj_tree.specs.Code.{Act, assign, choose, loop, during, call, runtime, Code, stop, step, Procedure}
use Rattle.def_names.specs.Numbers.{next, behind}
use Rattle.def_sweep.specs.MarkedUnits.{is_marked, units_of}
use Rattle.def_sweep.specs.StepUnits.{step_units}
use Rattle.def_sweep.specs.Callees.{CalleeFacts}
use Rattle.def_sweep.specs.Marking.{ProgramFacts, callee_facts}
use Rattle.def_sweep.specs.Plan.{Schedules, Step, reversed_by}
use Rattle.def_sweep.specs.Schedules.{schedules_by}
use Rattle.def_sweep.specs.MarkedLines.{told_in, told_code, told_units, tale_of, reversed_lines}
use Rattle.def_planned.specs.Planned.{facts_by}

module _ (r : Schedules) (g h : List ℕ → CalleeFacts) (same : (n : List ℕ) → (g n).callee ≡ (h n).callee) (adjointed : ℕ → Bool) where
  units_same : (o : Option Step) → units_of g o ≡ units_of h o
  units_same None = refl
  units_same (Some s) = λ k. Some (step_units s.name (same s.name k) s.read)

  mutual
    act_same : (i line : ℕ) (a : Act) → told_in r g adjointed i line a ≡ told_in r h adjointed i line a
    act_same i line (assign x subs e) = refl
    act_same i line (choose c a b) = let here = code_same (suc i) a in let other = code_same (behind (suc i) a) b in λ k. here k ++ other k
    act_same i line (loop x a b c body n) =
        let own = units_same (reversed_by r adjointed i body n) in
        let inside = code_same (suc i) body in
        λ k. (if is_marked n then (line, own k) ∷ [] else []) ++ inside k
    act_same i line (during c body) = code_same (suc i) body
    act_same i line (call name args) = refl
    act_same i line (runtime o) = refl

    code_same : (i : ℕ) (c : Code) → told_code r g adjointed i c ≡ told_code r h adjointed i c
    code_same i stop = refl
    code_same i (step line a rest) = let here = act_same i line a in let later = code_same (next i a) rest in λ k. here k ++ later k

  all_same : (i : ℕ) (us : List Procedure) → told_units r g adjointed i us ≡ told_units r h adjointed i us
  all_same i [] = refl
  all_same i (u ∷ us) = let here = code_same i u.body in let later = all_same (behind i u.body) us in λ k. here k ++ later k

-- what is needed and held tells nothing of it
pub by_marks : (w : ProgramFacts) (us : List Procedure) → reversed_lines w us ≡ reversed_lines (facts_by w.marks) us
by_marks w us =
    let g = callee_facts w us in
    let h = callee_facts (facts_by w.marks) us in
    let all = all_same (schedules_by true g) g h (λ n. refl) w.marks.adjointed 0 us in
    λ k. tale_of (all k)
