-- Closed marks: what is neither kept nor adjointed holds nothing that is, and a split call is kept. By such marks an emitted program has its shape.
use Rattle.std.specs.Prelude.{◌≡◌, ℕ, suc, List, true, false, Some}
use Rattle.adj_tree.specs.Code.{Act, assign, choose, loop, during, call, runtime, Code, stop, step, Procedure}
use Rattle.def_meaning.specs.Written.{find_unit}
use Rattle.def_sweep.specs.Marks.{Marks}
use Rattle.def_names.specs.Numbers.{next, behind}
use Rattle.def_sweep.specs.Plan.{is_emitted}
use Rattle.law_sweep.specs.Laws.{IsIdle}
use Rattle.def_sweep.specs.Marking.{ProgramMarks, marks_in, first_statement}
use Rattle.def_sweep.specs.Program.{has_adjoint}

abbrev mutual
  pub IsClosed' : Marks → ℕ → Act → Type 0
  IsClosed' m i (assign x subs e) = Unit {0}
  IsClosed' m i (choose c a b) = (is_emitted m i ≡ false → IsIdle m (suc i) a × IsIdle m (behind (suc i) a) b) × (IsClosed m (suc i) a × IsClosed m (behind (suc i) a) b)
  IsClosed' m i (loop x a b c body n) = (is_emitted m i ≡ false → IsIdle m (suc i) body) × IsClosed m (suc i) body
  IsClosed' m i (during c body) = (is_emitted m i ≡ false → IsIdle m (suc i) body) × IsClosed m (suc i) body
  IsClosed' m i (call name args) = m.split i ≡ true → m.kept i ≡ true
  IsClosed' m i (runtime r) = Unit {0}

  -- an IF or a loop of the list that is neither kept nor adjointed holds no statement that is, and a call of it that is split is kept
  pub IsClosed : Marks → ℕ → Code → Type 0
  IsClosed m i stop = Unit {0}
  IsClosed m i (step line a rest) = IsClosed' m i a × IsClosed m (next i a) rest

-- so in each unit whose adjoint is emitted
abbrev pub AreClosed : ProgramMarks → List Procedure → Procedure → Type 0
AreClosed m ps head = (u : Procedure) → find_unit ps u.name ≡ Some u → has_adjoint m ps head u.name ≡ true → IsClosed (marks_in m u.name) (first_statement ps u.name) u.body
