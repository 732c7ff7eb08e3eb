-- The sweeps of a list, statement by statement.
use Rattle.std.proofs.Common.{◌≡◌, ℕ, refl, sym, ap, ◌∙◌}
use Rattle.adj_tree.specs.Code.{Var, Act, Code, stop, step}
use Rattle.adj_tree.specs.View.{code_of}
use Rattle.def_meaning.specs.Append.{◌+++◌}
use Rattle.def_meaning.specs.Rename.{rename}
use Rattle.def_meaning.proofs.Appends.{append_assoc, append-stop}
use Rattle.def_meaning.proofs.RenamedLists.{rename-append}
use Rattle.def_names.specs.Numbers.{next, behind}
use Rattle.def_sweep.specs.Plan.{Plan, Schedules}
use Rattle.def_sweep.specs.Emission.{forward_act_with, forward_with, backward_act_with, backward_with}
use Rattle.adj_sweep.specs.declared.sweeps.Sweeps.{Sweeps}
use Rattle.adj_sweep.specs.Swept.{in_order, SweepsAct, SweepsList}
use Rattle.adj_sweep.proofs.Turned.{joined}

-- of a list whose first statement has the number i, these are the sweeps of the statements before those that are left
pub record Passed (sc : Schedules) (r : Var → Var) (p : Plan) (d i : ℕ) (whole rest left : Code) (s : Sweeps) : Type 0 where
  pub number : behind s.number left ≡ behind i whole
  pub forth : in_order (code_of s.forward) +++ rename r (forward_with sc p s.number d left) ≡ rename r (forward_with sc p i d whole)
  pub back : rename r (backward_with sc p s.number d left) +++ code_of s.backward ≡ rename r (backward_with sc p i d whole) +++ rest

-- one statement more is passed
pub passed_more : (sc : Schedules) (r : Var → Var) (p : Plan) (d i line : ℕ) (a : Act) (whole rest current left : Code) (old new : Sweeps) → current ≡ step line a left → SweepsAct sc r p d line a old new → Passed sc r p d i whole rest current old → Passed sc r p d i whole rest left new
passed_more sc r p d i line a whole rest current left old new is act h =
    let k = old.number in
    record {
      number = ap (λ j. behind j left) act.number ∙ ap (behind k) (sym is) ∙ h.number;
      forth = (λ j. act.forth j +++ rename r (forward_with sc p (act.number j) d left))
          ∙ append_assoc (in_order (code_of old.forward)) (rename r (forward_act_with sc p k d line a)) (rename r (forward_with sc p (next k a) d left))
          ∙ ap (λ z. in_order (code_of old.forward) +++ z) (sym (rename-append r (forward_act_with sc p k d line a) (forward_with sc p (next k a) d left)))
          ∙ ap (λ z. in_order (code_of old.forward) +++ rename r (forward_with sc p k d z)) (sym is)
          ∙ h.forth;
      back = ap (λ j. rename r (backward_with sc p j d left) +++ code_of new.backward) act.number
          ∙ joined r (backward_with sc p (next k a) d left) (backward_act_with sc p k d line a) (rename r (backward_with sc p (next k a) d left) +++ code_of new.backward) (code_of new.backward) (code_of old.backward) refl act.back
          ∙ ap (λ z. rename r (backward_with sc p k d z) +++ code_of old.backward) (sym is)
          ∙ h.back;
    }

-- all are passed
pub passed_all : (sc : Schedules) (r : Var → Var) (p : Plan) (d i : ℕ) (whole rest left : Code) (s : Sweeps) → left ≡ stop → Passed sc r p d i whole rest left s → SweepsList sc r p d i whole rest s
passed_all sc r p d i whole rest left s is h = record {
  number = ap (behind s.number) (sym is) ∙ h.number;
  forth = sym (append-stop (in_order (code_of s.forward))) ∙ ap (λ z. in_order (code_of s.forward) +++ rename r (forward_with sc p s.number d z)) (sym is) ∙ h.forth;
  back = ap (λ z. rename r (backward_with sc p s.number d z) +++ code_of s.backward) (sym is) ∙ h.back;
}
