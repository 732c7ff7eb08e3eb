-- Without a change a program stays as it is emitted.
use Rattle.std.proofs.Common.{◌≡◌, ℕ, List, [], ◌∷◌, Bool, refl, ap}
use Rattle.std.specs.Prelude.{map}
use Rattle.adj_tree.specs.Code.{Act, assign, choose, loop, during, call, runtime, Code, stop, step, Procedure}
use Rattle.def_sweep.specs.Marking.{ProgramMarks}
use Rattle.def_sweep.specs.Program.{emitted_program}
use Rattle.law_examples.specs.Faulty.{changed_act, changed, with_change, faulty_program, unchanged}

mutual
  same_act : (a : Act) → changed_act unchanged a ≡ a
  same_act (assign x subs e) = refl
  same_act (choose c a b) = λ i. choose c (same_code a i) (same_code b i)
  same_act (loop x first last by body m) = ap (λ l. loop x first last by l m) (same_code body)
  same_act (during c body) = ap (during c) (same_code body)
  same_act (call name args) = refl
  same_act (runtime r) = refl

  same_code : (c : Code) → changed unchanged c ≡ c
  same_code stop = refl
  same_code (step line a rest) = λ i. step line (same_act a i) (same_code rest i)

same_units : (us : List Procedure) → map (with_change unchanged) us ≡ us
same_units [] = refl
same_units (u ∷ us) = λ i. record u { body = same_code u.body i } ∷ same_units us i

pub without_fault : (m : ProgramMarks) (ps : List Procedure) (head : ℕ) (vars outvars : List Bool) → faulty_program unchanged m ps head vars outvars ≡ emitted_program m ps head vars outvars
without_fault m ps head vars outvars = same_units (emitted_program m ps head vars outvars)
