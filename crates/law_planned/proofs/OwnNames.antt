-- The step units of loops that are reversed by schedules have other names than their adjoints.
use Rattle.std.proofs.Common.{◌≡◌, ℕ, suc, List, [], ◌∷◌, Bool, true, false, refl, sym, ap, ◌∙◌, if◌then◌else◌}
use Rattle.std.specs.Prelude.{◌||◌, ◌==◌, Option, Some, None}
use Rattle.adj_tree.specs.Code.{name_eq, Mark, Act, assign, choose, loop, during, call, runtime, Code, stop, step, Procedure}
use Rattle.law_meaning.specs.Common.{CallsInside', CallsInside}
use Rattle.def_meaning.specs.Written.{find_unit}
use Rattle.def_names.specs.Fault.{run_rules}
use Rattle.def_names.specs.Numbers.{next, behind}
use Rattle.def_meaning.proofs.Variables.{name_comm}
use Rattle.def_sweep.specs.Names.{source_names, adjoint_after}
use Rattle.def_sweep.specs.Plan.{Schedules, Step, reversed_by}
use Rattle.def_sweep.specs.Reversals.{StepUnits}
use Rattle.def_sweep.specs.MarkedUnits.{is_marked, units_of}
use Rattle.def_sweep.specs.Callees.{CalleeFacts}
use Rattle.def_sweep.specs.Marking.{ProgramFacts, callee_of, callee_facts}
use Rattle.law_sweep.specs.Source.{is_unit, CallUnits}
use Rattle.def_sweep.specs.Schedules.{schedules_by}
use Rattle.law_sweep.proofs.ByStep.{step_inside}
use Rattle.law_sweep.proofs.UnitLists.{found_there}
use Rattle.law_sweep.proofs.EmittedUnits.{apart_source}
use Rattle.law_emitted.proofs.Lists.{Each, each_append}
use Rattle.def_kernel.specs.Stepped.{kernel_of}
use Rattle.law_emitted.proofs.CallFaults.{all_known}
use Rattle.law_emitted.proofs.Kernels.{kernel_checked}
use Rattle.def_sweep.specs.MarkedLines.{Tale, told_in, told_code, told_units, tale_of}
use Rattle.def_planned.specs.Planned.{facts_by}
use Rattle.law_planned.specs.Planned.{ReversedHaveOwnNames}

-- a unit that is there is found
there_found : (us : List Procedure) (x : List ℕ) → is_unit us x ≡ true → (v : Procedure) × (find_unit us x ≡ Some v)
there_found [] x h = absurd cc
there_found (u ∷ us) x h = go (name_eq u.name x) h (there_found us x)
  where
    go : (b : Bool) → (b || is_unit us x) ≡ true → (is_unit us x ≡ true → (v : Procedure) × (find_unit us x ≡ Some v)) → (v : Procedure) × ((if b then Some u else find_unit us x) ≡ Some v)
    go true h ih = (u, refl)
    go false h ih = ih h

abbrev OwnNames : StepUnits → Type 0
OwnNames s = (name_eq s.unit s.adjoint ≡ false) × (name_eq s.adjoint s.unit ≡ false)

-- what is told of a line
abbrev IsOwn : Tale → Type 0
IsOwn t = (s : StepUnits) → t.1 ≡ Some s → OwnNames s

module _ (w : ProgramFacts) (ps : List Procedure) where
  abbrev g : List ℕ → CalleeFacts
  g = callee_facts w ps

  abbrev sc : Schedules
  sc = schedules_by true g

  -- a unit has another name than its adjoint
  own_apart : (n : List ℕ) → is_unit ps n ≡ true → name_eq n (g n).callee.adjoint ≡ false
  own_apart n h =
      let f = there_found ps n h in
      ap (λ o. name_eq n (callee_of w.marks ps n o).adjoint) f.1 ∙ ap (λ x. name_eq n (adjoint_after (source_names ps) ps x)) (found_there ps n f.0 f.1).1 ∙ apart_source false w.marks ps f.0 [] [] n n h h

  loop_own : (line i : ℕ) (body : Code) (n : Mark) → CallsInside (is_unit ps) body → IsOwn (line, units_of g (reversed_by sc w.marks.adjointed i body n))
  loop_own line i body n k = go (reversed_by sc w.marks.adjointed i body n) refl
    where
      go : (o : Option Step) → reversed_by sc w.marks.adjointed i body n ≡ o → IsOwn (line, units_of g o)
      go None e s h = absurd cc
      go (Some t) e s h =
          let apart = own_apart t.name (step_inside (is_unit ps) sc w.marks.adjointed i body n t e k) in
          let unit : t.name ≡ s.unit = cc in
          let adjoint : (g t.name).callee.adjoint ≡ s.adjoint = cc in
          ((λ j. name_eq (sym unit j) (sym adjoint j)) ∙ apart, (λ j. name_eq (sym adjoint j) (sym unit j)) ∙ name_comm t.name (g t.name).callee.adjoint apart)

  first_own : (b : Bool) (t : Tale) → IsOwn t → Each IsOwn (if b then t ∷ [] else [])
  first_own true t h = (h, tt)
  first_own false t h = tt

  mutual
    act_own : (i line : ℕ) (a : Act) → CallsInside' (is_unit ps) a → Each IsOwn (told_in sc g w.marks.adjointed i line a)
    act_own i line (assign x subs e) k = tt
    act_own i line (choose c a b) k = each_append IsOwn (told_code sc g w.marks.adjointed (suc i) a) (told_code sc g w.marks.adjointed (behind (suc i) a) b) (code_own (suc i) a k.0) (code_own (behind (suc i) a) b k.1)
    act_own i line (loop x a b c body n) k =
        each_append IsOwn (if is_marked n then (line, units_of g (reversed_by sc w.marks.adjointed i body n)) ∷ [] else []) (told_code sc g w.marks.adjointed (suc i) body) (first_own (is_marked n) (line, units_of g (reversed_by sc w.marks.adjointed i body n)) (loop_own line i body n k)) (code_own (suc i) body k)
    act_own i line (during c body) k = code_own (suc i) body k
    act_own i line (call name args) k = tt
    act_own i line (runtime o) k = tt

    code_own : (i : ℕ) (c : Code) → CallsInside (is_unit ps) c → Each IsOwn (told_code sc g w.marks.adjointed i c)
    code_own i stop k = tt
    code_own i (step line a rest) k = each_append IsOwn (told_in sc g w.marks.adjointed i line a) (told_code sc g w.marks.adjointed (next i a) rest) (act_own i line a k.0) (code_own (next i a) rest k.1)

  units_own : (i : ℕ) (us : List Procedure) → CallUnits ps us → Each IsOwn (told_units sc g w.marks.adjointed i us)
  units_own i [] k = tt
  units_own i (u ∷ us) k = each_append IsOwn (told_code sc g w.marks.adjointed i u.body) (told_units sc g w.marks.adjointed (behind i u.body) us) (code_own i u.body k.0) (units_own (behind i u.body) us k.1)

tale_own : (ts : List Tale) → Each IsOwn ts → (line : ℕ) (s : StepUnits) → tale_of ts line ≡ Some s → OwnNames s
tale_own [] h line s e = absurd cc
tale_own (t ∷ ts) h line s e = go (line == t.0) e (tale_own ts h.1 line s)
  where
    go : (b : Bool) → (if b then t.1 else tale_of ts line) ≡ Some s → (tale_of ts line ≡ Some s → OwnNames s) → OwnNames s
    go true e ih = h.0 s e
    go false e ih = ih e

pub own_names : ReversedHaveOwnNames
own_names ps y m line s e =
    let w = facts_by m in
    let g = callee_facts w (kernel_of ps) in
    tale_own (told_units (schedules_by true g) g m.adjointed 0 (kernel_of ps)) (units_own w (kernel_of ps) 0 (kernel_of ps) (all_known run_rules (kernel_of ps) (kernel_checked ps y))) line s e
