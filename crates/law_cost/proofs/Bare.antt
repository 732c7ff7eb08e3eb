-- What fits has no runtime calls.
use Rattle.std.proofs.Common.{ℕ, suc, Bool, List}
use Rattle.std.specs.Prelude.{Option, Some, None, IsTrue}
use Rattle.adj_tree.specs.Code.{plain, shadow, helper, Act, assign, choose, loop, during, call, runtime, Code, stop, step, Procedure}
use Rattle.def_meaning.specs.LeastSet.{Dummies}
use Rattle.law_meaning.specs.Common.{CallsInside', CallsInside}
use Rattle.def_names.specs.Numbers.{Vars, next, behind}
use Rattle.def_sweep.specs.Marks.{Marks}
use Rattle.def_sweep.specs.Plan.{Schedules, Step, ByStep, reversed_by}
use Rattle.law_sweep.specs.Kernel.{ReversalFits, FitsBy, FitsListBy}
use Rattle.def_sweep.specs.Callees.{CalleeFacts}
use Rattle.def_sweep.specs.Reversals.{ReversedLines}
use Rattle.law_cost.proofs.Moved.{IsBare', IsBare}

-- what is asked of the body of a DO, however it is reversed
fits_body : {X : Type 0} (R : Step → Type 0) (o : Option Step) → ByStep o X (λ t. R t × X) → X
fits_body R None f = f
fits_body R (Some t) f = f.1

module _ (sc : Schedules) (lines : ReversedLines) (ps : List Procedure) (g : List ℕ → CalleeFacts) (answers paired carried : List ℕ → Bool) (present : Bool) (m : Marks) (vars : List (List ℕ)) (arrays : Vars) (handed : Dummies) (inside : List ℕ → Bool) where
  mutual
    bare_act : (i line : ℕ) (a : Act) → FitsBy sc lines ps g answers paired carried present m vars arrays handed i line a → CallsInside' inside a → IsBare' (λ n. IsTrue (inside n)) a
    bare_act i line (assign x subs e) f h = tt
    bare_act i line (choose c a b) f h = (bare_list (suc i) a f.1.0 h.0, bare_list (behind (suc i) a) b f.1.1 h.1)
    bare_act i line (loop (plain x) a b c body n) f h = bare_list (suc i) body (fits_body (λ t. ReversalFits (g t.name) present (carried t.name) t) (reversed_by sc m.adjointed i body n) f.1) h
    bare_act i line (loop (shadow x) a b c body n) f h = absurd f
    bare_act i line (loop (helper r x) a b c body n) f h = absurd f
    bare_act i line (during c body) f h = bare_list (suc i) body f.1 h
    bare_act i line (call name args) f h = h
    bare_act i line (runtime r) f h = absurd f

    pub bare_list : (i : ℕ) (c : Code) → FitsListBy sc lines ps g answers paired carried present m vars arrays handed i c → CallsInside inside c → IsBare (λ n. IsTrue (inside n)) c
    bare_list i stop f h = tt
    bare_list i (step line a rest) f h = (bare_act i line a f.0 h.0, bare_list (next i a) rest f.1 h.1)
