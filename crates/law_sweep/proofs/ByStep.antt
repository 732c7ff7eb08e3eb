-- Loops that are reversed by a schedule, taken apart.
use Rattle.std.proofs.Common.{◌≡◌, ℕ, suc, Bool, true, false, List, refl, sym, ap, ◌∙◌, if◌then◌else◌}
use Rattle.std.specs.Prelude.{Some, None}
use Rattle.adj_tree.specs.Code.{Mark, unmarked, with_count, count_from, assign, choose, loop, during, call, runtime, Code, stop, step}
use Rattle.law_meaning.specs.Common.{CallsInside}
use Rattle.def_names.specs.Numbers.{Vars}
use Rattle.def_sweep.specs.Callees.{CalleeFacts}
use Rattle.def_sweep.specs.Schedules.{schedules_by}
use Rattle.def_sweep.specs.Plan.{names_of, Schedules, Step, step_in, reversed_by}

-- what is known of a loop that is reversed
pub record Reversed (reads : List ℕ → Vars) (adjointed : ℕ → Bool) (i : ℕ) (body : Code) (mark : Mark) (s : Step) : Type 0 where
  pub marked : mark ≡ s.mark
  pub reached : adjointed (suc i) ≡ true
  pub read : s.read ≡ reads s.name

pub step_read : (reads : List ℕ → Vars) (mark : Mark) (body : Code) (s : Step) → step_in reads mark body ≡ Some s → (s.read ≡ reads s.name) × (s.mark ≡ mark)
step_read reads mark stop s e = absurd cc
step_read reads mark (step line (assign x subs a) rest) s e = absurd cc
step_read reads mark (step line (choose c a b) rest) s e = absurd cc
step_read reads mark (step line (loop x a b c body m) rest) s e = absurd cc
step_read reads mark (step line (during c body) rest) s e = absurd cc
step_read reads mark (step line (runtime r) rest) s e = absurd cc
step_read reads mark (step line (call name args) (step l a rest)) s e = absurd cc
step_read reads mark (step line (call name args) stop) s e =
    let t : Step = record { name = name; given = names_of args; read = reads name; mark = mark } in
    let same : t ≡ s = cc in
    (ap (λ (z : Step). z.read) (sym same) ∙ ap (λ (z : Step). reads z.name) same, ap (λ (z : Step). z.mark) (sym same))

pub step_called : (p : List ℕ → Bool) (reads : List ℕ → Vars) (mark : Mark) (body : Code) (s : Step) → step_in reads mark body ≡ Some s → CallsInside p body → p s.name ≡ true
step_called p reads mark stop s e k = absurd cc
step_called p reads mark (step line (assign x subs a) rest) s e k = absurd cc
step_called p reads mark (step line (choose c a b) rest) s e k = absurd cc
step_called p reads mark (step line (loop x a b c body m) rest) s e k = absurd cc
step_called p reads mark (step line (during c body) rest) s e k = absurd cc
step_called p reads mark (step line (runtime r) rest) s e k = absurd cc
step_called p reads mark (step line (call name args) (step l a rest)) s e k = absurd cc
step_called p reads mark (step line (call name args) stop) s e k =
    let t : Step = record { name = name; given = names_of args; read = reads name; mark = mark } in
    let same : t ≡ s = cc in
    ap (λ (z : Step). p z.name) (sym same) ∙ k.0

called_if : (p : List ℕ → Bool) (reads : List ℕ → Vars) (mark : Mark) (body : Code) (s : Step) → CallsInside p body → (b : Bool) → (if b then step_in reads mark body else None) ≡ Some s → p s.name ≡ true
called_if p reads mark body s k true h = step_called p reads mark body s h k
called_if p reads mark body s k false h = absurd cc

pub step_inside : (p : List ℕ → Bool) (r : Schedules) (adjointed : ℕ → Bool) (i : ℕ) (body : Code) (mark : Mark) (s : Step) → reversed_by r adjointed i body mark ≡ Some s → CallsInside p body → p s.name ≡ true
step_inside p None adjointed i body mark s e k = absurd cc
step_inside p (Some reads) adjointed i body unmarked s e k = absurd cc
step_inside p (Some reads) adjointed i body (with_count n) s e k = called_if p reads (with_count n) body s k (adjointed (suc i)) e
step_inside p (Some reads) adjointed i body (count_from x) s e k = called_if p reads (count_from x) body s k (adjointed (suc i)) e

reversed_if : (reads : List ℕ → Vars) (adjointed : ℕ → Bool) (i : ℕ) (body : Code) (mark : Mark) (s : Step) (b : Bool) → adjointed (suc i) ≡ b → (if b then step_in reads mark body else None) ≡ Some s → Reversed reads adjointed i body mark s
reversed_if reads adjointed i body mark s true a h = let t = step_read reads mark body s h in record { marked = sym t.1; reached = a; read = t.0 }
reversed_if reads adjointed i body mark s false a h = absurd cc

pub reversed_is : (reads : List ℕ → Vars) (adjointed : ℕ → Bool) (i : ℕ) (body : Code) (mark : Mark) (s : Step) → reversed_by (Some reads) adjointed i body mark ≡ Some s → Reversed reads adjointed i body mark s
reversed_is reads adjointed i body unmarked s e = absurd cc
reversed_is reads adjointed i body (with_count n) s e = reversed_if reads adjointed i body (with_count n) s (adjointed (suc i)) refl e
reversed_is reads adjointed i body (count_from x) s e = reversed_if reads adjointed i body (count_from x) s (adjointed (suc i)) refl e

-- the same where what is read comes with facts
pub step_known : (b : Bool) (g : List ℕ → CalleeFacts) (adjointed : ℕ → Bool) (i : ℕ) (body : Code) (mark : Mark) (s : Step) → reversed_by (schedules_by b g) adjointed i body mark ≡ Some s → Reversed (λ name. (g name).read) adjointed i body mark s
step_known false g adjointed i body mark s e = absurd cc
step_known true g adjointed i body mark s e = reversed_is (λ name. (g name).read) adjointed i body mark s e
