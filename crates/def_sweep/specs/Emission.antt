-- The two sweeps of statements of every kind, by the plan of their unit. (docs/EMITTED.md, "Sweeps")
use Rattle.std.specs.Prelude.{ℕ, suc, List, [], ◌∷◌, ◌&&◌, None, if◌then◌else◌}
use Rattle.adj_tree.specs.Code.{plain, shadow, none, assign, choose, loop, during, call, runtime, push_word, pop_word, zero_array, Act, Code, stop, step}
use Rattle.def_meaning.specs.Append.{◌+++◌, one}
use Rattle.def_names.specs.Numbers.{next, behind}
use Rattle.def_sweep.specs.Marks.{active_at}
use Rattle.def_sweep.specs.Marked.{code_if}
use Rattle.def_sweep.specs.AdjointOf.{adjoint_where}
use Rattle.def_sweep.specs.Plan.{Plan, is_emitted, names_of, found_or, save_group, snapshot_group, Schedules, reversed_by}
pub use Rattle.def_sweep.specs.Rows.{is_empty, push, pop, pushes, pops, push_own, pop_own, set_own, literal, told_forward, told_backward, loop_forward, loop_backward, while_forward, while_backward, resets, reset, with_shadows, adjoint_call}
use Rattle.def_sweep.specs.ReversalCode.{row_forward, row_backward}

-- ---- the sweeps

-- In loops of depth d, of the i-th statement or a list that begins with it. Where marked loops are reversed by schedules, such a loop has
-- rows of its own; else it is a loop as others. What a sweep writes isn't marked.
abbrev mutual
  pub forward_act_with : Schedules → Plan → ℕ → ℕ → ℕ → Act → Code
  forward_act_with r p i d line (assign (plain x) subs e) =
      code_if (p.marks.kept i) (code_if (p.marks.saved i (plain x)) (one line (runtime (push_word (plain x) subs))) +++ one line (assign (plain x) subs e))
  forward_act_with r p i d line (choose c a b) =
      let j = behind (suc i) a in
      let idle = is_empty (backward_with r p (suc i) d a) && is_empty (backward_with r p j d b) in
      code_if (is_emitted p.marks i) (one line (choose c (told_forward idle line (forward_with r p (suc i) d a) 1) (told_forward idle line (forward_with r p j d b) 0)))
  forward_act_with r p i d line (loop (plain x) a b c body m) =
      code_if (is_emitted p.marks i)
      (code_if (p.marks.saved i (plain x)) (one line (runtime (push_word (plain x) none)))
      +++ found_or (reversed_by r p.marks.adjointed i body m)
      (loop_forward (is_empty (backward_with r p (suc i) (suc d) body)) (suc d) line (plain x) a b c (forward_with r p (suc i) (suc d) body))
      (λ s. row_forward p i (suc d) line x a b c s))
  forward_act_with r p i d line (during c body) =
      code_if (is_emitted p.marks i) (while_forward (is_empty (backward_with r p (suc i) (suc d) body)) (suc d) line c (forward_with r p (suc i) (suc d) body))
  forward_act_with r p i d line (call name args) =
      let g = p.callees name in
      code_if (is_emitted p.marks i)
      (if p.marks.split i then one line (call g.forth args)
      else pushes p line (save_group p.marks i g (names_of args))
      +++ (code_if (p.marks.adjointed i) (pushes p line (snapshot_group g (names_of args)))
      +++ code_if (p.marks.kept i) (one line (call name args))))
  forward_act_with r p i d line _ = stop

  pub forward_with : Schedules → Plan → ℕ → ℕ → Code → Code
  forward_with r p i d stop = stop
  forward_with r p i d (step line a rest) = forward_act_with r p i d line a +++ forward_with r p (next i a) d rest

  pub backward_act_with : Schedules → Plan → ℕ → ℕ → ℕ → Act → Code
  backward_act_with r p i d line (assign (plain x) subs e) =
      code_if (p.marks.kept i && p.marks.saved i (plain x)) (one line (runtime (pop_word (plain x) subs)))
      +++ code_if (p.marks.adjointed i) (adjoint_where (active_at p.marks i) x subs e line)
  backward_act_with r p i d line (choose c a b) =
      let j = behind (suc i) a in
      code_if (is_emitted p.marks i)
      (told_backward (is_empty (backward_with r p (suc i) d a) && is_empty (backward_with r p j d b)) line (backward_with r p (suc i) d a) (backward_with r p j d b))
  backward_act_with r p i d line (loop (plain x) a b c body m) =
      code_if (is_emitted p.marks i)
      (found_or (reversed_by r p.marks.adjointed i body m)
      (loop_backward (is_empty (backward_with r p (suc i) (suc d) body)) (suc d) line (plain x) (backward_with r p (suc i) (suc d) body))
      (λ s. row_backward p i (suc d) line x s)
      +++ (code_if (p.marks.saved i (plain x)) (one line (runtime (pop_word (plain x) none)))
      +++ reset p.marks i line x))
  backward_act_with r p i d line (during c body) =
      code_if (is_emitted p.marks i) (while_backward (is_empty (backward_with r p (suc i) (suc d) body)) (suc d) line (backward_with r p (suc i) (suc d) body))
  backward_act_with r p i d line (call name args) =
      let g = p.callees name in
      code_if (is_emitted p.marks i)
      (if p.marks.split i then one line (call g.back (with_shadows g.shadowed g.dummies (names_of args)))
      else code_if (p.marks.adjointed i) (pops p line (snapshot_group g (names_of args)) +++ one line (adjoint_call g (names_of args)))
      +++ pops p line (save_group p.marks i g (names_of args)))
  backward_act_with r p i d line _ = stop

  pub backward_with : Schedules → Plan → ℕ → ℕ → Code → Code
  backward_with r p i d stop = stop
  backward_with r p i d (step line a rest) = backward_with r p (next i a) d rest +++ backward_act_with r p i d line a

-- where no loop is reversed by a schedule
abbrev pub forward_act : Plan → ℕ → ℕ → ℕ → Act → Code
forward_act p i d line a = forward_act_with None p i d line a

abbrev pub forward : Plan → ℕ → ℕ → Code → Code
forward p i d c = forward_with None p i d c

abbrev pub backward_act : Plan → ℕ → ℕ → ℕ → Act → Code
backward_act p i d line a = backward_act_with None p i d line a

abbrev pub backward : Plan → ℕ → ℕ → Code → Code
backward p i d c = backward_with None p i d c

-- ---- a unit's body

-- the shadows of these set to 0
abbrev pub cleared : Plan → ℕ → List (List ℕ) → Code
cleared p line [] = stop
cleared p line (x ∷ xs) =
    (if p.arrays (plain x) then one line (runtime (zero_array (shadow x))) else one line (assign (shadow x) none (literal 0))) +++ cleared p line xs

-- the body of an adjoint unit: the forward sweep, the shadows that are cleared at the turn, the backward sweep, and those cleared
-- at the end; the unit's first statement has the number i. Only the head clears shadows.
abbrev pub adjoint_body_with : Schedules → Plan → ℕ → ℕ → Code → List (List ℕ) → List (List ℕ) → Code
adjoint_body_with r p i line c at_turn at_end = forward_with r p i 0 c +++ (cleared p line at_turn +++ (backward_with r p i 0 c +++ cleared p line at_end))

abbrev pub adjoint_body : Plan → ℕ → ℕ → Code → List (List ℕ) → List (List ℕ) → Code
adjoint_body p i line c at_turn at_end = adjoint_body_with None p i line c at_turn at_end
