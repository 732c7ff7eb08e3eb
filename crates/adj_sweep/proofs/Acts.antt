-- The sweeps of statements, from what was written of them.
use Rattle.std.proofs.Common.{◌≡◌, ℕ, suc, Bool, true, false, List, refl, sym, ap, ◌∙◌, subst}
use Rattle.std.specs.Prelude.{◌&&◌, Option, Some, None}
use Rattle.adj_tree.specs.Code.{Var, plain, Term, Mark, Act, choose, loop, during, none, runtime, push_word, pop_word, Code, stop}
use Rattle.adj_tree.specs.View.{test_of, code_of}
use Rattle.adj_tree.specs.declared.expr.Exprs.TheVariants as exprs
use Rattle.adj_tree.specs.declared.expr.Cond.{Cond}
use Rattle.def_meaning.specs.Append.{◌+++◌, one}
use Rattle.def_meaning.specs.Rename.{rename}
use Rattle.def_meaning.proofs.Appends.{append-stop}
use Rattle.def_meaning.proofs.RenamedLists.{rename-append}
use Rattle.def_names.specs.Numbers.{next, behind}
use Rattle.def_sweep.specs.Marked.{code_if}
use Rattle.def_sweep.specs.Plan.{Plan, Schedules, Step, is_emitted, found_or, reversed_by}
use Rattle.def_sweep.specs.Rows.{is_empty, told_forward, told_backward, loop_forward, loop_backward, while_forward, while_backward, reset}
use Rattle.def_sweep.specs.Emission.{forward_act_with, forward_with, backward_act_with, backward_with}
use Rattle.def_sweep.specs.ReversalCode.{row_forward, row_backward}
use Rattle.adj_sweep.proofs.StepCalls.{body_is}
use Rattle.adj_sweep.specs.declared.sweeps.Sweeps.{Sweeps}
use Rattle.adj_sweep.specs.Swept.{in_order, SweepsAct, SweepsList}
use Rattle.adj_sweep_assignment.proofs.Plain.{IsPlain}
use Rattle.adj_sweep.proofs.Turned.{joined}
use Rattle.adj_sweep.proofs.Emitted.{empty_renamed}
use Rattle.adj_sweep.proofs.Rows.{push_kept, pop_kept, choose_named}

-- code where a mark holds, and where it doesn't
pub if_true : (b : Bool) (x : Code) → b ≡ true → code_if b x ≡ x
if_true b x e = ap (λ z. code_if z x) e

pub if_false : (b : Bool) (x : Code) → b ≡ false → code_if b x ≡ stop
if_false b x e = ap (λ z. code_if z x) e

module _ (sc : Schedules) (r : Var → Var) (p : Plan) (d line : ℕ) (a : Act) (old new : Sweeps) where
  -- what the definitions say was written
  pub written : (x y : Code) → forward_act_with sc p old.number d line a ≡ x → backward_act_with sc p old.number d line a ≡ y → new.number ≡ next old.number a → in_order (code_of new.forward) ≡ in_order (code_of old.forward) +++ rename r x → code_of new.backward ≡ rename r y +++ code_of old.backward → SweepsAct sc r p d line a old new
  written x y ex ey n f b = record {
    number = n;
    forth = f ∙ ap (λ z. in_order (code_of old.forward) +++ rename r z) (sym ex);
    back = b ∙ ap (λ z. rename r z +++ code_of old.backward) (sym ey);
  }

  -- nothing was
  pub skipped : forward_act_with sc p old.number d line a ≡ stop → backward_act_with sc p old.number d line a ≡ stop → new.number ≡ next old.number a → code_of new.forward ≡ code_of old.forward → code_of new.backward ≡ code_of old.backward → SweepsAct sc r p d line a old new
  skipped ex ey n f b = written stop stop ex ey n (ap in_order f ∙ sym (append-stop (in_order (code_of old.forward)))) b

-- the backward sweep of a list is empty exactly where what was written of it is
pub list_idle : (sc : Schedules) (r : Var → Var) (p : Plan) (d i : ℕ) (c : Code) (s : Sweeps) → SweepsList sc r p d i c stop s → is_empty (code_of s.backward) ≡ is_empty (backward_with sc p i d c)
list_idle sc r p d i c s h = ap is_empty h.back ∙ empty_renamed r (backward_with sc p i d c)

-- its backward sweep, with nothing behind
pub list_back : (sc : Schedules) (r : Var → Var) (p : Plan) (d i : ℕ) (c : Code) (s : Sweeps) → SweepsList sc r p d i c stop s → code_of s.backward ≡ rename r (backward_with sc p i d c)
list_back sc r p d i c s h = h.back ∙ append-stop (rename r (backward_with sc p i d c))

-- ---- IF

module _ (sc : Schedules) (r : Var → Var) (plainly : IsPlain r) (p : Plan) (d line : ℕ) (c : Cond) (a b : Code) (old first second new : Sweeps) (ha : SweepsList sc r p d (suc old.number) a stop first) (hb : SweepsList sc r p d first.number b stop second) where
  second_list : SweepsList sc r p d (behind (suc old.number) a) b stop second
  second_list = subst (λ k. SweepsList sc r p d k b stop second) ha.number hb

  -- one that is no part of a sweep
  pub branch_skipped : is_emitted p.marks old.number ≡ false → new.number ≡ second.number → code_of new.forward ≡ code_of old.forward → code_of new.backward ≡ code_of old.backward → SweepsAct sc r p d line (choose (test_of c) a b) old new
  branch_skipped e n f g = skipped sc r p d line (choose (test_of c) a b) old new (if_false _ _ e) (if_false _ _ e) (n ∙ second_list.number) f g

  pub branch_written : (idle : Bool) → is_emitted p.marks old.number ≡ true → idle ≡ (is_empty (code_of first.backward) && is_empty (code_of second.backward)) → new.number ≡ second.number → in_order (code_of new.forward) ≡ in_order (code_of old.forward) +++ one line (choose (test_of c) (told_forward idle line (in_order (code_of first.forward)) 1) (told_forward idle line (in_order (code_of second.forward)) 0)) → ((x y : Code) → code_of first.backward ≡ rename r x → code_of second.backward ≡ rename r y → code_of new.backward ≡ rename r (told_backward idle line x y) +++ code_of old.backward) → SweepsAct sc r p d line (choose (test_of c) a b) old new
  branch_written idle e h n f g =
      let i = old.number in
      let j = behind (suc i) a in
      let other : Bool = is_empty (backward_with sc p (suc i) d a) && is_empty (backward_with sc p j d b) in
      let same : idle ≡ other = h ∙ (λ k. list_idle sc r p d (suc i) a first ha k && list_idle sc r p d j b second second_list k) in
      let x : Code = one line (choose (test_of c) (told_forward other line (forward_with sc p (suc i) d a) 1) (told_forward other line (forward_with sc p j d b) 0)) in
      let y : Code = told_backward other line (backward_with sc p (suc i) d a) (backward_with sc p j d b) in
      written sc r p d line (choose (test_of c) a b) old new x y (if_true _ _ e) (if_true _ _ e) (n ∙ second_list.number)
      (f ∙ ap (λ z. in_order (code_of old.forward) +++ z) (choose_named r plainly idle other line c (in_order (code_of first.forward)) (in_order (code_of second.forward)) (forward_with sc p (suc i) d a) (forward_with sc p j d b) same ha.forth second_list.forth))
      (g (backward_with sc p (suc i) d a) (backward_with sc p j d b) (list_back sc r p d (suc i) a first ha) (list_back sc r p d j b second second_list)
      ∙ ap (λ z. rename r (told_backward z line (backward_with sc p (suc i) d a) (backward_with sc p j d b)) +++ code_of old.backward) same)

-- ---- loops

-- a DO, whichever rows it has
module _ (sc : Schedules) (r : Var → Var) (plainly : IsPlain r) (p : Plan) (d line : ℕ) (x : List ℕ) (ta tb tc : Term) (body : Code) (m : Mark) (old new : Sweeps) where
  abbrev i : ℕ
  i = old.number

  abbrev how : Option Step
  how = reversed_by sc p.marks.adjointed i body m

  abbrev idle : Bool
  idle = is_empty (backward_with sc p (suc i) (suc d) body)

  abbrev plain_forward : Code
  plain_forward = loop_forward idle (suc d) line (plain x) ta tb tc (forward_with sc p (suc i) (suc d) body)

  abbrev plain_backward : Code
  plain_backward = loop_backward idle (suc d) line (plain x) (backward_with sc p (suc i) (suc d) body)

  turns_skipped : is_emitted p.marks i ≡ false → new.number ≡ behind (suc i) body → code_of new.forward ≡ code_of old.forward → code_of new.backward ≡ code_of old.backward → SweepsAct sc r p d line (loop (plain x) ta tb tc body m) old new
  turns_skipped e n f g = skipped sc r p d line (loop (plain x) ta tb tc body m) old new (if_false _ _ e) (if_false _ _ e) n f g

  turns_written : (forth back : Code) → found_or how plain_forward (λ s. row_forward p i (suc d) line x ta tb tc s) ≡ forth → found_or how plain_backward (λ s. row_backward p i (suc d) line x s) ≡ back → is_emitted p.marks i ≡ true → new.number ≡ behind (suc i) body → in_order (code_of new.forward) ≡ in_order (code_of old.forward) +++ (code_if (p.marks.saved i (plain x)) (one line (runtime (push_word (plain x) none))) +++ rename r forth) → code_of new.backward ≡ rename r back +++ (code_if (p.marks.saved i (plain x)) (one line (runtime (pop_word (plain x) none))) +++ (rename r (reset p.marks i line x) +++ code_of old.backward)) → SweepsAct sc r p d line (loop (plain x) ta tb tc body m) old new
  turns_written forth back ef eb e n f g =
      let saved : Bool = p.marks.saved i (plain x) in
      let pushed = code_if saved (one line (runtime (push_word (plain x) none))) in
      let popped = code_if saved (one line (runtime (pop_word (plain x) none))) in
      let cleared = reset p.marks i line x in
      let first = rename r cleared +++ code_of old.backward in
      let second = popped +++ first in
      written sc r p d line (loop (plain x) ta tb tc body m) old new (pushed +++ forth) (back +++ (popped +++ cleared)) (if_true _ _ e ∙ ap (λ z. pushed +++ z) ef) (if_true _ _ e ∙ ap (λ z. z +++ (popped +++ cleared)) eb) n
      (f ∙ ap (λ z. in_order (code_of old.forward) +++ z) (ap (λ z. z +++ rename r forth) (sym (push_kept r plainly saved line x exprs.Empty)) ∙ sym (rename-append r pushed forth)))
      (joined r back (popped +++ cleared) (code_of new.backward) second (code_of old.backward) g
      (joined r popped cleared second first (code_of old.backward) (ap (λ z. z +++ first) (sym (pop_kept r plainly saved line x exprs.Empty))) refl))

-- one that isn't reversed by a schedule
module _ (sc : Schedules) (r : Var → Var) (plainly : IsPlain r) (p : Plan) (d line : ℕ) (x : List ℕ) (ta tb tc : Term) (body : Code) (m : Mark) (old inner new : Sweeps) (others : reversed_by sc p.marks.adjointed old.number body m ≡ None) (h : SweepsList sc r p (suc d) (suc old.number) body stop inner) where
  pub loop_skipped : is_emitted p.marks old.number ≡ false → new.number ≡ inner.number → code_of new.forward ≡ code_of old.forward → code_of new.backward ≡ code_of old.backward → SweepsAct sc r p d line (loop (plain x) ta tb tc body m) old new
  loop_skipped e n f g = turns_skipped sc r plainly p d line x ta tb tc body m old new e (n ∙ h.number) f g

  pub loop_written : (idle : Bool) → is_emitted p.marks old.number ≡ true → idle ≡ is_empty (code_of inner.backward) → new.number ≡ inner.number → ((c : Code) → in_order (code_of inner.forward) ≡ rename r c → in_order (code_of new.forward) ≡ in_order (code_of old.forward) +++ (code_if (p.marks.saved old.number (plain x)) (one line (runtime (push_word (plain x) none))) +++ rename r (loop_forward idle (suc d) line (plain x) ta tb tc c))) → ((c : Code) → code_of inner.backward ≡ rename r c → code_of new.backward ≡ rename r (loop_backward idle (suc d) line (plain x) c) +++ (code_if (p.marks.saved old.number (plain x)) (one line (runtime (pop_word (plain x) none))) +++ (rename r (reset p.marks old.number line x) +++ code_of old.backward))) → SweepsAct sc r p d line (loop (plain x) ta tb tc body m) old new
  loop_written idle e hi n f g =
      let i = old.number in
      let saved : Bool = p.marks.saved i (plain x) in
      let other : Bool = is_empty (backward_with sc p (suc i) (suc d) body) in
      let same : idle ≡ other = hi ∙ list_idle sc r p (suc d) (suc i) body inner h in
      let pushed = code_if saved (one line (runtime (push_word (plain x) none))) in
      let popped = code_if saved (one line (runtime (pop_word (plain x) none))) in
      let forth = forward_with sc p (suc i) (suc d) body in
      let back = backward_with sc p (suc i) (suc d) body in
      let behind = popped +++ (rename r (reset p.marks i line x) +++ code_of old.backward) in
      turns_written sc r plainly p d line x ta tb tc body m old new (loop_forward other (suc d) line (plain x) ta tb tc forth) (loop_backward other (suc d) line (plain x) back)
      (ap (λ z. found_or z (loop_forward other (suc d) line (plain x) ta tb tc forth) (λ s. row_forward p i (suc d) line x ta tb tc s)) others)
      (ap (λ z. found_or z (loop_backward other (suc d) line (plain x) back) (λ s. row_backward p i (suc d) line x s)) others)
      e (n ∙ h.number)
      (f forth h.forth ∙ ap (λ z. in_order (code_of old.forward) +++ (pushed +++ rename r (loop_forward z (suc d) line (plain x) ta tb tc forth))) same)
      (g back (list_back sc r p (suc d) (suc i) body inner h) ∙ ap (λ z. rename r (loop_backward z (suc d) line (plain x) back) +++ behind) same)

-- one that is
module _ (sc : Schedules) (r : Var → Var) (plainly : IsPlain r) (p : Plan) (d line : ℕ) (x : List ℕ) (ta tb tc : Term) (body : Code) (m : Mark) (s : Step) (old new : Sweeps) (is : reversed_by sc p.marks.adjointed old.number body m ≡ Some s) where
  number_after : new.number ≡ suc (suc old.number) → new.number ≡ behind (suc old.number) body
  number_after n = let b = body_is sc p.marks.adjointed old.number body m s is in n ∙ ap (behind (suc old.number)) (sym b.is)

  pub reversed_skipped : is_emitted p.marks old.number ≡ false → new.number ≡ suc (suc old.number) → code_of new.forward ≡ code_of old.forward → code_of new.backward ≡ code_of old.backward → SweepsAct sc r p d line (loop (plain x) ta tb tc body m) old new
  reversed_skipped e n f g = turns_skipped sc r plainly p d line x ta tb tc body m old new e (number_after n) f g

  pub reversed_written : is_emitted p.marks old.number ≡ true → new.number ≡ suc (suc old.number) → in_order (code_of new.forward) ≡ in_order (code_of old.forward) +++ (code_if (p.marks.saved old.number (plain x)) (one line (runtime (push_word (plain x) none))) +++ rename r (row_forward p old.number (suc d) line x ta tb tc s)) → code_of new.backward ≡ rename r (row_backward p old.number (suc d) line x s) +++ (code_if (p.marks.saved old.number (plain x)) (one line (runtime (pop_word (plain x) none))) +++ (rename r (reset p.marks old.number line x) +++ code_of old.backward)) → SweepsAct sc r p d line (loop (plain x) ta tb tc body m) old new
  reversed_written e n f g =
      let i = old.number in
      let other : Bool = is_empty (backward_with sc p (suc i) (suc d) body) in
      let forth = loop_forward other (suc d) line (plain x) ta tb tc (forward_with sc p (suc i) (suc d) body) in
      let back = loop_backward other (suc d) line (plain x) (backward_with sc p (suc i) (suc d) body) in
      turns_written sc r plainly p d line x ta tb tc body m old new (row_forward p i (suc d) line x ta tb tc s) (row_backward p i (suc d) line x s)
      (ap (λ z. found_or z forth (λ t. row_forward p i (suc d) line x ta tb tc t)) is)
      (ap (λ z. found_or z back (λ t. row_backward p i (suc d) line x t)) is)
      e (number_after n) f g

-- a DO WHILE
module _ (sc : Schedules) (r : Var → Var) (p : Plan) (d line : ℕ) (c : Cond) (body : Code) (old inner new : Sweeps) (h : SweepsList sc r p (suc d) (suc old.number) body stop inner) where
  pub while_skipped : is_emitted p.marks old.number ≡ false → new.number ≡ inner.number → code_of new.forward ≡ code_of old.forward → code_of new.backward ≡ code_of old.backward → SweepsAct sc r p d line (during (test_of c) body) old new
  while_skipped e n f g = skipped sc r p d line (during (test_of c) body) old new (if_false _ _ e) (if_false _ _ e) (n ∙ h.number) f g

  pub while_written : (idle : Bool) → is_emitted p.marks old.number ≡ true → idle ≡ is_empty (code_of inner.backward) → new.number ≡ inner.number → ((x : Code) → in_order (code_of inner.forward) ≡ rename r x → in_order (code_of new.forward) ≡ in_order (code_of old.forward) +++ rename r (while_forward idle (suc d) line (test_of c) x)) → ((x : Code) → code_of inner.backward ≡ rename r x → code_of new.backward ≡ rename r (while_backward idle (suc d) line x) +++ code_of old.backward) → SweepsAct sc r p d line (during (test_of c) body) old new
  while_written idle e hi n f g =
      let i = old.number in
      let other : Bool = is_empty (backward_with sc p (suc i) (suc d) body) in
      let same : idle ≡ other = hi ∙ list_idle sc r p (suc d) (suc i) body inner h in
      let forth = forward_with sc p (suc i) (suc d) body in
      let back = backward_with sc p (suc i) (suc d) body in
      written sc r p d line (during (test_of c) body) old new (while_forward other (suc d) line (test_of c) forth) (while_backward other (suc d) line back) (if_true _ _ e) (if_true _ _ e) (n ∙ h.number)
      (f forth h.forth ∙ ap (λ z. in_order (code_of old.forward) +++ rename r (while_forward z (suc d) line (test_of c) forth)) same)
      (g back (list_back sc r p (suc d) (suc i) body inner h) ∙ ap (λ z. rename r (while_backward z (suc d) line back) +++ code_of old.backward) same)
