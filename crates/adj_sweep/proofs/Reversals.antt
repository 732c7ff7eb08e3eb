-- The rows of a loop that is reversed by a schedule, under the names of the unit.
use Rattle.std.proofs.Common.{◌≡◌, ℕ, suc, Bool, true, false, not, List, [], ◌∷◌, map, refl, sym, ap, ◌∙◌}
use Rattle.std.specs.Prelude.{pos}
use Rattle.adj_tree.specs.Code.{Var, plain, helper, first, stride, count, kind, plus, lit, var, bin, none, more, Term, compare, is_same, assign, choose, loop, call, runtime, push_word, pop_word, Mark, unmarked, with_count, count_from, Code, stop, step}
use Rattle.adj_tree.specs.View.{term_of, mark_of}
use Rattle.adj_tree.specs.declared.expr.Expr.{Expr}
use Rattle.def_meaning.specs.Append.{◌+++◌, one}
use Rattle.def_meaning.specs.Rename.{rename, rename_terms}
use Rattle.def_meaning.proofs.Appends.{append_assoc}
use Rattle.def_meaning.proofs.RenamedLists.{rename-append}
use Rattle.def_names.specs.Numbers.{Vars}
use Rattle.def_sweep.specs.Marked.{code_if}
use Rattle.def_sweep.specs.Plan as sweeps
use Rattle.def_sweep.specs.Plan.{Plan, Callee, actuals_named, save_group, step_snapshot}
use Rattle.def_sweep.specs.Rows.{is_empty, literal, pushes, pops, adjoint_call}
use Rattle.def_sweep.specs.ReversalCode.{arm, reversal, slots_of, set_slots, push_slots, pop_slots, reversed_forward, reversed_backward, row_forward, row_backward}
use Rattle.adj_sweep.specs.Callees.{seen, Knows}
use Rattle.adj_sweep.specs.declared.callees.Callee as known
use Rattle.adj_sweep.specs.declared.actuals.Group.TheVariants as groups
use Rattle.adj_sweep.specs.declared.reversal.Step.{Step}
use Rattle.adj_sweep.specs.Actuals.{paired, is_in, chosen, all_with_shadows}
use Rattle.adj_sweep.specs.Steps.{save_of, unsave_of, keep_of, back_of, plain_of, adjoint_of}
use Rattle.adj_sweep.specs.Swept.{in_order}
use Rattle.adj_sweep_assignment.proofs.Plain.{IsPlain, term_kept}
use Rattle.adj_sweep.proofs.Groups.{save_chosen, step_chosen, shadows_paired}
use Rattle.adj_sweep.proofs.Turned.{joined, turned_before}

-- ---- arms

-- one that isn't empty
pub arm_named : (r : Var → Var) (line d k : ℕ) (done inner rest : Code) → is_empty done ≡ false → inner ≡ rename r done → step line (choose (compare is_same (var (r (helper kind d))) (literal k)) inner stop) rest ≡ rename r (arm line d k done) +++ rest
arm_named r line d k done inner rest e h =
    ap (λ z. step line (choose (compare is_same (var (r (helper kind d))) (literal k)) z stop) rest) h
    ∙ ap (λ b. rename r (code_if (not b) (one line (choose (compare is_same (var (helper kind d)) (literal k)) done stop))) +++ rest) (sym e)

-- one that is
pub arm_left : (r : Var → Var) (line d k : ℕ) (done rest : Code) → is_empty done ≡ true → rest ≡ rename r (arm line d k done) +++ rest
arm_left r line d k done rest e = ap (λ b. rename r (code_if (not b) (one line (choose (compare is_same (var (helper kind d)) (literal k)) done stop))) +++ rest) (sym e)

-- ---- names that are given

pub named_kept : (r : Var → Var) → IsPlain r → (given : List (List ℕ)) → rename_terms r (actuals_named given) ≡ actuals_named given
named_kept r plainly [] = refl
named_kept r plainly (a ∷ given) = λ i. more (var (plainly a i)) (named_kept r plainly given i)

-- the call of a step unit that is kept or not, turned round
pub kept_turned : (r : Var → Var) → IsPlain r → (line : ℕ) (name : List ℕ) (given : List (List ℕ)) (b : Bool) → in_order (code_if b (one line (call name (actuals_named given)))) ≡ rename r (code_if b (one line (call name (actuals_named given))))
kept_turned r plainly line name given true = λ i. one line (call name (sym (named_kept r plainly given) i))
kept_turned r plainly line name given false = refl

-- ---- the number of snapshots from a variable

-- its helper is set, pushed and popped before what comes next
set_before : (r : Var → Var) (line d : ℕ) (m : Mark) (c : Code) → rename r (set_slots line d m c) ≡ rename r (set_slots line d m stop) +++ rename r c
set_before r line d unmarked c = refl
set_before r line d (with_count n) c = refl
set_before r line d (count_from x) c = refl

push_before : (r : Var → Var) (line d : ℕ) (m : Mark) (c : Code) → rename r (push_slots line d m c) ≡ rename r (push_slots line d m stop) +++ rename r c
push_before r line d unmarked c = refl
push_before r line d (with_count n) c = refl
push_before r line d (count_from x) c = refl

pop_before : (r : Var → Var) (line d : ℕ) (m : Mark) (c : Code) → rename r (pop_slots line d m c) ≡ rename r (pop_slots line d m stop) +++ rename r c
pop_before r line d unmarked c = refl
pop_before r line d (with_count n) c = refl
pop_before r line d (count_from x) c = refl

-- ---- rows

-- what comes behind others comes behind those before them
further : (x y u v z : Code) → y ≡ x +++ u → z ≡ y +++ v → z ≡ x +++ (u +++ v)
further x y u v z p q = q ∙ ap (λ w. w +++ v) p ∙ append_assoc x u v

module _ (r : Var → Var) (plainly : IsPlain r) where
  -- in the forward sweep, from what was written of it
  pub forward_named : (d line : ℕ) (x : List ℕ) (a b c : Expr) (m : Mark) (save keep body inner t bound told opened saved kept gone pushed stored code : Code) → rename r save ≡ save → rename r keep ≡ keep → body ≡ rename r (inner +++ one line (assign (helper count d) none (bin plus (var (helper count d)) (lit (pos 1))))) →
      bound ≡ step line (assign (r (helper stride d)) none (term_of c)) (step line (assign (r (helper first d)) none (term_of a)) t) →
      in_order told ≡ in_order bound +++ rename r (set_slots line d m stop) →
      opened ≡ step line (assign (r (helper count d)) none (lit (pos 0))) told →
      in_order saved ≡ in_order opened +++ save → in_order kept ≡ in_order saved +++ keep →
      gone ≡ step line (loop (plain x) (var (r (helper first d))) (term_of b) (var (r (helper stride d))) body unmarked) kept →
      pushed ≡ step line (runtime (push_word (r (helper stride d)) none)) (step line (runtime (push_word (r (helper first d)) none)) gone) →
      in_order stored ≡ in_order pushed +++ rename r (push_slots line d m stop) →
      code ≡ step line (runtime (push_word (r (helper count d)) none)) stored →
      in_order code ≡ in_order t +++ rename r (reversed_forward d line (plain x) (term_of a) (term_of b) (term_of c) m save keep inner)
  forward_named d line x a b c m save keep body inner t bound told opened saved kept gone pushed stored code hs hk hb h1 h2 h3 h4 h5 h6 h7 h8 h9 =
      let bounds = step line (assign (r (helper first d)) none (term_of a)) (one line (assign (r (helper stride d)) none (term_of c))) in
      let slots = rename r (set_slots line d m stop) in
      let none_yet = one line (assign (r (helper count d)) none (lit (pos 0))) in
      let turns = one line (loop (plain x) (var (r (helper first d))) (term_of b) (var (r (helper stride d))) body unmarked) in
      let ends = step line (runtime (push_word (r (helper first d)) none)) (one line (runtime (push_word (r (helper stride d)) none))) in
      let slots_pushed = rename r (push_slots line d m stop) in
      let counted = one line (runtime (push_word (helper count d) none)) in
      let last = step line (loop (plain x) (var (helper first d)) (term_of b) (var (helper stride d)) (inner +++ one line (assign (helper count d) none (bin plus (var (helper count d)) (lit (pos 1))))) unmarked) (step line (runtime (push_word (helper first d) none)) (step line (runtime (push_word (helper stride d) none)) (push_slots line d m counted))) in
      let behind = turns +++ (ends +++ (slots_pushed +++ rename r counted)) in
      let e9 = ap in_order h9 ∙ turned_before stored (rename r counted) in
      let e8 = further (in_order pushed) (in_order stored) slots_pushed (rename r counted) (in_order code) h8 e9 in
      let e7 = further (in_order gone) (in_order pushed) ends (slots_pushed +++ rename r counted) (in_order code) (ap in_order h7 ∙ turned_before gone ends) e8 in
      let e6 = further (in_order kept) (in_order gone) turns (ends +++ (slots_pushed +++ rename r counted)) (in_order code) (ap in_order h6 ∙ turned_before kept turns) e7 in
      let e5 = further (in_order saved) (in_order kept) keep behind (in_order code) h5 e6 in
      let e4 = further (in_order opened) (in_order saved) save (keep +++ behind) (in_order code) h4 e5 in
      let e3 = further (in_order told) (in_order opened) none_yet (save +++ (keep +++ behind)) (in_order code) (ap in_order h3 ∙ turned_before told none_yet) e4 in
      let e2 = further (in_order bound) (in_order told) slots (none_yet +++ (save +++ (keep +++ behind))) (in_order code) h2 e3 in
      let e1 = further (in_order t) (in_order bound) bounds (slots +++ (none_yet +++ (save +++ (keep +++ behind)))) (in_order code) (ap in_order h1 ∙ turned_before t bounds) e2 in
      let named : behind ≡ rename r last =
      λ i. step line (loop (sym (plainly x) i) (var (r (helper first d))) (sym (term_kept r plainly b) i) (var (r (helper stride d))) (hb i) unmarked) (step line (runtime (push_word (r (helper first d)) none)) (step line (runtime (push_word (r (helper stride d)) none)) (sym (push_before r line d m counted) i))) in
      let groups : save +++ (keep +++ behind) ≡ rename r (save +++ (keep +++ last)) =
      (λ i. sym hs i +++ (sym hk i +++ named i)) ∙ ap (λ z. rename r save +++ z) (sym (rename-append r keep last)) ∙ sym (rename-append r save (keep +++ last)) in
      let begun : slots +++ (none_yet +++ (save +++ (keep +++ behind))) ≡ rename r (set_slots line d m (step line (assign (helper count d) none (lit (pos 0))) (save +++ (keep +++ last)))) =
      ap (λ z. slots +++ (none_yet +++ z)) groups ∙ sym (set_before r line d m (step line (assign (helper count d) none (lit (pos 0))) (save +++ (keep +++ last)))) in
      e1 ∙ ap (λ z. in_order t +++ z)
      (λ i. step line (assign (r (helper first d)) none (sym (term_kept r plainly a) i)) (step line (assign (r (helper stride d)) none (sym (term_kept r plainly c) i)) (begun i)))

-- in the backward sweep
pub backward_named : (r : Var → Var) (d line : ℕ) (x : List ℕ) (m : Mark) (keep back unsave plain_call adjoint unsaved reversed popped stepped stored code rest : Code) →
    unsaved ≡ rename r unsave +++ rest → reversed ≡ rename r (reversal line d (plain x) (slots_of d m) keep back plain_call adjoint) +++ unsaved → popped ≡ rename r back +++ reversed →
    stepped ≡ step line (runtime (pop_word (r (helper stride d)) none)) (step line (runtime (pop_word (r (helper first d)) none)) popped) →
    stored ≡ rename r (pop_slots line d m stop) +++ stepped →
    code ≡ step line (runtime (pop_word (r (helper count d)) none)) stored →
    code ≡ rename r (reversed_backward d line (plain x) m keep back unsave plain_call adjoint) +++ rest
backward_named r d line x m keep back unsave plain_call adjoint unsaved reversed popped stepped stored code rest hu hr hp ht hs hc =
    let turned = reversal line d (plain x) (slots_of d m) keep back plain_call adjoint in
    let ends = step line (runtime (pop_word (helper stride d) none)) (step line (runtime (pop_word (helper first d) none)) (back +++ (turned +++ unsave))) in
    let slots = rename r (pop_slots line d m stop) in
    hc ∙ ap (λ z. step line (runtime (pop_word (r (helper count d)) none)) z)
    (hs ∙ ap (λ z. slots +++ z)
    (ht ∙ ap (λ z. step line (runtime (pop_word (r (helper stride d)) none)) (step line (runtime (pop_word (r (helper first d)) none)) z))
    (joined r back (turned +++ unsave) popped reversed rest hp (joined r turned unsave reversed unsaved rest hr hu)))
    ∙ sym (append_assoc slots (rename r ends) rest)
    ∙ ap (λ z. z +++ rest) (sym (pop_before r line d m ends)))

-- ---- the rows by a plan

-- a step call as it is written is one that the definition speaks of
pub record IsStep (p : Plan) (read : Vars) (s : Step) (k : known.Callee) (t : sweeps.Step) : Type 0 where
  pub name : s.name.now ≡ t.name
  pub given : s.given.now ≡ t.given
  pub actuals : s.actuals.now ≡ paired k.dummies.items t.given
  pub adjoint : s.adjoint.now ≡ k.adjoint
  pub mark : mark_of s.mark.now ≡ t.mark
  pub read_is : t.read ≡ read
  pub knows : Knows k (p.callees t.name) read

module _ (p : Plan) (i d line : ℕ) (x : List ℕ) (read : Vars) (s : Step) (k : known.Callee) (t : sweeps.Step) (h : IsStep p read s k t) where
  abbrev g : Callee
  g = p.callees t.name

  abbrev saved : Vars
  saved = p.marks.saved i

  actuals_are : s.actuals.now ≡ paired (map (seen g read) g.dummies) t.given
  actuals_are = h.actuals ∙ ap (λ ds. paired ds t.given) h.knows.dummies

  save_is : chosen (is_in saved groups.Save) s.actuals.now ≡ save_group p.marks i g t.given
  save_is = ap (chosen (is_in saved groups.Save)) actuals_are ∙ save_chosen g read saved g.dummies t.given

  snapshot_is : chosen (is_in saved groups.Step) s.actuals.now ≡ step_snapshot g t.read t.given
  snapshot_is = ap (chosen (is_in saved groups.Step)) actuals_are ∙ step_chosen g read saved g.dummies t.given ∙ ap (λ z. step_snapshot g z t.given) (sym h.read_is)

  plain_is : plain_of line s ≡ one line (call t.name (actuals_named t.given))
  plain_is = λ j. one line (call (h.name j) (actuals_named (h.given j)))

  adjoint_is : adjoint_of line s ≡ one line (adjoint_call g t.given)
  adjoint_is = λ j. one line (call ((h.adjoint ∙ h.knows.adjoint) j) ((ap all_with_shadows actuals_are ∙ shadows_paired g read g.dummies t.given) j))

  pub forward_is : (a b c : Term) → reversed_forward (suc d) line (plain x) a b c (mark_of s.mark.now) (save_of p i line s) (keep_of p i line s) (code_if (p.marks.kept (suc i)) (plain_of line s)) ≡ row_forward p i (suc d) line x a b c t
  forward_is a b c = λ j. reversed_forward (suc d) line (plain x) a b c (h.mark j) (pushes p line (save_is j)) (pushes p line (snapshot_is j)) (code_if (p.marks.kept (suc i)) (plain_is j))

  pub backward_is : reversed_backward (suc d) line (plain x) (mark_of s.mark.now) (keep_of p i line s) (back_of p i line s) (unsave_of p i line s) (plain_of line s) (adjoint_of line s) ≡ row_backward p i (suc d) line x t
  backward_is = λ j. reversed_backward (suc d) line (plain x) (h.mark j) (pushes p line (snapshot_is j)) (pops p line (snapshot_is j)) (pops p line (save_is j)) (plain_is j) (adjoint_is j)
