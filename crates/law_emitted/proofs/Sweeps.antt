-- Both sweeps of statements are formed as written code is, where what they use stands: shadows, helpers, and arrays in calls of the runtime. So are the bodies of
-- the three units that are made of a unit.
use Rattle.std.proofs.Common.{◌≡◌, ℕ, suc, ◌<◌, ◌≤◌, ◌^◌, Bool, true, false, List, [], ◌∷◌, refl, sym, subst, arith, if◌then◌else◌}
use Rattle.std.specs.Prelude.{◌&&◌, not, Option, Some, None}
use Rattle.adj_tree.specs.Code.{Var, plain, shadow, helper, work, temp, control, Role, first, stride, count, turn, entry, entries, kind, lower, upper, slots, Term, var, Terms, none, more, Test, compare, is_same, Mark, pop_word, zero_array, Act, assign, choose, loop, during, call, runtime, Code, stop, step}
use Rattle.def_meaning.specs.Append.{◌+++◌, one}
use Rattle.def_names.specs.Standing as standing
use Rattle.def_names.specs.Numbers.{Vars, everything, next, behind}
use Rattle.def_names.specs.Numbering.{point_before}
use Rattle.def_sweep.specs.Marks.{active_at}
use Rattle.def_sweep.specs.Marked.{code_if}
use Rattle.def_names.proofs.Variables.{and_true}
use Rattle.def_sweep.specs.AdjointOf.{works_in_where, temps_in_where, adjoint_where}
use Rattle.def_sweep.specs.Plan.{Callee, Plan, is_emitted, names_of, actuals_named, save_group, snapshot_group, step_snapshot, found_or, Schedules, Step, is_from_variable, reversed_by, ByStep}
use Rattle.def_sweep.specs.ReversalCode.{at_turn, arm, advance, arms, reversal, slots_of, reversed_backward, row_backward}
use Rattle.def_sweep.specs.Rows.{is_empty, pushes, pops, literal, told_backward, loop_backward, while_backward, resets, reset, with_shadows, adjoint_call}
use Rattle.def_sweep.specs.Emission.{forward_with, backward_act_with, backward_with, cleared, adjoint_body_with}
use Rattle.def_sweep.specs.Program.{works_act, works_used, temps_act, temps_used}
use Rattle.def_sweep.specs.SplitRows.{forth_body, back_body}
use Rattle.law_emitted.proofs.Lists.{Each}
use Rattle.law_emitted.specs.Shadowed.{AreCarried}
use Rattle.law_emitted.proofs.Follows.{FollowsActBy, FollowsBy, TurnsBack}
use Rattle.law_emitted.proofs.Over.{OverTerm, OverPlace, OverActuals, OverMark, OverAct, OverCode, Any, over_append, over_if, place_other, names_stand}
use Rattle.law_emitted.proofs.Terms.{adjoint_over}
use Rattle.law_emitted.proofs.StepCalls.{from_keep, from_turn, from_advance}
use Rattle.law_emitted.proofs.Helpers.{InForth, HelpedAct, Helped, helped_front, helped_rest, idle_parts, tells_here, helped_first, helped_other, idle_body, helped_body, loop_counts, loop_bounds, helped_turns, while_counts, reversed_counts, reversed_bounds, reversed_actions, reversed_numbers, helped_more, Acting}
use Rattle.law_emitted.proofs.ForthSweeps.{empty_first, empty_second, not_first, not_second, told_there, loop_there, while_there}
use Rattle.law_emitted.proofs.ForthSweeps as forth

-- ---- what may stand

-- arrays stand where calls of the runtime take them
pub record AllowsPushes (Q : Var → Option ℕ → Type 0) (A : Var → Type 0) (arrays : Vars) : Type 0 where
  pub whole : (x : List ℕ) → arrays (plain x) ≡ true → Q (plain x) None → A (plain x)
  pub scalars : (x : List ℕ) → arrays (plain x) ≡ false → Q (plain x) None → Q (plain x) (Some 0)

-- and shadows where their variables do
pub record Allows (Q : Var → Option ℕ → Type 0) (A : Var → Type 0) (shadowed arrays : Vars) : Type 0 where
  pub shadows : (x : List ℕ) (n : Option ℕ) → shadowed (plain x) ≡ true → Q (plain x) n → Q (shadow x) n
  pub whole_shadows : (x : List ℕ) → shadowed (plain x) ≡ true → arrays (plain x) ≡ true → Q (plain x) None → A (shadow x)
  pub pushed : AllowsPushes Q A arrays

-- ---- the body of a forward unit

module _ (Q : Var → Option ℕ → Type 0) (A : Var → Type 0) (C B : List ℕ → Terms → Type 0) (sc : Schedules) (p : Plan) (allows : AllowsPushes Q A p.arrays) where
  pub forth_body_over : (i line : ℕ) (left : List (List ℕ)) (c : Code) → FollowsBy sc C B p i c → OverCode Q A Any c → Helped (λ v. InForth (λ w. Q w (Some 0)) v) sc p i 0 c → Each (λ x. Q (plain x) None) left → OverCode Q A C (forth_body sc p i line left c)
  forth_body_over i line left c f o h stand =
      over_append Q A C (forward_with sc p i 0 c) (pushes p line left) (forth.forth_over Q A C B sc p allows.whole allows.scalars i c f o h) (forth.pushes_over Q A C B sc p allows.whole allows.scalars line left stand)

-- ---- the backward sweep

module _ (Q : Var → Option ℕ → Type 0) (A : Var → Type 0) (C : List ℕ → Terms → Type 0) (sc : Schedules) (p : Plan) (allows : Allows Q A p.marks.shadowed p.arrays) (works temps : ℕ)
    (work_stands : (k : ℕ) → 1 ≤ k → k ≤ works → Q (helper work k) (Some 0)) (temp_stands : (j : ℕ) → 1 ≤ j → j ≤ temps → Q (helper temp j) (Some 0)) where
  abbrev Stands : List (List ℕ) → Type 0
  Stands xs = Each (λ x. Q (plain x) None) xs

  abbrev Scalar : Var → Type 0
  Scalar v = Q v (Some 0)

  one_word : 1 < 2 ^ 63
  one_word = omega arith

  zero_word : 0 < 2 ^ 63
  zero_word = omega arith

  join : (c d : Code) → OverCode Q A C c → OverCode Q A C d → OverCode Q A C (c +++ d)
  join c d h g = over_append Q A C c d h g

  guard : (b : Bool) (c : Code) → (b ≡ true → OverCode Q A C c) → OverCode Q A C (code_if b c)
  guard b c h = over_if Q A C b c h

  pushable : AllowsPushes Q A p.arrays
  pushable = allows.pushed

  pushes_over : (line : ℕ) (xs : List (List ℕ)) → Stands xs → OverCode Q A C (pushes p line xs)
  pushes_over line xs h = let ok = pushable in forth.pushes_over Q A C C sc p ok.whole ok.scalars line xs h

  pops_over : (line : ℕ) (xs : List (List ℕ)) → Stands xs → OverCode Q A C (pops p line xs)
  pops_over line xs h = let ok = pushable in forth.pops_over Q A C C sc p ok.whole ok.scalars line xs h

  -- ---- calls

  given_over : (shadowed : Vars) (ds given : List (List ℕ)) → AreCarried shadowed p.marks.shadowed ds given → Stands given → OverActuals Q A (with_shadows shadowed ds given)
  given_over shadowed [] given c h = tt
  given_over shadowed (d ∷ ds) [] c h = tt
  given_over shadowed (d ∷ ds) (a ∷ given) c h = go (shadowed (plain d)) refl (given_over shadowed ds given c.1 h.1)
    where
      go : (b : Bool) → shadowed (plain d) ≡ b → OverActuals Q A (with_shadows shadowed ds given) → OverActuals Q A (if b then more (var (plain a)) (more (var (shadow a)) (with_shadows shadowed ds given)) else more (var (plain a)) (with_shadows shadowed ds given))
      go true e ih = (h.0, (allows.shadows a None (c.0 e) h.0, ih))
      go false e ih = (h.0, ih)

  -- the call of a unit with shadows
  turned_over : (line : ℕ) (g : Callee) (name : List ℕ) (given : List (List ℕ)) → TurnsBack C p g name given → Stands given → OverCode Q A C (one line (call name (with_shadows g.shadowed g.dummies given)))
  turned_over line g name given f stand = ((f.0.0, (given_over g.shadowed g.dummies given f.1.0 stand, (f.0.1, f.1.1))), tt)

  call_backward : (i d line : ℕ) (name : List ℕ) (args : Terms) → OverActuals Q A args → FollowsActBy sc C C p i (call name args) → OverCode Q A C (backward_act_with sc p i d line (call name args))
  call_backward i d line name args o f =
      guard (is_emitted p.marks i) _ (λ emitted.
      forth.either_over Q A C C sc p pushed.whole pushed.scalars (p.marks.split i) (one line (call g.back (with_shadows g.shadowed g.dummies (names_of args)))) _ (λ s. turned_over line g g.back (names_of args) (f.1.1 emitted s).1 stand)
      (λ u. join (code_if (p.marks.adjointed i) (pops p line members +++ one line (adjoint_call g (names_of args)))) _
      (guard (p.marks.adjointed i) (pops p line members +++ one line (adjoint_call g (names_of args)))
      (λ t. join (pops p line members) (one line (adjoint_call g (names_of args))) (pops_over line members (forth.group_stands Q A C C sc p pushed.whole pushed.scalars (λ d. g.written d && g.members d) everything g.dummies (names_of args) stand)) (turned_over line g g.adjoint (names_of args) (f.1.0 t u) stand)))
      (pops_over line saves (forth.group_stands Q A C C sc p pushed.whole pushed.scalars g.written (p.marks.saved i) g.dummies (names_of args) stand))))
    where
      pushed : AllowsPushes Q A p.arrays
      pushed = allows.pushed

      g : Callee
      g = p.callees name

      saves : List (List ℕ)
      saves = save_group p.marks i (p.callees name) (names_of args)

      members : List (List ℕ)
      members = snapshot_group (p.callees name) (names_of args)

      stand : Stands (names_of args)
      stand = names_stand Q A args o

  -- ---- rows

  told_backward_over : (idle : Bool) (line : ℕ) (a b : Code) → (idle ≡ false → Q (helper control 0) (Some 0)) → OverCode Q A C a → OverCode Q A C b → OverCode Q A C (told_backward idle line a b)
  told_backward_over true line a b h ha hb = tt
  told_backward_over false line a b h ha hb = (h refl, (((h refl, one_word), (ha, hb)), tt))

  abbrev Counts : ℕ → Type 0
  Counts k = Q (helper count k) (Some 0) × Q (helper turn k) (Some 0)

  abbrev Bounds : ℕ → Type 0
  Bounds k = Q (helper first k) (Some 0) × Q (helper stride k) (Some 0)

  loop_backward_over : (idle : Bool) (k line : ℕ) (x : Var) (body : Code) → (idle ≡ false → Counts k × Bounds k) → Q x (Some 0) → OverCode Q A C body → OverCode Q A C (loop_backward idle k line x body)
  loop_backward_over true k line x body h q body_over = tt
  loop_backward_over false k line x body h q body_over =
      let counts = (h refl).0 in
      let bounds = (h refl).1 in (
        counts.0,
        (
          bounds.1,
          (
            bounds.0,
            ((counts.1, ((counts.0, one_word), (zero_word, (one_word, (((q, (bounds.0, (counts.1, bounds.1))), body_over), tt))))), tt),
          ),
        ),
      )

  while_backward_over : (idle : Bool) (k line : ℕ) (body : Code) → (idle ≡ false → Counts k) → OverCode Q A C body → OverCode Q A C (while_backward idle k line body)
  while_backward_over true k line body h body_over = tt
  while_backward_over false k line body h body_over = let counts = h refl in (counts.0, ((counts.1, ((counts.0, one_word), (zero_word, (one_word, (body_over, tt))))), tt))

  reset_over : (i line : ℕ) (x : List ℕ) → Q (plain x) (Some 0) → OverCode Q A C (reset p.marks i line x)
  reset_over i line x h =
      guard (resets p.marks i x) (one line (assign (shadow x) none (literal 0)))
      (λ t. let marked = and_true (p.marks.shadowed (plain x)) (p.marks.varied (point_before i) (plain x)) t in ((allows.shadows x (Some 0) marked.0 h, zero_word), tt))

  -- ---- loops that are reversed by schedules

  at_turn_over : (line k : ℕ) (x : Var) (o : Role) (rest : Code) → Q x (Some 0) → Bounds k → Q (helper o k) (Some 0) → OverCode Q A C rest → OverCode Q A C (at_turn line k x o rest)
  at_turn_over line k x o rest q bounds turned h = ((q, (bounds.0, (turned, bounds.1))), h)

  arm_over : (line k n : ℕ) (c : Code) → n < 2 ^ 63 → Q (helper kind k) (Some 0) → OverCode Q A C c → OverCode Q A C (arm line k n c)
  arm_over line k n c w q h = guard (not (is_empty c)) (one line (choose (compare is_same (var (helper kind k)) (literal n)) c stop)) (λ t. (((q, w), (h, tt)), tt))

  -- the number of snapshots of a loop of depth k, by its directive
  abbrev Slots : ℕ → Mark → Type 0
  Slots k m = let ok = pushable in forth.Slots Q A C C sc p ok.whole ok.scalars k m

  module _ (line k : ℕ) (x : Var) (m : Mark) (few : Slots k m) (keep back plain_call adjoint : Code) (q : Q x (Some 0)) (counts : Counts k) (bounds : Bounds k) (acting : Acting Scalar sc p k) (over_keep : OverCode Q A C keep) (over_back : OverCode Q A C back) (over_call : OverCode Q A C plain_call) (over_adjoint : OverCode Q A C adjoint) where
    advance_over : OverCode Q A C (advance line k x plain_call)
    advance_over = ((counts.1, (acting.1.1.0, ((acting.1.1.1, one_word), (one_word, (at_turn_over line k x turn plain_call q bounds counts.1 over_call, tt))))), tt)

    arms_over : OverCode Q A C (arms line k x keep back plain_call adjoint)
    arms_over =
        join (arm line k 1 keep) (from_advance line k x keep back plain_call adjoint) (arm_over line k 1 keep (omega arith) acting.1.0 over_keep)
        (join (arm line k 2 (advance line k x plain_call)) (from_turn line k x keep back adjoint) (arm_over line k 2 (advance line k x plain_call) (omega arith) acting.1.0 advance_over)
        (join (arm line k 3 (at_turn line k x lower adjoint)) (from_keep line k keep back) (arm_over line k 3 (at_turn line k x lower adjoint) (omega arith) acting.1.0 (at_turn_over line k x lower adjoint q bounds acting.1.1.0 over_adjoint))
        (join (arm line k 4 (back +++ keep)) (arm line k 5 back) (arm_over line k 4 (back +++ keep) (omega arith) acting.1.0 (join back keep over_back over_keep)) (arm_over line k 5 back (omega arith) acting.1.0 over_back))))

    reversal_over : OverCode Q A C (reversal line k x (slots_of k m) keep back plain_call adjoint)
    reversal_over =
        let ok = pushable in
        let number = forth.slots_over Q A C C sc p ok.whole ok.scalars k m few in (
          (counts.0, number),
          (
            (counts.0, (number, acting.0.1)),
            (
              (acting.0.0, (one_word, (acting.0.1, (one_word, (((counts.0, (number, (acting.0.0, (acting.1.0, (acting.1.1.0, acting.1.1.1))))), arms_over), tt))))),
              (tt, tt),
            ),
          ),
        )

    reversed_backward_over : (unsave : Code) → OverCode Q A C unsave → OverCode Q A C (reversed_backward k line x m keep back unsave plain_call adjoint)
    reversed_backward_over unsave h = (
      counts.0,
      let ok = pushable in
          forth.pop_slots_over Q A C C sc p ok.whole ok.scalars line k m _ few (bounds.1, (bounds.0, join back _ over_back (join (reversal line k x (slots_of k m) keep back plain_call adjoint) unsave reversal_over h))),
    )

  row_over : (i k line : ℕ) (x : List ℕ) (body : Code) (m : Mark) (s : Step) → reversed_by sc p.marks.adjointed i body m ≡ Some s → Q (plain x) (Some 0) → OverMark Q A m → OverCode Q A Any body → C s.name (actuals_named s.given) × TurnsBack C p (p.callees s.name) (p.callees s.name).adjoint s.given → Counts k → Bounds k → Acting Scalar sc p k → (is_from_variable s.mark ≡ true → Q (helper slots k) (Some 0)) →
      OverCode Q A C (row_backward p i k line x s)
  row_over i k line x body m s e q om inner f counts bounds acting number =
      let ok = pushable in
      let known = forth.step_over Q A C C sc p ok.whole ok.scalars i body m s e inner in
      let stand_shot = forth.shot_stands Q A C C sc p ok.whole ok.scalars s known.given in
      let stand_saves = forth.saves_stand Q A C C sc p ok.whole ok.scalars i s known.given in
      reversed_backward_over line k (plain x) s.mark (forth.few_snapshots Q A C C sc p ok.whole ok.scalars i k body m s e om number) (pushes p line shot) (pops p line shot) (one line (call s.name (actuals_named s.given))) (one line (adjoint_call (p.callees s.name) s.given)) q counts bounds acting
      (pushes_over line shot stand_shot) (pops_over line shot stand_shot) (forth.step_called Q A C C sc p ok.whole ok.scalars line s known f.0) (turned_over line (p.callees s.name) (p.callees s.name).adjoint s.given f.1 known.given) (pops p line saves) (pops_over line saves stand_saves)
    where
      saves : List (List ℕ)
      saves = save_group p.marks i (p.callees s.name) s.given

      shot : List (List ℕ)
      shot = step_snapshot (p.callees s.name) s.read s.given

  -- ---- assignments

  -- what is taken where the condition holds is bounded by what bounds the choice
  bounded : (b : Bool) (n m : ℕ) → b ≡ true → (if b then n else 0) ≤ m → n ≤ m
  bounded true n m h le = le
  bounded false n m h le = cc

  assign_backward : (i line : ℕ) (x : List ℕ) (subs : Terms) (e : Term) → OverPlace Q A (plain x) subs → OverTerm Q A e → (p.marks.adjointed i ≡ true → p.marks.shadowed (plain x) ≡ true) → works_act p.marks i (assign (plain x) subs e) ≤ works → temps_act p.marks i (assign (plain x) subs e) ≤ temps →
      OverCode Q A C (code_if (p.marks.kept i && p.marks.saved i (plain x)) (one line (runtime (pop_word (plain x) subs))) +++ code_if (p.marks.adjointed i) (adjoint_where (active_at p.marks i) x subs e line))
  assign_backward i line x subs e here w f most all =
      join (code_if (p.marks.kept i && p.marks.saved i (plain x)) (one line (runtime (pop_word (plain x) subs)))) (code_if (p.marks.adjointed i) (adjoint_where (active_at p.marks i) x subs e line))
      (guard (p.marks.kept i && p.marks.saved i (plain x)) (one line (runtime (pop_word (plain x) subs))) (λ t. (here, tt)))
      (guard (p.marks.adjointed i) (adjoint_where (active_at p.marks i) x subs e line)
      (λ t. adjoint_over (active_at p.marks i) Q A C temps temp_stands works work_stands
      (λ y n on q. let marked = and_true (p.marks.varied (point_before i) (plain y)) (p.marks.shadowed (plain y)) on in allows.shadows y (Some n) marked.1 q) x subs e line
      (place_other Q A (plain x) (shadow x) subs (λ q. allows.shadows x (Some (standing.count_of subs)) (f t) q) here) w
      (bounded (p.marks.adjointed i) (works_in_where (active_at p.marks i) e 1) works t most) (bounded (p.marks.adjointed i) (temps_in_where (active_at p.marks i) e) temps t all)))

  -- ---- statements and lists

  -- the helpers of a list that has a backward sweep stand
  abbrev IsHelped : ℕ → ℕ → Code → Type 0
  IsHelped i d c = is_empty (backward_with sc p i d c) ≡ false → Helped Scalar sc p i d c

  abbrev Back : ℕ → ℕ → Code → Type 0
  Back i d c = OverCode Q A C (backward_with sc p i d c)

  choose_over : (i d line : ℕ) (c : Test) (a b : Code) → (is_empty (backward_act_with sc p i d line (choose c a b)) ≡ false → HelpedAct Scalar sc p i d (choose c a b)) → (IsHelped (suc i) d a → Back (suc i) d a) → (IsHelped (behind (suc i) a) d b → Back (behind (suc i) a) d b) → OverCode Q A C (backward_act_with sc p i d line (choose c a b))
  choose_over i d line c a b h one_part other_part =
      guard (is_emitted p.marks i) (told_backward (idle_parts Scalar sc p i d a b) line (backward_with sc p (suc i) d a) (backward_with sc p (behind (suc i) a) d b))
      (λ t. told_backward_over (idle_parts Scalar sc p i d a b) line (backward_with sc p (suc i) d a) (backward_with sc p (behind (suc i) a) d b) (λ e. let there = told t e in there.controls (tells_here Scalar sc p i d c a b e)) (inside t) (outside t))
    where
      told : is_emitted p.marks i ≡ true → idle_parts Scalar sc p i d a b ≡ false → HelpedAct Scalar sc p i d (choose c a b)
      told t e = h (told_there (is_emitted p.marks i) (idle_parts Scalar sc p i d a b) line (backward_with sc p (suc i) d a) (backward_with sc p (behind (suc i) a) d b) t e)

      inside : is_emitted p.marks i ≡ true → Back (suc i) d a
      inside t = one_part (λ e. let none = not_first (is_empty (backward_with sc p (suc i) d a)) (is_empty (backward_with sc p (behind (suc i) a) d b)) e in helped_first Scalar sc p i d c a b none (told t none))

      outside : is_emitted p.marks i ≡ true → Back (behind (suc i) a) d b
      outside t = other_part (λ e. let none = not_second (is_empty (backward_with sc p (suc i) d a)) (is_empty (backward_with sc p (behind (suc i) a) d b)) e in helped_other Scalar sc p i d c a b none (told t none))

  -- the rows of a loop, by how it is reversed, and what stands behind them
  abbrev rows_back : ℕ → ℕ → ℕ → List ℕ → Code → Option Step → Code
  rows_back i d line x body o = found_or o (loop_backward (idle_body Scalar sc p i d body) (suc d) line (plain x) (backward_with sc p (suc i) (suc d) body)) (λ s. row_backward p i (suc d) line x s)

  abbrev after : ℕ → ℕ → List ℕ → Code
  after i line x = code_if (p.marks.saved i (plain x)) (one line (runtime (pop_word (plain x) none))) +++ reset p.marks i line x

  -- a loop, by how it is reversed
  loop_over : (i d line : ℕ) (x : List ℕ) (a b c : Term) (body : Code) (m : Mark) → Q (plain x) (Some 0) → OverMark Q A m → OverCode Q A Any body → (is_empty (backward_act_with sc p i d line (loop (plain x) a b c body m)) ≡ false → HelpedAct Scalar sc p i d (loop (plain x) a b c body m)) →
      FollowsActBy sc C C p i (loop (plain x) a b c body m) → (IsHelped (suc i) (suc d) body → Back (suc i) (suc d) body) → OverCode Q A C (backward_act_with sc p i d line (loop (plain x) a b c body m))
  loop_over i d line x a b c body m q om inner h f body_is = go (reversed_by sc p.marks.adjointed i body m) refl f.0
    where
      -- the statement around a row
      around : (o : Option Step) → (is_emitted p.marks i ≡ true → OverCode Q A C (rows_back i d line x body o)) → OverCode Q A C (code_if (is_emitted p.marks i) (rows_back i d line x body o +++ after i line x))
      around o rows =
          guard (is_emitted p.marks i) (rows_back i d line x body o +++ after i line x)
          (λ t. join (rows_back i d line x body o) (after i line x) (rows t) (join (code_if (p.marks.saved i (plain x)) (one line (runtime (pop_word (plain x) none)))) (reset p.marks i line x) (guard (p.marks.saved i (plain x)) (one line (runtime (pop_word (plain x) none))) (λ s. (q, tt))) (reset_over i line x q)))

      go : (o : Option Step) → reversed_by sc p.marks.adjointed i body m ≡ o → ByStep o (Unit {0}) (λ s. C s.name (actuals_named s.given) × TurnsBack C p (p.callees s.name) (p.callees s.name).adjoint s.given) → OverCode Q A C (code_if (is_emitted p.marks i) (rows_back i d line x body o +++ after i line x))
      go None e g = around None (λ t. loop_backward_over (idle_body Scalar sc p i d body) (suc d) line (plain x) (backward_with sc p (suc i) (suc d) body) (helpers t) q (inside t))
        where
          told : is_emitted p.marks i ≡ true → idle_body Scalar sc p i d body ≡ false → HelpedAct Scalar sc p i d (loop (plain x) a b c body m)
          told t n = h (subst (λ o. is_empty (code_if (is_emitted p.marks i) (rows_back i d line x body o +++ after i line x)) ≡ false) (sym e) (loop_there (is_emitted p.marks i) (idle_body Scalar sc p i d body) (suc d) line (plain x) (backward_with sc p (suc i) (suc d) body) (after i line x) t n))

          helpers : is_emitted p.marks i ≡ true → idle_body Scalar sc p i d body ≡ false → Counts (suc d) × Bounds (suc d)
          helpers t n = (loop_counts Scalar sc p i d (plain x) a b c body m e n (told t n), loop_bounds Scalar sc p i d (plain x) a b c body m e n (told t n))

          inside : is_emitted p.marks i ≡ true → Back (suc i) (suc d) body
          inside t = body_is (λ n. helped_body Scalar sc p i d (plain x) a b c body m e n (told t n))
      go (Some s) e g = around (Some s) (λ t. row_over i (suc d) line x body m s e q om inner g (reversed_counts Scalar sc p i d (plain x) a b c body m s e (told t)) (reversed_bounds Scalar sc p i d (plain x) a b c body m s e (told t)) (reversed_actions Scalar sc p i d (plain x) a b c body m s e (told t)) (reversed_numbers Scalar sc p i d (plain x) a b c body m s e (told t)))
        where
          told : is_emitted p.marks i ≡ true → HelpedAct Scalar sc p i d (loop (plain x) a b c body m)
          told t = h (subst (λ o. is_empty (code_if (is_emitted p.marks i) (rows_back i d line x body o +++ after i line x)) ≡ false) (sym e) (subst (λ k. is_empty (code_if k (row_backward p i (suc d) line x s +++ after i line x)) ≡ false) (sym t) refl))

  while_over : (i d line : ℕ) (c : Test) (body : Code) → (is_empty (backward_act_with sc p i d line (during c body)) ≡ false → HelpedAct Scalar sc p i d (during c body)) → (IsHelped (suc i) (suc d) body → Back (suc i) (suc d) body) → OverCode Q A C (backward_act_with sc p i d line (during c body))
  while_over i d line c body h body_is =
      guard (is_emitted p.marks i) (while_backward (idle_body Scalar sc p i d body) (suc d) line (backward_with sc p (suc i) (suc d) body))
      (λ t. while_backward_over (idle_body Scalar sc p i d body) (suc d) line (backward_with sc p (suc i) (suc d) body) (λ e. while_counts Scalar sc p i d c body e (told t e)) (body_is (λ e. helped_turns Scalar sc p i d c body e (told t e))))
    where
      told : is_emitted p.marks i ≡ true → idle_body Scalar sc p i d body ≡ false → HelpedAct Scalar sc p i d (during c body)
      told t e = h (while_there (is_emitted p.marks i) (idle_body Scalar sc p i d body) (suc d) line (backward_with sc p (suc i) (suc d) body) t e)

  mutual
    act_over : (i d line : ℕ) (a : Act) → FollowsActBy sc C C p i a → OverAct Q A Any a → (is_empty (backward_act_with sc p i d line a) ≡ false → HelpedAct Scalar sc p i d a) → works_act p.marks i a ≤ works → temps_act p.marks i a ≤ temps → OverCode Q A C (backward_act_with sc p i d line a)
    act_over i d line (assign (plain x) subs e) f o h most all = assign_backward i line x subs e o.0 o.1 f most all
    act_over i d line (assign (shadow x) subs e) f o h most all = tt
    act_over i d line (assign (helper r k) subs e) f o h most all = tt
    act_over i d line (choose c a b) f o h most all = choose_over i d line c a b h (λ g. code_over (suc i) d a f.0 o.1.0 g (omega arith) (omega arith)) (λ g. code_over (behind (suc i) a) d b f.1 o.1.1 g (omega arith) (omega arith))
    act_over i d line (loop (plain x) a b c body m) f o h most all = loop_over i d line x a b c body m o.0 o.1.1.1.1.1 o.1.1.1.1.0 h f (λ g. code_over (suc i) (suc d) body f.1 o.1.1.1.1.0 g most all)
    act_over i d line (loop (shadow x) a b c body m) f o h most all = tt
    act_over i d line (loop (helper r k) a b c body m) f o h most all = tt
    act_over i d line (during c body) f o h most all = while_over i d line c body h (λ g. code_over (suc i) (suc d) body f o.1 g most all)
    act_over i d line (call name args) f o h most all = call_backward i d line name args o.1.0 f
    act_over i d line (runtime r) f o h most all = tt

    code_over : (i d : ℕ) (c : Code) → FollowsBy sc C C p i c → OverCode Q A Any c → IsHelped i d c → works_used p.marks i c ≤ works → temps_used p.marks i c ≤ temps → Back i d c
    code_over i d stop f o h most all = tt
    code_over i d (step line a rest) f o h most all =
        join (backward_with sc p (next i a) d rest) (backward_act_with sc p i d line a)
        (code_over (next i a) d rest f.1 o.1 (λ e. helped_rest Scalar sc p i d line a rest (h (empty_first (backward_with sc p (next i a) d rest) (backward_act_with sc p i d line a) e))) (omega arith) (omega arith))
        (act_over i d line a f.0 o.0 (λ e. helped_front Scalar sc p i d line a rest (h (empty_second (backward_with sc p (next i a) d rest) (backward_act_with sc p i d line a) e))) (omega arith) (omega arith))

  -- ---- the bodies of an adjoint and of a backward unit

  cleared_over : (line : ℕ) (xs : List (List ℕ)) → Each (λ x. Q (plain x) None × (p.marks.shadowed (plain x) ≡ true)) xs → OverCode Q A C (cleared p line xs)
  cleared_over line [] h = tt
  cleared_over line (x ∷ xs) h =
      join (if p.arrays (plain x) then one line (runtime (zero_array (shadow x))) else one line (assign (shadow x) none (literal 0))) (cleared p line xs) (go (p.arrays (plain x)) refl) (cleared_over line xs h.1)
    where
      go : (b : Bool) → p.arrays (plain x) ≡ b → OverCode Q A C (if b then one line (runtime (zero_array (shadow x))) else one line (assign (shadow x) none (literal 0)))
      go true e = ((allows.shadows x None h.0.1 h.0.0, allows.whole_shadows x h.0.1 e h.0.0), tt)
      go false e = let ok = pushable in ((allows.shadows x (Some 0) h.0.1 (ok.scalars x e h.0.0), zero_word), tt)

  -- the helpers of both sweeps are those of the forward sweep, too
  both_in_forth : (v : Var) → Scalar v → InForth Scalar v
  both_in_forth (plain x) h = tt
  both_in_forth (shadow x) h = tt
  both_in_forth (helper work k) h = tt
  both_in_forth (helper temp k) h = tt
  both_in_forth (helper control k) h = tt
  both_in_forth (helper first k) h = h
  both_in_forth (helper stride k) h = h
  both_in_forth (helper count k) h = h
  both_in_forth (helper turn k) h = tt
  both_in_forth (helper entry k) h = tt
  both_in_forth (helper entries k) h = tt
  both_in_forth (helper kind k) h = tt
  both_in_forth (helper lower k) h = tt
  both_in_forth (helper upper k) h = tt
  both_in_forth (helper slots k) h = h

  pub body_over : (i line : ℕ) (c : Code) (at_turn at_end : List (List ℕ)) → FollowsBy sc C C p i c → OverCode Q A Any c → Helped Scalar sc p i 0 c → works_used p.marks i c ≤ works → temps_used p.marks i c ≤ temps →
      Each (λ x. Q (plain x) None × (p.marks.shadowed (plain x) ≡ true)) at_turn → Each (λ x. Q (plain x) None × (p.marks.shadowed (plain x) ≡ true)) at_end → OverCode Q A C (adjoint_body_with sc p i line c at_turn at_end)
  body_over i line c at_turn at_end f o h most all turned ended =
      let ok = pushable in
      join (forward_with sc p i 0 c) _ (forth.forth_over Q A C C sc p ok.whole ok.scalars i c f o (helped_more Scalar (λ v. InForth Scalar v) both_in_forth sc p i 0 c h))
      (join (cleared p line at_turn) _ (cleared_over line at_turn turned) (join (backward_with sc p i 0 c) (cleared p line at_end) (code_over i 0 c f o (λ e. h) most all) (cleared_over line at_end ended)))

  pub back_body_over : (i line : ℕ) (left : List (List ℕ)) (c : Code) → FollowsBy sc C C p i c → OverCode Q A Any c → Helped Scalar sc p i 0 c → works_used p.marks i c ≤ works → temps_used p.marks i c ≤ temps → Stands left → OverCode Q A C (back_body sc p i line left c)
  back_body_over i line left c f o h most all stand = join (pops p line left) (backward_with sc p i 0 c) (pops_over line left stand) (code_over i 0 c f o (λ e. h) most all)
