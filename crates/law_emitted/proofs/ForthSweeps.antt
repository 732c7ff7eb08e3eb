-- The forward sweep of statements is formed as written code is, where what it uses stands: helpers of loops, and arrays in calls of the runtime. It uses no shadow.
use Rattle.std.proofs.Common.{◌≡◌, ℕ, suc, ◌<◌, ◌≤◌, ◌^◌, Bool, true, false, List, [], ◌∷◌, refl, sym, ap, ◌∙◌, subst, arith, if◌then◌else◌}
use Rattle.std.specs.Prelude.{◌&&◌, ◌||◌, Option, Some, None}
use Rattle.adj_tree.specs.Code.{Var, plain, shadow, helper, first, stride, count, slots, plus, Term, var, bin, Terms, none, Test, Mark, unmarked, with_count, count_from, push_word, pop_word, push_array, pop_array, push_control, Act, assign, choose, loop, during, call, runtime, Code, stop, step}
use Rattle.def_meaning.specs.Append.{◌+++◌, one}
use Rattle.def_names.specs.Numbers.{Vars, everything, next, behind}
use Rattle.def_sweep.specs.Marked.{code_if}
use Rattle.def_sweep.specs.Plan.{Callee, Plan, is_emitted, names_of, actuals_named, group, save_group, snapshot_group, step_snapshot, found_or, Schedules, Step, is_from_variable, reversed_by, ByStep}
use Rattle.def_sweep.specs.ReversalCode.{slots_of, set_slots, push_slots, pop_slots, reversed_forward, row_forward, row_backward}
use Rattle.def_sweep.specs.Rows.{is_empty, push, pop, pushes, pops, literal, told_forward, told_backward, loop_forward, loop_backward, while_forward, while_backward, reset}
use Rattle.def_sweep.specs.Emission.{forward_act_with, forward_with, backward_act_with, backward_with}
use Rattle.law_emitted.proofs.Lists.{Each}
use Rattle.law_emitted.proofs.Follows.{FollowsActBy, FollowsBy, IsCallable, TurnsBack}
use Rattle.law_emitted.proofs.Over.{OverTerm, OverPlace, OverTest, OverActuals, OverMark, OverAct, OverCode, Any, over_append, over_if, names_stand}
use Rattle.law_emitted.proofs.StepCalls.{step_body, step_mark}
use Rattle.law_emitted.proofs.Helpers.{InForth, HelpedAct, Helped, helped_front, helped_rest, idle_parts, helped_first, helped_other, idle_body, helped_body, loop_counts, loop_bounds, helped_turns, while_counts, reversed_counts, reversed_bounds, reversed_numbers}

-- ---- what is empty

pub empty_append : (c d : Code) → is_empty (c +++ d) ≡ (is_empty c && is_empty d)
empty_append stop d = refl
empty_append (step line a c) d = refl

-- two lists of which one isn't empty
pub empty_first : (c d : Code) → is_empty c ≡ false → is_empty (c +++ d) ≡ false
empty_first c d h = empty_append c d ∙ ap (λ b. b && is_empty d) h

pub empty_second : (c d : Code) → is_empty d ≡ false → is_empty (c +++ d) ≡ false
empty_second c d h = empty_append c d ∙ go (is_empty c) (is_empty d) h
  where
    go : (a b : Bool) → b ≡ false → (a && b) ≡ false
    go true b h = h
    go false b h = refl

-- one of two isn't empty, so not both are
pub not_first : (a b : Bool) → a ≡ false → (a && b) ≡ false
not_first true b h = cc
not_first false b h = refl

pub not_second : (a b : Bool) → b ≡ false → (a && b) ≡ false
not_second true b h = h
not_second false b h = refl

-- a row that is emitted and isn't idle has a backward sweep
pub told_there : (b idle : Bool) (line : ℕ) (c d : Code) → b ≡ true → idle ≡ false → is_empty (code_if b (told_backward idle line c d)) ≡ false
told_there true true line c d h e = cc
told_there true false line c d h e = refl
told_there false idle line c d h e = cc

pub loop_there : (b idle : Bool) (k line : ℕ) (x : Var) (body rest : Code) → b ≡ true → idle ≡ false → is_empty (code_if b (loop_backward idle k line x body +++ rest)) ≡ false
loop_there true true k line x body rest h e = cc
loop_there true false k line x body rest h e = refl
loop_there false idle k line x body rest h e = cc

pub while_there : (b idle : Bool) (k line : ℕ) (body : Code) → b ≡ true → idle ≡ false → is_empty (code_if b (while_backward idle k line body)) ≡ false
while_there true true k line body h e = cc
while_there true false k line body h e = refl
while_there false idle k line body h e = cc

-- ---- what may stand

module _ (Q : Var → Option ℕ → Type 0) (A : Var → Type 0) (C B : List ℕ → Terms → Type 0) (sc : Schedules) (p : Plan)
    (whole : (x : List ℕ) → p.arrays (plain x) ≡ true → Q (plain x) None → A (plain x)) (scalars : (x : List ℕ) → p.arrays (plain x) ≡ false → Q (plain x) None → Q (plain x) (Some 0)) where
  abbrev pub Stands : List (List ℕ) → Type 0
  Stands xs = Each (λ x. Q (plain x) None) xs

  -- what is asked of helpers
  abbrev pub AsScalar : Var → Type 0
  AsScalar v = Q v (Some 0)

  abbrev pub Forth : Var → Type 0
  Forth v = InForth AsScalar v

  pub one_word : 1 < 2 ^ 63
  one_word = omega arith

  pub zero_word : 0 < 2 ^ 63
  zero_word = omega arith

  pub join : (c d : Code) → OverCode Q A C c → OverCode Q A C d → OverCode Q A C (c +++ d)
  join c d h g = over_append Q A C c d h g

  pub guard : (b : Bool) (c : Code) → (b ≡ true → OverCode Q A C c) → OverCode Q A C (code_if b c)
  guard b c h = over_if Q A C b c h

  -- ---- groups

  pub group_stands : (f g : Vars) (ds given : List (List ℕ)) → Stands given → Stands (group f g ds given)
  group_stands f g [] given h = tt
  group_stands f g (d ∷ ds) [] h = tt
  group_stands f g (d ∷ ds) (a ∷ given) h = go (f (plain d) && g (plain a)) (group_stands f g ds given h.1)
    where
      go : (b : Bool) → Stands (group f g ds given) → Stands (if b then a ∷ group f g ds given else group f g ds given)
      go true ih = (h.0, ih)
      go false ih = ih

  push_over : (line : ℕ) (x : List ℕ) → Q (plain x) None → OverCode Q A C (push p line x)
  push_over line x h = go (p.arrays (plain x)) refl
    where
      go : (b : Bool) → p.arrays (plain x) ≡ b → OverCode Q A C (one line (runtime (if b then push_array (plain x) else push_word (plain x) none)))
      go true e = ((h, whole x e h), tt)
      go false e = (scalars x e h, tt)

  pop_over : (line : ℕ) (x : List ℕ) → Q (plain x) None → OverCode Q A C (pop p line x)
  pop_over line x h = go (p.arrays (plain x)) refl
    where
      go : (b : Bool) → p.arrays (plain x) ≡ b → OverCode Q A C (one line (runtime (if b then pop_array (plain x) else pop_word (plain x) none)))
      go true e = ((h, whole x e h), tt)
      go false e = (scalars x e h, tt)

  pub pushes_over : (line : ℕ) (xs : List (List ℕ)) → Stands xs → OverCode Q A C (pushes p line xs)
  pushes_over line [] h = tt
  pushes_over line (x ∷ xs) h = join (push p line x) (pushes p line xs) (push_over line x h.0) (pushes_over line xs h.1)

  pub pops_over : (line : ℕ) (xs : List (List ℕ)) → Stands xs → OverCode Q A C (pops p line xs)
  pops_over line [] h = tt
  pops_over line (x ∷ xs) h = join (pops p line xs) (pop p line x) (pops_over line xs h.1) (pop_over line x h.0)

  -- ---- calls

  -- a choice of which each part is so
  pub either_over : (b : Bool) (c d : Code) → (b ≡ true → OverCode Q A C c) → (b ≡ false → OverCode Q A C d) → OverCode Q A C (if b then c else d)
  either_over true c d h g = h refl
  either_over false c d h g = g refl

  call_forward : (i d line : ℕ) (name : List ℕ) (args : Terms) → OverAct Q A Any (call name args) → FollowsActBy sc C B p i (call name args) → OverCode Q A C (forward_act_with sc p i d line (call name args))
  call_forward i d line name args o f =
      guard (is_emitted p.marks i) _ (λ emitted.
      either_over (p.marks.split i) (one line (call g.forth args)) _ (λ s. let split = (f.1.1 emitted s).0 in ((split.0.0, (o.1.0, (split.0.1, split.1))), tt))
      (λ u. join (pushes p line saves) _ (pushes_over line saves (group_stands g.written (p.marks.saved i) g.dummies given stand))
      (join (code_if (p.marks.adjointed i) (pushes p line members)) _
      (guard (p.marks.adjointed i) (pushes p line members) (λ t. pushes_over line members (group_stands (λ d. g.written d && g.members d) everything g.dummies given stand)))
      (guard (p.marks.kept i) (one line (call name args)) (λ t. ((o.0, (o.1.0, (o.1.1.0, f.0 t u))), tt))))))
    where
      g : Callee
      g = p.callees name

      given : List (List ℕ)
      given = names_of args

      saves : List (List ℕ)
      saves = save_group p.marks i (p.callees name) (names_of args)

      members : List (List ℕ)
      members = snapshot_group (p.callees name) (names_of args)

      stand : Stands (names_of args)
      stand = names_stand Q A args o.1.0

  -- ---- rows

  told_forward_over : (idle : Bool) (line n : ℕ) (c : Code) → n < 2 ^ 63 → OverCode Q A C c → OverCode Q A C (told_forward idle line c n)
  told_forward_over true line n c w h = h
  told_forward_over false line n c w h = join c (one line (runtime (push_control (literal n)))) h (w, tt)

  abbrev Counter : ℕ → Type 0
  Counter k = Q (helper count k) (Some 0)

  abbrev pub Bounds : ℕ → Type 0
  Bounds k = Q (helper first k) (Some 0) × Q (helper stride k) (Some 0)

  -- the count goes up
  count_over : (k line : ℕ) → Q (helper count k) (Some 0) → OverCode Q A C (one line (assign (helper count k) none (bin plus (var (helper count k)) (literal 1))))
  count_over k line h = ((h, (h, one_word)), tt)

  loop_forward_over : (idle : Bool) (k line : ℕ) (x : Var) (a b c : Term) (body : Code) → (idle ≡ false → Counter k × Bounds k) → Q x (Some 0) → OverTerm Q A a → OverTerm Q A b → OverTerm Q A c → OverCode Q A C body → OverCode Q A C (loop_forward idle k line x a b c body)
  loop_forward_over true k line x a b c body h q ha hb hc body_over = ((q, (ha, (hb, (hc, (body_over, tt))))), tt)
  loop_forward_over false k line x a b c body h q ha hb hc body_over =
      let counter = (h refl).0 in
      let bounds = (h refl).1 in (
        (bounds.0, ha),
        (
          (bounds.1, hc),
          (
            (counter, zero_word),
            ((q, (bounds.0, (hb, (bounds.1, (join body _ body_over (count_over k line counter), tt))))), (bounds.0, (bounds.1, (counter, tt)))),
          ),
        ),
      )

  while_forward_over : (idle : Bool) (k line : ℕ) (c : Test) (body : Code) → (idle ≡ false → Counter k) → OverTest Q A c → OverCode Q A C body → OverCode Q A C (while_forward idle k line c body)
  while_forward_over true k line c body h t body_over = ((t, body_over), tt)
  while_forward_over false k line c body h t body_over = let counter = h refl in ((counter, zero_word), ((t, join body _ body_over (count_over k line counter)), (counter, tt)))

  -- ---- loops that are reversed by schedules

  -- some actuals as names
  pub named_over : (given : List (List ℕ)) → Stands given → OverActuals Q A (actuals_named given)
  named_over [] h = tt
  named_over (a ∷ given) h = (h.0, named_over given h.1)

  -- the number of snapshots of a loop of depth k, by its directive
  abbrev pub Slots : ℕ → Mark → Type 0
  Slots k unmarked = Unit {0}
  Slots k (with_count n) = n ≤ 64
  Slots k (count_from x) = Q x (Some 0) × Q (helper slots k) (Some 0)

  pub slots_over : (k : ℕ) (m : Mark) → Slots k m → OverTerm Q A (slots_of k m)
  slots_over k unmarked h = zero_word
  slots_over k (with_count n) h = few_word n h
    where
      few_word : (n : ℕ) → n ≤ 64 → n < 2 ^ 63
      few_word n le = omega arith
  slots_over k (count_from x) h = h.1

  set_slots_over : (line k : ℕ) (m : Mark) (rest : Code) → Slots k m → OverCode Q A C rest → OverCode Q A C (set_slots line k m rest)
  set_slots_over line k unmarked rest h o = o
  set_slots_over line k (with_count n) rest h o = o
  set_slots_over line k (count_from x) rest h o = ((h.1, ((h.0, one_word), sixty_four)), o)
    where
      sixty_four : 64 < 2 ^ 63
      sixty_four = omega arith

  push_slots_over : (line k : ℕ) (m : Mark) (rest : Code) → Slots k m → OverCode Q A C rest → OverCode Q A C (push_slots line k m rest)
  push_slots_over line k unmarked rest h o = o
  push_slots_over line k (with_count n) rest h o = o
  push_slots_over line k (count_from x) rest h o = (h.1, o)

  pub pop_slots_over : (line k : ℕ) (m : Mark) (rest : Code) → Slots k m → OverCode Q A C rest → OverCode Q A C (pop_slots line k m rest)
  pop_slots_over line k unmarked rest h o = o
  pop_slots_over line k (with_count n) rest h o = o
  pop_slots_over line k (count_from x) rest h o = (h.1, o)

  reversed_forward_over : (k line : ℕ) (x : Var) (a b c : Term) (m : Mark) (save keep plain_call : Code) → Q x (Some 0) → Counter k → Bounds k → Slots k m → OverTerm Q A a → OverTerm Q A b → OverTerm Q A c → OverCode Q A C save → OverCode Q A C keep → OverCode Q A C plain_call → OverCode Q A C (reversed_forward k line x a b c m save keep plain_call)
  reversed_forward_over k line x a b c m save keep plain_call q counter bounds few ha hb hc over_save over_keep over_call = (
    (bounds.0, ha),
    (
      (bounds.1, hc),
      set_slots_over line k m _ few (
        (counter, zero_word),
        join save _ over_save (join keep _ over_keep ((q, (bounds.0, (hb, (bounds.1, (join plain_call _ over_call (count_over k line counter), tt))))), (bounds.0, (bounds.1, push_slots_over line k m _ few (counter, tt))))),
      ),
    ),
  )

  -- what is known of the step call of such a loop: its unit may be called, and its actuals stand
  pub record StepOver (s : Step) : Type 0 where
    pub callable : IsCallable s.name
    pub given : Stands s.given

  pub step_over : (i : ℕ) (body : Code) (m : Mark) (s : Step) → reversed_by sc p.marks.adjointed i body m ≡ Some s → OverCode Q A Any body → StepOver s
  step_over i body m s e = step_body (λ c s. OverCode Q A Any c → StepOver s) there sc p.marks.adjointed i body m s e
    where
      there : (l : ℕ) (name : List ℕ) (args : Terms) (read : Vars) (n : Mark) → OverCode Q A Any (step l (call name args) stop) → StepOver (record { name = name; given = names_of args; read = read; mark = n })
      there l name args read n o = record { callable = (o.0.0, o.0.1.1.0); given = names_stand Q A args o.0.1.0 }

  -- its number of snapshots stands, where the helper for it does
  pub few_snapshots : (i k : ℕ) (body : Code) (m : Mark) (s : Step) → reversed_by sc p.marks.adjointed i body m ≡ Some s → OverMark Q A m → (is_from_variable s.mark ≡ true → Q (helper slots k) (Some 0)) → Slots k s.mark
  few_snapshots i k body m s e om number = go s.mark (subst (OverMark Q A) (step_mark sc p.marks.adjointed i body m s e).0 om) number
    where
      go : (m : Mark) → OverMark Q A m → (is_from_variable m ≡ true → Q (helper slots k) (Some 0)) → Slots k m
      go unmarked o h = tt
      go (with_count n) o h = o.1
      go (count_from y) o h = (o, h refl)

  -- the groups of the step call
  pub saves_stand : (i : ℕ) (s : Step) → Stands s.given → Stands (save_group p.marks i (p.callees s.name) s.given)
  saves_stand i s h = group_stands (p.callees s.name).written (p.marks.saved i) (p.callees s.name).dummies s.given h

  pub shot_stands : (s : Step) → Stands s.given → Stands (step_snapshot (p.callees s.name) s.read s.given)
  shot_stands s h = group_stands (λ d. (p.callees s.name).written d && ((p.callees s.name).members d || s.read d)) everything (p.callees s.name).dummies s.given h

  -- and the call
  pub step_called : (line : ℕ) (s : Step) → StepOver s → C s.name (actuals_named s.given) → OverCode Q A C (one line (call s.name (actuals_named s.given)))
  step_called line s known c = ((known.callable.0, (named_over s.given known.given, (known.callable.1, c))), tt)

  row_over : (i k line : ℕ) (x : List ℕ) (a b c : Term) (body : Code) (m : Mark) (s : Step) → reversed_by sc p.marks.adjointed i body m ≡ Some s → Q (plain x) (Some 0) → OverTerm Q A a → OverTerm Q A b → OverTerm Q A c → OverMark Q A m → OverCode Q A Any body → C s.name (actuals_named s.given) → Counter k → Bounds k → (is_from_variable s.mark ≡ true → Q (helper slots k) (Some 0)) →
      OverCode Q A C (row_forward p i k line x a b c s)
  row_over i k line x a b c body m s e q oa ob oc om inner f counter bounds number =
      let known = step_over i body m s e inner in
      let saves = save_group p.marks i (p.callees s.name) s.given in
      let shot = step_snapshot (p.callees s.name) s.read s.given in
      let plain_call = one line (call s.name (actuals_named s.given)) in
      reversed_forward_over k line (plain x) a b c s.mark (pushes p line saves) (pushes p line shot) (code_if (p.marks.kept (suc i)) plain_call) q counter bounds (few_snapshots i k body m s e om number) oa ob oc
      (pushes_over line saves (saves_stand i s known.given)) (pushes_over line shot (shot_stands s known.given)) (guard (p.marks.kept (suc i)) plain_call (λ t. step_called line s known f))

  -- ---- assignments

  assign_forward : (i line : ℕ) (x : List ℕ) (subs : Terms) (e : Term) → OverPlace Q A (plain x) subs → OverTerm Q A e → OverCode Q A C (code_if (p.marks.kept i) (code_if (p.marks.saved i (plain x)) (one line (runtime (push_word (plain x) subs))) +++ one line (assign (plain x) subs e)))
  assign_forward i line x subs e here w =
      guard (p.marks.kept i) (code_if (p.marks.saved i (plain x)) (one line (runtime (push_word (plain x) subs))) +++ one line (assign (plain x) subs e))
      (λ t. join (code_if (p.marks.saved i (plain x)) (one line (runtime (push_word (plain x) subs)))) (one line (assign (plain x) subs e)) (guard (p.marks.saved i (plain x)) (one line (runtime (push_word (plain x) subs))) (λ s. (here, tt))) ((here, w), tt))

  -- ---- statements and lists

  -- the helpers of a list that has a backward sweep stand
  abbrev IsHelped : ℕ → ℕ → Code → Type 0
  IsHelped i d c = is_empty (backward_with sc p i d c) ≡ false → Helped Forth sc p i d c

  choose_over : (i d line : ℕ) (c : Test) (a b : Code) → OverTest Q A c → (is_empty (backward_act_with sc p i d line (choose c a b)) ≡ false → HelpedAct Forth sc p i d (choose c a b)) →
      (IsHelped (suc i) d a → OverCode Q A C (forward_with sc p (suc i) d a)) → (IsHelped (behind (suc i) a) d b → OverCode Q A C (forward_with sc p (behind (suc i) a) d b)) → OverCode Q A C (forward_act_with sc p i d line (choose c a b))
  choose_over i d line c a b o h one_part other_part =
      guard (is_emitted p.marks i) (one line (choose c (told_forward (idle_parts Forth sc p i d a b) line (forward_with sc p (suc i) d a) 1) (told_forward (idle_parts Forth sc p i d a b) line (forward_with sc p (behind (suc i) a) d b) 0)))
      (λ t. ((o, (told_forward_over (idle_parts Forth sc p i d a b) line 1 (forward_with sc p (suc i) d a) one_word (inside t), told_forward_over (idle_parts Forth sc p i d a b) line 0 (forward_with sc p (behind (suc i) a) d b) zero_word (outside t))), tt))
    where
      told : is_emitted p.marks i ≡ true → idle_parts Forth sc p i d a b ≡ false → HelpedAct Forth sc p i d (choose c a b)
      told t e = h (told_there (is_emitted p.marks i) (idle_parts Forth sc p i d a b) line (backward_with sc p (suc i) d a) (backward_with sc p (behind (suc i) a) d b) t e)

      inside : is_emitted p.marks i ≡ true → OverCode Q A C (forward_with sc p (suc i) d a)
      inside t = one_part (λ e. let none = not_first (is_empty (backward_with sc p (suc i) d a)) (is_empty (backward_with sc p (behind (suc i) a) d b)) e in helped_first Forth sc p i d c a b none (told t none))

      outside : is_emitted p.marks i ≡ true → OverCode Q A C (forward_with sc p (behind (suc i) a) d b)
      outside t = other_part (λ e. let none = not_second (is_empty (backward_with sc p (suc i) d a)) (is_empty (backward_with sc p (behind (suc i) a) d b)) e in helped_other Forth sc p i d c a b none (told t none))

  -- the row of a loop, by how it is reversed; and what stands behind it in the backward sweep
  abbrev rows_forth : ℕ → ℕ → ℕ → List ℕ → Term → Term → Term → Code → Option Step → Code
  rows_forth i d line x a b c body o = found_or o (loop_forward (idle_body Forth sc p i d body) (suc d) line (plain x) a b c (forward_with sc p (suc i) (suc d) body)) (λ s. row_forward p i (suc d) line x a b c s)

  abbrev rows_back : ℕ → ℕ → ℕ → List ℕ → Code → Option Step → Code
  rows_back i d line x body o = found_or o (loop_backward (idle_body Forth sc p i d body) (suc d) line (plain x) (backward_with sc p (suc i) (suc d) body)) (λ s. row_backward p i (suc d) line x s)

  abbrev after : ℕ → ℕ → List ℕ → Code
  after i line x = code_if (p.marks.saved i (plain x)) (one line (runtime (pop_word (plain x) none))) +++ reset p.marks i line x

  loop_over : (i d line : ℕ) (x : List ℕ) (a b c : Term) (body : Code) (m : Mark) → Q (plain x) (Some 0) → OverTerm Q A a → OverTerm Q A b → OverTerm Q A c → OverMark Q A m → OverCode Q A Any body → (is_empty (backward_act_with sc p i d line (loop (plain x) a b c body m)) ≡ false → HelpedAct Forth sc p i d (loop (plain x) a b c body m)) →
      FollowsActBy sc C B p i (loop (plain x) a b c body m) → (IsHelped (suc i) (suc d) body → OverCode Q A C (forward_with sc p (suc i) (suc d) body)) → OverCode Q A C (forward_act_with sc p i d line (loop (plain x) a b c body m))
  loop_over i d line x a b c body m q oa ob oc om inner h f body_is = go (reversed_by sc p.marks.adjointed i body m) refl f.0
    where
      -- the statement around a row
      around : (o : Option Step) → (is_emitted p.marks i ≡ true → OverCode Q A C (rows_forth i d line x a b c body o)) → OverCode Q A C (code_if (is_emitted p.marks i) (code_if (p.marks.saved i (plain x)) (one line (runtime (push_word (plain x) none))) +++ rows_forth i d line x a b c body o))
      around o rows =
          guard (is_emitted p.marks i) (code_if (p.marks.saved i (plain x)) (one line (runtime (push_word (plain x) none))) +++ rows_forth i d line x a b c body o)
          (λ t. join (code_if (p.marks.saved i (plain x)) (one line (runtime (push_word (plain x) none)))) (rows_forth i d line x a b c body o) (guard (p.marks.saved i (plain x)) (one line (runtime (push_word (plain x) none))) (λ s. (q, tt))) (rows t))

      go : (o : Option Step) → reversed_by sc p.marks.adjointed i body m ≡ o → ByStep o (Unit {0}) (λ s. C s.name (actuals_named s.given) × TurnsBack B p (p.callees s.name) (p.callees s.name).adjoint s.given) → OverCode Q A C (code_if (is_emitted p.marks i) (code_if (p.marks.saved i (plain x)) (one line (runtime (push_word (plain x) none))) +++ rows_forth i d line x a b c body o))
      go None e g = around None (λ t. loop_forward_over (idle_body Forth sc p i d body) (suc d) line (plain x) a b c (forward_with sc p (suc i) (suc d) body) (helpers t) q oa ob oc (inside t))
        where
          told : is_emitted p.marks i ≡ true → idle_body Forth sc p i d body ≡ false → HelpedAct Forth sc p i d (loop (plain x) a b c body m)
          told t n = h (subst (λ o. is_empty (code_if (is_emitted p.marks i) (rows_back i d line x body o +++ after i line x)) ≡ false) (sym e) (loop_there (is_emitted p.marks i) (idle_body Forth sc p i d body) (suc d) line (plain x) (backward_with sc p (suc i) (suc d) body) (after i line x) t n))

          helpers : is_emitted p.marks i ≡ true → idle_body Forth sc p i d body ≡ false → Counter (suc d) × Bounds (suc d)
          helpers t n = ((loop_counts Forth sc p i d (plain x) a b c body m e n (told t n)).0, loop_bounds Forth sc p i d (plain x) a b c body m e n (told t n))

          inside : is_emitted p.marks i ≡ true → OverCode Q A C (forward_with sc p (suc i) (suc d) body)
          inside t = body_is (λ n. helped_body Forth sc p i d (plain x) a b c body m e n (told t n))
      go (Some s) e g = around (Some s) (λ t. row_over i (suc d) line x a b c body m s e q oa ob oc om inner g.0 (reversed_counts Forth sc p i d (plain x) a b c body m s e (told t)).0 (reversed_bounds Forth sc p i d (plain x) a b c body m s e (told t)) (reversed_numbers Forth sc p i d (plain x) a b c body m s e (told t)))
        where
          told : is_emitted p.marks i ≡ true → HelpedAct Forth sc p i d (loop (plain x) a b c body m)
          told t = h (subst (λ o. is_empty (code_if (is_emitted p.marks i) (rows_back i d line x body o +++ after i line x)) ≡ false) (sym e) (subst (λ k. is_empty (code_if k (row_backward p i (suc d) line x s +++ after i line x)) ≡ false) (sym t) refl))

  while_over : (i d line : ℕ) (c : Test) (body : Code) → OverTest Q A c → (is_empty (backward_act_with sc p i d line (during c body)) ≡ false → HelpedAct Forth sc p i d (during c body)) → (IsHelped (suc i) (suc d) body → OverCode Q A C (forward_with sc p (suc i) (suc d) body)) → OverCode Q A C (forward_act_with sc p i d line (during c body))
  while_over i d line c body o h body_is =
      guard (is_emitted p.marks i) (while_forward (idle_body Forth sc p i d body) (suc d) line c (forward_with sc p (suc i) (suc d) body))
      (λ t. while_forward_over (idle_body Forth sc p i d body) (suc d) line c (forward_with sc p (suc i) (suc d) body) (λ e. (while_counts Forth sc p i d c body e (told t e)).0) o (body_is (λ e. helped_turns Forth sc p i d c body e (told t e))))
    where
      told : is_emitted p.marks i ≡ true → idle_body Forth sc p i d body ≡ false → HelpedAct Forth sc p i d (during c body)
      told t e = h (while_there (is_emitted p.marks i) (idle_body Forth sc p i d body) (suc d) line (backward_with sc p (suc i) (suc d) body) t e)

  mutual
    act_over : (i d line : ℕ) (a : Act) → FollowsActBy sc C B p i a → OverAct Q A Any a → (is_empty (backward_act_with sc p i d line a) ≡ false → HelpedAct Forth sc p i d a) → OverCode Q A C (forward_act_with sc p i d line a)
    act_over i d line (assign (plain x) subs e) f o h = assign_forward i line x subs e o.0 o.1
    act_over i d line (assign (shadow x) subs e) f o h = tt
    act_over i d line (assign (helper r k) subs e) f o h = tt
    act_over i d line (choose c a b) f o h = choose_over i d line c a b o.0 h (λ g. code_over (suc i) d a f.0 o.1.0 g) (λ g. code_over (behind (suc i) a) d b f.1 o.1.1 g)
    act_over i d line (loop (plain x) a b c body m) f o h = loop_over i d line x a b c body m o.0 o.1.0 o.1.1.0 o.1.1.1.0 o.1.1.1.1.1 o.1.1.1.1.0 h f (λ g. code_over (suc i) (suc d) body f.1 o.1.1.1.1.0 g)
    act_over i d line (loop (shadow x) a b c body m) f o h = tt
    act_over i d line (loop (helper r k) a b c body m) f o h = tt
    act_over i d line (during c body) f o h = while_over i d line c body o.0 h (λ g. code_over (suc i) (suc d) body f o.1 g)
    act_over i d line (call name args) f o h = call_forward i d line name args o f
    act_over i d line (runtime r) f o h = tt

    code_over : (i d : ℕ) (c : Code) → FollowsBy sc C B p i c → OverCode Q A Any c → IsHelped i d c → OverCode Q A C (forward_with sc p i d c)
    code_over i d stop f o h = tt
    code_over i d (step line a rest) f o h =
        join (forward_act_with sc p i d line a) (forward_with sc p (next i a) d rest)
        (act_over i d line a f.0 o.0 (λ e. helped_front Forth sc p i d line a rest (h (empty_second (backward_with sc p (next i a) d rest) (backward_act_with sc p i d line a) e))))
        (code_over (next i a) d rest f.1 o.1 (λ e. helped_rest Forth sc p i d line a rest (h (empty_first (backward_with sc p (next i a) d rest) (backward_act_with sc p i d line a) e))))

  -- the forward sweep of a unit's body
  pub forth_over : (i : ℕ) (c : Code) → FollowsBy sc C B p i c → OverCode Q A Any c → Helped Forth sc p i 0 c → OverCode Q A C (forward_with sc p i 0 c)
  forth_over i c f o h = code_over i 0 c f o (λ e. h)
