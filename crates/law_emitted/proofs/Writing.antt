-- What the sweeps of a unit may write: of the unit's variables those that the unit may write, and no turn of an outer loop. So no loop writes its variable.
use Rattle.std.proofs.Common.{◌≡◌, ℕ, suc, ◌<◌, Bool, true, false, List, [], ◌∷◌, refl, sym, ◌∙◌, arith, if◌then◌else◌}
use Rattle.std.specs.Prelude.{◌&&◌, ◌||◌, not, Option, Some, None}
use Rattle.adj_tree.specs.Code.{Role, work, temp, control, first, stride, count, turn, entry, entries, kind, lower, upper, slots, Var, var_eq, name_eq, plain, shadow, helper, plus, Term, var, bin, Terms, none, more, Test, Mark, unmarked, with_count, count_from, push_word, pop_word, push_array, pop_array, push_control, zero_array, Act, assign, choose, loop, during, call, runtime, Code, stop, step}
use Rattle.def_meaning.specs.Append.{◌+++◌, one}
use Rattle.def_meaning.specs.LeastSet.{Dummies}
use Rattle.def_meaning.specs.Written.{is_handed_back, act_writes, writes}
use Rattle.law_kernel.proofs.Writes.{writes_append}
use Rattle.def_names.specs.Numbers.{Vars, everything, next, behind}
use Rattle.def_sweep.specs.Marks.{active_at}
use Rattle.def_sweep.specs.Marked.{code_if}
use Rattle.def_names.proofs.Variables.{and_true, or_left, or_right}
use Rattle.def_sweep.specs.AdjointOf.{adjoint_where}
use Rattle.def_sweep.specs.Plan.{Callee, Plan, is_emitted, names_of, actuals_named, group, save_group, snapshot_group, step_snapshot, found_or, Schedules, Step, reversed_by, ByStep}
use Rattle.def_sweep.specs.ReversalCode.{at_turn, arm, advance, arms, reversal, slots_of, set_slots, push_slots, pop_slots, reversed_forward, reversed_backward, row_forward, row_backward}
use Rattle.def_sweep.specs.Rows.{is_empty, push, pop, pushes, pops, literal, adjoint_call, with_shadows, told_forward, told_backward, loop_forward, loop_backward, while_forward, while_backward, reset}
use Rattle.def_sweep.specs.Emission.{forward_act_with, forward_with, backward_act_with, backward_with, cleared, adjoint_body_with}
use Rattle.def_sweep.specs.SplitRows.{forth_body, back_body}
use Rattle.law_emitted.proofs.Lists.{Each}
use Rattle.law_emitted.proofs.StepCalls.{step_body, from_keep, from_turn, from_advance}
use Rattle.law_emitted.proofs.Assigned.{IsMade, AreMaking, making_adjoint}

-- ---- the variables of a unit and those that are made for it

-- a variable of the unit
abbrev pub IsPlain : Var → Type 0
IsPlain (plain x) = Unit {0}
IsPlain (shadow x) = ⊥
IsPlain (helper r k) = ⊥

-- a shadow, or a helper that is no turn
abbrev pub IsBeside : Var → Type 0
IsBeside (plain x) = ⊥
IsBeside (shadow x) = Unit {0}
IsBeside (helper turn k) = ⊥
IsBeside (helper _ k) = Unit {0}

made_beside : (y : Var) → IsMade y → IsBeside y
made_beside (plain x) h = absurd h
made_beside (shadow x) h = tt
made_beside (helper work k) h = tt
made_beside (helper temp k) h = tt
made_beside (helper control k) h = absurd h
made_beside (helper first k) h = absurd h
made_beside (helper stride k) h = absurd h
made_beside (helper count k) h = absurd h
made_beside (helper turn k) h = absurd h
made_beside (helper entry k) h = absurd h
made_beside (helper entries k) h = absurd h
made_beside (helper kind k) h = absurd h
made_beside (helper lower k) h = absurd h
made_beside (helper upper k) h = absurd h
made_beside (helper slots k) h = absurd h

-- a variable that is none of the shadows and helpers besides turns
abbrev pub IsApart : Var → Type 0
IsApart v = (y : Var) → IsBeside y → var_eq v y ≡ false

pub plain_apart : (x : List ℕ) → IsApart (plain x)
plain_apart x (plain y) h = absurd h
plain_apart x (shadow y) h = refl
plain_apart x (helper r k) h = refl

pub turn_apart : (j : ℕ) → IsApart (helper turn j)
turn_apart j (plain y) h = absurd h
turn_apart j (shadow y) h = refl
turn_apart j (helper work k) h = refl
turn_apart j (helper temp k) h = refl
turn_apart j (helper control k) h = refl
turn_apart j (helper first k) h = refl
turn_apart j (helper stride k) h = refl
turn_apart j (helper count k) h = refl
turn_apart j (helper turn k) h = absurd h
turn_apart j (helper entry k) h = refl
turn_apart j (helper entries k) h = refl
turn_apart j (helper kind k) h = refl
turn_apart j (helper lower k) h = refl
turn_apart j (helper upper k) h = refl
turn_apart j (helper slots k) h = refl

-- no helper is a name that is given, or the shadow of one
none_of : (w b : Bool) → b ≡ false → ((w && false) || b) ≡ false
none_of true b h = h
none_of false b h = h

pub no_given : (r : Role) (k : ℕ) (ws : List Bool) (given : List (List ℕ)) → is_handed_back (helper r k) ws (actuals_named given) ≡ false
no_given r k [] given = refl
no_given r k (w ∷ ws) [] = refl
no_given r k (w ∷ ws) (a ∷ given) = none_of w (is_handed_back (helper r k) ws (actuals_named given)) (no_given r k ws given)

pub no_shadows_given : (r : Role) (k : ℕ) (ws : List Bool) (sh : Vars) (ds given : List (List ℕ)) → is_handed_back (helper r k) ws (with_shadows sh ds given) ≡ false
no_shadows_given r k [] sh ds given = refl
no_shadows_given r k (w ∷ ws) sh [] given = refl
no_shadows_given r k (w ∷ ws) sh (d ∷ ds) [] = refl
no_shadows_given r k (w ∷ ws) sh (d ∷ ds) (a ∷ given) = go (sh (plain d)) ws (λ zs. no_shadows_given r k zs sh ds given)
  where
    go : (b : Bool) (zs : List Bool) → ((zs : List Bool) → is_handed_back (helper r k) zs (with_shadows sh ds given) ≡ false) → is_handed_back (helper r k) (w ∷ zs) (if b then more (var (plain a)) (more (var (shadow a)) (with_shadows sh ds given)) else more (var (plain a)) (with_shadows sh ds given)) ≡ false
    go true [] later = none_of w false refl
    go true (z ∷ zs) later = none_of w ((z && false) || is_handed_back (helper r k) zs (with_shadows sh ds given)) (none_of z (is_handed_back (helper r k) zs (with_shadows sh ds given)) (later zs))
    go false zs later = none_of w (is_handed_back (helper r k) zs (with_shadows sh ds given)) (later zs)

-- the count of a loop goes up
abbrev pub raised : ℕ → ℕ → Code
raised k line = one line (assign (helper count k) none (bin plus (var (helper count k)) (literal 1)))

-- ---- what is known of the source: f says which dummies are written in what is emitted, g which in the source

module _ (f g : Dummies) (sc : Schedules) (p : Plan) where
  -- of a CALL: what it and the calls of what is made of its unit hand back, and what is pushed and popped for it, the source's CALL hands back
  pub record CallWrites (i : ℕ) (name : List ℕ) (args : Terms) : Type 0 where
    pub kept : p.marks.kept i ≡ true → p.marks.split i ≡ false → (v : Var) → is_handed_back v (f name) args ≡ true → is_handed_back v (g name) args ≡ true
    pub adjointed : p.marks.adjointed i ≡ true → p.marks.split i ≡ false → (v : Var) → IsApart v → is_handed_back v (f (p.callees name).adjoint) (with_shadows (p.callees name).shadowed (p.callees name).dummies (names_of args)) ≡ true → is_handed_back v (g name) args ≡ true
    pub forth : p.marks.split i ≡ true → (v : Var) → IsApart v → is_handed_back v (f (p.callees name).forth) args ≡ true → is_handed_back v (g name) args ≡ true
    pub back : p.marks.split i ≡ true → (v : Var) → IsApart v → is_handed_back v (f (p.callees name).back) (with_shadows (p.callees name).shadowed (p.callees name).dummies (names_of args)) ≡ true → is_handed_back v (g name) args ≡ true
    pub groups : (v : Var) (dummies actuals : Vars) → ((d : Var) → dummies d ≡ true → (p.callees name).written d ≡ true) → Each (λ a. var_eq v (plain a) ≡ true → is_handed_back v (g name) args ≡ true) (group dummies actuals (p.callees name).dummies (names_of args))
    pub own : (k : ℕ) → is_handed_back (helper turn k) (g name) args ≡ false

  -- of the step call of a loop that is reversed, and of the call of its unit's adjoint: what they hand back the body of the loop may write in the source
  pub record Turned (body : Code) (s : Step) : Type 0 where
    pub plainly : (v : Var) → is_handed_back v (f s.name) (actuals_named s.given) ≡ true → writes g v body ≡ true
    pub adjointed : (v : Var) → IsApart v → is_handed_back v (f (p.callees s.name).adjoint) (with_shadows (p.callees s.name).shadowed (p.callees s.name).dummies s.given) ≡ true → writes g v body ≡ true

  abbrev mutual
    pub KnownAct : ℕ → Act → Type 0
    KnownAct i (assign x s e) = IsPlain x
    KnownAct i (choose c a b) = Known (suc i) a × Known (behind (suc i) a) b
    KnownAct i (loop x a b c body m) = IsPlain x × (ByStep (reversed_by sc p.marks.adjointed i body m) (Unit {0}) (Turned body) × Known (suc i) body)
    KnownAct i (during c body) = Known (suc i) body
    KnownAct i (call name args) = CallWrites i name args
    KnownAct i (runtime r) = ⊥

    -- so of each statement of a list
    pub Known : ℕ → Code → Type 0
    Known i stop = Unit {0}
    Known i (step line a rest) = KnownAct i a × Known (next i a) rest

  -- the source writes no turns
  pub neither : (a b : Bool) → a ≡ false → b ≡ false → (a || b) ≡ false
  neither true b h k = cc
  neither false b h k = k

  no_turn : (k : ℕ) (x : Var) → IsPlain x → var_eq (helper turn k) x ≡ false
  no_turn k (plain x) h = refl
  no_turn k (shadow x) h = absurd h
  no_turn k (helper r j) h = absurd h

  mutual
    no_turn_act : (k i : ℕ) (a : Act) → KnownAct i a → act_writes g (helper turn k) a ≡ false
    no_turn_act k i (assign x s e) h = no_turn k x h
    no_turn_act k i (choose c a b) h = neither (writes g (helper turn k) a) (writes g (helper turn k) b) (no_turns k (suc i) a h.0) (no_turns k (behind (suc i) a) b h.1)
    no_turn_act k i (loop x a b c body m) h = neither (var_eq (helper turn k) x) (writes g (helper turn k) body) (no_turn k x h.0) (no_turns k (suc i) body h.1.1)
    no_turn_act k i (during c body) h = no_turns k (suc i) body h
    no_turn_act k i (call name args) h = h.own k
    no_turn_act k i (runtime r) h = absurd h

    pub no_turns : (k i : ℕ) (c : Code) → Known i c → writes g (helper turn k) c ≡ false
    no_turns k i stop h = refl
    no_turns k i (step line a rest) h = neither (act_writes g (helper turn k) a) (writes g (helper turn k) rest) (no_turn_act k i a h.0) (no_turns k (next i a) rest h.1)

  -- the rows of a loop, by how it is reversed
  abbrev pub rows_forth : ℕ → ℕ → ℕ → List ℕ → Term → Term → Term → Code → Option Step → Code
  rows_forth i d line x a b c body o = found_or o (loop_forward (is_empty (backward_with sc p (suc i) (suc d) body)) (suc d) line (plain x) a b c (forward_with sc p (suc i) (suc d) body)) (λ s. row_forward p i (suc d) line x a b c s)

  abbrev pub rows_back : ℕ → ℕ → ℕ → List ℕ → Code → Option Step → Code
  rows_back i d line x body o = found_or o (loop_backward (is_empty (backward_with sc p (suc i) (suc d) body)) (suc d) line (plain x) (backward_with sc p (suc i) (suc d) body)) (λ s. row_backward p i (suc d) line x s)

  -- what is popped for a step call
  abbrev pub StepPops : Code → Step → Type 0
  StepPops body s = (v : Var) (dummies actuals : Vars) → ((d : Var) → dummies d ≡ true → (p.callees s.name).written d ≡ true) → Each (λ a. var_eq v (plain a) ≡ true → writes g v body ≡ true) (group dummies actuals (p.callees s.name).dummies s.given)

  then_each : (v : Var) (a b : Bool) (xs : List (List ℕ)) → (a ≡ true → b ≡ true) → Each (λ x. var_eq v (plain x) ≡ true → a ≡ true) xs → Each (λ x. var_eq v (plain x) ≡ true → b ≡ true) xs
  then_each v a b [] h k = tt
  then_each v a b (x ∷ xs) h k = (λ e. h (k.0 e), then_each v a b xs h k.1)

  pub step_pops : (i : ℕ) (body : Code) (m : Mark) (s : Step) → reversed_by sc p.marks.adjointed i body m ≡ Some s → Known (suc i) body → StepPops body s
  step_pops i body m s e = step_body (λ c s. Known (suc i) c → StepPops c s) there sc p.marks.adjointed i body m s e
    where
      there : (l : ℕ) (name : List ℕ) (args : Terms) (read : Vars) (k : Mark) → Known (suc i) (step l (call name args) stop) → StepPops (step l (call name args) stop) (record { name = name; given = names_of args; read = read; mark = k })
      there l name args read k w v dummies actuals h = let own = w.0 in then_each v (is_handed_back v (g name) args) (is_handed_back v (g name) args || false) (group dummies actuals (p.callees name).dummies (names_of args)) (or_left (is_handed_back v (g name) args) false) (own.groups v dummies actuals h)

  -- ---- what the sweeps may write, of a variable: only where n holds

  module _ (v : Var) (apart : IsApart v) (n : Bool) where
    abbrev pub Only : Code → Type 0
    Only c = writes f v c ≡ true → n ≡ true

    abbrev OnlyAct : Act → Type 0
    OnlyAct a = act_writes f v a ≡ true → n ≡ true

    one_of : (a b : Bool) → (a ≡ true → n ≡ true) → (b ≡ true → n ≡ true) → (a || b) ≡ true → n ≡ true
    one_of true b h k e = h refl
    one_of false b h k e = k e

    pub both : {a b : Bool} → (a ≡ true → n ≡ true) → (b ≡ true → n ≡ true) → (a || b) ≡ true → n ≡ true
    both h k = one_of _ _ h k

    only_append : (c d : Code) → Only c → Only d → Only (c +++ d)
    only_append c d h k e = both h k (sym (writes_append f v c d) ∙ e)

    -- nothing is written
    pub quiet : false ≡ true → n ≡ true
    quiet e = absurd cc

    only_if : (b : Bool) (c : Code) → (b ≡ true → Only c) → Only (code_if b c)
    only_if true c h = h refl
    only_if false c h = quiet

    -- what is false doesn't hold
    never : {b : Bool} → b ≡ false → b ≡ true → n ≡ true
    never h e = absurd (let z : false ≡ true = sym h ∙ e in cc)

    beside : (y : Var) → IsBeside y → var_eq v y ≡ true → n ≡ true
    beside y h = never (apart y h)

    only_making : (c : Code) → AreMaking c → Only c
    only_making stop h = quiet
    only_making (step line (assign x s e) rest) h = both (beside x (made_beside x h.0)) (only_making rest h.1)
    only_making (step line (choose c a b) rest) h = absurd h.0
    only_making (step line (loop x a b c body m) rest) h = absurd h.0
    only_making (step line (during c body) rest) h = absurd h.0
    only_making (step line (call name args) rest) h = absurd h.0
    only_making (step line (runtime r) rest) h = absurd h.0

    -- ---- pushes and pops

    only_push : (line : ℕ) (x : List ℕ) → Only (push p line x)
    only_push line x = go (p.arrays (plain x))
      where
        go : (b : Bool) → Only (one line (runtime (if b then push_array (plain x) else push_word (plain x) none)))
        go true = quiet
        go false = quiet

    only_pop : (line : ℕ) (x : List ℕ) → (var_eq v (plain x) ≡ true → n ≡ true) → Only (pop p line x)
    only_pop line x h = go (p.arrays (plain x))
      where
        go : (b : Bool) → Only (one line (runtime (if b then pop_array (plain x) else pop_word (plain x) none)))
        go true = both h quiet
        go false = both h quiet

    only_pushes : (line : ℕ) (xs : List (List ℕ)) → Only (pushes p line xs)
    only_pushes line [] = quiet
    only_pushes line (x ∷ xs) = only_append (push p line x) (pushes p line xs) (only_push line x) (only_pushes line xs)

    only_pops : (line : ℕ) (xs : List (List ℕ)) → Each (λ a. var_eq v (plain a) ≡ true → n ≡ true) xs → Only (pops p line xs)
    only_pops line [] h = quiet
    only_pops line (x ∷ xs) h = only_append (pops p line xs) (pop p line x) (only_pops line xs h.1) (only_pop line x h.0)

    -- ---- rows

    told_forward_only : (idle : Bool) (line : ℕ) (c : Code) (k : ℕ) → Only c → Only (told_forward idle line c k)
    told_forward_only true line c k h = h
    told_forward_only false line c k h = only_append c (one line (runtime (push_control (literal k)))) h quiet

    told_backward_only : (idle : Bool) (line : ℕ) (a b : Code) → Only a → Only b → Only (told_backward idle line a b)
    told_backward_only true line a b h k = quiet
    told_backward_only false line a b h k = both (beside (helper control 0) tt) (both (both h k) quiet)

    pub only_raised : (k line : ℕ) (body : Code) → Only body → Only (body +++ raised k line)
    only_raised k line body h = only_append body (raised k line) h (both (beside (helper count k) tt) quiet)

    loop_forward_only : (idle : Bool) (k line : ℕ) (x : Var) (a b c : Term) (body : Code) → (var_eq v x ≡ true → n ≡ true) → Only body → Only (loop_forward idle k line x a b c body)
    loop_forward_only true k line x a b c body t h = both (both t h) quiet
    loop_forward_only false k line x a b c body t h = both (beside (helper first k) tt) (both (beside (helper stride k) tt) (both (beside (helper count k) tt) (both (both t (only_raised k line body h)) quiet)))

    loop_backward_only : (idle : Bool) (k line : ℕ) (x : Var) (body : Code) → var_eq v (helper turn k) ≡ false → (var_eq v x ≡ true → n ≡ true) → Only body → Only (loop_backward idle k line x body)
    loop_backward_only true k line x body s t h = quiet
    loop_backward_only false k line x body s t h = both (beside (helper count k) tt) (both (beside (helper stride k) tt) (both (beside (helper first k) tt) (both (both (never s) (both t h)) quiet)))

    while_forward_only : (idle : Bool) (k line : ℕ) (c : Test) (body : Code) → Only body → Only (while_forward idle k line c body)
    while_forward_only true k line c body h = both h quiet
    while_forward_only false k line c body h = both (beside (helper count k) tt) (both (only_raised k line body h) quiet)

    while_backward_only : (idle : Bool) (k line : ℕ) (body : Code) → var_eq v (helper turn k) ≡ false → Only body → Only (while_backward idle k line body)
    while_backward_only true k line body s h = quiet
    while_backward_only false k line body s h = both (beside (helper count k) tt) (both (both (never s) h) quiet)

    -- ---- loops that are reversed by schedules

    arm_only : (line k j : ℕ) (c : Code) → Only c → Only (arm line k j c)
    arm_only line k j c h = only_if (not (is_empty c)) _ (λ t. both (both h quiet) quiet)

    set_slots_only : (line k : ℕ) (m : Mark) (rest : Code) → Only rest → Only (set_slots line k m rest)
    set_slots_only line k unmarked rest h = h
    set_slots_only line k (with_count j) rest h = h
    set_slots_only line k (count_from y) rest h = both (beside (helper slots k) tt) h

    push_slots_only : (line k : ℕ) (m : Mark) (rest : Code) → Only rest → Only (push_slots line k m rest)
    push_slots_only line k unmarked rest h = h
    push_slots_only line k (with_count j) rest h = h
    push_slots_only line k (count_from y) rest h = h

    pop_slots_only : (line k : ℕ) (m : Mark) (rest : Code) → Only rest → Only (pop_slots line k m rest)
    pop_slots_only line k unmarked rest h = h
    pop_slots_only line k (with_count j) rest h = h
    pop_slots_only line k (count_from y) rest h = both (beside (helper slots k) tt) h

    module _ (line k : ℕ) (x : Var) (m : Mark) (keep back plain_call adjoint : Code) (outer : var_eq v (helper turn k) ≡ false) (own : var_eq v x ≡ true → n ≡ true) (only_keep : Only keep) (only_back : Only back) (only_call : Only plain_call) (only_adjoint : Only adjoint) where
      arms_only : Only (arms line k x keep back plain_call adjoint)
      arms_only =
          only_append (arm line k 1 keep) (from_advance line k x keep back plain_call adjoint) (arm_only line k 1 keep only_keep)
          (only_append (arm line k 2 (advance line k x plain_call)) (from_turn line k x keep back adjoint) (arm_only line k 2 (advance line k x plain_call) (both (both (never outer) (both own only_call)) quiet))
          (only_append (arm line k 3 (at_turn line k x lower adjoint)) (from_keep line k keep back) (arm_only line k 3 (at_turn line k x lower adjoint) (both own only_adjoint))
          (only_append (arm line k 4 (back +++ keep)) (arm line k 5 back) (arm_only line k 4 (back +++ keep) (only_append back keep only_back only_keep)) (arm_only line k 5 back only_back))))

      reversal_only : Only (reversal line k x (slots_of k m) keep back plain_call adjoint)
      reversal_only = both (beside (helper entries k) tt) (both (both (beside (helper entry k) tt) (both (both (beside (helper kind k) tt) (both (beside (helper lower k) tt) (beside (helper upper k) tt))) arms_only)) quiet)

      reversed_backward_only : (unsave : Code) → Only unsave → Only (reversed_backward k line x m keep back unsave plain_call adjoint)
      reversed_backward_only unsave h = both (beside (helper count k) tt) (pop_slots_only line k m _ (both (beside (helper stride k) tt) (both (beside (helper first k) tt) (only_append back _ only_back (only_append (reversal line k x (slots_of k m) keep back plain_call adjoint) unsave reversal_only h)))))

    reversed_forward_only : (k line : ℕ) (x : Var) (a b c : Term) (m : Mark) (save keep plain_call : Code) → (var_eq v x ≡ true → n ≡ true) → Only save → Only keep → Only plain_call → Only (reversed_forward k line x a b c m save keep plain_call)
    reversed_forward_only k line x a b c m save keep plain_call t hs hk hp = both (beside (helper first k) tt) (both (beside (helper stride k) tt) (set_slots_only line k m _ (both (beside (helper count k) tt) (only_append save _ hs (only_append keep _ hk (both (both t (only_raised k line plain_call hp)) (push_slots_only line k m _ quiet)))))))

    rows_reversed : (i k line : ℕ) (x : List ℕ) (a b c : Term) (body : Code) (s : Step) → Turned body s → StepPops body s → var_eq v (helper turn k) ≡ false → (var_eq v (plain x) ≡ true → n ≡ true) → (writes g v body ≡ true → n ≡ true) → Only (row_forward p i k line x a b c s) × Only (row_backward p i k line x s)
    rows_reversed i k line x a b c body s turned w outer own inside = (
      reversed_forward_only k line (plain x) a b c s.mark (pushes p line saves) (pushes p line shot) (code_if (p.marks.kept (suc i)) plain_call) own (only_pushes line saves) (only_pushes line shot) (only_if (p.marks.kept (suc i)) plain_call (λ t. called)),
      reversed_backward_only line k (plain x) s.mark (pushes p line shot) (pops p line shot) plain_call (one line (adjoint_call callee s.given)) outer own (only_pushes line shot) (only_pops line shot popped) called (both (λ e. inside (turned.adjointed v apart e)) quiet) (pops p line saves) (only_pops line saves unsaved),
    )
      where
        callee : Callee
        callee = p.callees s.name

        saves : List (List ℕ)
        saves = save_group p.marks i (p.callees s.name) s.given

        shot : List (List ℕ)
        shot = step_snapshot (p.callees s.name) s.read s.given

        plain_call : Code
        plain_call = one line (call s.name (actuals_named s.given))

        called : Only (one line (call s.name (actuals_named s.given)))
        called = both (λ e. inside (turned.plainly v e)) quiet

        popped : Each (λ y. var_eq v (plain y) ≡ true → n ≡ true) (step_snapshot (p.callees s.name) s.read s.given)
        popped = then_each v (writes g v body) n (step_snapshot (p.callees s.name) s.read s.given) inside (w v (λ d. (p.callees s.name).written d && ((p.callees s.name).members d || s.read d)) everything (λ d b. (and_true ((p.callees s.name).written d) ((p.callees s.name).members d || s.read d) b).0))

        unsaved : Each (λ y. var_eq v (plain y) ≡ true → n ≡ true) (save_group p.marks i (p.callees s.name) s.given)
        unsaved = then_each v (writes g v body) n (save_group p.marks i (p.callees s.name) s.given) inside (w v (p.callees s.name).written (p.marks.saved i) (λ d b. b))

    only_reset : (i line : ℕ) (x : List ℕ) → Only (reset p.marks i line x)
    only_reset i line x = only_if _ (one line (assign (shadow x) none (literal 0))) (λ t. both (beside (shadow x) tt) quiet)

    -- ---- the sweeps

    -- the variable is no turn of a loop within d others
    abbrev pub IsOuter : ℕ → Type 0
    IsOuter d = (k : ℕ) → d < k → var_eq v (helper turn k) ≡ false

    inner_turns : (d : ℕ) → IsOuter d → IsOuter (suc d)
    inner_turns d t k l = t k (omega arith)

    only_either : (b : Bool) (c d : Code) → (b ≡ true → Only c) → (b ≡ false → Only d) → Only (if b then c else d)
    only_either true c d h k = h refl
    only_either false c d h k = k refl

    call_only : (i d line : ℕ) (name : List ℕ) (args : Terms) → CallWrites i name args → (is_handed_back v (g name) args ≡ true → n ≡ true) → Only (forward_act_with sc p i d line (call name args)) × Only (backward_act_with sc p i d line (call name args))
    call_only i d line name args w h =
        let callee = p.callees name in
        let given = names_of args in (
          only_if (is_emitted p.marks i) _ (λ e.
              only_either (p.marks.split i) (one line (call callee.forth args)) _ (λ s. both (λ b. h (w.forth s v apart b)) quiet)
              (λ u. only_append (pushes p line (save_group p.marks i callee given)) _ (only_pushes line (save_group p.marks i callee given))
              (only_append (code_if (p.marks.adjointed i) _) _ (only_if (p.marks.adjointed i) _ (λ t. only_pushes line (snapshot_group callee given)))
              (only_if (p.marks.kept i) (one line (call name args)) (λ t. both (λ b. h (w.kept t u v b)) quiet))))),
          only_if (is_emitted p.marks i) _ (λ e.
              only_either (p.marks.split i) (one line (call callee.back (with_shadows callee.shadowed callee.dummies given))) _ (λ s. both (λ b. h (w.back s v apart b)) quiet)
              (λ u. only_append (code_if (p.marks.adjointed i) _) _
              (only_if (p.marks.adjointed i) _ (λ t.
              only_append (pops p line (snapshot_group callee given)) (one line (adjoint_call callee given)) (only_pops line (snapshot_group callee given) (then_each v (is_handed_back v (g name) args) n (snapshot_group callee given) h (w.groups v (λ d. callee.written d && callee.members d) everything (λ d b. (and_true (callee.written d) (callee.members d) b).0))))
              (both (λ b. h (w.adjointed t u v apart b)) quiet)))
              (only_pops line (save_group p.marks i callee given) (then_each v (is_handed_back v (g name) args) n (save_group p.marks i callee given) h (w.groups v callee.written (p.marks.saved i) (λ d b. b)))))),
        )

    rows_only : (i d line : ℕ) (x : List ℕ) (a b c : Term) (body : Code) (m : Mark) (o : Option Step) → reversed_by sc p.marks.adjointed i body m ≡ o → ByStep o (Unit {0}) (Turned body) → Known (suc i) body → var_eq v (helper turn (suc d)) ≡ false → (var_eq v (plain x) ≡ true → n ≡ true) → (writes g v body ≡ true → n ≡ true) →
        Only (forward_with sc p (suc i) (suc d) body) × Only (backward_with sc p (suc i) (suc d) body) → Only (rows_forth i d line x a b c body o) × Only (rows_back i d line x body o)
    rows_only i d line x a b c body m None e turned w outer own inside both_sweeps =
        let idle = is_empty (backward_with sc p (suc i) (suc d) body) in (
          loop_forward_only idle (suc d) line (plain x) a b c (forward_with sc p (suc i) (suc d) body) own both_sweeps.0,
          loop_backward_only idle (suc d) line (plain x) (backward_with sc p (suc i) (suc d) body) outer own both_sweeps.1,
        )
    rows_only i d line x a b c body m (Some s) e turned w outer own inside both_sweeps = rows_reversed i (suc d) line x a b c body s turned (step_pops i body m s e w) outer own inside

    mutual
      act_only : (i d line : ℕ) (a : Act) → KnownAct i a → IsOuter d → (act_writes g v a ≡ true → n ≡ true) → Only (forward_act_with sc p i d line a) × Only (backward_act_with sc p i d line a)
      act_only i d line (assign (plain x) subs e) w t h = (
        only_if (p.marks.kept i) _ (λ k. only_append (code_if (p.marks.saved i (plain x)) (one line (runtime (push_word (plain x) subs)))) (one line (assign (plain x) subs e)) (only_if (p.marks.saved i (plain x)) (one line (runtime (push_word (plain x) subs))) (λ s. quiet)) (both h quiet)),
        only_append (code_if (p.marks.kept i && p.marks.saved i (plain x)) (one line (runtime (pop_word (plain x) subs)))) (code_if (p.marks.adjointed i) (adjoint_where (active_at p.marks i) x subs e line)) (only_if (p.marks.kept i && p.marks.saved i (plain x)) (one line (runtime (pop_word (plain x) subs))) (λ s. both h quiet))
            (only_if (p.marks.adjointed i) (adjoint_where (active_at p.marks i) x subs e line) (λ s. only_making (adjoint_where (active_at p.marks i) x subs e line) (making_adjoint (active_at p.marks i) x subs e line))),
      )
      act_only i d line (assign (shadow x) subs e) w t h = absurd w
      act_only i d line (assign (helper r k) subs e) w t h = absurd w
      act_only i d line (choose c a b) w t h =
          let there = list_only (suc i) d a w.0 t (λ e. h (or_left (writes g v a) (writes g v b) e)) in
          let other = list_only (behind (suc i) a) d b w.1 t (λ e. h (or_right (writes g v a) (writes g v b) e)) in
          let idle = is_empty (backward_with sc p (suc i) d a) && is_empty (backward_with sc p (behind (suc i) a) d b) in (
            only_if (is_emitted p.marks i) _ (λ e. both (both (told_forward_only idle line (forward_with sc p (suc i) d a) 1 there.0) (told_forward_only idle line (forward_with sc p (behind (suc i) a) d b) 0 other.0)) quiet),
            only_if (is_emitted p.marks i) _ (λ e. told_backward_only idle line (backward_with sc p (suc i) d a) (backward_with sc p (behind (suc i) a) d b) there.1 other.1),
          )
      act_only i d line (loop (plain x) a b c body m) w t h =
          let inside = list_only (suc i) (suc d) body w.1.1 (inner_turns d t) (λ e. h (or_right (var_eq v (plain x)) (writes g v body) e)) in
          let own : (var_eq v (plain x) ≡ true → n ≡ true) = (λ e. h (or_left (var_eq v (plain x)) (writes g v body) e)) in
          let rows = rows_only i d line x a b c body m (reversed_by sc p.marks.adjointed i body m) refl w.1.0 w.1.1 (t (suc d) (omega arith)) own (λ e. h (or_right (var_eq v (plain x)) (writes g v body) e)) inside in (
            only_if (is_emitted p.marks i) _ (λ e. only_append (code_if (p.marks.saved i (plain x)) (one line (runtime (push_word (plain x) none)))) _ (only_if (p.marks.saved i (plain x)) (one line (runtime (push_word (plain x) none))) (λ s. quiet)) rows.0),
            only_if (is_emitted p.marks i) _ (λ e.
                only_append (rows_back i d line x body (reversed_by sc p.marks.adjointed i body m)) _ rows.1
                (only_append (code_if (p.marks.saved i (plain x)) (one line (runtime (pop_word (plain x) none)))) (reset p.marks i line x) (only_if (p.marks.saved i (plain x)) (one line (runtime (pop_word (plain x) none))) (λ s. both own quiet)) (only_reset i line x))),
          )
      act_only i d line (loop (shadow x) a b c body m) w t h = absurd w.0
      act_only i d line (loop (helper r k) a b c body m) w t h = absurd w.0
      act_only i d line (during c body) w t h =
          let inside = list_only (suc i) (suc d) body w (inner_turns d t) h in
          let idle = is_empty (backward_with sc p (suc i) (suc d) body) in (
            only_if (is_emitted p.marks i) _ (λ e. while_forward_only idle (suc d) line c (forward_with sc p (suc i) (suc d) body) inside.0),
            only_if (is_emitted p.marks i) _ (λ e. while_backward_only idle (suc d) line (backward_with sc p (suc i) (suc d) body) (t (suc d) (omega arith)) inside.1),
          )
      act_only i d line (call name args) w t h = call_only i d line name args w h
      act_only i d line (runtime r) w t h = absurd w

      pub list_only : (i d : ℕ) (c : Code) → Known i c → IsOuter d → (writes g v c ≡ true → n ≡ true) → Only (forward_with sc p i d c) × Only (backward_with sc p i d c)
      list_only i d stop w t h = (quiet, quiet)
      list_only i d (step line a rest) w t h =
          let here = act_only i d line a w.0 t (λ e. h (or_left (act_writes g v a) (writes g v rest) e)) in
          let later = list_only (next i a) d rest w.1 t (λ e. h (or_right (act_writes g v a) (writes g v rest) e)) in (
            only_append (forward_act_with sc p i d line a) (forward_with sc p (next i a) d rest) here.0 later.0,
            only_append (backward_with sc p (next i a) d rest) (backward_act_with sc p i d line a) later.1 here.1,
          )

    only_cleared : (line : ℕ) (xs : List (List ℕ)) → Only (cleared p line xs)
    only_cleared line [] = quiet
    only_cleared line (x ∷ xs) = only_append (if p.arrays (plain x) then one line (runtime (zero_array (shadow x))) else one line (assign (shadow x) none (literal 0))) (cleared p line xs) (go (p.arrays (plain x))) (only_cleared line xs)
      where
        go : (b : Bool) → Only (if b then one line (runtime (zero_array (shadow x))) else one line (assign (shadow x) none (literal 0)))
        go true = both (beside (shadow x) tt) quiet
        go false = both (beside (shadow x) tt) quiet

    body_only : (i line : ℕ) (c : Code) (at_turn at_end : List (List ℕ)) → Known i c → IsOuter 0 → (writes g v c ≡ true → n ≡ true) → Only (adjoint_body_with sc p i line c at_turn at_end)
    body_only i line c at_turn at_end w t h =
        let both = list_only i 0 c w t h in
        only_append (forward_with sc p i 0 c) _ both.0 (only_append (cleared p line at_turn) _ (only_cleared line at_turn) (only_append (backward_with sc p i 0 c) (cleared p line at_end) both.1 (only_cleared line at_end)))

    forth_only : (i line : ℕ) (left : List (List ℕ)) (c : Code) → Known i c → IsOuter 0 → (writes g v c ≡ true → n ≡ true) → Only (forth_body sc p i line left c)
    forth_only i line left c w t h = only_append (forward_with sc p i 0 c) (pushes p line left) (list_only i 0 c w t h).0 (only_pushes line left)

    back_only : (i line : ℕ) (left : List (List ℕ)) (c : Code) → Each (λ a. var_eq v (plain a) ≡ true → n ≡ true) left → Known i c → IsOuter 0 → (writes g v c ≡ true → n ≡ true) → Only (back_body sc p i line left c)
    back_only i line left c l w t h = only_append (pops p line left) (backward_with sc p i 0 c) (only_pops line left l) (list_only i 0 c w t h).1

  -- what the body of an adjoint may write of the unit's variables the unit may write
  pub body_writes : (x : List ℕ) (i line : ℕ) (c : Code) (at_turn at_end : List (List ℕ)) → Known i c → writes f (plain x) (adjoint_body_with sc p i line c at_turn at_end) ≡ true → writes g (plain x) c ≡ true
  body_writes x i line c at_turn at_end w = body_only (plain x) (plain_apart x) (writes g (plain x) c) i line c at_turn at_end w (λ k l. refl) (λ e. e)

  -- so with that of a forward unit
  pub forth_writes : (x : List ℕ) (i line : ℕ) (left : List (List ℕ)) (c : Code) → Known i c → writes f (plain x) (forth_body sc p i line left c) ≡ true → writes g (plain x) c ≡ true
  forth_writes x i line left c w = forth_only (plain x) (plain_apart x) (writes g (plain x) c) i line left c w (λ k l. refl) (λ e. e)

  -- and with that of a backward unit, where the unit may write the variable if that is popped
  pub back_writes : (x : List ℕ) (i line : ℕ) (left : List (List ℕ)) (c : Code) → Each (λ a. name_eq x a ≡ true → writes g (plain x) c ≡ true) left → Known i c → writes f (plain x) (back_body sc p i line left c) ≡ true → writes g (plain x) c ≡ true
  back_writes x i line left c l w = back_only (plain x) (plain_apart x) (writes g (plain x) c) i line left c l w (λ k l. refl) (λ e. e)
