-- What stands in the rows of a forward sweep: what is kept, what is pushed, and what is called.
use Rattle.std.proofs.Common.{◌≡◌, ℕ, suc, Bool, true, false, List, [], ◌∷◌, ◌++◌, map, refl, sym, ap, ◌∙◌, append_assoc, append-nil, if◌then◌else◌}
use Rattle.std.specs.Prelude.{◌||◌, ◌&&◌, not, pos, Option, Some, None}
use Rattle.adj_tree.specs.Code.{Role, Var, plain, shadow, helper, Term, lit, var, elem, neg, bin, pow, power_of, abs, Terms, none, more, Test, compare, negation, conjunction, disjunction, Mark, unmarked, Runtime, push_word, push_array, Act, assign, choose, loop, during, call, runtime, Code, stop, step, Procedure}
use Rattle.def_meaning.specs.Append.{◌+++◌, one}
use Rattle.def_meaning.specs.Rename.{rename_term, rename_terms, rename_test, rename_runtime}
use Rattle.def_names.specs.Numbers.{Vars, everything, next, behind}
use Rattle.def_sweep.specs.Marked.{code_if}
use Rattle.def_sweep.specs.Plan.{Plan, is_emitted, names_of, actuals_named, found_or, group, save_group, snapshot_group, step_snapshot, Schedules, Step, reversed_by, ByStep}
use Rattle.def_sweep.specs.Rows.{pushes}
use Rattle.def_kernel.specs.Form.{AreDistinctNames, IsKernelAct, IsKernelCode}
use Rattle.law_emitted.specs.Splits.{MaySplit', MaySplit}
use Rattle.law_emitted.proofs.Over.{OverTerm, OverTerms, OverTest, OverPlace, OverActual, OverActuals, OverAct, OverCode, Any}
use Rattle.law_emitted.proofs.StepCalls.{step_body}
use Rattle.def_adjoint.specs.Shape.{gathered, gathered_act, gathered_list, is_own, primal, stays, kept_of, pushed, push_whole, own_call, due, due_turns, called}
use Rattle.law_shape.proofs.Gathered.{due_act, due_code, seen, taken_append}
use Rattle.law_shape.proofs.Forward.{OwnVar, NoArray, AreOwn, names_own, IsRuntime, Rows, none_front}

-- ---- the actuals of a call

pub group_own : (u : Procedure) (f g : Vars) (ds given : List (List ℕ)) → AreOwn u given → AreOwn u (group f g ds given)
group_own u f g [] given h = tt
group_own u f g (d ∷ ds) [] h = tt
group_own u f g (d ∷ ds) (a ∷ given) h = go (f (plain d) && g (plain a)) (group_own u f g ds given h.1)
  where
    go : (b : Bool) → AreOwn u (group f g ds given) → AreOwn u (if b then a ∷ group f g ds given else group f g ds given)
    go true ih = (h.0, ih)
    go false ih = ih

pub saved_own : (u : Procedure) (p : Plan) (i : ℕ) (name : List ℕ) (args : Terms) → OverActuals (OwnVar u) NoArray args → AreOwn u (save_group p.marks i (p.callees name) (names_of args))
saved_own u p i name args o = let g = p.callees name in group_own u g.written (p.marks.saved i) g.dummies (names_of args) (names_own u args o)

pub members_own : (u : Procedure) (p : Plan) (name : List ℕ) (args : Terms) → OverActuals (OwnVar u) NoArray args → AreOwn u (snapshot_group (p.callees name) (names_of args))
members_own u p name args o = let g = p.callees name in group_own u (λ d. g.written d && g.members d) everything g.dummies (names_of args) (names_own u args o)

-- the groups of a step
pub step_saved_own : (u : Procedure) (p : Plan) (i : ℕ) (s : Step) → AreOwn u s.given → AreOwn u (save_group p.marks i (p.callees s.name) s.given)
step_saved_own u p i s o = let g = p.callees s.name in group_own u g.written (p.marks.saved i) g.dummies s.given o

pub step_members_own : (u : Procedure) (p : Plan) (s : Step) → AreOwn u s.given → AreOwn u (step_snapshot (p.callees s.name) s.read s.given)
step_members_own u p s o = let g = p.callees s.name in group_own u (λ d. g.written d && (g.members d || s.read d)) everything g.dummies s.given o

-- actuals that are names, again
pub named_again : (u : Procedure) (args : Terms) → AreDistinctNames args → OverActuals (OwnVar u) NoArray args → actuals_named (names_of args) ≡ args
named_again u none n o = refl
named_again u (more (var (plain x)) es) n o = ap (more (var (plain x))) (named_again u es n.1 o.1)
named_again u (more (var (shadow x)) es) n o = absurd (let z : false ≡ true = o.0 in cc)
named_again u (more (var (helper r k)) es) n o = absurd (let z : false ≡ true = o.0 in cc)
named_again u (more (lit z) es) n o = absurd n
named_again u (more (elem x s) es) n o = absurd n
named_again u (more (neg a) es) n o = absurd n
named_again u (more (bin op a b) es) n o = absurd n
named_again u (more (pow a k) es) n o = absurd n
named_again u (more (power_of a b) es) n o = absurd n
named_again u (more (abs a) es) n o = absurd n

-- ---- by numbers: where a step gives what its call gives

module _ {X : Type 0} (u : Procedure) (sc : Schedules) (adjointed split : ℕ → Bool) (f : ℕ → Act → List X) (g : ℕ → Step → List X)
    (turns : (i : ℕ) (name : List ℕ) (args : Terms) (read : Vars) (n : Mark) → split (suc i) ≡ false → AreDistinctNames args → OverActuals (OwnVar u) NoArray args → g i (record { name = name; given = names_of args; read = read; mark = n }) ≡ f (suc i) (call name args)) where
  numbered_turns : (i : ℕ) (body : Code) (m : Mark) (s : Step) → reversed_by sc adjointed i body m ≡ Some s → split (suc i) ≡ false → OverCode (OwnVar u) NoArray Any body → IsKernelCode body → g i s ≡ due_code f (suc i) body
  numbered_turns i body m s e =
      step_body (λ c s. split (suc i) ≡ false → OverCode (OwnVar u) NoArray Any c → IsKernelCode c → g i s ≡ due_code f (suc i) c) (λ line name args read n h o k. turns i name args read n h k.0 o.0.1.0 ∙ sym (append-nil (f (suc i) (call name args)))) sc adjointed i body m s e

  mutual
    numbered_act : (i : ℕ) (a : Act) → OverAct (OwnVar u) NoArray Any a → IsKernelAct a → MaySplit' sc adjointed split i a → gathered_act sc adjointed f g i a ≡ due_act f i a
    numbered_act i (assign x subs e) o k may = refl
    numbered_act i (choose c a b) o k may = λ j. f i (choose c a b) ++ (numbered_code (suc i) a o.1.0 k.0 may.0 j ++ numbered_code (behind (suc i) a) b o.1.1 k.1 may.1 j)
    numbered_act i (loop x a b c body m) o k may = ap (λ l. f i (loop x a b c body m) ++ l) (go (reversed_by sc adjointed i body m) refl may.0 (numbered_code (suc i) body o.1.1.1.1.0 k.1 may.1))
      where
        go : (t : Option Step) → reversed_by sc adjointed i body m ≡ t → ByStep t (Unit {0}) (λ s. split (suc i) ≡ false) → gathered_list sc adjointed f g (suc i) body ≡ due_code f (suc i) body → found_or t (gathered_list sc adjointed f g (suc i) body) (g i) ≡ due_code f (suc i) body
        go None e alone ih = ih
        go (Some s) e alone ih = numbered_turns i body m s e alone o.1.1.1.1.0 k.1
    numbered_act i (during c body) o k may = ap (λ l. f i (during c body) ++ l) (numbered_code (suc i) body o.1 k may)
    numbered_act i (call name args) o k may = refl
    numbered_act i (runtime r) o k may = absurd k

    pub numbered_code : (i : ℕ) (c : Code) → OverCode (OwnVar u) NoArray Any c → IsKernelCode c → MaySplit sc adjointed split i c → gathered_list sc adjointed f g i c ≡ due_code f i c
    numbered_code i stop o k may = refl
    numbered_code i (step line a rest) o k may = λ j. numbered_act i a o.0 k.0 may.0 j ++ numbered_code (next i a) rest o.1 k.1 may.1 j

-- ---- under names that the unit's variables keep

module _ (u : Procedure) (r : Var → Var) (own_kept : (v : Var) → is_own u v ≡ true → r v ≡ v) (own_same : (v : Var) → is_own u (r v) ≡ is_own u v) (p : Plan) where
  mutual
    same_term : (e : Term) → OverTerm (OwnVar u) NoArray e → rename_term r e ≡ e
    same_term (lit z) o = refl
    same_term (var x) o = ap var (own_kept x o)
    same_term (elem x s) o = λ j. elem (own_kept x o.0 j) (same_terms s o.1.1 j)
    same_term (neg a) o = ap neg (same_term a o)
    same_term (bin op a b) o = λ j. bin op (same_term a o.0 j) (same_term b o.1 j)
    same_term (pow a k) o = ap (λ z. pow z k) (same_term a o.0)
    same_term (power_of a b) o = λ j. power_of (same_term a o.0 j) (same_term b o.1.0 j)
    same_term (abs a) o = ap abs (same_term a o)

    same_terms : (es : Terms) → OverTerms (OwnVar u) NoArray es → rename_terms r es ≡ es
    same_terms none o = refl
    same_terms (more e es) o = λ j. more (same_term e o.0 j) (same_terms es o.1 j)

  same_test : (c : Test) → OverTest (OwnVar u) NoArray c → rename_test r c ≡ c
  same_test (compare q a b) o = λ j. compare q (same_term a o.0 j) (same_term b o.1 j)
  same_test (negation c) o = ap negation (same_test c o)
  same_test (conjunction c d) o = λ j. conjunction (same_test c o.0 j) (same_test d o.1 j)
  same_test (disjunction c d) o = λ j. disjunction (same_test c o.0 j) (same_test d o.1 j)

  place_own : (x : Var) (s : Terms) → OverPlace (OwnVar u) NoArray x s → is_own u x ≡ true
  place_own x none o = o
  place_own x (more e es) o = o.0

  same_subscripts : (x : Var) (s : Terms) → OverPlace (OwnVar u) NoArray x s → rename_terms r s ≡ s
  same_subscripts x none o = refl
  same_subscripts x (more e es) o = same_terms (more e es) o.1.1

  same_actual : (e : Term) → OverActual (OwnVar u) NoArray e → rename_term r e ≡ e
  same_actual (var x) o = ap var (own_kept x o)
  same_actual (lit z) o = refl
  same_actual (elem x s) o = same_term (elem x s) o
  same_actual (neg a) o = same_term (neg a) o
  same_actual (bin op a b) o = same_term (bin op a b) o
  same_actual (pow a k) o = same_term (pow a k) o
  same_actual (power_of a b) o = same_term (power_of a b) o
  same_actual (abs a) o = same_term (abs a) o

  same_actuals : (es : Terms) → OverActuals (OwnVar u) NoArray es → rename_terms r es ≡ es
  same_actuals none o = refl
  same_actuals (more e es) o = λ j. more (same_actual e o.0 j) (same_actuals es o.1 j)

  pub same_named : (xs : List (List ℕ)) → AreOwn u xs → rename_terms r (actuals_named xs) ≡ actuals_named xs
  same_named [] o = refl
  same_named (x ∷ xs) o = λ j. more (var (own_kept (plain x) o.0 j)) (same_named xs o.1 j)

  -- ---- what is kept

  abbrev own : Vars
  own = is_own u

  abbrev kept : ℕ → Act → List Act
  kept = kept_of p (is_own u)

  -- what doesn't stay gives nothing
  gone : (i : ℕ) (a : Act) → stays p.marks i a ≡ false → kept i a ≡ []
  gone i a h = ap (λ b. if b then primal own (own_call p i a) else []) h

  there : (i : ℕ) (a : Act) → stays p.marks i a ≡ true → kept i a ≡ primal own (own_call p i a)
  there i a h = ap (λ b. if b then primal own (own_call p i a) else []) h

  neither : (i : ℕ) → p.marks.kept i ≡ false → p.marks.adjointed i ≡ false → is_emitted p.marks i ≡ false
  neither i h g = λ j. h j || g j

  kept_idle : (i : ℕ) (a : Act) → p.marks.kept i ≡ false → p.marks.adjointed i ≡ false → kept i a ≡ []
  kept_idle i (assign x subs e) h g = gone i (assign x subs e) h
  kept_idle i (choose c a b) h g = gone i (choose c a b) (neither i h g)
  kept_idle i (loop x a b c body m) h g = gone i (loop x a b c body m) (neither i h g)
  kept_idle i (during c body) h g = gone i (during c body) (neither i h g)
  kept_idle i (call name args) h g = gone i (call name args) h
  kept_idle i (runtime c) h g = refl

  kept_ran : (i : ℕ) (a : Act) → IsRuntime a → kept i a ≡ []
  kept_ran i (runtime c) h = refl
  kept_ran i (assign x subs e) h = absurd h
  kept_ran i (choose c a b) h = absurd h
  kept_ran i (loop x a b c body m) h = absurd h
  kept_ran i (during c body) h = absurd h
  kept_ran i (call name args) h = absurd h

  kept_assigned : (i line : ℕ) (x : List ℕ) (subs : Terms) (e : Term) → OverAct (OwnVar u) NoArray Any (assign (plain x) subs e) →
      gathered (primal (is_own u)) (seen r (code_if (p.marks.kept i) (code_if (p.marks.saved i (plain x)) (one line (runtime (push_word (plain x) subs))) +++ one line (assign (plain x) subs e)))) ≡ kept i (assign (plain x) subs e)
  kept_assigned i line x subs e o = go (p.marks.kept i) (p.marks.saved i (plain x))
    where
      same : (if own (r (plain x)) then assign (r (plain x)) (rename_terms r subs) (rename_term r e) ∷ [] else []) ≡ (if own (plain x) then assign (plain x) subs e ∷ [] else [])
      same = λ j. if own (own_kept (plain x) (place_own (plain x) subs o.0) j) then assign (own_kept (plain x) (place_own (plain x) subs o.0) j) (same_subscripts (plain x) subs o.0 j) (same_term e o.1 j) ∷ [] else []

      go : (k s : Bool) → gathered (primal (is_own u)) (seen r (code_if k (code_if s (one line (runtime (push_word (plain x) subs))) +++ one line (assign (plain x) subs e)))) ≡ (if k then primal own (assign (plain x) subs e) else [])
      go false s = refl
      go true true = append-nil (if own (r (plain x)) then assign (r (plain x)) (rename_terms r subs) (rename_term r e) ∷ [] else []) ∙ same
      go true false = append-nil (if own (r (plain x)) then assign (r (plain x)) (rename_terms r subs) (rename_term r e) ∷ [] else []) ∙ same

  -- the pushes of a call keep nothing
  kept_pushes : (line : ℕ) (xs : List (List ℕ)) → gathered (primal (is_own u)) (seen r (pushes p line xs)) ≡ []
  kept_pushes line [] = refl
  kept_pushes line (x ∷ xs) = kept_pushes line xs

  kept_calls : (i line : ℕ) (name : List ℕ) (args : Terms) → p.marks.split i ≡ false → is_emitted p.marks i ≡ true → OverAct (OwnVar u) NoArray Any (call name args) →
      gathered (primal (is_own u)) (seen r (pushes p line (save_group p.marks i (p.callees name) (names_of args)) +++ (code_if (p.marks.adjointed i) (pushes p line (snapshot_group (p.callees name) (names_of args))) +++ code_if (p.marks.kept i) (one line (call name args))))) ≡ kept i (call name args)
  kept_calls i line name args h e o =
      taken_append r (primal (is_own u)) (pushes p line saves) (code_if (p.marks.adjointed i) (pushes p line members) +++ code_if (p.marks.kept i) (one line (call name args)))
      ∙ ap (λ l. l ++ gathered (primal (is_own u)) (seen r (code_if (p.marks.adjointed i) (pushes p line members) +++ code_if (p.marks.kept i) (one line (call name args))))) (kept_pushes line saves)
      ∙ taken_append r (primal (is_own u)) (code_if (p.marks.adjointed i) (pushes p line members)) (code_if (p.marks.kept i) (one line (call name args)))
      ∙ ap (λ l. l ++ gathered (primal (is_own u)) (seen r (code_if (p.marks.kept i) (one line (call name args))))) (of_members (p.marks.adjointed i))
      ∙ of_call (p.marks.kept i)
      ∙ sym (ap (λ b. if p.marks.kept i then primal own (if b then call (p.callees name).forth args else call name args) else []) h)
    where
      saves : List (List ℕ)
      saves = save_group p.marks i (p.callees name) (names_of args)

      members : List (List ℕ)
      members = snapshot_group (p.callees name) (names_of args)

      of_members : (b : Bool) → gathered (primal (is_own u)) (seen r (code_if b (pushes p line members))) ≡ []
      of_members true = kept_pushes line members
      of_members false = refl

      of_call : (b : Bool) → gathered (primal (is_own u)) (seen r (code_if b (one line (call name args)))) ≡ (if b then call name args ∷ [] else [])
      of_call true = ap (λ es. call name es ∷ []) (same_actuals args o.1.0)
      of_call false = refl

  -- a call that is split stays as that of the forward unit
  kept_splits : (i line : ℕ) (name : List ℕ) (args : Terms) → p.marks.split i ≡ true → p.marks.kept i ≡ true → OverAct (OwnVar u) NoArray Any (call name args) → gathered (primal (is_own u)) (seen r (one line (call (p.callees name).forth args))) ≡ kept i (call name args)
  kept_splits i line name args h k o = ap (λ es. call (p.callees name).forth es ∷ []) (same_actuals args o.1.0) ∙ sym (λ j. if k j then primal own (if h j then call (p.callees name).forth args else call name args) else [])

  kept_loops : (i line : ℕ) (x : List ℕ) (a b c a' c' : Term) (body body' : Code) (m : Mark) → is_emitted p.marks i ≡ true → is_own u (plain x) ≡ true → OverTerm (OwnVar u) NoArray b →
      gathered (primal (is_own u)) (seen r (code_if (p.marks.saved i (plain x)) (one line (runtime (push_word (plain x) none))))) ++ primal (is_own u) (loop (r (plain x)) a' (rename_term r b) c' body' unmarked) ≡ kept i (loop (plain x) a b c body m)
  kept_loops i line x a b c a' c' body body' m e o h = go (p.marks.saved i (plain x)) ∙ (λ j. loop (own_kept (plain x) o j) (lit (pos 0)) (same_term b h j) (lit (pos 0)) stop unmarked ∷ []) ∙ sym (there i (loop (plain x) a b c body m) e)
    where
      go : (s : Bool) → gathered (primal (is_own u)) (seen r (code_if s (one line (runtime (push_word (plain x) none))))) ++ primal (is_own u) (loop (r (plain x)) a' (rename_term r b) c' body' unmarked) ≡ loop (r (plain x)) (lit (pos 0)) (rename_term r b) (lit (pos 0)) stop unmarked ∷ []
      go true = refl
      go false = refl

  -- a step call that is kept
  abbrev pub kept_turns : ℕ → Step → List Act
  kept_turns i s = if p.marks.kept (suc i) then call s.name (actuals_named s.given) ∷ [] else []

  kept_reversed : (i line : ℕ) (x : List ℕ) (a b c a' c' : Term) (body body' : Code) (m : Mark) (s : Step) → is_emitted p.marks i ≡ true → is_own u (plain x) ≡ true → OverTerm (OwnVar u) NoArray b → AreOwn u s.given →
      gathered (primal (is_own u)) (seen r (code_if (p.marks.saved i (plain x)) (one line (runtime (push_word (plain x) none)))))
      ++ (gathered (primal (is_own u)) (seen r (pushes p line (save_group p.marks i (p.callees s.name) s.given))) ++ (gathered (primal (is_own u)) (seen r (pushes p line (step_snapshot (p.callees s.name) s.read s.given)))
      ++ (primal (is_own u) (loop (r (plain x)) a' (rename_term r b) c' body' unmarked) ++ gathered (primal (is_own u)) (seen r (code_if (p.marks.kept (suc i)) (one line (call s.name (actuals_named s.given)))))))) ≡ kept i (loop (plain x) a b c body m) ++ kept_turns i s
  kept_reversed i line x a b c a' c' body body' m s e o v given_own =
      ap (λ l. push ++ l) (none_front (gathered (primal (is_own u)) (seen r (pushes p line saves))) _ (kept_pushes line saves) ∙ none_front (gathered (primal (is_own u)) (seen r (pushes p line members))) _ (kept_pushes line members))
      ∙ sym (append_assoc push (primal (is_own u) (loop (r (plain x)) a' (rename_term r b) c' body' unmarked)) (gathered (primal (is_own u)) (seen r (code_if (p.marks.kept (suc i)) (one line (call s.name (actuals_named s.given)))))))
      ∙ (λ j. kept_loops i line x a b c a' c' body body' m e o v j ++ of_call (p.marks.kept (suc i)) j)
    where
      saves : List (List ℕ)
      saves = save_group p.marks i (p.callees s.name) s.given

      members : List (List ℕ)
      members = step_snapshot (p.callees s.name) s.read s.given

      push : List Act
      push = gathered (primal (is_own u)) (seen r (code_if (p.marks.saved i (plain x)) (one line (runtime (push_word (plain x) none)))))

      of_call : (b : Bool) → gathered (primal (is_own u)) (seen r (code_if b (one line (call s.name (actuals_named s.given))))) ≡ (if b then call s.name (actuals_named s.given) ∷ [] else [])
      of_call true = ap (λ es. call s.name es ∷ []) (same_named s.given given_own)
      of_call false = refl

  not_own : (o : Role) (k : ℕ) → is_own u (r (helper o k)) ≡ false
  not_own o k = own_same (helper o k)

  pub kept_rows : Rows (primal (is_own u)) (kept_of p (is_own u)) kept_turns r p u
  kept_rows = record {
    set_none = λ o k subs e. ap (λ b. if b then assign (r (helper o k)) subs e ∷ [] else []) (not_own o k);
    push_none = λ o k subs. refl;
    control_none = λ e. refl;
    idle = kept_idle;
    ran = kept_ran;
    assigns = kept_assigned;
    chooses = λ i c a b c' d' e o. ap (λ t. choose t stop stop ∷ []) (same_test c o) ∙ sym (there i (choose c a b) e);
    loops = kept_loops;
    whiles = λ i c body body' e o. ap (λ t. during t stop ∷ []) (same_test c o) ∙ sym (there i (during c body) e);
    splits = kept_splits;
    calls = kept_calls;
    turns = kept_reversed;
  }

  -- ---- what is pushed

  due_idle : (i : ℕ) (a : Act) → p.marks.kept i ≡ false → p.marks.adjointed i ≡ false → due p i a ≡ []
  due_idle i (assign x subs e) h g = ap (λ b. if b && p.marks.saved i x then push_word x subs ∷ [] else []) h
  due_idle i (choose c a b) h g = refl
  due_idle i (loop x a b c body m) h g = ap (λ t. if t && p.marks.saved i x then push_word x none ∷ [] else []) (neither i h g)
  due_idle i (during c body) h g = refl
  due_idle i (call name args) h g =
      ap
      (λ t. if t && not (p.marks.split i) then map (push_whole p.arrays) (save_group p.marks i (p.callees name) (names_of args)) ++ (if p.marks.adjointed i then map (push_whole p.arrays) (snapshot_group (p.callees name) (names_of args)) else []) else [])
      (neither i h g)
  due_idle i (runtime c) h g = refl

  due_ran : (i : ℕ) (a : Act) → IsRuntime a → due p i a ≡ []
  due_ran i (runtime c) h = refl
  due_ran i (assign x subs e) h = absurd h
  due_ran i (choose c a b) h = absurd h
  due_ran i (loop x a b c body m) h = absurd h
  due_ran i (during c body) h = absurd h
  due_ran i (call name args) h = absurd h

  -- a push of a variable of the unit is one
  word_pushed : (x : List ℕ) (subs : Terms) → is_own u (plain x) ≡ true → rename_terms r subs ≡ subs → pushed (is_own u) (runtime (push_word (r (plain x)) (rename_terms r subs))) ≡ push_word (plain x) subs ∷ []
  word_pushed x subs o e = (λ j. if own (own_kept (plain x) o j) then push_word (own_kept (plain x) o j) (e j) ∷ [] else []) ∙ ap (λ b. if b then push_word (plain x) subs ∷ [] else []) o

  array_pushed : (x : List ℕ) → is_own u (plain x) ≡ true → pushed (is_own u) (runtime (push_array (r (plain x)))) ≡ push_array (plain x) ∷ []
  array_pushed x o = (λ j. if own (own_kept (plain x) o j) then push_array (own_kept (plain x) o j) ∷ [] else []) ∙ ap (λ b. if b then push_array (plain x) ∷ [] else []) o

  due_assigned : (i line : ℕ) (x : List ℕ) (subs : Terms) (e : Term) → OverAct (OwnVar u) NoArray Any (assign (plain x) subs e) →
      gathered (pushed (is_own u)) (seen r (code_if (p.marks.kept i) (code_if (p.marks.saved i (plain x)) (one line (runtime (push_word (plain x) subs))) +++ one line (assign (plain x) subs e)))) ≡ due p i (assign (plain x) subs e)
  due_assigned i line x subs e o = go (p.marks.kept i) (p.marks.saved i (plain x))
    where
      go : (k s : Bool) → gathered (pushed (is_own u)) (seen r (code_if k (code_if s (one line (runtime (push_word (plain x) subs))) +++ one line (assign (plain x) subs e)))) ≡ (if k && s then push_word (plain x) subs ∷ [] else [])
      go false s = refl
      go true true = append-nil (pushed (is_own u) (runtime (push_word (r (plain x)) (rename_terms r subs)))) ∙ word_pushed x subs (place_own (plain x) subs o.0) (same_subscripts (plain x) subs o.0)
      go true false = refl

  due_loops : (i line : ℕ) (x : List ℕ) (a b c a' c' : Term) (body body' : Code) (m : Mark) → is_emitted p.marks i ≡ true → is_own u (plain x) ≡ true → OverTerm (OwnVar u) NoArray b →
      gathered (pushed (is_own u)) (seen r (code_if (p.marks.saved i (plain x)) (one line (runtime (push_word (plain x) none))))) ++ pushed (is_own u) (loop (r (plain x)) a' (rename_term r b) c' body' unmarked) ≡ due p i (loop (plain x) a b c body m)
  due_loops i line x a b c a' c' body body' m e o h = go (p.marks.saved i (plain x)) ∙ sym (ap (λ t. if t && p.marks.saved i (plain x) then push_word (plain x) none ∷ [] else []) e)
    where
      go : (s : Bool) → gathered (pushed (is_own u)) (seen r (code_if s (one line (runtime (push_word (plain x) none))))) ++ [] ≡ (if s then push_word (plain x) none ∷ [] else [])
      go true = append-nil _ ∙ append-nil (pushed (is_own u) (runtime (push_word (r (plain x)) none))) ∙ word_pushed x none o refl
      go false = refl

  -- a group
  due_pushes : (line : ℕ) (xs : List (List ℕ)) → AreOwn u xs → gathered (pushed (is_own u)) (seen r (pushes p line xs)) ≡ map (push_whole p.arrays) xs
  due_pushes line [] o = refl
  due_pushes line (x ∷ xs) o = λ j. go (p.arrays (plain x)) j ++ due_pushes line xs o.1 j
    where
      go : (b : Bool) → pushed (is_own u) (runtime (rename_runtime r (if b then push_array (plain x) else push_word (plain x) none))) ≡ (if b then push_array (plain x) else push_word (plain x) none) ∷ []
      go true = array_pushed x o.0
      go false = word_pushed x none o.0 refl

  -- nothing is due for a call that is split
  due_splits : (i line : ℕ) (name : List ℕ) (args : Terms) → p.marks.split i ≡ true → p.marks.kept i ≡ true → OverAct (OwnVar u) NoArray Any (call name args) → gathered (pushed (is_own u)) (seen r (one line (call (p.callees name).forth args))) ≡ due p i (call name args)
  due_splits i line name args h k o =
      sym
      (λ j. if (k j || p.marks.adjointed i) && not (h j) then map (push_whole p.arrays) (save_group p.marks i (p.callees name) (names_of args)) ++ (if p.marks.adjointed i then map (push_whole p.arrays) (snapshot_group (p.callees name) (names_of args)) else []) else [])

  due_calls : (i line : ℕ) (name : List ℕ) (args : Terms) → p.marks.split i ≡ false → is_emitted p.marks i ≡ true → OverAct (OwnVar u) NoArray Any (call name args) →
      gathered (pushed (is_own u)) (seen r (pushes p line (save_group p.marks i (p.callees name) (names_of args)) +++ (code_if (p.marks.adjointed i) (pushes p line (snapshot_group (p.callees name) (names_of args))) +++ code_if (p.marks.kept i) (one line (call name args))))) ≡ due p i (call name args)
  due_calls i line name args h e o =
      taken_append r (pushed (is_own u)) (pushes p line saves) (code_if (p.marks.adjointed i) (pushes p line members) +++ code_if (p.marks.kept i) (one line (call name args)))
      ∙ (λ j. due_pushes line saves (saved_own u p i name args o.1.0) j ++ rest j)
      ∙ sym (λ j. if e j && not (h j) then map (push_whole p.arrays) saves ++ (if p.marks.adjointed i then map (push_whole p.arrays) members else []) else [])
    where
      saves : List (List ℕ)
      saves = save_group p.marks i (p.callees name) (names_of args)

      members : List (List ℕ)
      members = snapshot_group (p.callees name) (names_of args)

      of_members : (b : Bool) → gathered (pushed (is_own u)) (seen r (code_if b (pushes p line members))) ≡ (if b then map (push_whole p.arrays) members else [])
      of_members true = due_pushes line members (members_own u p name args o.1.0)
      of_members false = refl

      of_call : (b : Bool) → gathered (pushed (is_own u)) (seen r (code_if b (one line (call name args)))) ≡ []
      of_call true = refl
      of_call false = refl

      rest : gathered (pushed (is_own u)) (seen r (code_if (p.marks.adjointed i) (pushes p line members) +++ code_if (p.marks.kept i) (one line (call name args)))) ≡ (if p.marks.adjointed i then map (push_whole p.arrays) members else [])
      rest =
          taken_append r (pushed (is_own u)) (code_if (p.marks.adjointed i) (pushes p line members)) (code_if (p.marks.kept i) (one line (call name args)))
          ∙ (λ j. of_members (p.marks.adjointed i) j ++ of_call (p.marks.kept i) j)
          ∙ append-nil (if p.marks.adjointed i then map (push_whole p.arrays) members else [])

  due_reversed : (i line : ℕ) (x : List ℕ) (a b c a' c' : Term) (body body' : Code) (m : Mark) (s : Step) → is_emitted p.marks i ≡ true → is_own u (plain x) ≡ true → OverTerm (OwnVar u) NoArray b → AreOwn u s.given →
      gathered (pushed (is_own u)) (seen r (code_if (p.marks.saved i (plain x)) (one line (runtime (push_word (plain x) none)))))
      ++ (gathered (pushed (is_own u)) (seen r (pushes p line (save_group p.marks i (p.callees s.name) s.given))) ++ (gathered (pushed (is_own u)) (seen r (pushes p line (step_snapshot (p.callees s.name) s.read s.given)))
      ++ (pushed (is_own u) (loop (r (plain x)) a' (rename_term r b) c' body' unmarked) ++ gathered (pushed (is_own u)) (seen r (code_if (p.marks.kept (suc i)) (one line (call s.name (actuals_named s.given)))))))) ≡ due p i (loop (plain x) a b c body m) ++ due_turns p i s
  due_reversed i line x a b c a' c' body body' m s e o v given_own =
      λ j. of_loop j ++ (due_pushes line saves (step_saved_own u p i s given_own) j ++ (ap (λ l. gathered (pushed (is_own u)) (seen r (pushes p line members)) ++ l) (of_call (p.marks.kept (suc i))) ∙ append-nil (gathered (pushed (is_own u)) (seen r (pushes p line members))) ∙ due_pushes line members (step_members_own u p s given_own)) j)
    where
      saves : List (List ℕ)
      saves = save_group p.marks i (p.callees s.name) s.given

      members : List (List ℕ)
      members = step_snapshot (p.callees s.name) s.read s.given

      push : List Runtime
      push = gathered (pushed (is_own u)) (seen r (code_if (p.marks.saved i (plain x)) (one line (runtime (push_word (plain x) none)))))

      of_loop : push ≡ due p i (loop (plain x) a b c body m)
      of_loop = sym (append-nil push) ∙ due_loops i line x a b c a' c' body body' m e o v

      of_call : (b : Bool) → gathered (pushed (is_own u)) (seen r (code_if b (one line (call s.name (actuals_named s.given))))) ≡ []
      of_call true = refl
      of_call false = refl

  pub due_rows : Rows (pushed (is_own u)) (due p) (due_turns p) r p u
  due_rows = record {
    set_none = λ o k subs e. refl;
    push_none = λ o k subs. ap (λ b. if b then push_word (r (helper o k)) subs ∷ [] else []) (not_own o k);
    control_none = λ e. refl;
    idle = due_idle;
    ran = due_ran;
    assigns = due_assigned;
    chooses = λ i c a b c' d' e o. refl;
    loops = due_loops;
    whiles = λ i c body body' e o. refl;
    splits = due_splits;
    calls = due_calls;
    turns = due_reversed;
  }

  -- ---- what is called

  abbrev pub called_due : ℕ → Act → List (List ℕ)
  called_due i a = if p.marks.kept i then called (own_call p i a) else []

  abbrev pub called_turns : ℕ → Step → List (List ℕ)
  called_turns i s = if p.marks.kept (suc i) then s.name ∷ [] else []

  either_none : (b : Bool) → [] ≡ (if b then (let l : List (List ℕ) = [] in l) else [])
  either_none true = refl
  either_none false = refl

  called_ran : (i : ℕ) (a : Act) → IsRuntime a → called_due i a ≡ []
  called_ran i (runtime c) h = sym (either_none (p.marks.kept i))
  called_ran i (assign x subs e) h = absurd h
  called_ran i (choose c a b) h = absurd h
  called_ran i (loop x a b c body m) h = absurd h
  called_ran i (during c body) h = absurd h
  called_ran i (call name args) h = absurd h

  called_assigned : (i line : ℕ) (x : List ℕ) (subs : Terms) (e : Term) → OverAct (OwnVar u) NoArray Any (assign (plain x) subs e) →
      gathered called (seen r (code_if (p.marks.kept i) (code_if (p.marks.saved i (plain x)) (one line (runtime (push_word (plain x) subs))) +++ one line (assign (plain x) subs e)))) ≡ called_due i (assign (plain x) subs e)
  called_assigned i line x subs e o = go (p.marks.kept i) (p.marks.saved i (plain x))
    where
      go : (k s : Bool) → gathered called (seen r (code_if k (code_if s (one line (runtime (push_word (plain x) subs))) +++ one line (assign (plain x) subs e)))) ≡ (if k then [] else [])
      go false s = refl
      go true true = refl
      go true false = refl

  called_loops : (i line : ℕ) (x : List ℕ) (a b c a' c' : Term) (body body' : Code) (m : Mark) → is_emitted p.marks i ≡ true → is_own u (plain x) ≡ true → OverTerm (OwnVar u) NoArray b →
      gathered called (seen r (code_if (p.marks.saved i (plain x)) (one line (runtime (push_word (plain x) none))))) ++ called (loop (r (plain x)) a' (rename_term r b) c' body' unmarked) ≡ called_due i (loop (plain x) a b c body m)
  called_loops i line x a b c a' c' body body' m e o h = go (p.marks.saved i (plain x)) ∙ either_none (p.marks.kept i)
    where
      go : (s : Bool) → gathered called (seen r (code_if s (one line (runtime (push_word (plain x) none))))) ++ [] ≡ []
      go true = refl
      go false = refl

  called_pushes : (line : ℕ) (xs : List (List ℕ)) → gathered called (seen r (pushes p line xs)) ≡ []
  called_pushes line [] = refl
  called_pushes line (x ∷ xs) = called_pushes line xs

  called_splits : (i line : ℕ) (name : List ℕ) (args : Terms) → p.marks.split i ≡ true → p.marks.kept i ≡ true → OverAct (OwnVar u) NoArray Any (call name args) → gathered called (seen r (one line (call (p.callees name).forth args))) ≡ called_due i (call name args)
  called_splits i line name args h k o = sym (λ j. if k j then called (if h j then call (p.callees name).forth args else call name args) else [])

  called_calls : (i line : ℕ) (name : List ℕ) (args : Terms) → p.marks.split i ≡ false → is_emitted p.marks i ≡ true → OverAct (OwnVar u) NoArray Any (call name args) →
      gathered called (seen r (pushes p line (save_group p.marks i (p.callees name) (names_of args)) +++ (code_if (p.marks.adjointed i) (pushes p line (snapshot_group (p.callees name) (names_of args))) +++ code_if (p.marks.kept i) (one line (call name args))))) ≡ called_due i (call name args)
  called_calls i line name args h e o =
      taken_append r called (pushes p line saves) (code_if (p.marks.adjointed i) (pushes p line members) +++ code_if (p.marks.kept i) (one line (call name args)))
      ∙ ap (λ l. l ++ gathered called (seen r (code_if (p.marks.adjointed i) (pushes p line members) +++ code_if (p.marks.kept i) (one line (call name args))))) (called_pushes line saves)
      ∙ taken_append r called (code_if (p.marks.adjointed i) (pushes p line members)) (code_if (p.marks.kept i) (one line (call name args)))
      ∙ ap (λ l. l ++ gathered called (seen r (code_if (p.marks.kept i) (one line (call name args))))) (of_members (p.marks.adjointed i))
      ∙ of_call (p.marks.kept i)
      ∙ sym (ap (λ b. if p.marks.kept i then called (if b then call (p.callees name).forth args else call name args) else []) h)
    where
      saves : List (List ℕ)
      saves = save_group p.marks i (p.callees name) (names_of args)

      members : List (List ℕ)
      members = snapshot_group (p.callees name) (names_of args)

      of_members : (b : Bool) → gathered called (seen r (code_if b (pushes p line members))) ≡ []
      of_members true = called_pushes line members
      of_members false = refl

      of_call : (b : Bool) → gathered called (seen r (code_if b (one line (call name args)))) ≡ (if b then name ∷ [] else [])
      of_call true = refl
      of_call false = refl

  called_reversed : (i line : ℕ) (x : List ℕ) (a b c a' c' : Term) (body body' : Code) (m : Mark) (s : Step) → is_emitted p.marks i ≡ true → is_own u (plain x) ≡ true → OverTerm (OwnVar u) NoArray b → AreOwn u s.given →
      gathered called (seen r (code_if (p.marks.saved i (plain x)) (one line (runtime (push_word (plain x) none)))))
      ++ (gathered called (seen r (pushes p line (save_group p.marks i (p.callees s.name) s.given))) ++ (gathered called (seen r (pushes p line (step_snapshot (p.callees s.name) s.read s.given)))
      ++ (called (loop (r (plain x)) a' (rename_term r b) c' body' unmarked) ++ gathered called (seen r (code_if (p.marks.kept (suc i)) (one line (call s.name (actuals_named s.given)))))))) ≡ called_due i (loop (plain x) a b c body m) ++ called_turns i s
  called_reversed i line x a b c a' c' body body' m s e o v given_own =
      λ j. of_loop j ++ (none_front (gathered called (seen r (pushes p line saves))) _ (called_pushes line saves) ∙ none_front (gathered called (seen r (pushes p line members))) _ (called_pushes line members) ∙ of_call (p.marks.kept (suc i))) j
    where
      saves : List (List ℕ)
      saves = save_group p.marks i (p.callees s.name) s.given

      members : List (List ℕ)
      members = step_snapshot (p.callees s.name) s.read s.given

      push : List (List ℕ)
      push = gathered called (seen r (code_if (p.marks.saved i (plain x)) (one line (runtime (push_word (plain x) none)))))

      of_loop : push ≡ called_due i (loop (plain x) a b c body m)
      of_loop = sym (append-nil push) ∙ called_loops i line x a b c a' c' body body' m e o v

      of_call : (b : Bool) → gathered called (seen r (code_if b (one line (call s.name (actuals_named s.given))))) ≡ (if b then s.name ∷ [] else [])
      of_call true = refl
      of_call false = refl

  pub called_rows : Rows called (λ i a. if p.marks.kept i then called (own_call p i a) else []) (λ i s. if p.marks.kept (suc i) then s.name ∷ [] else []) r p u
  called_rows = record {
    set_none = λ o k subs e. refl;
    push_none = λ o k subs. refl;
    control_none = λ e. refl;
    idle = λ i a h g. ap (λ b. if b then called (own_call p i a) else []) h;
    ran = called_ran;
    assigns = called_assigned;
    chooses = λ i c a b c' d' e o. either_none (p.marks.kept i);
    loops = called_loops;
    whiles = λ i c body body' e o. either_none (p.marks.kept i);
    splits = called_splits;
    calls = called_calls;
    turns = called_reversed;
  }
