-- What a function gives of a forward sweep, by what it gives of each row.
use Rattle.std.proofs.Common.{◌≡◌, ℕ, suc, Bool, true, false, List, [], ◌∷◌, ◌++◌, refl, sym, ap, ◌∙◌, append_assoc, append-nil, if◌then◌else◌}
use Rattle.std.specs.Prelude.{◌&&◌, Option, Some, None}
use Rattle.std.proofs.lemmas.Grind.{flat_map-append}
use Rattle.adj_tree.specs.Code.{Role, Var, plain, shadow, helper, first, stride, count, slots, plus, Term, lit, var, elem, neg, bin, pow, power_of, abs, Terms, none, more, Test, Mark, unmarked, with_count, count_from, push_word, push_control, Act, assign, choose, loop, during, call, runtime, Code, stop, step, Procedure}
use Rattle.def_meaning.specs.Append.{◌+++◌, one}
use Rattle.def_meaning.specs.Rename.{rename_term, rename_test}
use Rattle.def_names.specs.Statements.{At, statements}
use Rattle.def_sweep.specs.Marks.{Marks}
use Rattle.def_names.specs.Numbers.{next, behind}
use Rattle.def_sweep.specs.Marked.{code_if}
use Rattle.def_names.proofs.Variables.{or_false}
use Rattle.def_sweep.specs.Plan.{Plan, is_emitted, names_of, actuals_named, found_or, save_group, snapshot_group, step_snapshot, Schedules, Step, reversed_by}
use Rattle.def_sweep.specs.Rows.{is_empty, pushes, push_own, set_own, literal, told_forward, loop_forward, while_forward}
use Rattle.def_sweep.specs.Emission.{forward_act_with, forward_with, backward_with}
use Rattle.def_sweep.specs.ReversalCode.{as_slots, set_slots, push_slots, row_forward}
use Rattle.law_sweep.specs.Laws.{IsIdle', IsIdle}
use Rattle.law_emitted.proofs.Over.{OverTerm, OverTest, OverActuals, OverAct, OverCode, Any}
use Rattle.law_emitted.proofs.StepCalls.{step_body, step_mark}
use Rattle.def_adjoint.specs.Shape.{gathered, gathered_act, gathered_list, is_own}
use Rattle.law_shape.specs.Closed.{IsClosed', IsClosed}
use Rattle.law_shape.proofs.Gathered.{gathered_step, inside, seen, seen_act, taken_append}

-- a variable of the unit
abbrev pub OwnVar : Procedure → Var → Option ℕ → Type 0
OwnVar u v n = is_own u v ≡ true

abbrev pub NoArray : Var → Type 0
NoArray v = Unit {0}

-- names that are variables of the unit
abbrev pub AreOwn : Procedure → List (List ℕ) → Type 0
AreOwn u [] = Unit {0}
AreOwn u (x ∷ xs) = (is_own u (plain x) ≡ true) × AreOwn u xs

-- those among the actuals of a call are
pub names_own : (u : Procedure) (args : Terms) → OverActuals (OwnVar u) NoArray args → AreOwn u (names_of args)
names_own u none o = tt
names_own u (more (var (plain x)) es) o = (o.0, names_own u es o.1)
names_own u (more (var (shadow x)) es) o = names_own u es o.1
names_own u (more (var (helper r k)) es) o = names_own u es o.1
names_own u (more (lit z) es) o = names_own u es o.1
names_own u (more (elem x s) es) o = names_own u es o.1
names_own u (more (neg a) es) o = names_own u es o.1
names_own u (more (bin op a b) es) o = names_own u es o.1
names_own u (more (pow a k) es) o = names_own u es o.1
names_own u (more (power_of a b) es) o = names_own u es o.1
names_own u (more (abs a) es) o = names_own u es o.1

-- so are those that a step of a loop that is reversed is given
pub step_own : (u : Procedure) (sc : Schedules) (adjointed : ℕ → Bool) (i : ℕ) (body : Code) (m : Mark) (s : Step) → reversed_by sc adjointed i body m ≡ Some s → OverCode (OwnVar u) NoArray Any body → AreOwn u s.given
step_own u sc adjointed i body m s e = step_body (λ c s. OverCode (OwnVar u) NoArray Any c → AreOwn u s.given) (λ line name args read n o. names_own u args o.0.1.0) sc adjointed i body m s e

-- a loop that is reversed isn't idle
pub never_idle : (sc : Schedules) (m : Marks) (i : ℕ) (body : Code) (mark : Mark) (s : Step) → reversed_by sc m.adjointed i body mark ≡ Some s → IsIdle m (suc i) body → ⊥
never_idle sc m i body mark s e h =
    let not_there : m.adjointed (suc i) ≡ false = step_body (λ c s. IsIdle m (suc i) c → m.adjointed (suc i) ≡ false) (λ line name args read n k. k.0.1) sc m.adjointed i body mark s e h in
    let c : true ≡ false = sym (step_mark sc m.adjointed i body mark s e).1 ∙ not_there in
    cc

abbrev pub IsRuntime : Act → Type 0
IsRuntime (runtime c) = Unit {0}
IsRuntime a = ⊥

-- what f gives of each row of the sweep is what g gives of the statement, and h of the step of a loop that is reversed
pub record Rows {X : Type 0} (f : Act → List X) (g : ℕ → Act → List X) (h : ℕ → Step → List X) (r : Var → Var) (p : Plan) (u : Procedure) : Type 0 where
  -- what the sweep does for itself gives nothing
  pub set_none : (o : Role) (k : ℕ) (subs : Terms) (e : Term) → f (assign (r (helper o k)) subs e) ≡ []
  pub push_none : (o : Role) (k : ℕ) (subs : Terms) → f (runtime (push_word (r (helper o k)) subs)) ≡ []
  pub control_none : (e : Term) → f (runtime (push_control e)) ≡ []
  -- nor does a statement that is idle
  pub idle : (i : ℕ) (a : Act) → p.marks.kept i ≡ false → p.marks.adjointed i ≡ false → g i a ≡ []
  pub ran : (i : ℕ) (a : Act) → IsRuntime a → g i a ≡ []
  pub assigns : (i line : ℕ) (x : List ℕ) (subs : Terms) (e : Term) → OverAct (OwnVar u) NoArray Any (assign (plain x) subs e) →
      gathered f (seen r (code_if (p.marks.kept i) (code_if (p.marks.saved i (plain x)) (one line (runtime (push_word (plain x) subs))) +++ one line (assign (plain x) subs e)))) ≡ g i (assign (plain x) subs e)
  pub chooses : (i : ℕ) (c : Test) (a b c' d' : Code) → is_emitted p.marks i ≡ true → OverTest (OwnVar u) NoArray c → f (choose (rename_test r c) c' d') ≡ g i (choose c a b)
  pub loops : (i line : ℕ) (x : List ℕ) (a b c a' c' : Term) (body body' : Code) (m : Mark) → is_emitted p.marks i ≡ true → is_own u (plain x) ≡ true → OverTerm (OwnVar u) NoArray b →
      gathered f (seen r (code_if (p.marks.saved i (plain x)) (one line (runtime (push_word (plain x) none))))) ++ f (loop (r (plain x)) a' (rename_term r b) c' body' unmarked) ≡ g i (loop (plain x) a b c body m)
  pub whiles : (i : ℕ) (c : Test) (body body' : Code) → is_emitted p.marks i ≡ true → OverTest (OwnVar u) NoArray c → f (during (rename_test r c) body') ≡ g i (during c body)
  -- a call that is split
  pub splits : (i line : ℕ) (name : List ℕ) (args : Terms) → p.marks.split i ≡ true → p.marks.kept i ≡ true → OverAct (OwnVar u) NoArray Any (call name args) → gathered f (seen r (one line (call (p.callees name).forth args))) ≡ g i (call name args)
  -- and one that isn't
  pub calls : (i line : ℕ) (name : List ℕ) (args : Terms) → p.marks.split i ≡ false → is_emitted p.marks i ≡ true → OverAct (OwnVar u) NoArray Any (call name args) →
      gathered f (seen r (pushes p line (save_group p.marks i (p.callees name) (names_of args)) +++ (code_if (p.marks.adjointed i) (pushes p line (snapshot_group (p.callees name) (names_of args))) +++ code_if (p.marks.kept i) (one line (call name args))))) ≡ g i (call name args)
  pub turns : (i line : ℕ) (x : List ℕ) (a b c a' c' : Term) (body body' : Code) (m : Mark) (s : Step) → is_emitted p.marks i ≡ true → is_own u (plain x) ≡ true → OverTerm (OwnVar u) NoArray b → AreOwn u s.given →
      gathered f (seen r (code_if (p.marks.saved i (plain x)) (one line (runtime (push_word (plain x) none)))))
      ++ (gathered f (seen r (pushes p line (save_group p.marks i (p.callees s.name) s.given))) ++ (gathered f (seen r (pushes p line (step_snapshot (p.callees s.name) s.read s.given)))
      ++ (f (loop (r (plain x)) a' (rename_term r b) c' body' unmarked) ++ gathered f (seen r (code_if (p.marks.kept (suc i)) (one line (call s.name (actuals_named s.given)))))))) ≡ g i (loop (plain x) a b c body m) ++ h i s

pub none_front : {X : Type 0} (xs ys : List X) → xs ≡ [] → xs ++ ys ≡ ys
none_front xs ys e = ap (λ l. l ++ ys) e

module _ {X : Type 0} (f : Act → List X) (g : ℕ → Act → List X) (h : ℕ → Step → List X) (r : Var → Var) (sc : Schedules) (p : Plan) (u : Procedure) (rows : Rows f g h r p u) where
  -- what is due for a statement and for a list
  abbrev given_act : ℕ → Act → List X
  given_act i a = gathered_act sc p.marks.adjointed g h i a

  abbrev given : ℕ → Code → List X
  given i c = gathered_list sc p.marks.adjointed g h i c

  -- ---- what is idle

  idle_turns : (i : ℕ) (body : Code) (m : Mark) → IsIdle p.marks (suc i) body → given (suc i) body ≡ [] → found_or (reversed_by sc p.marks.adjointed i body m) (given (suc i) body) (h i) ≡ []
  idle_turns i body m k ih = go (reversed_by sc p.marks.adjointed i body m) refl
    where
      go : (t : Option Step) → reversed_by sc p.marks.adjointed i body m ≡ t → found_or t (given (suc i) body) (h i) ≡ []
      go None e = ih
      go (Some s) e = absurd (never_idle sc p.marks i body m s e k)

  mutual
    idle_act : (i : ℕ) (a : Act) → IsIdle' p.marks i a → given_act i a ≡ []
    idle_act i (assign x subs e) k = rows.idle i (assign x subs e) k.0 k.1
    idle_act i (choose c a b) k = none_front (g i (choose c a b)) _ (rows.idle i (choose c a b) k.0.0 k.0.1) ∙ none_front (given (suc i) a) _ (idle_code (suc i) a k.1.0) ∙ idle_code (behind (suc i) a) b k.1.1
    idle_act i (loop x a b c body m) k = none_front (g i (loop x a b c body m)) _ (rows.idle i (loop x a b c body m) k.0.0 k.0.1) ∙ idle_turns i body m k.1 (idle_code (suc i) body k.1)
    idle_act i (during c body) k = none_front (g i (during c body)) _ (rows.idle i (during c body) k.0.0 k.0.1) ∙ idle_code (suc i) body k.1
    idle_act i (call name args) k = rows.idle i (call name args) k.0 k.1
    idle_act i (runtime c) k = rows.idle i (runtime c) k.0 k.1

    idle_code : (i : ℕ) (c : Code) → IsIdle p.marks i c → given i c ≡ []
    idle_code i stop k = refl
    idle_code i (step line a rest) k = none_front (given_act i a) _ (idle_act i a k.0) ∙ idle_code (next i a) rest k.1

  -- ---- statements with bodies

  choose_taken : (line : ℕ) (c : Test) (a b : Code) → gathered f (seen r (one line (choose c a b))) ≡ f (seen_act r (choose c a b)) ++ (gathered f (seen r a) ++ gathered f (seen r b))
  choose_taken line c a b =
      gathered_step f 0 (seen_act r (choose c a b)) stop
      ∙ ap (λ l. f (seen_act r (choose c a b)) ++ l) (append-nil (inside f (seen_act r (choose c a b))) ∙ flat_map-append (λ (s : At Act). f s.1) (statements (seen r a)) (statements (seen r b)))

  -- control words give nothing
  told_taken : (idle : Bool) (line n : ℕ) (c : Code) → gathered f (seen r (told_forward idle line c n)) ≡ gathered f (seen r c)
  told_taken true line n c = refl
  told_taken false line n c = taken_append r f c (one line (runtime (push_control (literal n)))) ∙ ap (λ l. gathered f (seen r c) ++ (l ++ [])) (rows.control_none (literal n)) ∙ append-nil (gathered f (seen r c))

  -- nor does counting
  counted_taken : (k line : ℕ) (c : Code) → gathered f (seen r (c +++ one line (assign (helper count k) none (bin plus (var (helper count k)) (literal 1))))) ≡ gathered f (seen r c)
  counted_taken k line c =
      taken_append r f c (one line (assign (helper count k) none (bin plus (var (helper count k)) (literal 1))))
      ∙ ap (λ l. gathered f (seen r c) ++ (l ++ [])) (rows.set_none count k none (rename_term r (bin plus (var (helper count k)) (literal 1))))
      ∙ append-nil (gathered f (seen r c))

  -- three helpers pushed
  three_none : (k line : ℕ) → gathered f (seen r (step line (runtime (push_word (helper first k) none)) (step line (runtime (push_word (helper stride k) none)) (step line (runtime (push_word (helper count k) none)) stop)))) ≡ []
  three_none k line =
      none_front (f (runtime (push_word (r (helper first k)) none))) _ (rows.push_none first k none)
      ∙ none_front (f (runtime (push_word (r (helper stride k)) none))) _ (rows.push_none stride k none)
      ∙ none_front (f (runtime (push_word (r (helper count k)) none))) _ (rows.push_none count k none)

  -- nor what gives its number of snapshots
  set_slots_none : (line k : ℕ) (m : Mark) (rest : Code) → gathered f (seen r (set_slots line k m rest)) ≡ gathered f (seen r rest)
  set_slots_none line k unmarked rest = refl
  set_slots_none line k (with_count n) rest = refl
  set_slots_none line k (count_from y) rest = none_front (f (assign (r (helper slots k)) none (rename_term r (as_slots y)))) _ (rows.set_none slots k none (rename_term r (as_slots y)))

  push_slots_none : (line k : ℕ) (m : Mark) (rest : Code) → gathered f (seen r (push_slots line k m rest)) ≡ gathered f (seen r rest)
  push_slots_none line k unmarked rest = refl
  push_slots_none line k (with_count n) rest = refl
  push_slots_none line k (count_from y) rest = none_front (f (runtime (push_word (r (helper slots k)) none))) _ (rows.push_none slots k none)

  -- the helpers of a loop that is reversed
  all_none : (k line : ℕ) (m : Mark) → gathered f (seen r (push_own line (helper first k) (push_own line (helper stride k) (push_slots line k m (push_own line (helper count k) stop))))) ≡ []
  all_none k line m =
      none_front (f (runtime (push_word (r (helper first k)) none))) _ (rows.push_none first k none)
      ∙ none_front (f (runtime (push_word (r (helper stride k)) none))) _ (rows.push_none stride k none)
      ∙ push_slots_none line k m (push_own line (helper count k) stop)
      ∙ none_front (f (runtime (push_word (r (helper count k)) none))) _ (rows.push_none count k none)

  loop_taken : (i line k : ℕ) (x : List ℕ) (a b c : Term) (body : Code) (m : Mark) → is_emitted p.marks i ≡ true → is_own u (plain x) ≡ true → OverTerm (OwnVar u) NoArray b → (idle : Bool) (swept : Code) →
      gathered f (seen r (code_if (p.marks.saved i (plain x)) (one line (runtime (push_word (plain x) none))) +++ loop_forward idle k line (plain x) a b c swept)) ≡ g i (loop (plain x) a b c body m) ++ gathered f (seen r swept)
  loop_taken i line k x a b c body m e o h idle swept =
      taken_append r f (code_if (p.marks.saved i (plain x)) (one line (runtime (push_word (plain x) none)))) (loop_forward idle k line (plain x) a b c swept) ∙ go idle
    where
      push : List X
      push = gathered f (seen r (code_if (p.marks.saved i (plain x)) (one line (runtime (push_word (plain x) none)))))

      counted : Code
      counted = swept +++ one line (assign (helper count k) none (bin plus (var (helper count k)) (literal 1)))

      own_loop : Act
      own_loop = loop (r (plain x)) (var (r (helper first k))) (rename_term r b) (var (r (helper stride k))) (seen r counted) unmarked

      turns : List X
      turns = gathered f (step 0 own_loop (seen r (step line (runtime (push_word (helper first k) none)) (step line (runtime (push_word (helper stride k) none)) (step line (runtime (push_word (helper count k) none)) stop)))))

      turns_are : turns ≡ f own_loop ++ gathered f (seen r swept)
      turns_are =
          gathered_step f 0 own_loop (seen r (step line (runtime (push_word (helper first k) none)) (step line (runtime (push_word (helper stride k) none)) (step line (runtime (push_word (helper count k) none)) stop))))
          ∙ ap (λ l. f own_loop ++ (inside f own_loop ++ l)) (three_none k line)
          ∙ ap (λ l. f own_loop ++ l) (append-nil (inside f own_loop) ∙ counted_taken k line swept)

      go : (idle : Bool) → push ++ gathered f (seen r (loop_forward idle k line (plain x) a b c swept)) ≡ g i (loop (plain x) a b c body m) ++ gathered f (seen r swept)
      go true =
          let here = seen_act r (loop (plain x) a b c swept unmarked) in
          ap (λ l. push ++ l) (gathered_step f 0 here stop ∙ ap (λ l. f here ++ l) (append-nil (inside f here)))
          ∙ sym (append_assoc push (f here) (gathered f (seen r swept)))
          ∙ ap (λ l. l ++ gathered f (seen r swept)) (rows.loops i line x a b c (rename_term r a) (rename_term r c) body (seen r swept) m e o h)
      go false =
          ap (λ l. push ++ l)
          (none_front (f (assign (r (helper first k)) none (rename_term r a))) _ (rows.set_none first k none (rename_term r a))
          ∙ none_front (f (assign (r (helper stride k)) none (rename_term r c))) _ (rows.set_none stride k none (rename_term r c))
          ∙ none_front (f (assign (r (helper count k)) none (rename_term r (literal 0)))) _ (rows.set_none count k none (rename_term r (literal 0)))
          ∙ turns_are)
          ∙ sym (append_assoc push (f own_loop) (gathered f (seen r swept)))
          ∙ ap (λ l. l ++ gathered f (seen r swept)) (rows.loops i line x a b c (var (r (helper first k))) (var (r (helper stride k))) body (seen r counted) m e o h)

  -- a loop that is reversed
  turns_taken : (i line k : ℕ) (x : List ℕ) (a b c : Term) (body : Code) (m : Mark) (s : Step) → is_emitted p.marks i ≡ true → is_own u (plain x) ≡ true → OverTerm (OwnVar u) NoArray b → AreOwn u s.given →
      gathered f (seen r (code_if (p.marks.saved i (plain x)) (one line (runtime (push_word (plain x) none))) +++ row_forward p i k line x a b c s)) ≡ g i (loop (plain x) a b c body m) ++ h i s
  turns_taken i line k x a b c body m s e o v own =
      taken_append r f (code_if (p.marks.saved i (plain x)) (one line (runtime (push_word (plain x) none)))) (row_forward p i k line x a b c s)
      ∙ ap (λ l. push ++ l)
      (none_front (f (assign (r (helper first k)) none (rename_term r a))) _ (rows.set_none first k none (rename_term r a))
      ∙ none_front (f (assign (r (helper stride k)) none (rename_term r c))) _ (rows.set_none stride k none (rename_term r c))
      ∙ set_slots_none line k s.mark (set_own line (helper count k) (literal 0) (saves +++ (members +++ turns)))
      ∙ none_front (f (assign (r (helper count k)) none (rename_term r (literal 0)))) _ (rows.set_none count k none (rename_term r (literal 0)))
      ∙ taken_append r f saves (members +++ turns)
      ∙ ap (λ l. gathered f (seen r saves) ++ l) (taken_append r f members turns ∙ ap (λ l. gathered f (seen r members) ++ l) turns_are))
      ∙ rows.turns i line x a b c (var (r (helper first k))) (var (r (helper stride k))) body (seen r counted) m s e o v own
    where
      push : List X
      push = gathered f (seen r (code_if (p.marks.saved i (plain x)) (one line (runtime (push_word (plain x) none)))))

      saves : Code
      saves = pushes p line (save_group p.marks i (p.callees s.name) s.given)

      members : Code
      members = pushes p line (step_snapshot (p.callees s.name) s.read s.given)

      swept : Code
      swept = code_if (p.marks.kept (suc i)) (one line (call s.name (actuals_named s.given)))

      counted : Code
      counted = swept +++ one line (assign (helper count k) none (bin plus (var (helper count k)) (literal 1)))

      turns : Code
      turns = step line (loop (plain x) (var (helper first k)) b (var (helper stride k)) counted unmarked) (push_own line (helper first k) (push_own line (helper stride k) (push_slots line k s.mark (push_own line (helper count k) stop))))

      own_loop : Act
      own_loop = loop (r (plain x)) (var (r (helper first k))) (rename_term r b) (var (r (helper stride k))) (seen r counted) unmarked

      turns_are : gathered f (seen r turns) ≡ f own_loop ++ gathered f (seen r swept)
      turns_are =
          gathered_step f 0 own_loop (seen r (push_own line (helper first k) (push_own line (helper stride k) (push_slots line k s.mark (push_own line (helper count k) stop)))))
          ∙ ap (λ l. f own_loop ++ (inside f own_loop ++ l)) (all_none k line s.mark)
          ∙ ap (λ l. f own_loop ++ l) (append-nil (inside f own_loop) ∙ counted_taken k line swept)

  while_taken : (i line k : ℕ) (c : Test) (body : Code) → is_emitted p.marks i ≡ true → OverTest (OwnVar u) NoArray c → (idle : Bool) (swept : Code) → gathered f (seen r (while_forward idle k line c swept)) ≡ g i (during c body) ++ gathered f (seen r swept)
  while_taken i line k c body e h true swept =
      let here = seen_act r (during c swept) in
      gathered_step f 0 here stop ∙ ap (λ l. f here ++ l) (append-nil (inside f here)) ∙ ap (λ l. l ++ gathered f (seen r swept)) (rows.whiles i c body (seen r swept) e h)
  while_taken i line k c body e h false swept =
      none_front (f (assign (r (helper count k)) none (rename_term r (literal 0)))) _ (rows.set_none count k none (rename_term r (literal 0)))
      ∙ gathered_step f 0 here (seen r (one line (runtime (push_word (helper count k) none))))
      ∙ ap (λ l. f here ++ (inside f here ++ (l ++ []))) (rows.push_none count k none)
      ∙ ap (λ l. f here ++ l) (append-nil (inside f here) ∙ counted_taken k line swept)
      ∙ ap (λ l. l ++ gathered f (seen r swept)) (rows.whiles i c body (seen r counted) e h)
    where
      counted : Code
      counted = swept +++ one line (assign (helper count k) none (bin plus (var (helper count k)) (literal 1)))

      here : Act
      here = during (rename_test r c) (seen r counted)

  -- ---- the sweep

  mutual
    act_taken : (i d line : ℕ) (a : Act) → OverAct (OwnVar u) NoArray Any a → IsClosed' p.marks i a → gathered f (seen r (forward_act_with sc p i d line a)) ≡ given_act i a
    act_taken i d line (assign (plain x) subs e) o k = rows.assigns i line x subs e o
    act_taken i d line (assign (shadow x) none e) o k = absurd (let z : false ≡ true = o.0 in cc)
    act_taken i d line (assign (shadow x) (more s ss) e) o k = absurd (let z : false ≡ true = o.0.0 in cc)
    act_taken i d line (assign (helper t j) none e) o k = absurd (let z : false ≡ true = o.0 in cc)
    act_taken i d line (assign (helper t j) (more s ss) e) o k = absurd (let z : false ≡ true = o.0.0 in cc)
    act_taken i d line (choose c a b) o k = go (is_emitted p.marks i) refl (code_taken (suc i) d a o.1.0 k.1.0) (code_taken (behind (suc i) a) d b o.1.1 k.1.1) (λ e. let none = or_false (p.marks.kept i) (p.marks.adjointed i) e in idle_act i (choose c a b) ((none.0, none.1), k.0 e))
      where
        idle : Bool
        idle = is_empty (backward_with sc p (suc i) d a) && is_empty (backward_with sc p (behind (suc i) a) d b)

        there : Code
        there = told_forward idle line (forward_with sc p (suc i) d a) 1

        else_there : Code
        else_there = told_forward idle line (forward_with sc p (behind (suc i) a) d b) 0

        go : (e : Bool) → is_emitted p.marks i ≡ e → gathered f (seen r (forward_with sc p (suc i) d a)) ≡ given (suc i) a → gathered f (seen r (forward_with sc p (behind (suc i) a) d b)) ≡ given (behind (suc i) a) b → (is_emitted p.marks i ≡ false → given_act i (choose c a b) ≡ []) →
            gathered f (seen r (code_if e (one line (choose c there else_there)))) ≡ given_act i (choose c a b)
        go true e one_part other_part idled =
            choose_taken line c there else_there
            ∙ (λ j. rows.chooses i c a b (seen r there) (seen r else_there) e o.0 j ++ ((told_taken idle line 1 (forward_with sc p (suc i) d a) ∙ one_part) j ++ (told_taken idle line 0 (forward_with sc p (behind (suc i) a) d b) ∙ other_part) j))
        go false e one_part other_part idled = sym (idled e)
    act_taken i d line (loop (plain x) a b c body m) o k = go (is_emitted p.marks i) refl (reversed_by sc p.marks.adjointed i body m) refl (code_taken (suc i) (suc d) body o.1.1.1.1.0 k.1) (λ e. let none = or_false (p.marks.kept i) (p.marks.adjointed i) e in idle_act i (loop (plain x) a b c body m) ((none.0, none.1), k.0 e))
      where
        idle : Bool
        idle = is_empty (backward_with sc p (suc i) (suc d) body)

        swept : Code
        swept = forward_with sc p (suc i) (suc d) body

        row : Option Step → Code
        row t = found_or t (loop_forward idle (suc d) line (plain x) a b c swept) (λ s. row_forward p i (suc d) line x a b c s)

        go : (e : Bool) → is_emitted p.marks i ≡ e → (t : Option Step) → reversed_by sc p.marks.adjointed i body m ≡ t → gathered f (seen r swept) ≡ given (suc i) body → (is_emitted p.marks i ≡ false → g i (loop (plain x) a b c body m) ++ found_or t (given (suc i) body) (h i) ≡ []) →
            gathered f (seen r (code_if e (code_if (p.marks.saved i (plain x)) (one line (runtime (push_word (plain x) none))) +++ row t))) ≡ g i (loop (plain x) a b c body m) ++ found_or t (given (suc i) body) (h i)
        go true e None q turn idled = loop_taken i line (suc d) x a b c body m e o.0 o.1.1.0 idle swept ∙ ap (λ l. g i (loop (plain x) a b c body m) ++ l) turn
        go true e (Some s) q turn idled = turns_taken i line (suc d) x a b c body m s e o.0 o.1.1.0 (step_own u sc p.marks.adjointed i body m s q o.1.1.1.1.0)
        go false e t q turn idled = sym (idled e)
    act_taken i d line (loop (shadow x) a b c body m) o k = absurd (let z : false ≡ true = o.0 in cc)
    act_taken i d line (loop (helper t j) a b c body m) o k = absurd (let z : false ≡ true = o.0 in cc)
    act_taken i d line (during c body) o k = go (is_emitted p.marks i) refl (code_taken (suc i) (suc d) body o.1 k.1) (λ e. let none = or_false (p.marks.kept i) (p.marks.adjointed i) e in idle_act i (during c body) ((none.0, none.1), k.0 e))
      where
        idle : Bool
        idle = is_empty (backward_with sc p (suc i) (suc d) body)

        swept : Code
        swept = forward_with sc p (suc i) (suc d) body

        go : (e : Bool) → is_emitted p.marks i ≡ e → gathered f (seen r swept) ≡ given (suc i) body → (is_emitted p.marks i ≡ false → given_act i (during c body) ≡ []) → gathered f (seen r (code_if e (while_forward idle (suc d) line c swept))) ≡ given_act i (during c body)
        go true e turn idled = while_taken i line (suc d) c body e o.0 idle swept ∙ ap (λ l. g i (during c body) ++ l) turn
        go false e turn idled = sym (idled e)
    act_taken i d line (call name args) o k = go (is_emitted p.marks i) refl (p.marks.split i) refl
      where
        row : Code
        row = pushes p line (save_group p.marks i (p.callees name) (names_of args)) +++ (code_if (p.marks.adjointed i) (pushes p line (snapshot_group (p.callees name) (names_of args))) +++ code_if (p.marks.kept i) (one line (call name args)))

        go : (e : Bool) → is_emitted p.marks i ≡ e → (s : Bool) → p.marks.split i ≡ s → gathered f (seen r (code_if e (if s then one line (call (p.callees name).forth args) else row))) ≡ g i (call name args)
        go true e true h = rows.splits i line name args h (k h) o
        go true e false h = rows.calls i line name args h e o
        go false e s h =
            let none = or_false (p.marks.kept i) (p.marks.adjointed i) e in
            sym (rows.idle i (call name args) none.0 none.1)
    act_taken i d line (runtime c) o k = sym (rows.ran i (runtime c) tt)

    pub code_taken : (i d : ℕ) (c : Code) → OverCode (OwnVar u) NoArray Any c → IsClosed p.marks i c → gathered f (seen r (forward_with sc p i d c)) ≡ gathered_list sc p.marks.adjointed g h i c
    code_taken i d stop o k = refl
    code_taken i d (step line a rest) o k =
        taken_append r f (forward_act_with sc p i d line a) (forward_with sc p (next i a) d rest) ∙ (λ j. act_taken i d line a o.0 k.0 j ++ code_taken (next i a) d rest o.1 k.1 j)
