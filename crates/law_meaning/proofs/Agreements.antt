-- Statements end alike from scenes that agree on the cells of what they read.
use Rattle.std.proofs.Common.{◌≡◌, ℕ, zero, suc, ◌+◌, ◌<◌, Bool, true, false, List, [], ◌∷◌, refl, ap, ◌∙◌, subst, arith, ◌⊎◌, inl, inr}
use Rattle.std.specs.Prelude.{ℤ, Result, Ok, Err, Option, Some, None, length, map, reverse, ◌&&◌, ◌||◌, ◌==◌, not, if◌then◌else◌}
use Rattle.adj_tree.specs.Code.{Var, var_eq, Term, lit, var, elem, neg, bin, pow, power_of, abs, Terms, none, more, Test, compare, negation, conjunction, disjunction, Runtime, push_word, pop_word, push_array, pop_array, push_control, pop_control, zero_array, begin_reversal, count_actions, give_action, end_reversal, Mark, unmarked, with_count, count_from, Act, assign, choose, loop, during, call, runtime, Code, stop, step}
use Rattle.adj_word.specs.Word.{wrap, add}
use Rattle.def_meaning.specs.Trap.{Trap, index, step_trap, then_ok, or_trap}
use Rattle.def_meaning.specs.Numbers.{operation, absolute, compares}
use Rattle.def_meaning.specs.Store.{size_of, Store, set, set_all, cells_from, cell_of}
use Rattle.def_meaning.specs.Value.{Setting, exponent_of, value, values, cell_at, target, holds}
use Rattle.def_meaning.specs.Event.{Begin, End, Marked}
use Rattle.def_meaning.specs.Scene.{Scene, Stand, stand, Go, Outcome, Done, Trapped, More, Full, then_do, with_value, counted, has_room, pushed, pushed_all, with_top, popped, popped_all}
use Rattle.def_meaning.specs.Runtime.{runtime_act, steps_of, snapshots_of, actions_of, action_at, kind_of, lower_of, upper_of, number, ended}
use Rattle.def_meaning.specs.Run.{Calls, most_tests, trips, turns, stepped, with_turn, from_1_to_64, in_force, after_loop, tests, act, run}
use Rattle.def_meaning.specs.LeastSet.{Dummies}
use Rattle.def_meaning.specs.Read.{reads_term, reads_terms, reads_test, reads_actuals, reads_runtime, reads_mark, act_reads, reads}
use Rattle.law_meaning.specs.Agree.{AgreeOn, EndAlike}
use Rattle.def_meaning.proofs.Booleans.{or_first, or_second}
use Rattle.def_meaning.proofs.Variables.{var_refl}
use Rattle.def_meaning.proofs.Cells.{size_positive, cell_below}

-- ---- cells

-- a set of cells
abbrev pub Cells : Type 1
Cells = Var → ℕ → Type 0

-- all cells of the variables of which p holds are in the set
abbrev pub Covers : {C : Type 0} → Setting C → Cells → (Var → Bool) → Type 0
Covers n A p = (x : Var) → p x ≡ true → (i : ℕ) → i < size_of (n.shape x) → A x i

module _ {C : Type 0} (n : Setting C) (A : Cells) (p q : Var → Bool) (h : Covers n A (λ x. p x || q x)) where
  -- what covers two sets of variables covers each of them
  pub covers_first : Covers n A p
  covers_first x e = h x (or_first (p x) (q x) e)

  pub covers_second : Covers n A q
  covers_second x e = h x (or_second (p x) (q x) e)

abbrev pub StoresAgree : {C : Type 0} → Cells → Store C → Store C → Type 0
StoresAgree A f g = (x : Var) (i : ℕ) → A x i → f x i ≡ g x i

-- stores that agree agree where the same number is set in both
pub set_alike : {C : Type 0} (A : Cells) (f g : Store C) (y : Var) (j : ℕ) (c : C) → StoresAgree A f g → StoresAgree A (set f y j c) (set g y j c)
set_alike A f g y j c h x i a = ap (λ z. if var_eq x y && (i == j) then c else z) (h x i a)

-- and where a variable is set whole
pub set_all_alike : {C : Type 0} (A : Cells) (f g : Store C) (y : Var) (cs : ℕ → C) → StoresAgree A f g → StoresAgree A (set_all f y cs) (set_all g y cs)
set_all_alike A f g y cs h x i a = ap (λ z. if var_eq x y then cs i else z) (h x i a)

-- ---- values

-- where the first values are the same, and the same goes on from each
same_ok : {A B : Type 0} (v w : Result A Trap) (f g : A → Result B Trap) → v ≡ w → ((a : A) → v ≡ Ok a → f a ≡ g a) → then_ok v f ≡ then_ok w g
same_ok (Ok a) w f g e h = h a refl ∙ ap (λ z. then_ok z g) e
same_ok (Err t) w f g e h = ap (λ z. then_ok z g) e

-- the cell that subscripts name is one of the variable's
pub cell_bound : {C : Type 0} (n : Setting C) (x : Var) (is : List ℤ) (i : ℕ) → cell_at n x is ≡ Ok i → i < size_of (n.shape x)
cell_bound n x is i h = go (cell_of (n.shape x) is) refl h
  where
    go : (o : Option ℕ) → cell_of (n.shape x) is ≡ o → or_trap index o ≡ Ok i → i < size_of (n.shape x)
    go (Some j) e h = let s : j ≡ i = cc in cell_below (n.shape x) is i (e ∙ ap Some s)
    go None e h = absurd cc

module _ {C : Type 0} (n : Setting C) (A : Cells) (f g : Store C) (agree : StoresAgree A f g) where
  mutual
    -- an expression has the same value in stores that agree on what it reads
    pub value_alike : (e : Term) → Covers n A (λ x. reads_term x e) → value n e f ≡ value n e g
    value_alike (lit z) c = refl
    value_alike (var x) c = ap Ok (agree x 0 (c x (var_refl x) 0 (size_positive (n.shape x))))
    value_alike (elem x subs) c =
        same_ok (values n subs f) (values n subs g) (λ is. then_ok (cell_at n x is) (λ i. Ok (f x i))) (λ is. then_ok (cell_at n x is) (λ i. Ok (g x i)))
        (values_alike subs (covers_second n A (λ y. var_eq y x) (λ y. reads_terms y subs) c))
        (λ is w. same_ok (cell_at n x is) (cell_at n x is) (λ i. Ok (f x i)) (λ i. Ok (g x i)) refl
        (λ i b. ap Ok (agree x i (covers_first n A (λ y. var_eq y x) (λ y. reads_terms y subs) c x (var_refl x) i (cell_bound n x is i b)))))
    value_alike (neg a) c = ap (λ z. then_ok z (λ u. Ok (n.numbers.negation u))) (value_alike a c)
    value_alike (bin op a b) c =
        λ i. then_ok (value_alike a (covers_first n A (λ x. reads_term x a) (λ x. reads_term x b) c) i) (λ u. then_ok (value_alike b (covers_second n A (λ x. reads_term x a) (λ x. reads_term x b) c) i) (λ v. operation n.numbers op u v))
    value_alike (pow a k) c = ap (λ z. then_ok z (λ u. Ok (n.numbers.raised_to u k))) (value_alike a c)
    value_alike (power_of a b) c =
        λ i. then_ok (value_alike a (covers_first n A (λ x. reads_term x a) (λ x. reads_term x b) c) i) (λ u. then_ok (value_alike b (covers_second n A (λ x. reads_term x a) (λ x. reads_term x b) c) i) (λ v. then_ok (exponent_of (n.numbers.shown v)) (λ k. Ok (n.numbers.raised_to u k))))
    value_alike (abs a) c = ap (λ z. then_ok z (λ u. Ok (absolute n.numbers u))) (value_alike a c)

    pub values_alike : (es : Terms) → Covers n A (λ x. reads_terms x es) → values n es f ≡ values n es g
    values_alike none c = refl
    values_alike (more e es) c =
        λ i. then_ok (value_alike e (covers_first n A (λ x. reads_term x e) (λ x. reads_terms x es) c) i) (λ u. then_ok (values_alike es (covers_second n A (λ x. reads_term x e) (λ x. reads_terms x es) c) i) (λ us. Ok (n.numbers.shown u ∷ us)))

  -- subscripts name the same cell
  pub target_alike : (x : Var) (subs : Terms) → Covers n A (λ y. reads_terms y subs) → target n x subs f ≡ target n x subs g
  target_alike x none c = refl
  target_alike x (more e es) c = ap (λ z. then_ok z (λ is. cell_at n x is)) (values_alike (more e es) c)

  -- a condition holds in both or in neither
  pub holds_alike : (t : Test) → Covers n A (λ x. reads_test x t) → holds n t f ≡ holds n t g
  holds_alike (compare r a b) c =
      λ i. then_ok (value_alike a (covers_first n A (λ x. reads_term x a) (λ x. reads_term x b) c) i) (λ u. then_ok (value_alike b (covers_second n A (λ x. reads_term x a) (λ x. reads_term x b) c) i) (λ v. Ok (compares r (n.numbers.shown u) (n.numbers.shown v))))
  holds_alike (negation t) c = ap (λ z. then_ok z (λ u. Ok (not u))) (holds_alike t c)
  holds_alike (conjunction t u) c =
      λ i. then_ok (holds_alike t (covers_first n A (λ x. reads_test x t) (λ x. reads_test x u) c) i) (λ v. then_ok (holds_alike u (covers_second n A (λ x. reads_test x t) (λ x. reads_test x u) c) i) (λ w. Ok (v && w)))
  holds_alike (disjunction t u) c =
      λ i. then_ok (holds_alike t (covers_first n A (λ x. reads_test x t) (λ x. reads_test x u) c) i) (λ v. then_ok (holds_alike u (covers_second n A (λ x. reads_test x t) (λ x. reads_test x u) c) i) (λ w. Ok (v || w)))

-- the cell of a target is one of its variable's
target_bound : {C : Type 0} (n : Setting C) (x : Var) (subs : Terms) (s : Store C) (i : ℕ) → target n x subs s ≡ Ok i → i < size_of (n.shape x)
target_bound n x none s i h = let e : 0 ≡ i = cc in subst (λ z. z < size_of (n.shape x)) e (size_positive (n.shape x))
target_bound n x (more e es) s i h = go (values n (more e es) s) h
  where
    go : (v : Result (List ℤ) Trap) → then_ok v (λ is. cell_at n x is) ≡ Ok i → i < size_of (n.shape x)
    go (Ok is) h = cell_bound n x is i h
    go (Err t) h = absurd cc

-- ---- how outcomes are put together

module _ {C : Type 0} (A : Cells) where
  -- what goes on alike from results that are alike ends alike
  pub then_alike : (B : Cells) (o p : Outcome (Scene C)) (f g : Go C) → EndAlike A o p → ((s t : Scene C) → AgreeOn A s t → (k : ℕ) → EndAlike B (f s k) (g t k)) → EndAlike B (then_do o f) (then_do p g)
  then_alike B (Done s j) (Done t k) f g e h = subst (λ z. EndAlike B (f s j) (g t z)) e.1 (h s t e.0 j)
  then_alike B (Done s j) (Trapped b m x) f g e h = absurd e
  then_alike B (Done s j) (More x) f g e h = absurd e
  then_alike B (Done s j) (Full x) f g e h = absurd e
  then_alike B (Trapped a l w) (Done t k) f g e h = absurd e
  then_alike B (Trapped a l w) (Trapped b m x) f g e h = e
  then_alike B (Trapped a l w) (More x) f g e h = absurd e
  then_alike B (Trapped a l w) (Full x) f g e h = absurd e
  then_alike B (More w) (Done t k) f g e h = absurd e
  then_alike B (More w) (Trapped b m x) f g e h = absurd e
  then_alike B (More w) (More x) f g e h = e
  then_alike B (More w) (Full x) f g e h = absurd e
  then_alike B (Full w) (Done t k) f g e h = absurd e
  then_alike B (Full w) (Trapped b m x) f g e h = absurd e
  then_alike B (Full w) (More x) f g e h = absurd e
  then_alike B (Full w) (Full x) f g e h = e

  -- where runs stop in scenes that agree, the same stands
  pub stand_alike : (n : Setting C) (s t : Scene C) → AgreeOn A s t → stand n s ≡ stand n t
  stand_alike n s t e = λ i. record { tape = map n.numbers.shown (e.tape i); events = reverse (e.events i) }

  -- a statement is counted in both or in neither
  pub counted_alike : {v w : Stand} → v ≡ w → (k : ℕ) (f g : ℕ → Outcome (Scene C)) → ((j : ℕ) → EndAlike A (f j) (g j)) → EndAlike A (counted v k f) (counted w k g)
  counted_alike e zero f g h = e
  counted_alike e (suc k) f g h = h k

  -- the same value, or the same trap, leads to the like
  pub with_alike : {B : Type 0} {x y : Stand} (v w : Result B Trap) (line : ℕ) → x ≡ y → (f g : B → Outcome (Scene C)) → v ≡ w → ((b : B) → v ≡ Ok b → EndAlike A (f b) (g b)) → EndAlike A (with_value v line x f) (with_value w line y g)
  with_alike {y = y} (Ok b) w line l f g e h = subst (λ z. EndAlike A (f b) (with_value z line y g)) e (h b refl)
  with_alike {x = x} {y = y} (Err t) w line l f g e h = subst (λ z. EndAlike A (Trapped t line x) (with_value z line y g)) e (refl, refl, l)

  -- the same branch of both
  pub if_alike : (p : Bool) (o o1 w w1 : Outcome (Scene C)) → EndAlike A o w → EndAlike A o1 w1 → EndAlike A (if p then o else o1) (if p then w else w1)
  if_alike true o o1 w w1 e f = e
  if_alike false o o1 w w1 e f = f

  -- the turns of a loop end alike where each turn and each step does
  turns_alike : (n : Setting C) (m : ℕ) (f g : Go C) (a : Scene C → Scene C) → ((s t : Scene C) → AgreeOn A s t → (k : ℕ) → EndAlike A (f s k) (g t k)) → ((s t : Scene C) → AgreeOn A s t → AgreeOn A (a s) (a t)) → (s t : Scene C) → AgreeOn A s t → (k : ℕ) → EndAlike A (turns n m f a s k) (turns n m g a t k)
  turns_alike n zero f g a h d s t e k = (e, refl)
  turns_alike n (suc m) f g a h d s t e k =
      counted_alike (stand_alike n s t e) k _ _ (λ j. then_alike A (f s j) (g t j) (λ s1 i. turns n m f a (a s1) i) (λ t1 i. turns n m g a (a t1) i) (h s t e j)
      (λ s1 t1 e1 i. turns_alike n m f g a h d (a s1) (a t1) (d s1 t1 e1) i))

  -- scenes that agree, with other stores that agree
  stored_alike : (s t : Scene C) → AgreeOn A s t → (f g : Store C) → StoresAgree A f g → AgreeOn A (record s { store = f }) (record t { store = g })
  stored_alike s t e f g h = record { store = h; tape = e.tape; opened = e.opened; events = e.events }

  -- scenes that agree are done alike with stores that agree
  pub done_alike : (s t : Scene C) → AgreeOn A s t → (f g : Store C) → StoresAgree A f g → (k : ℕ) → EndAlike A (Done (record s { store = f }) k) (Done (record t { store = g }) k)
  done_alike s t e f g h k = (stored_alike s t e f g h, refl)

  -- ---- runtime calls

  module _ (n : Setting C) where
    -- a push of one word
    pushed_alike : (c d : C) → c ≡ d → (s t : Scene C) → AgreeOn A s t → (k : ℕ) → EndAlike A (pushed n c s k) (pushed n d t k)
    pushed_alike c d same s t e k =
        subst (λ z. EndAlike A (pushed n c s k) (if has_room n.room (length z) then Done (record t { tape = d ∷ t.tape }) k else Full (stand n t))) e.tape
        (if_alike (has_room n.room (length s.tape)) (Done (record s { tape = c ∷ s.tape }) k) (Full (stand n s)) (Done (record t { tape = d ∷ t.tape }) k) (Full (stand n t))
        (record { store = e.store; tape = λ i. same i ∷ e.tape i; opened = e.opened; events = e.events }, refl) (stand_alike n s t e))

    -- of some words
    pushed_all_alike : (cs : List C) (s t : Scene C) → AgreeOn A s t → (k : ℕ) → EndAlike A (pushed_all n cs s k) (pushed_all n cs t k)
    pushed_all_alike [] s t e k = (e, refl)
    pushed_all_alike (c ∷ cs) s t e k = then_alike A (pushed n c s k) (pushed n c t k) (pushed_all n cs) (pushed_all n cs) (pushed_alike c c refl s t e k) (λ s1 t1 e1 j. pushed_all_alike cs s1 t1 e1 j)

    -- a pop of one word
    popped_alike : (x : Var) (i line : ℕ) (s t : Scene C) → AgreeOn A s t → (k : ℕ) → EndAlike A (popped n x i line s k) (popped n x i line t k)
    popped_alike x i line s t e k =
        subst (λ z. EndAlike A (popped n x i line s k) (with_top z line (stand n t) (λ c cs. Done (record t { store = set t.store x i c; tape = cs }) k))) e.tape (go s.tape)
      where
        go : (w : List C) → EndAlike A (with_top w line (stand n s) (λ c cs. Done (record s { store = set s.store x i c; tape = cs }) k)) (with_top w line (stand n t) (λ c cs. Done (record t { store = set t.store x i c; tape = cs }) k))
        go [] = (refl, refl, stand_alike n s t e)
        go (c ∷ cs) = (record { store = set_alike A s.store t.store x i c e.store; tape = refl; opened = e.opened; events = e.events }, refl)

    -- of some words
    popped_all_alike : (x : Var) (m line : ℕ) (s t : Scene C) → AgreeOn A s t → (k : ℕ) → EndAlike A (popped_all n x m line s k) (popped_all n x m line t k)
    popped_all_alike x zero line s t e k = (e, refl)
    popped_all_alike x (suc i) line s t e k = then_alike A (popped n x i line s k) (popped n x i line t k) (popped_all n x i line) (popped_all n x i line) (popped_alike x i line s t e k) (λ s1 t1 e1 j. popped_all_alike x i line s1 t1 e1 j)

    -- the end of a reversal
    ended_alike : (m line : ℕ) (s t : Scene C) → AgreeOn A s t → (k : ℕ) → EndAlike A (ended n m line s k) (ended n m line t k)
    ended_alike zero line s t e k = (refl, refl, stand_alike n s t e)
    ended_alike (suc m) line s t e k = (record { store = e.store; tape = e.tape; opened = refl; events = ap (λ z. End n.level ∷ z) e.events }, refl)

    -- a variable's cells are the same list
    cells_alike : (x : Var) (f g : Store C) → StoresAgree A f g → (i m : ℕ) → ((j : ℕ) → j < i + m → A x j) → cells_from (f x) i m ≡ cells_from (g x) i m
    cells_alike x f g h i zero c = refl
    cells_alike x f g h i (suc m) c = λ k. h x i (c i (omega arith)) k ∷ cells_alike x f g h (suc i) m (λ j l. c j (omega arith)) k

    -- a runtime call ends alike from scenes that agree on what it reads
    runtime_alike : (r : Runtime) (line : ℕ) → Covers n A (λ x. reads_runtime x r) → (s t : Scene C) → AgreeOn A s t → (k : ℕ) → EndAlike A (runtime_act n r line s k) (runtime_act n r line t k)
    runtime_alike (push_word x subs) line c s t e k =
        with_alike (target n x subs s.store) (target n x subs t.store) line (stand_alike n s t e) _ _ (target_alike n A s.store t.store e.store x subs (covers_second n A (λ y. var_eq y x) (λ y. reads_terms y subs) c))
        (λ i w. pushed_alike (s.store x i) (t.store x i) (e.store x i (covers_first n A (λ y. var_eq y x) (λ y. reads_terms y subs) c x (var_refl x) i (target_bound n x subs s.store i w))) s t e k)
    runtime_alike (pop_word x subs) line c s t e k =
        with_alike (target n x subs s.store) (target n x subs t.store) line (stand_alike n s t e) _ _ (target_alike n A s.store t.store e.store x subs c) (λ i w. popped_alike x i line s t e k)
    runtime_alike (push_array x) line c s t e k =
        subst (λ z. EndAlike A (pushed_all n (cells_from (s.store x) 0 (size_of (n.shape x))) s k) (pushed_all n z t k)) (cells_alike x s.store t.store e.store 0 (size_of (n.shape x)) (λ j l. c x (var_refl x) j (omega arith)))
        (pushed_all_alike (cells_from (s.store x) 0 (size_of (n.shape x))) s t e k)
    runtime_alike (pop_array x) line c s t e k = popped_all_alike x (size_of (n.shape x)) line s t e k
    runtime_alike (push_control a) line c s t e k =
        with_alike (value n a s.store) (value n a t.store) line (stand_alike n s t e) _ _ (value_alike n A s.store t.store e.store a c) (λ u w. pushed_alike u u refl s t e k)
    runtime_alike (pop_control x) line c s t e k = popped_alike x 0 line s t e k
    runtime_alike (zero_array x) line c s t e k = done_alike s t e _ _ (set_all_alike A s.store t.store x (λ j. number n 0) e.store) k
    runtime_alike (begin_reversal l m) line c s t e k =
        with_alike _ _ line (stand_alike n s t e) _ _ (value_alike n A s.store t.store e.store l (covers_first n A (λ x. reads_term x l) (λ x. reads_term x m) c)) (λ u w.
        with_alike _ _ line (stand_alike n s t e) _ _ (value_alike n A s.store t.store e.store m (covers_second n A (λ x. reads_term x l) (λ x. reads_term x m) c)) (λ v w1.
        with_alike (steps_of (n.numbers.shown u)) _ line (stand_alike n s t e) _ _ refl (λ steps w2. with_alike (snapshots_of (n.numbers.shown v)) _ line (stand_alike n s t e) _ _ refl (λ snapshots w3.
        (record { store = e.store; tape = e.tape; opened = ap suc e.opened; events = λ i. Begin steps snapshots n.level (length (e.tape i)) ∷ e.events i }, refl)))))
    runtime_alike (count_actions l m x) line c s t e k =
        with_alike _ _ line (stand_alike n s t e) _ _ (value_alike n A s.store t.store e.store l (covers_first n A (λ x. reads_term x l) (λ x. reads_term x m) c)) (λ u w.
        with_alike _ _ line (stand_alike n s t e) _ _ (value_alike n A s.store t.store e.store m (covers_second n A (λ x. reads_term x l) (λ x. reads_term x m) c)) (λ v w1.
        with_alike (actions_of (n.numbers.shown u) (n.numbers.shown v)) _ line (stand_alike n s t e) _ _ refl (λ list w2.
        done_alike s t e _ _ (set_alike A s.store t.store x 0 (number n (length list)) e.store) k)))
    runtime_alike (give_action l m a x y z) line c s t e k =
        let cs = covers_second n A (λ x. reads_term x l) (λ x. reads_term x m || reads_term x a) c in
        with_alike _ _ line (stand_alike n s t e) _ _ (value_alike n A s.store t.store e.store l (covers_first n A (λ x. reads_term x l) (λ x. reads_term x m || reads_term x a) c)) (λ u w.
        with_alike _ _ line (stand_alike n s t e) _ _ (value_alike n A s.store t.store e.store m (covers_first n A (λ x. reads_term x m) (λ x. reads_term x a) cs)) (λ v w1.
        with_alike _ _ line (stand_alike n s t e) _ _ (value_alike n A s.store t.store e.store a (covers_second n A (λ x. reads_term x m) (λ x. reads_term x a) cs)) (λ o w2.
        with_alike (actions_of (n.numbers.shown u) (n.numbers.shown v)) _ line (stand_alike n s t e) _ _ refl (λ list w3. with_alike (action_at (n.numbers.shown o) list) _ line (stand_alike n s t e) _ _ refl (λ one w4.
        let first = number n (kind_of one) in
        let second = number n (lower_of one) in
        let third = number n (upper_of one) in
        done_alike s t e (set (set (set s.store x 0 first) y 0 second) z 0 third) (set (set (set t.store x 0 first) y 0 second) z 0 third)
        (set_alike A (set (set s.store x 0 first) y 0 second) (set (set t.store x 0 first) y 0 second) z 0 third
        (set_alike A (set s.store x 0 first) (set t.store x 0 first) y 0 second (set_alike A s.store t.store x 0 first e.store))) k)))))
    runtime_alike end_reversal line c s t e k =
        subst (λ z. EndAlike A (ended n s.opened line s k) (ended n z line t k)) e.opened (ended_alike s.opened line s t e k)

-- ---- statements

-- calls end alike from scenes that agree on what they read, where `looked` says which dummies of a unit are read
abbrev pub CallsDepend : {C : Type 0} → Dummies → Calls C → Type 1
CallsDepend looked q = (A : Cells) (n : Setting _) (name : List ℕ) (args : Terms) (line : ℕ) → Covers n A (λ x. reads_actuals x (looked name) args) → (s t : Scene _) → AgreeOn A s t → (k : ℕ) → EndAlike A (q n name args line s k) (q n name args line t k)

-- a set of cells and a variable's first cell
abbrev pub WithFirst : Cells → Var → Cells
WithFirst A y x i = A x i ⊎ ((var_eq x y && (i == 0)) ≡ true)

-- what agrees on more cells agrees on these
weaker : {C : Type 0} (A : Cells) (y : Var) (s t : Scene C) → AgreeOn (WithFirst A y) s t → AgreeOn A s t
weaker A y s t e = record { store = λ x i a. e.store x i (inl a); tape = e.tape; opened = e.opened; events = e.events }

module _ {C : Type 0} (n : Setting C) (A : Cells) (y : Var) where
  -- the first value of a loop's variable
  turned_alike : (z : ℤ) (s t : Scene C) → AgreeOn A s t → AgreeOn (WithFirst A y) (with_turn n y z s) (with_turn n y z t)
  turned_alike z s t e = record { store = store; tape = e.tape; opened = e.opened; events = e.events }
    where
      store : StoresAgree (WithFirst A y) (set s.store y 0 (n.numbers.of_word z)) (set t.store y 0 (n.numbers.of_word z))
      store x i (inl a) = set_alike A s.store t.store y 0 (n.numbers.of_word z) e.store x i a
      store x i (inr f) = rw f refl

  -- the step after a turn
  stepped_alike : (c : ℤ) (s t : Scene C) → AgreeOn (WithFirst A y) s t → AgreeOn (WithFirst A y) (stepped n y c s) (stepped n y c t)
  stepped_alike c s t e =
      let here : (var_eq y y && (0 == 0)) ≡ true = rw (var_refl y) refl in
      let next = n.numbers.of_word (add (n.numbers.shown (s.store y 0)) c) in
      let same : next ≡ n.numbers.of_word (add (n.numbers.shown (t.store y 0)) c) = ap (λ z. n.numbers.of_word (add (n.numbers.shown z) c)) (e.store y 0 (inr here)) in
      record {
        store = λ x i a. set_alike (WithFirst A y) s.store t.store y 0 next e.store x i a ∙ ap (λ z. set t.store y 0 z x i) same;
        tape = e.tape;
        opened = e.opened;
        events = e.events;
      }

-- the end of a loop
told_alike : {C : Type 0} (A : Cells) (line m : ℕ) (force : Option ℕ) (s t : Scene C) → AgreeOn A s t → AgreeOn A (after_loop line m force s) (after_loop line m force t)
told_alike A line m None s t e = e
told_alike A line m (Some snapshots) s t e = record { store = e.store; tape = e.tape; opened = e.opened; events = ap (λ z. Marked line m snapshots ∷ z) e.events }

-- the number of snapshots in force
force_alike : {C : Type 0} (n : Setting C) (A : Cells) (m : Mark) (f g : Store C) → StoresAgree A f g → Covers n A (λ x. reads_mark x m) → in_force n m f ≡ in_force n m g
force_alike n A unmarked f g e c = refl
force_alike n A (with_count m) f g e c = refl
force_alike n A (count_from x) f g e c = ap (λ z. Some (from_1_to_64 (n.numbers.shown z))) (e x 0 (c x (var_refl x) 0 (size_positive (n.shape x))))

-- the tests and turns of a DO WHILE
tests_alike : {C : Type 0} (n : Setting C) (A : Cells) (m : ℕ) (f g : Scene C → Result Bool Trap) (line : ℕ) (go go' : Go C) → ((s t : Scene C) → AgreeOn A s t → f s ≡ g t) → ((s t : Scene C) → AgreeOn A s t → (k : ℕ) → EndAlike A (go s k) (go' t k)) → (s t : Scene C) → AgreeOn A s t → (k : ℕ) → EndAlike A (tests n m f line go s k) (tests n m g line go' t k)
tests_alike n A zero f g line go go' h d s t e k =
    with_alike A (f s) (g t) line (stand_alike A n s t e) _ _ (h s t e) (λ p w. if_alike A p (Trapped step_trap line (stand n s)) (Done s k) (Trapped step_trap line (stand n t)) (Done t k) (refl, refl, stand_alike A n s t e) (e, refl))
tests_alike n A (suc m) f g line go go' h d s t e k =
    with_alike A (f s) (g t) line (stand_alike A n s t e) _ _ (h s t e) (λ p w.
    if_alike A p _ (Done s k) _ (Done t k)
    (then_alike A A (go s k) (go' t k) _ _ (d s t e k) (λ s1 t1 e1 j. counted_alike A (stand_alike A n s1 t1 e1) j _ _ (λ i. tests_alike n A m f g line go go' h d s1 t1 e1 i)))
    (e, refl))

module _ {C : Type 0} (looked : Dummies) (q : Calls C) (depend : CallsDepend looked q) (n : Setting C) where
  mutual
    -- a statement ends alike from scenes that agree on what it reads
    act_alike : (A : Cells) (a : Act) (line : ℕ) → Covers n A (λ x. act_reads looked x a) → (s t : Scene C) → AgreeOn A s t → (k : ℕ) → EndAlike A (act q n a line s k) (act q n a line t k)
    act_alike A (assign x subs a) line c s t e k =
        with_alike A (value n a s.store) (value n a t.store) line (stand_alike A n s t e) _ _ (value_alike n A s.store t.store e.store a (covers_first n A (λ y. reads_term y a) (λ y. reads_terms y subs) c))
        (λ u w. with_alike A (target n x subs s.store) (target n x subs t.store) line (stand_alike A n s t e) _ _ (target_alike n A s.store t.store e.store x subs (covers_second n A (λ y. reads_term y a) (λ y. reads_terms y subs) c))
        (λ i w1. done_alike A s t e (set s.store x i u) (set t.store x i u) (set_alike A s.store t.store x i u e.store) k))
    act_alike A (choose p a b) line c s t e k =
        let cs = covers_second n A (λ x. reads_test x p) (λ x. reads looked x a || reads looked x b) c in
        with_alike A (holds n p s.store) (holds n p t.store) line (stand_alike A n s t e) _ _ (holds_alike n A s.store t.store e.store p (covers_first n A (λ x. reads_test x p) (λ x. reads looked x a || reads looked x b) c))
        (λ v w. if_alike A v _ _ _ _ (run_alike A a (covers_first n A (λ x. reads looked x a) (λ x. reads looked x b) cs) s t e k) (run_alike A b (covers_second n A (λ x. reads looked x a) (λ x. reads looked x b) cs) s t e k))
    act_alike A (loop y first last by body mark) line c s t e k =
        let bounds = λ (x : Var). reads_term x first || (reads_term x last || (reads_term x by || reads_mark x mark)) in
        let cb = covers_first n A bounds (λ x. reads looked x body) c in
        let cs = covers_second n A (λ x. reads_term x first) (λ x. reads_term x last || (reads_term x by || reads_mark x mark)) cb in
        let ct = covers_second n A (λ x. reads_term x last) (λ x. reads_term x by || reads_mark x mark) cs in
        let force = force_alike n A mark s.store t.store e.store (covers_second n A (λ x. reads_term x by) (λ x. reads_mark x mark) ct) in
        with_alike A _ _ line (stand_alike A n s t e) _ _ (value_alike n A s.store t.store e.store first (covers_first n A (λ x. reads_term x first) (λ x. reads_term x last || (reads_term x by || reads_mark x mark)) cb)) (λ u w.
        with_alike A _ _ line (stand_alike A n s t e) _ _ (value_alike n A s.store t.store e.store last (covers_first n A (λ x. reads_term x last) (λ x. reads_term x by || reads_mark x mark) cs)) (λ v w1.
        with_alike A _ _ line (stand_alike A n s t e) _ _ (value_alike n A s.store t.store e.store by (covers_first n A (λ x. reads_term x by) (λ x. reads_mark x mark) ct)) (λ d w2.
        with_alike A (trips mark (n.numbers.shown u) (n.numbers.shown v) (n.numbers.shown d)) _ line (stand_alike A n s t e) _ _ refl (λ m w3.
        let after = stepped n y (n.numbers.shown d) in
        let told : Scene C → Scene C → ℕ → Outcome (Scene C) = λ s0 s1 j. Done (after_loop line m (in_force n mark s0.store) s1) j in
        then_alike (WithFirst A y) A (turns n m (run q n body) after (with_turn n y (wrap (n.numbers.shown u)) s) k) (turns n m (run q n body) after (with_turn n y (wrap (n.numbers.shown u)) t) k) (told s) (told t)
        (turns_alike (WithFirst A y) n m (run q n body) (run q n body) after
        (λ s1 t1 e1 j. run_alike (WithFirst A y) body (λ x r i l. inl (covers_second n A bounds (λ x. reads looked x body) c x r i l)) s1 t1 e1 j)
        (λ s1 t1 e1. stepped_alike n A y (n.numbers.shown d) s1 t1 e1)
        (with_turn n y (wrap (n.numbers.shown u)) s) (with_turn n y (wrap (n.numbers.shown u)) t) (turned_alike n A y (wrap (n.numbers.shown u)) s t e) k)
        (λ s1 t1 e1 j. (subst (λ z. AgreeOn A (after_loop line m (in_force n mark s.store) s1) (after_loop line m z t1)) force (told_alike A line m (in_force n mark s.store) s1 t1 (weaker A y s1 t1 e1)), refl))))))
    act_alike A (during p body) line c s t e k =
        let cb = covers_second n A (λ x. reads_test x p) (λ x. reads looked x body) c in
        tests_alike n A most_tests (λ s1. holds n p s1.store) (λ s1. holds n p s1.store) line (run q n body) (run q n body)
        (λ s1 t1 e1. holds_alike n A s1.store t1.store e1.store p (covers_first n A (λ x. reads_test x p) (λ x. reads looked x body) c))
        (λ s1 t1 e1 j. run_alike A body cb s1 t1 e1 j) s t e k
    act_alike A (call name args) line c s t e k = depend A n name args line c s t e k
    act_alike A (runtime r) line c s t e k = runtime_alike A n r line c s t e k

    -- a list ends alike from scenes that agree on what it reads, and on whatever else they agree they agree at its end
    pub run_alike : (A : Cells) (b : Code) → Covers n A (λ x. reads looked x b) → (s t : Scene C) → AgreeOn A s t → (k : ℕ) → EndAlike A (run q n b s k) (run q n b t k)
    run_alike A stop c s t e k = (e, refl)
    run_alike A (step line a rest) c s t e k =
        counted_alike A (stand_alike A n s t e) k _ _ (λ j. then_alike A A (act q n a line s j) (act q n a line t j) (run q n rest) (run q n rest)
        (act_alike A a line (covers_first n A (λ x. act_reads looked x a) (λ x. reads looked x rest) c) s t e j)
        (λ s1 t1 e1 i. run_alike A rest (covers_second n A (λ x. act_reads looked x a) (λ x. reads looked x rest) c) s1 t1 e1 i))
