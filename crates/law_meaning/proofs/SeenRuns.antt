-- Statements seen under other names and over other numbers.
use Rattle.std.proofs.Common.{◌≡◌, ℕ, zero, suc, Bool, true, false, List, [], ◌∷◌, refl, sym, ap, ◌∙◌}
use Rattle.std.proofs.lemmas.List.{length-map}
use Rattle.std.specs.Prelude.{ℤ, pos, Result, Ok, Err, Option, Some, None, length, map, reverse, if◌then◌else◌}
use Rattle.adj_tree.specs.Code.{Var, Terms, Runtime, push_word, pop_word, push_array, pop_array, push_control, pop_control, zero_array, begin_reversal, count_actions, give_action, end_reversal, Mark, unmarked, with_count, count_from, Act, assign, choose, loop, during, call, runtime, Code, stop, step}
use Rattle.adj_word.specs.Word.{wrap, add}
use Rattle.def_meaning.specs.Trap.{Trap, step_trap, tape_trap, schedule_trap}
use Rattle.def_meaning.specs.Numbers.{Numbers}
use Rattle.def_meaning.specs.Store.{Store, set, set_all, size_of, cells_from}
use Rattle.def_meaning.specs.Value.{Setting, holds}
use Rattle.def_meaning.specs.Event.{Begin}
use Rattle.def_meaning.specs.Scene.{Scene, Stand, stand, Go, Outcome, Done, Trapped, More, Full, then_do, with_value, counted, has_room, pushed, pushed_all, with_top, popped, popped_all}
use Rattle.def_meaning.specs.Runtime.{runtime_act, steps_of, snapshots_of, actions_of, action_at, kind_of, lower_of, upper_of, number, begun, ended}
use Rattle.def_meaning.specs.Run.{Calls, trips, turns, stepped, with_turn, most_tests, from_1_to_64, in_force, after_loop, tests, act, run}
use Rattle.def_meaning.specs.Rename.{rename_terms, rename_test, rename_runtime, rename_mark, rename_act, rename}
use Rattle.def_meaning.specs.Seen.{Separates, Projects, seen, seen_setting, seen_scene, seen_outcome}
use Rattle.def_meaning.proofs.SeenValues.{mapped, value_seen, target_seen, holds_seen, set_seen, set_all_seen, cells_seen}

-- ---- how outcomes are put together

-- what goes on from a result may be seen part by part
pub then_through : {A A' B B' : Type 0} (see : A → A') (look : B → B') (o : Outcome A) (w : Outcome A') (f : A → ℕ → Outcome B) (g : A' → ℕ → Outcome B') → then_do o (λ a k. Done (see a) k) ≡ w → ((a : A) (k : ℕ) → then_do (f a k) (λ b j. Done (look b) j) ≡ g (see a) k) → then_do (then_do o f) (λ b j. Done (look b) j) ≡ then_do w g
then_through see look (Done a k) w f g e d = d a k ∙ ap (λ z. then_do z g) e
then_through see look (Trapped t line x) w f g e d = ap (λ z. then_do z g) e
then_through see look (More x) w f g e d = ap (λ z. then_do z g) e
then_through see look (Full x) w f g e d = ap (λ z. then_do z g) e

module _ {C D : Type 0} (r : Var → Var) (h : C → D) where
  -- from one scene to the next
  pub then_seen : (o : Outcome (Scene C)) (w : Outcome (Scene D)) (f : Go C) (g : Go D) → seen_outcome r h o ≡ w → ((s : Scene C) (k : ℕ) → seen_outcome r h (f s k) ≡ g (seen_scene r h s) k) → seen_outcome r h (then_do o f) ≡ then_do w g
  then_seen o w f g e d = then_through (seen_scene r h) (seen_scene r h) o w f g e d

  -- a statement is counted in both or in neither
  pub counted_seen : {x y : Stand} → x ≡ y → (k : ℕ) (f : ℕ → Outcome (Scene C)) (g : ℕ → Outcome (Scene D)) → ((j : ℕ) → seen_outcome r h (f j) ≡ g j) → seen_outcome r h (counted x k f) ≡ counted y k g
  counted_seen l zero f g d = ap More l
  counted_seen l (suc k) f g d = d k

  -- a value that is seen
  pub value_then : {x y : Stand} (v : Result C Trap) (w : Result D Trap) (line : ℕ) → x ≡ y → (f : C → Outcome (Scene C)) (g : D → Outcome (Scene D)) → mapped h v ≡ w → ((a : C) → seen_outcome r h (f a) ≡ g (h a)) → seen_outcome r h (with_value v line x f) ≡ with_value w line y g
  value_then {y = y} (Ok a) w line l f g e d = d a ∙ ap (λ z. with_value z line y g) e
  value_then {y = y} (Err t) w line l f g e d = ap (Trapped t line) l ∙ ap (λ z. with_value z line y g) e

  -- one that is the same
  pub same_then : {A : Type 0} {x y : Stand} (v w : Result A Trap) (line : ℕ) → x ≡ y → (f : A → Outcome (Scene C)) (g : A → Outcome (Scene D)) → v ≡ w → ((a : A) → seen_outcome r h (f a) ≡ g a) → seen_outcome r h (with_value v line x f) ≡ with_value w line y g
  same_then {y = y} (Ok a) w line l f g e d = d a ∙ ap (λ z. with_value z line y g) e
  same_then {y = y} (Err t) w line l f g e d = ap (Trapped t line) l ∙ ap (λ z. with_value z line y g) e

  -- the same branch of both
  pub if_seen : (p : Bool) (o o1 : Outcome (Scene C)) (w w1 : Outcome (Scene D)) → seen_outcome r h o ≡ w → seen_outcome r h o1 ≡ w1 → seen_outcome r h (if p then o else o1) ≡ (if p then w else w1)
  if_seen true o o1 w w1 e f = e
  if_seen false o o1 w w1 e f = f

  -- the turns of a loop
  turns_seen : (n : Setting C) (n' : Setting D) → ((s : Scene C) → stand n s ≡ stand n' (seen_scene r h s)) → (m : ℕ) (f : Go C) (g : Go D) (a : Scene C → Scene C) (b : Scene D → Scene D) → ((s : Scene C) (k : ℕ) → seen_outcome r h (f s k) ≡ g (seen_scene r h s) k) → ((s : Scene C) → seen_scene r h (a s) ≡ b (seen_scene r h s)) → (s : Scene C) (k : ℕ) → seen_outcome r h (turns n m f a s k) ≡ turns n' m g b (seen_scene r h s) k
  turns_seen n n' l zero f g a b d e s k = refl
  turns_seen n n' l (suc m) f g a b d e s k =
      counted_seen (l s) k _ _ (λ j. then_seen (f s j) _ (λ s1 i. turns n m f a (a s1) i) (λ s1 i. turns n' m g b (b s1) i) (d s j)
      (λ s1 i. turns_seen n n' l m f g a b d e (a s1) i ∙ ap (λ z. turns n' m g b z i) (e s1)))

  -- the tests and turns of a DO WHILE
  tests_seen : (n : Setting C) (n' : Setting D) → ((s : Scene C) → stand n s ≡ stand n' (seen_scene r h s)) → (m : ℕ) (t : Scene C → Result Bool Trap) (t' : Scene D → Result Bool Trap) (line : ℕ) (f : Go C) (g : Go D) → ((s : Scene C) → t s ≡ t' (seen_scene r h s)) → ((s : Scene C) (k : ℕ) → seen_outcome r h (f s k) ≡ g (seen_scene r h s) k) → (s : Scene C) (k : ℕ) → seen_outcome r h (tests n m t line f s k) ≡ tests n' m t' line g (seen_scene r h s) k
  tests_seen n n' l zero t t' line f g d e s k = same_then (t s) _ line (l s) _ _ (d s) (λ p. if_seen p (Trapped step_trap line (stand n s)) (Done s k) _ _ (ap (Trapped step_trap line) (l s)) refl)
  tests_seen n n' l (suc m) t t' line f g d e s k =
      same_then (t s) _ line (l s) _ _ (d s) (λ p.
      if_seen p _ (Done s k) _ _
      (then_seen (f s k) _ (λ s1 j. counted (stand n s1) j (λ i. tests n m t line f s1 i)) (λ s1 j. counted (stand n' s1) j (λ i. tests n' m t' line g s1 i)) (e s k)
      (λ s1 j. counted_seen (l s1) j _ _ (λ i. tests_seen n n' l m t t' line f g d e s1 i)))
      refl)

  -- the word on top
  top_seen : {x y : Stand} (t : List C) (line : ℕ) → x ≡ y → (f : C → List C → Outcome (Scene C)) (g : D → List D → Outcome (Scene D)) → ((c : C) (cs : List C) → seen_outcome r h (f c cs) ≡ g (h c) (map h cs)) → seen_outcome r h (with_top t line x f) ≡ with_top (map h t) line y g
  top_seen [] line l f g d = ap (Trapped tape_trap line) l
  top_seen (c ∷ cs) line l f g d = d c cs

-- ---- what stands where a run stops

module _ {C D : Type 0} (r : Var → Var) (h : C → D) (n : Setting C) (m : Numbers D) (p : Projects h n.numbers m) where
  -- the words of a tape
  words_seen : (cs : List C) → map n.numbers.shown cs ≡ map m.shown (map h cs)
  words_seen [] = refl
  words_seen (c ∷ cs) = λ i. sym (p.shown c) i ∷ words_seen cs i

  -- the same stands
  pub stand_seen : (s : Scene C) → stand n s ≡ stand (seen_setting r m n) (seen_scene r h s)
  stand_seen s = λ i. record { tape = words_seen s.tape i; events = reverse s.events }

-- ---- runtime calls

module _ {C D : Type 0} (r : Var → Var) (sep : Separates r) (h : C → D) (n : Setting C) (m : Numbers D) (p : Projects h n.numbers m) where
  abbrev there : Setting D
  there = seen_setting r m n

  abbrev at : Scene C → Scene D
  at s = seen_scene r h s

  -- a scene with a store that is seen
  abbrev with_seen : Scene C → ℕ → Store D → Outcome (Scene D)
  with_seen s k z = Done (record (at s) { store = z }) k

  -- a push
  pushed_seen : (c : C) (s : Scene C) (k : ℕ) → seen_outcome r h (pushed n c s k) ≡ pushed there (h c) (at s) k
  pushed_seen c s k =
      if_seen r h (has_room n.room (length s.tape)) (Done (record s { tape = c ∷ s.tape }) k) (Full (stand n s)) (Done (record (at s) { tape = h c ∷ map h s.tape }) k) (Full (stand there (at s))) refl (ap Full (stand_seen r h n m p s))
      ∙ ap (λ z. if has_room n.room z then Done (record (at s) { tape = h c ∷ map h s.tape }) k else Full (stand there (at s))) (sym (length-map s.tape h))

  -- some pushes
  pushed_all_seen : (cs : List C) (s : Scene C) (k : ℕ) → seen_outcome r h (pushed_all n cs s k) ≡ pushed_all there (map h cs) (at s) k
  pushed_all_seen [] s k = refl
  pushed_all_seen (c ∷ cs) s k = then_seen r h _ _ (pushed_all n cs) (pushed_all there (map h cs)) (pushed_seen c s k) (λ s1 j. pushed_all_seen cs s1 j)

  -- a pop
  popped_seen : (x : Var) (i line : ℕ) (s : Scene C) (k : ℕ) → seen_outcome r h (popped n (r x) i line s k) ≡ popped there x i line (at s) k
  popped_seen x i line s k =
      top_seen r h s.tape line (stand_seen r h n m p s) (λ c cs. Done (record s { store = set s.store (r x) i c; tape = cs }) k) (λ c cs. Done (record (at s) { store = set (at s).store x i c; tape = cs }) k)
      (λ c cs. ap (λ (z : Store D). Done (record (at s) { store = z; tape = map h cs }) k) (set_seen r sep h s.store x i c))

  -- some pops
  popped_all_seen : (x : Var) (i line : ℕ) (s : Scene C) (k : ℕ) → seen_outcome r h (popped_all n (r x) i line s k) ≡ popped_all there x i line (at s) k
  popped_all_seen x zero line s k = refl
  popped_all_seen x (suc i) line s k = then_seen r h _ _ (popped_all n (r x) i line) (popped_all there x i line) (popped_seen x i line s k) (λ s1 j. popped_all_seen x i line s1 j)

  -- the end of a reversal
  ended_seen : (i line : ℕ) (s : Scene C) (k : ℕ) → seen_outcome r h (ended n i line s k) ≡ ended there i line (at s) k
  ended_seen zero line s k = ap (Trapped schedule_trap line) (stand_seen r h n m p s)
  ended_seen (suc i) line s k = refl

  -- its beginning
  begun_seen : (l i : ℕ) (s : Scene C) → seen_scene r h (begun n l i s) ≡ begun there l i (at s)
  begun_seen l i s = ap (λ z. record (at s) { opened = suc s.opened; events = Begin l i n.level z ∷ s.events }) (sym (length-map s.tape h))

  -- a natural number of the program
  number_seen : (i : ℕ) → h (number n i) ≡ number there i
  number_seen i = p.of_word (pos i)

  -- a natural number is set
  set_number : (s : Store C) (x : Var) (i : ℕ) → seen r h (set s (r x) 0 (number n i)) ≡ set (seen r h s) x 0 (number there i)
  set_number s x i = set_seen r sep h s x 0 (number n i) ∙ ap (set (seen r h s) x 0) (number_seen i)

  -- three of them
  set_three : (s : Store C) (x y z : Var) (a b c : ℕ) → seen r h (set (set (set s (r x) 0 (number n a)) (r y) 0 (number n b)) (r z) 0 (number n c)) ≡ set (set (set (seen r h s) x 0 (number there a)) y 0 (number there b)) z 0 (number there c)
  set_three s x y z a b c =
      set_number (set (set s (r x) 0 (number n a)) (r y) 0 (number n b)) z c
      ∙ ap (λ w. set w z 0 (number there c)) (set_number (set s (r x) 0 (number n a)) y b ∙ ap (λ w. set w y 0 (number there b)) (set_number s x a))

  -- the words that are looked at are the same
  pub runtime_seen : (c : Runtime) (line : ℕ) (s : Scene C) (k : ℕ) → seen_outcome r h (runtime_act n (rename_runtime r c) line s k) ≡ runtime_act there c line (at s) k
  runtime_seen (push_word x subs) line s k = same_then r h _ _ line (stand_seen r h n m p s) _ _ (target_seen r h n m p x subs s.store) (λ i. pushed_seen (s.store (r x) i) s k)
  runtime_seen (pop_word x subs) line s k = same_then r h _ _ line (stand_seen r h n m p s) _ _ (target_seen r h n m p x subs s.store) (λ i. popped_seen x i line s k)
  runtime_seen (push_array x) line s k =
      pushed_all_seen (cells_from (s.store (r x)) 0 (size_of (n.shape (r x)))) s k ∙ ap (λ z. pushed_all there z (at s) k) (cells_seen h (s.store (r x)) 0 (size_of (n.shape (r x))))
  runtime_seen (pop_array x) line s k = popped_all_seen x (size_of (n.shape (r x))) line s k
  runtime_seen (push_control e) line s k = value_then r h _ _ line (stand_seen r h n m p s) _ _ (value_seen r h n m p e s.store) (λ c. pushed_seen c s k)
  runtime_seen (pop_control x) line s k = popped_seen x 0 line s k
  runtime_seen (zero_array x) line s k = ap (with_seen s k) (set_all_seen r sep h s.store x (λ j. number n 0) ∙ ap (λ (z : D). set_all (seen r h s.store) x (λ j. z)) (number_seen 0))
  runtime_seen (begin_reversal l i) line s k =
      value_then r h _ _ line (stand_seen r h n m p s) _ _ (value_seen r h n m p l s.store) (λ u. value_then r h _ _ line (stand_seen r h n m p s) _ _ (value_seen r h n m p i s.store) (λ v.
      same_then r h _ _ line (stand_seen r h n m p s) _ _ (ap steps_of (sym (p.shown u))) (λ steps. same_then r h _ _ line (stand_seen r h n m p s) _ _ (ap snapshots_of (sym (p.shown v))) (λ snapshots.
      ap (λ z. Done z k) (begun_seen steps snapshots s)))))
  runtime_seen (count_actions l i x) line s k =
      value_then r h _ _ line (stand_seen r h n m p s) _ _ (value_seen r h n m p l s.store) (λ u. value_then r h _ _ line (stand_seen r h n m p s) _ _ (value_seen r h n m p i s.store) (λ v.
      same_then r h _ _ line (stand_seen r h n m p s) _ _ (λ t. actions_of (sym (p.shown u) t) (sym (p.shown v) t)) (λ list. ap (with_seen s k) (set_number s.store x (length list)))))
  runtime_seen (give_action l i e x y z) line s k =
      value_then r h _ _ line (stand_seen r h n m p s) _ _ (value_seen r h n m p l s.store) (λ u. value_then r h _ _ line (stand_seen r h n m p s) _ _ (value_seen r h n m p i s.store) (λ v. value_then r h _ _ line (stand_seen r h n m p s) _ _ (value_seen r h n m p e s.store) (λ w.
      same_then r h _ _ line (stand_seen r h n m p s) _ _ (λ t. actions_of (sym (p.shown u) t) (sym (p.shown v) t)) (λ list. same_then r h _ _ line (stand_seen r h n m p s) _ _ (ap (λ t. action_at t list) (sym (p.shown w))) (λ a.
      ap (with_seen s k) (set_three s.store x y z (kind_of a) (lower_of a) (upper_of a)))))))
  runtime_seen end_reversal line s k = ended_seen s.opened line s k

-- ---- statements

-- calls give the same under both sets of names and over both numbers
pub record Carries {C D : Type 0} (r : Var → Var) (h : C → D) (n : Setting C) (m : Numbers D) (q : Calls C) (q' : Calls D) : Type 0 where
  pub by : (name : List ℕ) (args : Terms) (line : ℕ) (s : Scene C) (k : ℕ) → seen_outcome r h (q n name (rename_terms r args) line s k) ≡ q' (seen_setting r m n) name args line (seen_scene r h s) k

module _ {C D : Type 0} (r : Var → Var) (sep : Separates r) (h : C → D) (n : Setting C) (m : Numbers D) (p : Projects h n.numbers m) (q : Calls C) (q' : Calls D) (carries : Carries r h n m q q') where
  abbrev yonder : Setting D
  yonder = seen_setting r m n

  -- the first value of a loop
  with_turn_seen : (x : Var) (z : ℤ) (s : Scene C) → seen_scene r h (with_turn n (r x) z s) ≡ with_turn yonder x z (seen_scene r h s)
  with_turn_seen x z s =
      ap (λ (w : Store D). record (seen_scene r h s) { store = w }) (set_seen r sep h s.store x 0 (n.numbers.of_word z) ∙ ap (set (seen r h s.store) x 0) (p.of_word z))

  -- the step after a turn
  stepped_seen : (x : Var) (c : ℤ) (s : Scene C) → seen_scene r h (stepped n (r x) c s) ≡ stepped yonder x c (seen_scene r h s)
  stepped_seen x c s =
      with_turn_seen x (add (n.numbers.shown (s.store (r x) 0)) c) s ∙ ap (λ z. with_turn yonder x (add z c) (seen_scene r h s)) (sym (p.shown (s.store (r x) 0)))

  -- the end of a loop
  after_loop_seen : (line i : ℕ) (force : Option ℕ) (s : Scene C) (k : ℕ) → seen_outcome r h (Done (after_loop line i force s) k) ≡ Done (after_loop line i force (seen_scene r h s)) k
  after_loop_seen line i None s k = refl
  after_loop_seen line i (Some snapshots) s k = refl

  -- the number of snapshots in force
  in_force_seen : (mark : Mark) (s : Store C) → in_force n (rename_mark r mark) s ≡ in_force yonder mark (seen r h s)
  in_force_seen unmarked s = refl
  in_force_seen (with_count i) s = refl
  in_force_seen (count_from x) s = ap (λ z. Some (from_1_to_64 z)) (sym (p.shown (s (r x) 0)))

  -- how often a loop turns looks at whether it is marked alone
  trips_seen : (mark : Mark) (a b c : ℤ) → trips (rename_mark r mark) a b c ≡ trips mark a b c
  trips_seen unmarked a b c = refl
  trips_seen (with_count i) a b c = refl
  trips_seen (count_from x) a b c = refl

  mutual
    -- a statement
    act_seen : (a : Act) (line : ℕ) (s : Scene C) (k : ℕ) → seen_outcome r h (act q n (rename_act r a) line s k) ≡ act q' yonder a line (seen_scene r h s) k
    act_seen (assign x subs e) line s k =
        value_then r h _ _ line (stand_seen r h n m p s) _ _ (value_seen r h n m p e s.store) (λ c. same_then r h _ _ line (stand_seen r h n m p s) _ _ (target_seen r h n m p x subs s.store) (λ i.
        ap (λ (z : Store D). Done (record (seen_scene r h s) { store = z }) k) (set_seen r sep h s.store x i c)))
    act_seen (choose c a b) line s k =
        same_then r h _ _ line (stand_seen r h n m p s) _ _ (holds_seen r h n m p c s.store) (λ t. if_seen r h t _ _ _ _ (run_seen a s k) (run_seen b s k))
    act_seen (loop x first last by body mark) line s k =
        value_then r h _ _ line (stand_seen r h n m p s) _ _ (value_seen r h n m p first s.store) (λ a. value_then r h _ _ line (stand_seen r h n m p s) _ _ (value_seen r h n m p last s.store) (λ b. value_then r h _ _ line (stand_seen r h n m p s) _ _ (value_seen r h n m p by s.store) (λ c.
        same_then r h _ _ line (stand_seen r h n m p s) _ _ (trips_seen mark (n.numbers.shown a) (n.numbers.shown b) (n.numbers.shown c) ∙ (λ t. trips mark (sym (p.shown a) t) (sym (p.shown b) t) (sym (p.shown c) t))) (λ times.
        then_seen r h _ _ _ _
        (turns_seen r h n yonder (stand_seen r h n m p) times (run q n (rename r body)) (run q' yonder body) (stepped n (r x) (n.numbers.shown c)) (stepped yonder x (m.shown (h c)))
        (λ s1 j. run_seen body s1 j)
        (λ s1. stepped_seen x (n.numbers.shown c) s1 ∙ ap (λ z. stepped yonder x z (seen_scene r h s1)) (sym (p.shown c)))
        (with_turn n (r x) (wrap (n.numbers.shown a)) s) k
        ∙ ap (λ z. turns yonder times (run q' yonder body) (stepped yonder x (m.shown (h c))) z k) (with_turn_seen x (wrap (n.numbers.shown a)) s ∙ ap (λ z. with_turn yonder x (wrap z) (seen_scene r h s)) (sym (p.shown a))))
        (λ s1 j. after_loop_seen line times (in_force n (rename_mark r mark) s.store) s1 j ∙ ap (λ z. Done (after_loop line times z (seen_scene r h s1)) j) (in_force_seen mark s.store))))))
    act_seen (during c body) line s k =
        tests_seen r h n yonder (stand_seen r h n m p) most_tests (λ s1. holds n (rename_test r c) s1.store) (λ s1. holds yonder c s1.store) line (run q n (rename r body)) (run q' yonder body) (λ s1. holds_seen r h n m p c s1.store) (λ s1 j. run_seen body s1 j) s k
    act_seen (call name args) line s k = carries.by name args line s k
    act_seen (runtime c) line s k = runtime_seen r sep h n m p c line s k

    -- a run of the renamed list over the one numbers is the run of the list over the others
    pub run_seen : (c : Code) (s : Scene C) (k : ℕ) → seen_outcome r h (run q n (rename r c) s k) ≡ run q' yonder c (seen_scene r h s) k
    run_seen stop s k = refl
    run_seen (step line a rest) s k =
        counted_seen r h (stand_seen r h n m p s) k _ _ (λ j. then_seen r h _ _ (run q n (rename r rest)) (run q' yonder rest) (act_seen a line s j) (λ s1 i. run_seen rest s1 i))
