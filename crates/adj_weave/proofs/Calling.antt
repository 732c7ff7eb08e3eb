-- Calls of a set, by the numbers of their statements and by whether they are all that the turns of a marked loop do.
use Rattle.std.proofs.Common.{◌≡◌, ℕ, suc, Bool, true, false, List, [], ◌∷◌, refl, sym, ap, ◌∙◌, if◌then◌else◌}
use Rattle.std.specs.Prelude.{◌||◌, ◌&&◌, not, Option, Some, None}
use Rattle.adj_tree.specs.Code.{name_eq, Mark, unmarked, with_count, count_from, Act, assign, choose, loop, during, call, runtime, Code, stop, step, Procedure}
use Rattle.def_names.specs.Numbers.{Vars, next, behind}
use Rattle.def_sweep.specs.Plan.{names_of, found_or, Schedules, Step, step_in, reversed_by}
use Rattle.def_sweep.specs.Marking.{ProgramMarks}
use Rattle.def_sweep.specs.Program.{calls_some, turns_act, turns_in, turns_some, schedules_in, has_adjoint, has_pair, kept_calls, is_kept_with}
use Rattle.adj_weave.specs.Marked.{reads_in}
use Rattle.adj_weave_units.specs.Calls.{only_called, turned}
use Rattle.adj_weave_units.proofs.Calling.{has_act, has_in, has_some, some_same}
use Rattle.adj_weave.specs.Orders.{is_step_call}

-- ---- truth values

or_false : (a : Bool) → (a || false) ≡ a
or_false true = refl
or_false false = refl

crossed : (a b c d : Bool) → ((a || b) || (c || d)) ≡ ((a || c) || (b || d))
crossed true b c d = refl
crossed false true true d = refl
crossed false true false d = refl
crossed false false true true = refl
crossed false false true false = refl
crossed false false false d = refl

spread : (a b c : Bool) → ((a || b) && c) ≡ ((a && c) || (b && c))
spread true true true = refl
spread true true false = refl
spread true false true = refl
spread true false false = refl
spread false b c = refl

spread_left : (a b c : Bool) → (a && (b || c)) ≡ ((a && b) || (a && c))
spread_left true b c = refl
spread_left false b c = refl

-- ---- in the turns of loops that are reversed by schedules

module _ (reads : List ℕ → Vars) (adjointed : ℕ → Bool) (n : List ℕ) where
  abbrev t : ℕ → Bool → Bool
  t i turns = turns && adjointed i

  abbrev sc : Schedules
  sc = Some reads

  no_step : (b x : Bool) (f : Step → Bool) → found_or (if b then None else None) x f ≡ x
  no_step true x f = refl
  no_step false x f = refl

  one_step : (b : Bool) (s : Step) (x : Bool) (f : Step → Bool) → x ≡ false → (b && f s) ≡ found_or (if b then Some s else None) x f
  one_step true s x f e = refl
  one_step false s x f e = sym e

  -- of a body, with the mark of its loop
  call_turns : (i : ℕ) (body : Code) (m : Mark) → has_in t n (suc i) body ≡ turns_in sc adjointed n (suc i) body →
      found_or (only_called body) (has_in t n (suc i) body) (λ other. adjointed (suc i) && name_eq n other) ≡ found_or (if adjointed (suc i) then step_in reads m body else None) (turns_in sc adjointed n (suc i) body) (λ s. name_eq n s.name)
  call_turns i stop m h = h ∙ sym (no_step (adjointed (suc i)) _ (λ s. name_eq n s.name))
  call_turns i (step line (assign x subs a) rest) m h = h ∙ sym (no_step (adjointed (suc i)) _ (λ s. name_eq n s.name))
  call_turns i (step line (choose c a b) rest) m h = h ∙ sym (no_step (adjointed (suc i)) _ (λ s. name_eq n s.name))
  call_turns i (step line (loop x a b c body k) rest) m h = h ∙ sym (no_step (adjointed (suc i)) _ (λ s. name_eq n s.name))
  call_turns i (step line (during c body) rest) m h = h ∙ sym (no_step (adjointed (suc i)) _ (λ s. name_eq n s.name))
  call_turns i (step line (runtime r) rest) m h = h ∙ sym (no_step (adjointed (suc i)) _ (λ s. name_eq n s.name))
  call_turns i (step line (call other args) (step l a rest)) m h = h ∙ sym (no_step (adjointed (suc i)) _ (λ s. name_eq n s.name))
  call_turns i (step line (call other args) stop) m h =
      one_step (adjointed (suc i)) (record { name = other; given = names_of args; read = reads other; mark = m }) false (λ s. name_eq n s.name) refl

  loop_turns : (i : ℕ) (body : Code) (m : Mark) → has_in t n (suc i) body ≡ turns_in sc adjointed n (suc i) body →
      found_or (turned m body) (has_in t n (suc i) body) (λ other. adjointed (suc i) && name_eq n other) ≡ found_or (reversed_by sc adjointed i body m) (turns_in sc adjointed n (suc i) body) (λ s. name_eq n s.name)
  loop_turns i body unmarked h = h
  loop_turns i body (with_count k) h = call_turns i body (with_count k) h
  loop_turns i body (count_from x) h = call_turns i body (count_from x) h

  mutual
    act_turns : (i : ℕ) (a : Act) → has_act t n i a ≡ turns_act sc adjointed n i a
    act_turns i (assign x subs e) = refl
    act_turns i (choose c a b) = λ j. list_turns (suc i) a j || list_turns (behind (suc i) a) b j
    act_turns i (loop x a b c body m) = loop_turns i body m (list_turns (suc i) body)
    act_turns i (during c body) = list_turns (suc i) body
    act_turns i (call other args) = refl
    act_turns i (runtime r) = refl

    list_turns : (i : ℕ) (c : Code) → has_in t n i c ≡ turns_in sc adjointed n i c
    list_turns i stop = refl
    list_turns i (step line a rest) = λ j. act_turns i a j || list_turns (next i a) rest j

  pub some_turns : (among : List ℕ → Bool) (i : ℕ) (us : List Procedure) → has_some among t n i us ≡ turns_some sc among adjointed n i us
  some_turns among i [] = refl
  some_turns among i (u ∷ us) = λ j. (among u.name && list_turns i u.body j) || some_turns among (behind i u.body) us j

-- ---- in either of two sets

module _ (f g : ℕ → Bool → Bool) (n : List ℕ) where
  abbrev either : ℕ → Bool → Bool
  either i turns = f i turns || g i turns

  loop_either : (i : ℕ) (o : Option (List ℕ)) (x y z : Bool) → x ≡ (y || z) → found_or o x (λ other. either (suc i) true && name_eq n other) ≡ (found_or o y (λ other. f (suc i) true && name_eq n other) || found_or o z (λ other. g (suc i) true && name_eq n other))
  loop_either i None x y z h = h
  loop_either i (Some other) x y z h = spread (f (suc i) true) (g (suc i) true) (name_eq n other)

  mutual
    act_either : (i : ℕ) (a : Act) → has_act either n i a ≡ (has_act f n i a || has_act g n i a)
    act_either i (assign x subs e) = refl
    act_either i (choose c a b) = (λ j. list_either (suc i) a j || list_either (behind (suc i) a) b j) ∙ crossed (has_in f n (suc i) a) (has_in g n (suc i) a) (has_in f n (behind (suc i) a) b) (has_in g n (behind (suc i) a) b)
    act_either i (loop x a b c body m) = loop_either i (turned m body) (has_in either n (suc i) body) (has_in f n (suc i) body) (has_in g n (suc i) body) (list_either (suc i) body)
    act_either i (during c body) = list_either (suc i) body
    act_either i (call other args) = spread (f i false) (g i false) (name_eq n other)
    act_either i (runtime r) = refl

    list_either : (i : ℕ) (c : Code) → has_in either n i c ≡ (has_in f n i c || has_in g n i c)
    list_either i stop = refl
    list_either i (step line a rest) = (λ j. act_either i a j || list_either (next i a) rest j) ∙ crossed (has_act f n i a) (has_act g n i a) (has_in f n (next i a) rest) (has_in g n (next i a) rest)

  pub some_either : (among : List ℕ → Bool) (i : ℕ) (us : List Procedure) → has_some among either n i us ≡ (has_some among f n i us || has_some among g n i us)
  some_either among i [] = refl
  some_either among i (u ∷ us) =
      (λ j. (among u.name && list_either i u.body j) || some_either among (behind i u.body) us j)
      ∙ ap (λ z. z || (has_some among f n (behind i u.body) us || has_some among g n (behind i u.body) us)) (spread_left (among u.name) (has_in f n i u.body) (has_in g n i u.body))
      ∙ crossed (among u.name && has_in f n i u.body) (among u.name && has_in g n i u.body) (has_some among f n (behind i u.body) us) (has_some among g n (behind i u.body) us)

-- ---- calls by their numbers, and the step calls of loops that are reversed by schedules

-- these calls count
abbrev pub with_steps : Bool → ProgramMarks → (ℕ → Bool) → ℕ → Bool → Bool
with_steps b m f i turns = f i || is_step_call m b i turns

numbers_alone : (m : ProgramMarks) (f : ℕ → Bool) (among : List ℕ → Bool) (ps : List Procedure) (n : List ℕ) → has_some among (with_steps false m f) n 0 ps ≡ calls_some among f n 0 ps
numbers_alone m f among ps n = (λ j. has_some among (λ i turns. or_false (f i) j) n 0 ps) ∙ some_same f n among 0 ps

numbers_and_steps : (m : ProgramMarks) (f : ℕ → Bool) (among : List ℕ → Bool) (ps : List Procedure) (n : List ℕ) → has_some among (with_steps true m f) n 0 ps ≡ (calls_some among f n 0 ps || turns_some (schedules_in true ps) among m.adjointed n 0 ps)
numbers_and_steps m f among ps n =
    some_either (λ i turns. f i) (λ i turns. turns && m.adjointed i) n among 0 ps
    ∙ (λ j. some_same f n among 0 ps j || some_turns (reads_in ps) m.adjointed n among 0 ps j)

-- of units of either of two sets
turns_either : (r : Schedules) (among more : List ℕ → Bool) (adjointed : ℕ → Bool) (n : List ℕ) (i : ℕ) (us : List Procedure) → turns_some r (λ x. among x || more x) adjointed n i us ≡ (turns_some r among adjointed n i us || turns_some r more adjointed n i us)
turns_either r among more adjointed n i [] = refl
turns_either r among more adjointed n i (u ∷ us) =
    let here = turns_in r adjointed n i u.body in
    let first = turns_some r among adjointed n (behind i u.body) us in
    let second = turns_some r more adjointed n (behind i u.body) us in
    (λ j. ((among u.name || more u.name) && here) || turns_either r among more adjointed n (behind i u.body) us j)
    ∙ ap (λ z. z || (first || second)) (spread (among u.name) (more u.name) here)
    ∙ crossed (among u.name && here) (more u.name && here) first second

-- ---- the calls of units as they are: those of adjoints, and those of forward and backward units
pub plain_calls : (b : Bool) (m : ProgramMarks) (ps : List Procedure) (head : Procedure) (n : List ℕ) →
    (has_some (has_adjoint m ps head) (with_steps b m (λ i. m.kept i && not (m.split i))) n 0 ps || has_some (has_pair m ps head) (with_steps b m (λ i. not (m.split i))) n 0 ps) ≡ is_kept_with b m ps head n
plain_calls false m ps head n = λ j. numbers_alone m (λ i. m.kept i && not (m.split i)) (has_adjoint m ps head) ps n j || numbers_alone m (λ i. not (m.split i)) (has_pair m ps head) ps n j
plain_calls true m ps head n =
    let adjoints = has_adjoint m ps head in
    let pairs = has_pair m ps head in
    let sc = schedules_in true ps in
    (λ j. numbers_and_steps m (λ i. m.kept i && not (m.split i)) adjoints ps n j || numbers_and_steps m (λ i. not (m.split i)) pairs ps n j)
    ∙ crossed (calls_some adjoints (λ i. m.kept i && not (m.split i)) n 0 ps) (turns_some sc adjoints m.adjointed n 0 ps) (calls_some pairs (λ i. not (m.split i)) n 0 ps) (turns_some sc pairs m.adjointed n 0 ps)
    ∙ ap (λ z. kept_calls m ps head n || z) (sym (turns_either sc adjoints pairs m.adjointed n 0 ps))
