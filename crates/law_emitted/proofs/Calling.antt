-- Which units the sweeps of statements call: by kept calls, by adjointed ones and by those that are split, and in the turns of loops that are reversed by schedules.
use Rattle.std.proofs.Common.{◌≡◌, ℕ, suc, Bool, true, false, List, [], ◌∷◌, refl, sym, ◌∙◌}
use Rattle.std.specs.Prelude.{◌&&◌, not, Option, Some, None}
use Rattle.adj_tree.specs.Code.{name_eq, Terms, Mark, Act, assign, choose, loop, during, call, runtime, Code, stop, step, Procedure}
use Rattle.adj_tree.proofs.Names.{name_refl}
use Rattle.def_names.specs.Numbers.{Vars, next, behind}
use Rattle.def_names.proofs.Variables.{or_left, or_right}
use Rattle.def_sweep.specs.Marking.{ProgramMarks, SplitsNothing, first_statement}
use Rattle.def_sweep.specs.Plan.{found_or, Schedules, Step, reversed_by, ByStep}
use Rattle.def_sweep.specs.Program.{calls_act, calls_in, turns_act, turns_in, schedules_in}
use Rattle.law_emitted.specs.Splits.{MaySplit', MaySplit, AllMaySplit}
use Rattle.law_emitted.proofs.CheckedStepCalls.{turned_alone}
use Rattle.law_emitted.proofs.StepCalls.{step_body, step_mark}

-- where K is known of what kept calls name and of what is turned, A of what adjointed calls name that aren't split, and S of what split calls name; and these are
-- adjointed
module _ (K A S : List ℕ → Type 0) (sc : Schedules) (kept adjointed split : ℕ → Bool) where
  abbrev mutual
    pub MayCall' : ℕ → Act → Type 0
    MayCall' i (assign x subs e) = Unit {0}
    MayCall' i (choose c a b) = MayCall (suc i) a × MayCall (behind (suc i) a) b
    MayCall' i (loop x a b c body m) = ByStep (reversed_by sc adjointed i body m) (Unit {0}) (λ s. K s.name × A s.name) × MayCall (suc i) body
    MayCall' i (during c body) = MayCall (suc i) body
    MayCall' i (call name args) = (kept i ≡ true → split i ≡ false → K name) × ((adjointed i ≡ true → split i ≡ false → A name) × (split i ≡ true → (adjointed i ≡ true) × S name))
    MayCall' i (runtime r) = Unit {0}

    pub MayCall : ℕ → Code → Type 0
    MayCall i stop = Unit {0}
    MayCall i (step line a rest) = MayCall' i a × MayCall (next i a) rest

  -- the sets of the calls
  abbrev pub plainly : ℕ → Bool
  plainly j = kept j && not (split j)

  abbrev pub adjointly : ℕ → Bool
  adjointly j = adjointed j && not (split j)

  abbrev pub splitly : ℕ → Bool
  splitly j = adjointed j && split j

  -- the loop is reversed by a schedule: its one call is adjointed, and isn't split
  step_called : (i : ℕ) (body : Code) (m : Mark) (s : Step) → reversed_by sc adjointed i body m ≡ Some s → split (suc i) ≡ false → calls_in adjointly s.name (suc i) body ≡ true
  step_called i body m s e = step_body (λ c s. split (suc i) ≡ false → calls_in adjointly s.name (suc i) c ≡ true) there sc adjointed i body m s e
    where
      there : (line : ℕ) (name : List ℕ) (args : Terms) (read : Vars) (n : Mark) → split (suc i) ≡ false → calls_in adjointly name (suc i) (step line (call name args) stop) ≡ true
      there line name args read n h = let known = step_mark sc adjointed i body m s e in rw (known.1, h, name_refl name) refl

  loop_may : (i : ℕ) (body : Code) (m : Mark) (o : Option Step) → reversed_by sc adjointed i body m ≡ o → ByStep o (Unit {0}) (λ s. split (suc i) ≡ false) → ((n : List ℕ) → calls_in adjointly n (suc i) body ≡ true → A n) → ((n : List ℕ) → found_or o (turns_in sc adjointed n (suc i) body) (λ s. name_eq n s.name) ≡ true → K n) →
      ByStep o (Unit {0}) (λ s. K s.name × A s.name) × ((n : List ℕ) → turns_in sc adjointed n (suc i) body ≡ true → K n)
  loop_may i body m None e may f turned = (tt, turned)
  loop_may i body m (Some s) e may f turned = ((turned s.name (name_refl s.name), f s.name (step_called i body m s e may)), λ n h. absurd (let c : true ≡ false = sym h ∙ turned_alone sc adjointed i body m s n (suc i) e in cc))

  mutual
    act_may : (i : ℕ) (a : Act) → MaySplit' sc adjointed split i a → ((n : List ℕ) → calls_act plainly n i a ≡ true → K n) → ((n : List ℕ) → calls_act adjointly n i a ≡ true → A n) → ((n : List ℕ) → calls_act splitly n i a ≡ true → S n) → ((n : List ℕ) → turns_act sc adjointed n i a ≡ true → K n) → MayCall' i a
    act_may i (assign x subs e) may k f s t = tt
    act_may i (choose c a b) may k f s t = (
      may_call (suc i) a may.0 (λ n h. k n (or_left (calls_in plainly n (suc i) a) (calls_in plainly n (behind (suc i) a) b) h)) (λ n h. f n (or_left (calls_in adjointly n (suc i) a) (calls_in adjointly n (behind (suc i) a) b) h)) (λ n h. s n (or_left (calls_in splitly n (suc i) a) (calls_in splitly n (behind (suc i) a) b) h)) (λ n h. t n (or_left (turns_in sc adjointed n (suc i) a) (turns_in sc adjointed n (behind (suc i) a) b) h)),
      may_call (behind (suc i) a) b may.1 (λ n h. k n (or_right (calls_in plainly n (suc i) a) (calls_in plainly n (behind (suc i) a) b) h)) (λ n h. f n (or_right (calls_in adjointly n (suc i) a) (calls_in adjointly n (behind (suc i) a) b) h)) (λ n h. s n (or_right (calls_in splitly n (suc i) a) (calls_in splitly n (behind (suc i) a) b) h)) (λ n h. t n (or_right (turns_in sc adjointed n (suc i) a) (turns_in sc adjointed n (behind (suc i) a) b) h)),
    )
    act_may i (loop x a b c body m) may k f s t = let rows = loop_may i body m (reversed_by sc adjointed i body m) refl may.0 f t in (rows.0, may_call (suc i) body may.1 k f s rows.1)
    act_may i (during c body) may k f s t = may_call (suc i) body may k f s t
    act_may i (call name args) may k f s t = (λ e u. k name (rw (e, u, name_refl name) refl), (λ e u. f name (rw (e, u, name_refl name) refl), λ u. (may u, s name (rw (may u, u, name_refl name) refl))))
    act_may i (runtime r) may k f s t = tt

    -- so it is where each set of calls names units of which that is known
    pub may_call : (i : ℕ) (c : Code) → MaySplit sc adjointed split i c → ((n : List ℕ) → calls_in plainly n i c ≡ true → K n) → ((n : List ℕ) → calls_in adjointly n i c ≡ true → A n) → ((n : List ℕ) → calls_in splitly n i c ≡ true → S n) → ((n : List ℕ) → turns_in sc adjointed n i c ≡ true → K n) → MayCall i c
    may_call i stop may k f s t = tt
    may_call i (step line a rest) may k f s t = (
      act_may i a may.0 (λ n h. k n (or_left (calls_act plainly n i a) (calls_in plainly n (next i a) rest) h)) (λ n h. f n (or_left (calls_act adjointly n i a) (calls_in adjointly n (next i a) rest) h)) (λ n h. s n (or_left (calls_act splitly n i a) (calls_in splitly n (next i a) rest) h)) (λ n h. t n (or_left (turns_act sc adjointed n i a) (turns_in sc adjointed n (next i a) rest) h)),
      may_call (next i a) rest may.1 (λ n h. k n (or_right (calls_act plainly n i a) (calls_in plainly n (next i a) rest) h)) (λ n h. f n (or_right (calls_act adjointly n i a) (calls_in adjointly n (next i a) rest) h)) (λ n h. s n (or_right (calls_act splitly n i a) (calls_in splitly n (next i a) rest) h)) (λ n h. t n (or_right (turns_act sc adjointed n i a) (turns_in sc adjointed n (next i a) rest) h)),
    )

-- what is known may be less
module _ (K A S L D T : List ℕ → Type 0) (k : (n : List ℕ) → K n → L n) (f : (n : List ℕ) → A n → D n) (t : (n : List ℕ) → S n → T n) (sc : Schedules) (kept adjointed split : ℕ → Bool) where
  loop_less : (o : Option Step) → ByStep o (Unit {0}) (λ s. K s.name × A s.name) → ByStep o (Unit {0}) (λ s. L s.name × D s.name)
  loop_less None h = tt
  loop_less (Some s) h = (k s.name h.0, f s.name h.1)

  mutual
    calls_less' : (i : ℕ) (a : Act) → MayCall' K A S sc kept adjointed split i a → MayCall' L D T sc kept adjointed split i a
    calls_less' i (assign x subs e) h = tt
    calls_less' i (choose c a b) h = (calls_less (suc i) a h.0, calls_less (behind (suc i) a) b h.1)
    calls_less' i (loop x a b c body m) h = (loop_less (reversed_by sc adjointed i body m) h.0, calls_less (suc i) body h.1)
    calls_less' i (during c body) h = calls_less (suc i) body h
    calls_less' i (call name args) h = (λ e u. k name (h.0 e u), (λ e u. f name (h.1.0 e u), λ u. let both = h.1.1 u in (both.0, t name both.1)))
    calls_less' i (runtime r) h = tt

    pub calls_less : (i : ℕ) (c : Code) → MayCall K A S sc kept adjointed split i c → MayCall L D T sc kept adjointed split i c
    calls_less i stop h = tt
    calls_less i (step line a rest) h = (calls_less' i a h.0, calls_less (next i a) rest h.1)

-- nothing is known
abbrev pub Nothing : List ℕ → Type 0
Nothing n = Unit {0}

pub calls_any : (sc : Schedules) (kept adjointed split : ℕ → Bool) (i : ℕ) (c : Code) → MaySplit sc adjointed split i c → MayCall Nothing Nothing Nothing sc kept adjointed split i c
calls_any sc kept adjointed split i c may = may_call Nothing Nothing Nothing sc kept adjointed split i c may (λ n h. tt) (λ n h. tt) (λ n h. tt) (λ n h. tt)

-- ---- marks that split no call

module _ (sc : Schedules) (adjointed split : ℕ → Bool) (none : (i : ℕ) → split i ≡ false) where
  step_none : (i : ℕ) (o : Option Step) → ByStep o (Unit {0}) (λ s. split (suc i) ≡ false)
  step_none i None = tt
  step_none i (Some s) = none (suc i)

  mutual
    none_split' : (i : ℕ) (a : Act) → MaySplit' sc adjointed split i a
    none_split' i (assign x subs e) = tt
    none_split' i (choose c a b) = (none_split (suc i) a, none_split (behind (suc i) a) b)
    none_split' i (loop x a b c body m) = (step_none i (reversed_by sc adjointed i body m), none_split (suc i) body)
    none_split' i (during c body) = none_split (suc i) body
    none_split' i (call name args) = λ h. absurd (let p : true ≡ false = sym h ∙ none i in cc)
    none_split' i (runtime r) = tt

    pub none_split : (i : ℕ) (c : Code) → MaySplit sc adjointed split i c
    none_split i stop = tt
    none_split i (step line a rest) = (none_split' i a, none_split (next i a) rest)

-- meet what is asked of marks that split calls
pub unsplit_may : (sb : Bool) (m : ProgramMarks) → SplitsNothing m → (ps us : List Procedure) → AllMaySplit sb m ps us
unsplit_may sb m none ps [] = tt
unsplit_may sb m none ps (u ∷ us) = (none_split (schedules_in sb ps) m.adjointed m.split none (first_statement ps u.name) u.body, unsplit_may sb m none ps us)
