-- A machine that does part after part ends as the run does that does part after part.
use Rattle.std.proofs.Common.{◌≡◌, ℕ, zero, suc, ◌+◌, ◌-◌, ◌<◌, ◌≤◌, ◌⊎◌, inl, inr, List, [], ◌∷◌, ◌++◌, refl, sym, ap, subst, ◌∙◌, arith}
use Rattle.std.specs.Prelude.{ℤ, map, reverse, Result, Ok, Err, Option, Some, None, IfOk, Bool, true, false, if◌then◌else◌}
use Rattle.std.proofs.lemmas.Bool.{cases_lt}
use Rattle.std.proofs.lemmas.List.{append-nil, append_assoc, reverse-append}
use Rattle.adj_tree.specs.Code.{Term, Mark, Act, Code, step}
use Rattle.adj_tree.specs.declared.value.Trap.{Trap as CodeTrap}
use Rattle.adj_tree.specs.declared.value.Trap.TheVariants as trap
use Rattle.def_meaning.specs.Trap.{Trap, step_trap, then_ok}
use Rattle.def_meaning.specs.Numbers.{Numbers}
use Rattle.def_meaning.specs.Store.{Store}
use Rattle.def_meaning.specs.Value.{Setting, value}
use Rattle.def_meaning.specs.Event.{Event, Enter, Begin, End, Marked}
use Rattle.def_meaning.specs.Log.{Reversal, Log, log_from, log_of}
use Rattle.def_meaning.specs.Scene.{Scene, Stand, stand, Outcome, Done, Trapped, More, Full, Go, IsMore, then_do, with_value, counted}
use Rattle.def_meaning.specs.Run.{Calls, act, run, trips, turns, tests, after_loop}
use Rattle.adj_interp_frame.specs.declared.step.Step.{Step}
use Rattle.adj_interp.specs.declared.stop.Stop.{Stop}
use Rattle.adj_interp.specs.declared.stop.Stop.TheVariants as stop
use Rattle.adj_interp.specs.declared.machine.Machine.{Machine}
use Rattle.adj_interp_frame.specs.Framed.{trap_of, result_of}
use Rattle.adj_interp_frame.specs.Instructed.{task_in}
use Rattle.adj_interp.specs.Tallied.{Tallied, with_event}
use Rattle.adj_interp.specs.Held.{Tells, Entry, setting_at, Holds, Stands, Runs, Uses, IsTrapped, HasMore, IsFull, Ends, Reaches, Finds, stopped_at, bounds_in}

-- ---- what is found

-- what is found as it is defined, or its trap at the line
pub finds_at : {A : Type 0} (line : ℕ) (r : Result A CodeTrap) (v : Result A Trap) → v ≡ result_of r → Finds line v (stopped_at line r)
finds_at line (Ok a) v h = h
finds_at line (Err t) v h = (h, refl)

-- what holds of it where there is no trap
pub found_at : {A : Type 0} (P : A → Type 0) (line : ℕ) (r : Result A CodeTrap) → IfOk r P → IfOk (stopped_at line r) P
found_at P line (Ok a) h = h
found_at P line (Err t) h = tt

-- ---- statements that are used

-- where there is more to do, what would come after isn't done
pub more_then : {A B : Type 0} (o : Outcome A) (go : A → ℕ → Outcome B) → IsMore o → IsMore (then_do o go)
more_then (Done a k) go h = absurd h
more_then (Trapped t line w) go h = absurd h
more_then (More w) go h = tt
more_then (Full w) go h = absurd h

-- what ends at once uses none
pub uses_none : {R : Type 0} (o : ℕ → Outcome R) (k i : ℕ) → i ≡ k → (P : ℕ → Outcome R → Type 0) → ((j : ℕ) → P j (o j)) → Uses o k i P
uses_none o k i p P h = record {
  within = omega (arith, p);
  early = λ j lt. absurd (omega (arith, p, lt));
  ends = λ j. let e : j ≡ k - i + j = omega (arith, p) in subst (λ z. P j (o z)) e (h j);
}

-- a statement that is counted is used
uses_one : {R : Type 0} (w : Stand) (f : ℕ → Outcome R) (k i : ℕ) → k ≡ suc i → Uses (λ z. counted w z f) k i (λ j z. z ≡ f j)
uses_one w f k i p = record {
  within = omega (arith, p);
  early = λ j lt. let e : 0 ≡ j = omega (arith, p, lt) in subst (λ z. IsMore (counted w z f)) e tt;
  ends = λ j. let e : k - i + j ≡ suc j = omega (arith, p) in ap (λ z. counted w z f) e;
}

-- what is asked of the whole run
pub at_end : {R : Type 0} (o : ℕ → Outcome R) (before after : ℕ) (P : ℕ → Outcome R → Type 0) → Uses o before after P → P after (o before)
at_end o before after P h = let w = h.within in let e : before - after + after ≡ before = omega (arith, w) in subst (λ z. P after (o z)) e (h.ends after)

-- a run that goes on as another, with what is left
module _ {R : Type 0} (o p : ℕ → Outcome R) (before mid : ℕ) (h : Uses o before mid (λ j z. z ≡ p j)) where
  past : (j : ℕ) → before - mid ≤ j → o j ≡ p (j - (before - mid))
  past j le = let e : j ≡ before - mid + (j - (before - mid)) = omega (arith, le) in ap o e ∙ h.ends (j - (before - mid))

  -- comes to what that comes to with what is left
  pub uses_all : o before ≡ p mid
  uses_all = at_end o before mid (λ j z. z ≡ p j) h

  -- and uses what both use
  pub uses_then : (after : ℕ) (P : ℕ → Outcome R → Type 0) → Uses p mid after P → Uses o before after P
  uses_then after P g =
      let w = h.within in
      let v = g.within in
      record {
        within = omega (arith, w, v);
        early = λ j lt. early_in j lt (cases_lt j (before - mid));
        ends = λ j. let e : before - after + j ≡ before - mid + (mid - after + j) = omega (arith, w, v) in subst (P j) (sym (ap o e ∙ h.ends (mid - after + j))) (g.ends j);
      }
    where
      early_in : (j : ℕ) → j < before - after → (j < before - mid) ⊎ (before - mid ≤ j) → IsMore (o j)
      early_in j lt (inl a) = h.early j a
      early_in j lt (inr b) = let w = h.within in let v = g.within in subst IsMore (sym (past j b)) (g.early (j - (before - mid)) (omega (arith, w, v, b, lt)))

-- what is asked may be told otherwise
pub uses_alike : {R : Type 0} (o : ℕ → Outcome R) (before after i : ℕ) (P Q : ℕ → Outcome R → Type 0) → i ≡ after → ((j : ℕ) (z : Outcome R) → P j z → Q j z) → Uses o before after P → Uses o before i Q
uses_alike o before after i P Q p f h = subst (λ z. Uses o before z Q) (sym p) (record { within = h.within; early = h.early; ends = λ j. f j (o (before - after + j)) (h.ends j) })

-- what goes on from a run
pub uses_on : {A B : Type 0} (o : ℕ → Outcome A) (go : A → ℕ → Outcome B) (p : ℕ → Outcome A) (before after : ℕ) → Uses o before after (λ j z. z ≡ p j) → Uses (λ k. then_do (o k) go) before after (λ j z. z ≡ then_do (p j) go)
uses_on o go p before after h = record { within = h.within; early = λ j lt. more_then (o j) go (h.early j lt); ends = λ j. ap (λ z. then_do z go) (h.ends j) }

-- what goes on from a result
pub uses_in : {A B : Type 0} (o : ℕ → Outcome A) (go : A → ℕ → Outcome B) (a : A) (before after : ℕ) → Uses o before after (λ j z. z ≡ Done a j) → Uses (λ k. then_do (o k) go) before after (λ j z. z ≡ go a j)
uses_in o go a before after h = uses_on o go (λ j. Done a j) before after h

-- what stands where a part stops stands where the whole does
module _ {C : Type 0} (numbers : Numbers C) (m : Machine C) where
  trapped_then : (t : CodeTrap) (line : ℕ) (o : Outcome (Scene C)) (go : Go C) → IsTrapped numbers m t line o → IsTrapped numbers m t line (then_do o go)
  trapped_then t line (Trapped d l w) go h = h
  trapped_then t line (Done s k) go h = absurd h
  trapped_then t line (More w) go h = absurd h
  trapped_then t line (Full w) go h = absurd h

  budget_then : (o : Outcome (Scene C)) (go : Go C) → HasMore numbers m o → HasMore numbers m (then_do o go)
  budget_then (More w) go h = h
  budget_then (Done s k) go h = absurd h
  budget_then (Trapped t line w) go h = absurd h
  budget_then (Full w) go h = absurd h

  full_then : (o : Outcome (Scene C)) (go : Go C) → IsFull numbers m o → IsFull numbers m (then_do o go)
  full_then (Full w) go h = h
  full_then (Done s k) go h = absurd h
  full_then (Trapped t line w) go h = absurd h
  full_then (More w) go h = absurd h

-- ---- what stands

-- nothing that happens later changes nothing
none_later : (rs : List Reversal) (log : Log) → log_from rs log [] ≡ log
none_later [] log = refl
none_later (r ∷ rs) log = refl

-- what happens is counted event by event
one_later : (rs : List Reversal) (log : Log) (v : Event) (later : List Event) → log_from rs log (v ∷ later) ≡ (let c = with_event (record { begun = rs; log = log }) v in log_from c.begun c.log later)
one_later [] log (Enter name level height shapes) later = refl
one_later (r ∷ rs) log (Enter name level height shapes) later = refl
one_later [] log (Begin steps snapshots level height) later = refl
one_later (r ∷ rs) log (Begin steps snapshots level height) later = refl
one_later [] log (End level) later = refl
one_later (r ∷ rs) log (End level) later = refl
one_later [] log (Marked line m k) later = refl
one_later (r ∷ rs) log (Marked line m k) later = refl

-- the last event comes first of those that are left
one_earlier : (e : Event) (es later : List Event) → reverse (e ∷ es) ++ later ≡ reverse es ++ (e ∷ later)
one_earlier e es later = ap (λ z. z ++ later) (reverse-append (e ∷ []) es) ∙ append_assoc (reverse es) (e ∷ []) later

-- so what was counted tells of the run with one event more
pub told_next : (c : Tallied) (v : Event) (es : List Event) → Tells c es → Tells (with_event c v) (v ∷ es)
told_next c v es h later = ap log_of (one_earlier v es later) ∙ h (v ∷ later) ∙ one_later c.begun c.log v later

module _ {C : Type 0} where
  -- what goes on from the bounds goes on from the one after the other
  chain : {B : Type 0} (shown : C → ℤ) (a b c : Result C Trap) (tr : ℤ → ℤ → ℤ → Result ℕ Trap) (line : ℕ) (w : Stand) (go : ℤ → ℤ → ℕ → Outcome B) →
      with_value (then_ok a (λ u. then_ok b (λ v. then_ok c (λ z. then_ok (tr (shown u) (shown v) (shown z)) (λ i. Ok (shown u, shown z, i)))))) line w (λ (t : ℤ × ℤ × ℕ). go t.0 t.1 t.2) ≡ with_value a line w (λ u. with_value b line w (λ v. with_value c line w (λ z. with_value (tr (shown u) (shown v) (shown z)) line w (λ i. go (shown u) (shown z) i))))
  chain shown (Err t) b c tr line w go = refl
  chain shown (Ok u) (Err t) c tr line w go = refl
  chain shown (Ok u) (Ok v) (Err t) tr line w go = refl
  chain shown (Ok u) (Ok v) (Ok z) tr line w go = last (tr (shown u) (shown v) (shown z))
    where
      last : (r : Result ℕ Trap) → with_value (then_ok r (λ i. Ok (shown u, shown z, i))) line w (λ (t : ℤ × ℤ × ℕ). go t.0 t.1 t.2) ≡ with_value r line w (λ i. go (shown u) (shown z) i)
      last (Ok i) = refl
      last (Err t) = refl

  pub bounds_chain : {B : Type 0} (n : Setting C) (first last by : Term) (mark : Mark) (s : Store C) (line : ℕ) (w : Stand) (go : ℤ → ℤ → ℕ → Outcome B) →
      with_value (bounds_in n first last by mark s) line w (λ (t : ℤ × ℤ × ℕ). go t.0 t.1 t.2) ≡ with_value (value n first s) line w (λ u. with_value (value n last s) line w (λ v. with_value (value n by s) line w (λ z. with_value (trips mark (n.numbers.shown u) (n.numbers.shown v) (n.numbers.shown z)) line w (λ i. go (n.numbers.shown u) (n.numbers.shown z) i))))
  bounds_chain n first last by mark s line w go = chain n.numbers.shown (value n first s) (value n last s) (value n by s) (trips mark) line w go

module _ {C : Type 0} {numbers : Numbers C} where
  module _ (e : Entry numbers) where
    -- a machine that has a scene in hand stands as the run does that stops there
    pub holds_stand : (m : Machine C) (s : Scene C) → Holds e m s → Stands numbers m (stand (setting_at e) s)
    holds_stand m s h = record {
      tape = ap (map numbers.shown) h.tape;
      log = ap log_of (sym (append-nil (reverse s.events))) ∙ h.told [] ∙ none_later m.tally.begun m.tally.log;
    }

    -- ---- values

    -- where a value's trap was found, the run traps
    pub ends_err : {A : Type 0} (r : Result A Trap) (line : ℕ) (x : Stop) (m : Machine C) (s : Scene C) (go : A → Runs C) → Finds line r (Err x) → Holds e m s → Ends e (λ k. with_value r line (stand (setting_at e) s) (λ a. go a k)) m.left (Err x) m
    ends_err r line (stop.Trap t l) m s go f h =
        subst (λ z. Ends e (λ k. with_value z line (stand (setting_at e) s) (λ a. go a k)) m.left (Err (stop.Trap t l)) m) (sym f.0)
        (uses_none (λ k. Trapped (trap_of t) line (stand (setting_at e) s)) m.left m.left refl (λ j. IsTrapped numbers m t l) (λ j. (refl, sym f.1, holds_stand m s h)))
    ends_err r line stop.Budget m s go f h = absurd f
    ends_err r line stop.TapeFull m s go f h = absurd f
    ends_err r line stop.Memory m s go f h = tt

    -- where a value was found, the run goes on with it
    pub ends_ok : {A : Type 0} (r : Result A Trap) (line : ℕ) (a : A) (w : Stand) (go : A → Runs C) (before : ℕ) (result : Result (Unit {0}) Stop) (m : Machine C) → Finds {A = A} line r (Ok a) → Ends e (go a) before result m → Ends e (λ k. with_value r line w (λ a. go a k)) before result m
    ends_ok r line a w go before result m f h = subst (λ z. Ends e (λ k. with_value z line w (λ a. go a k)) before result m) (sym f) h

    -- a run that is told otherwise
    pub ends_same : (o p : Runs C) (before : ℕ) (result : Result (Unit {0}) Stop) (m : Machine C) → ((k : ℕ) → o k ≡ p k) → Ends e o before result m → Ends e p before result m
    ends_same o p before result m h g = subst (λ z. Ends e z before result m) (λ i k. h k i) g

    -- ---- part after part

    -- what stops in the first part stops
    pub ends_break : (o : Runs C) (before : ℕ) (go : Go C) (x : Stop) (m : Machine C) → Ends e o before (Err x) m → Ends e (λ k. then_do (o k) go) before (Err x) m
    ends_break o before go (stop.Trap t line) m h = record { within = h.within; early = λ j lt. more_then (o j) go (h.early j lt); ends = λ j. trapped_then numbers m t line (o (before - m.left + j)) go (h.ends j) }
    ends_break o before go stop.Budget m h = budget_then numbers m (o before) go h
    ends_break o before go stop.TapeFull m h = record { within = h.within; early = λ j lt. more_then (o j) go (h.early j lt); ends = λ j. full_then numbers m (o (before - m.left + j)) go (h.ends j) }
    ends_break o before go stop.Memory m h = tt

    -- a machine that has the scene in hand reaches what goes on from it
    pub reaches_start : (go : Go C) (m : Machine C) (s : Scene C) → Holds e m s → Reaches e (go s) m.left go m
    reaches_start go m s h = record { scene = s; holds = h; uses = uses_none (go s) m.left m.left refl (λ j z. z ≡ go s j) (λ j. refl) }

    -- a machine that is done at once
    pub done_at_once : (m m' : Machine C) (s : Scene C) → Holds e m' s → m'.left ≡ m.left → Ends e (λ k. Done s k) m.left (Ok tt) m'
    done_at_once m m' s h l = record { scene = s; holds = h; uses = uses_none (λ k. Done s k) m.left m'.left l (λ j z. z ≡ Done s j) (λ j. refl) }

    -- what ends from there ends from the start
    pub reaches_ends : {before : ℕ} (o : Runs C) (go : Go C) (m m' : Machine C) (result : Result (Unit {0}) Stop) → Reaches e o before go m → ((s : Scene C) → Holds e m s → Ends e (go s) m.left result m') → Ends e o before result m'
    reaches_ends {before = before} o go m m' (Ok u) r h =
        let d = h r.scene r.holds in
        record { scene = d.scene; holds = d.holds; uses = uses_then o (go r.scene) before m.left r.uses m'.left (λ j z. z ≡ Done d.scene j) d.uses }
    reaches_ends {before = before} o go m m' (Err (stop.Trap t line)) r h = uses_then o (go r.scene) before m.left r.uses m'.left (λ j. IsTrapped numbers m' t line) (h r.scene r.holds)
    reaches_ends {before = before} o go m m' (Err stop.Budget) r h = subst (HasMore numbers m') (sym (uses_all o (go r.scene) before m.left r.uses)) (h r.scene r.holds)
    reaches_ends {before = before} o go m m' (Err stop.TapeFull) r h = uses_then o (go r.scene) before m.left r.uses m'.left (λ j. IsFull numbers m') (h r.scene r.holds)
    reaches_ends o go m m' (Err stop.Memory) r h = tt

    -- after a part that is done the rest goes on
    pub reaches_next : {before : ℕ} (o : Runs C) (f go : Go C) (u : Unit {0}) (m m' : Machine C) → Reaches e o before (λ s k. then_do (f s k) go) m → ((s : Scene C) → Holds e m s → Ends e (f s) m.left (Ok u) m') → Reaches e o before go m'
    reaches_next {before = before} o f go u m m' r h =
        let d = h r.scene r.holds in
        record {
          scene = d.scene;
          holds = d.holds;
          uses = uses_then o (λ k. then_do (f r.scene k) go) before m.left r.uses m'.left (λ j z. z ≡ go d.scene j) (uses_in (f r.scene) go d.scene m.left m'.left d.uses);
        }

    -- a part that stops stops the whole
    pub reaches_break : {before : ℕ} (o : Runs C) (f go : Go C) (x : Stop) (m m' : Machine C) → Reaches e o before (λ s k. then_do (f s k) go) m → ((s : Scene C) → Holds e m s → Ends e (f s) m.left (Err x) m') → Ends e o before (Err x) m'
    reaches_break o f go x m m' r h = reaches_ends o (λ s k. then_do (f s k) go) m m' (Err x) r (λ s d. ends_break (f s) m.left go x m' (h s d))

    -- a scene may change with the machine
    pub reaches_change : {before : ℕ} (o : Runs C) (go : Go C) (change : Scene C → Scene C) (m m' : Machine C) → m'.left ≡ m.left → ((s : Scene C) → Holds e m s → Holds e m' (change s)) → Reaches e o before (λ s k. go (change s) k) m → Reaches e o before go m'
    reaches_change {before = before} o go change m m' l h r = record { scene = change r.scene; holds = h r.scene r.holds; uses = subst (λ k. Uses o before k (λ j z. z ≡ go (change r.scene) j)) (sym l) r.uses }

    -- ---- counted statements

    -- what a machine has in hand has nothing to do with what is left
    pub holds_left : (m m' : Machine C) (k : ℕ) (s : Scene C) → m ≡ record m' { left = k } → Holds e m s → Holds e m' s
    holds_left m m' k s p h = let g = subst (λ z. Holds e z s) p h in record { room = g.room; level = g.level; base = g.base; shown = g.shown; tape = g.tape; opened = g.opened; told = g.told }

    -- a statement that is counted
    pub reaches_counted : {before : ℕ} (o : Runs C) (f : Go C) (m m' : Machine C) → m ≡ record m' { left = suc m'.left } → Reaches e o before (λ s k. counted (stand (setting_at e) s) k (f s)) m → Reaches e o before f m'
    reaches_counted {before = before} o f m m' p r = record {
      scene = r.scene;
      holds = holds_left m m' (suc m'.left) r.scene p r.holds;
      uses = uses_then o (λ k. counted (stand (setting_at e) r.scene) k (f r.scene)) before m.left r.uses m'.left (λ j z. z ≡ f r.scene j) (uses_one (stand (setting_at e) r.scene) (f r.scene) m.left m'.left (ap (λ (z : Machine C). z.left) p));
    }

    -- where none is left, there is more to do
    pub reaches_budget : {before : ℕ} (o : Runs C) (f : Go C) (m : Machine C) → m.left ≡ 0 → Reaches e o before (λ s k. counted (stand (setting_at e) s) k (f s)) m → Ends e o before (Err stop.Budget) m
    reaches_budget {before = before} o f m p r =
        let all = uses_all o (λ k. counted (stand (setting_at e) r.scene) k (f r.scene)) before m.left r.uses in
        subst (HasMore numbers m) (sym (all ∙ ap (λ z. counted (stand (setting_at e) r.scene) z (f r.scene)) p)) (holds_stand m r.scene r.holds)

    -- ---- values on the way

    -- a value that was found goes in
    pub reaches_value : {A : Type 0} {before : ℕ} (o : Runs C) (v : Scene C → Result A Trap) (line : ℕ) (go : A → Go C) (a : A) (m : Machine C) → ((s : Scene C) → Holds e m s → Finds {A = A} line (v s) (Ok a)) → Reaches e o before (λ s k. with_value (v s) line (stand (setting_at e) s) (λ p. go p s k)) m → Reaches e o before (go a) m
    reaches_value {before = before} o v line go a m f r = record {
      scene = r.scene;
      holds = r.holds;
      uses = subst (λ y. Uses o before m.left (λ j z. z ≡ with_value y line (stand (setting_at e) r.scene) (λ p. go p r.scene j))) (f r.scene r.holds) r.uses;
    }

    -- where its trap was found, the run traps
    pub reaches_err : {A : Type 0} {before : ℕ} (o : Runs C) (v : Scene C → Result A Trap) (line : ℕ) (go : A → Go C) (x : Stop) (m : Machine C) → ((s : Scene C) → Holds e m s → Finds {A = A} line (v s) (Err x)) → Reaches e o before (λ s k. with_value (v s) line (stand (setting_at e) s) (λ p. go p s k)) m → Ends e o before (Err x) m
    reaches_err o v line go x m f r = reaches_ends o (λ s k. with_value (v s) line (stand (setting_at e) s) (λ p. go p s k)) m m (Err x) r (λ s h. ends_err (v s) line x m s (λ p k. go p s k) (f s h) h)

    -- ---- lists, turns and tests

    module _ (q : Calls C) where
      -- the next statement of a list
      abbrev part : ℕ → Act → Code → Go C
      part line a rest s j = then_do (act q (setting_at e) a line s j) (run q (setting_at e) rest)

      pub list_budget : {before : ℕ} (line : ℕ) (a : Act) (rest : Code) (o : Runs C) (m : Machine C) → m.left ≡ 0 → Reaches e o before (run q (setting_at e) (step line a rest)) m → Ends e o before (Err stop.Budget) m
      list_budget line a rest o m p r = reaches_budget o (part line a rest) m p r

      pub list_next : {before : ℕ} (line : ℕ) (a : Act) (rest : Code) (o : Runs C) (u : Unit {0}) (m m1 m2 : Machine C) → m ≡ record m1 { left = suc m1.left } → ((s : Scene C) → Holds e m1 s → Ends e (act q (setting_at e) a line s) m1.left (Ok u) m2) → Reaches e o before (run q (setting_at e) (step line a rest)) m → Reaches e o before (run q (setting_at e) rest) m2
      list_next line a rest o u m m1 m2 p h r = reaches_next o (act q (setting_at e) a line) (run q (setting_at e) rest) u m1 m2 (reaches_counted o (part line a rest) m m1 p r) h

      pub list_break : {before : ℕ} (line : ℕ) (a : Act) (rest : Code) (o : Runs C) (x : Stop) (m m1 m2 : Machine C) → m ≡ record m1 { left = suc m1.left } → ((s : Scene C) → Holds e m1 s → Ends e (act q (setting_at e) a line s) m1.left (Err x) m2) → Reaches e o before (run q (setting_at e) (step line a rest)) m → Ends e o before (Err x) m2
      list_break line a rest o x m m1 m2 p h r = reaches_break o (act q (setting_at e) a line) (run q (setting_at e) rest) x m1 m2 (reaches_counted o (part line a rest) m m1 p r) h

      -- what a statement is may be told otherwise
      pub same_act : (N M : List (List ℕ)) (a b v : Step) (s : Scene C) (k : ℕ) (result : Result (Unit {0}) Stop) (m : Machine C) → M ≡ N → a ≡ v → b ≡ v → Ends e (act q (setting_at e) (task_in M a.task) b.line s) k result m → Ends e (act q (setting_at e) (task_in N v.task) v.line s) k result m
      same_act N M a b v s k result m n p r h = subst (λ z. z) (λ i. Ends e (act q (setting_at e) (task_in (n i) (p i).task) (r i).line s) k result m) h

    module _ (body : Go C) (after : Scene C → Scene C) where
      abbrev turn_part : ℕ → Go C
      turn_part i s j = then_do (body s j) (λ s1 k. turns (setting_at e) i body after (after s1) k)

      pub turn_budget : {before : ℕ} (i : ℕ) (o : Runs C) (m : Machine C) → 0 < i → m.left ≡ 0 → Reaches e o before (turns (setting_at e) i body after) m → Ends e o before (Err stop.Budget) m
      turn_budget zero o m lt p r = absurd (omega arith)
      turn_budget (suc i) o m lt p r = reaches_budget o (turn_part i) m p r

      pub turn_next : {before : ℕ} (i : ℕ) (o : Runs C) (u : Unit {0}) (m m1 m2 m3 : Machine C) → 0 < i → m ≡ record m1 { left = suc m1.left } → ((s : Scene C) → Holds e m1 s → Ends e (body s) m1.left (Ok u) m2) → m3.left ≡ m2.left → ((s : Scene C) → Holds e m2 s → Holds e m3 (after s)) → Reaches e o before (turns (setting_at e) i body after) m → Reaches e o before (turns (setting_at e) (i - 1) body after) m3
      turn_next zero o u m m1 m2 m3 lt p h l g r = absurd (omega arith)
      turn_next {before = before} (suc i) o u m m1 m2 m3 lt p h l g r =
          let one_less : suc i - 1 ≡ i = omega arith in
          subst (λ j. Reaches e o before (turns (setting_at e) j body after) m3) (sym one_less)
          (reaches_change o (turns (setting_at e) i body after) after m2 m3 l g
          (reaches_next o body (λ s1 k. turns (setting_at e) i body after (after s1) k) u m1 m2 (reaches_counted o (turn_part i) m m1 p r) h))

      pub turn_break : {before : ℕ} (i : ℕ) (o : Runs C) (x : Stop) (m m1 m2 : Machine C) → 0 < i → m ≡ record m1 { left = suc m1.left } → ((s : Scene C) → Holds e m1 s → Ends e (body s) m1.left (Err x) m2) → Reaches e o before (turns (setting_at e) i body after) m → Ends e o before (Err x) m2
      turn_break zero o x m m1 m2 lt p h r = absurd (omega arith)
      turn_break (suc i) o x m m1 m2 lt p h r = reaches_break o body (λ s1 k. turns (setting_at e) i body after (after s1) k) x m1 m2 (reaches_counted o (turn_part i) m m1 p r) h

      -- no turn is left
      pub turn_end : {before : ℕ} (i : ℕ) (o : Runs C) (u : Unit {0}) (m : Machine C) → i ≡ 0 → Reaches e o before (turns (setting_at e) i body after) m → Ends e o before (Ok u) m
      turn_end zero o u m z r = r
      turn_end (suc i) o u m z r = absurd (omega (arith, z))

    module _ (test : Scene C → Result Bool Trap) (line : ℕ) (body : Go C) where
      abbrev then_test : ℕ → Go C
      then_test i s j = counted (stand (setting_at e) s) j (λ k. tests (setting_at e) i test line body s k)

      abbrev after_test : ℕ → Bool → Go C
      after_test i p s k = if p then then_do (body s k) (then_test i) else Done s k

      abbrev last_test : Bool → Go C
      last_test p s k = if p then Trapped step_trap line (stand (setting_at e) s) else Done s k

      -- the test traps
      pub test_err : {before : ℕ} (i : ℕ) (o : Runs C) (x : Stop) (m : Machine C) → ((s : Scene C) → Holds e m s → Finds {A = Bool} line (test s) (Err x)) → Reaches e o before (tests (setting_at e) i test line body) m → Ends e o before (Err x) m
      test_err zero o x m f r = reaches_err o test line last_test x m f r
      test_err (suc i) o x m f r = reaches_err o test line (after_test i) x m f r

      -- it fails
      pub test_end : {before : ℕ} (i : ℕ) (o : Runs C) (u : Unit {0}) (m : Machine C) → ((s : Scene C) → Holds e m s → Finds {A = Bool} line (test s) (Ok false)) → Reaches e o before (tests (setting_at e) i test line body) m → Ends e o before (Ok u) m
      test_end zero o u m f r = reaches_value o test line last_test false m f r
      test_end (suc i) o u m f r = reaches_value o test line (after_test i) false m f r

      -- it holds once too often
      pub test_last : {before : ℕ} (i : ℕ) (o : Runs C) (m : Machine C) → i ≡ 0 → ((s : Scene C) → Holds e m s → Finds {A = Bool} line (test s) (Ok true)) → Reaches e o before (tests (setting_at e) i test line body) m → Ends e o before (Err (stop.Trap trap.Step line)) m
      test_last zero o m z f r = reaches_ends o (last_test true) m m (Err (stop.Trap trap.Step line)) (reaches_value o test line last_test true m f r) (λ s h. uses_none (λ k. Trapped step_trap line (stand (setting_at e) s)) m.left m.left refl (λ j. IsTrapped numbers m trap.Step line) (λ j. (refl, refl, holds_stand m s h)))
      test_last (suc i) o m z f r = absurd (omega (arith, z))

      -- it holds, and the body stops
      pub test_break : {before : ℕ} (i : ℕ) (o : Runs C) (x : Stop) (m m1 : Machine C) → 0 < i → ((s : Scene C) → Holds e m s → Finds {A = Bool} line (test s) (Ok true)) → ((s : Scene C) → Holds e m s → Ends e (body s) m.left (Err x) m1) → Reaches e o before (tests (setting_at e) i test line body) m → Ends e o before (Err x) m1
      test_break zero o x m m1 lt f h r = absurd (omega arith)
      test_break (suc i) o x m m1 lt f h r = reaches_break o body (then_test i) x m m1 (reaches_value o test line (after_test i) true m f r) h

      -- it holds, and after the body no statement is left for the next
      pub test_budget : {before : ℕ} (i : ℕ) (o : Runs C) (u : Unit {0}) (m m1 : Machine C) → 0 < i → ((s : Scene C) → Holds e m s → Finds {A = Bool} line (test s) (Ok true)) → ((s : Scene C) → Holds e m s → Ends e (body s) m.left (Ok u) m1) → m1.left ≡ 0 → Reaches e o before (tests (setting_at e) i test line body) m → Ends e o before (Err stop.Budget) m1
      test_budget zero o u m m1 lt f h p r = absurd (omega arith)
      test_budget (suc i) o u m m1 lt f h p r = reaches_budget o (λ s k. tests (setting_at e) i test line body s k) m1 p (reaches_next o body (then_test i) u m m1 (reaches_value o test line (after_test i) true m f r) h)

      -- it holds, and after the body comes the next
      pub test_next : {before : ℕ} (i : ℕ) (o : Runs C) (u : Unit {0}) (m m1 m2 : Machine C) → 0 < i → ((s : Scene C) → Holds e m s → Finds {A = Bool} line (test s) (Ok true)) → ((s : Scene C) → Holds e m s → Ends e (body s) m.left (Ok u) m1) → m1 ≡ record m2 { left = suc m2.left } → Reaches e o before (tests (setting_at e) i test line body) m → Reaches e o before (tests (setting_at e) (i - 1) test line body) m2
      test_next zero o u m m1 m2 lt f h p r = absurd (omega arith)
      test_next {before = before} (suc i) o u m m1 m2 lt f h p r =
          let one_less : suc i - 1 ≡ i = omega arith in
          subst (λ j. Reaches e o before (tests (setting_at e) j test line body) m2) (sym one_less)
          (reaches_counted o (λ s k. tests (setting_at e) i test line body s k) m1 m2 p (reaches_next o body (then_test i) u m m1 (reaches_value o test line (after_test i) true m f r) h))

    -- ---- DO

    -- a DO ends as its turns do
    pub ends_loop : (o : Runs C) (before line i : ℕ) (f : Option ℕ) (result : Result (Unit {0}) Stop) (m : Machine C) → Ends e o before result m → Ends e (λ k. then_do (o k) (λ s1 j. Done (after_loop line i f s1) j)) before result m
    ends_loop o before line i f (Err x) m h = ends_break o before (λ s1 j. Done (after_loop line i f s1) j) x m h
    ends_loop o before line i None (Ok u) m h = record { scene = h.scene; holds = h.holds; uses = uses_in o (λ s1 j. Done (after_loop line i None s1) j) h.scene before m.left h.uses }
    ends_loop o before line i (Some c) (Ok u) m h =
        let d = h.holds in
        record {
          scene = after_loop line i (Some c) h.scene;
          holds = record { room = d.room; level = d.level; base = d.base; shown = d.shown; tape = d.tape; opened = d.opened; told = told_next m.tally (Marked line i c) h.scene.events d.told };
          uses = uses_in o (λ s1 j. Done (after_loop line i (Some c) s1) j) h.scene before m.left h.uses;
        }
