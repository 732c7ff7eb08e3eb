-- A machine that does a call ends as the call does.
use Rattle.std.proofs.Common.{◌≡◌, ℕ, zero, suc, ◌+◌, ◌*◌, ◌-◌, ◌<◌, ◌≤◌, Bool, true, false, List, [], ◌∷◌, length, get_or, refl, sym, ap, subst, ◌∙◌, arith, if◌then◌else◌}
use Rattle.std.specs.Prelude.{map, take, drop, slice_get, nat_lt, ◌==◌, ◌&&◌, ◌++◌, Result, Ok, Err, Option, Some, None}
use Rattle.std.proofs.lemmas.List.{append_assoc, get_or_append_left, get_or_push, get_or-map, take_at, length-append, length-map}
use Rattle.adj_tree.specs.Code.{Var, plain, Terms, Code, name_eq, Procedure}
use Rattle.adj_tree.specs.View.{code_of, procedure_of}
use Rattle.adj_tree.specs.declared.value.Trap.{Trap as CodeTrap}
use Rattle.adj_tree.specs.declared.value.Trap.TheVariants as trap
use Rattle.adj_tree.proofs.Names.{nat_same, nat_refl, name_same}
use Rattle.def_meaning.specs.Trap.{Trap, shape_trap, schedule_trap, then_ok}
use Rattle.def_meaning.specs.Log.{Reversal, Log}
use Rattle.def_meaning.specs.Store.{Shape, Store}
use Rattle.def_meaning.specs.Numbers.{Numbers}
use Rattle.def_meaning.specs.Value.{Setting}
use Rattle.def_meaning.specs.Scene.{Scene, Stand, stand, Outcome, Done, Trapped, More, Full, then_do, with_value}
use Rattle.def_meaning.specs.Run.{Calls, run}
use Rattle.def_meaning.specs.Written.{find_unit, writes, is_written, handed_back}
use Rattle.def_meaning.specs.Units.{extents_of, shape_of, Actual, actuals, copied_out, dummies_fit, entered, unit_run, call_in, calls_of}
use Rattle.adj_interp_frame.specs.declared.routine.Routine.{Routine}
use Rattle.adj_interp_frame.specs.declared.step.Steps.{size-Steps}
use Rattle.adj_tape.specs.Held.{Held}
use Rattle.adj_interp_frame.specs.Shown.{Shows}
use Rattle.adj_interp_frame.specs.declared.slot.Slot.{Slot}
use Rattle.adj_interp_frame.specs.declared.actual.Actual.{Actual as CodeActual}
use Rattle.adj_interp_frame.specs.Called.{actuals_in, is_written_at, IsActualBelow, AreActualsBelow, entered_with, shapes_with, fit_from}
use Rattle.adj_interp_frame.specs.declared.actual.Actual.TheVariants as actual
use Rattle.adj_interp_frame.specs.Prepared.{var_at}
use Rattle.adj_interp_frame.specs.Lent.{AreFilled, AreRead}
use Rattle.adj_interp_frame.proofs.Entering.{given_is, given_cells}
use Rattle.law_meaning.proofs.Frames.{keeps_others}
use Rattle.law_meaning.proofs.WriteSets.{handed_written}
use Rattle.adj_interp_frame.specs.Instructed.{steps_in}
use Rattle.adj_interp_frame.specs.declared.frame.Frame.{Frame}
use Rattle.adj_interp_frame.specs.Framed.{trap_of, IsFrame}
use Rattle.adj_interp_frame.specs.Suited.{IsScalarIn, AreSuited, counts_in, HasOneCell}
use Rattle.adj_interp_frame.specs.Linked.{IsRoutine, units_in}
use Rattle.adj_interp_frame.proofs.Suiting.{one_cell, suited_on}
use Rattle.adj_interp.specs.declared.stop.Stop.{Stop}
use Rattle.adj_interp.specs.declared.stop.Stop.TheVariants as stop
use Rattle.adj_interp.specs.declared.machine.Machine.{Machine}
use Rattle.def_meaning.specs.Event.{Enter}
use Rattle.adj_interp.specs.Tallied.{Tallied, with_event, with_entry}
use Rattle.adj_interp.specs.Held.{Tells, Entry, setting_at, Holds, Stands, Runs, Uses, IsTrapped, HasMore, IsFull, Ends}
use Rattle.adj_interp.specs.Entered.{Gets, IsMisfit, inside, closed}
use Rattle.adj_interp.proofs.Driving.{uses_none, uses_then, uses_in, uses_on, uses_alike, holds_stand, ends_break, done_at_once, told_next}

-- ---- how deep calls go

-- the sizes of all bodies
abbrev pub all_sizes : List Routine → ℕ
all_sizes [] = 0
all_sizes (r ∷ rs) = size-Steps r.body + all_sizes rs

-- no body is longer than all together
pub size_within : (rs : List Routine) (i : ℕ) (d : Routine) → i < length rs → size-Steps (get_or rs i d).body ≤ all_sizes rs
size_within [] i d l = absurd (omega arith)
size_within (r ∷ rs) zero d l = omega arith
size_within (r ∷ rs) (suc i) d l = let h = size_within rs i d (omega arith) in omega (arith, h)

-- one level less is less, whatever the sizes below the bound
pub less_deep : (depth x a b : ℕ) → 0 < depth → a < x → (depth - 1) * x + a < depth * x + b
less_deep zero x a b h l = absurd (omega arith)
less_deep (suc d) x a b h l = let one : suc d - 1 ≡ d = omega arith in let m : suc d * x ≡ d * x + x = grind arith in subst (λ z. z * x + a < suc d * x + b) (sym one) (omega (arith, l, m))

pub positive : (n : ℕ) → (n ≡ 0 → ⊥) → 0 < n
positive zero f = absurd (f refl)
positive (suc n) f = omega arith

-- ---- which unit is called

-- the unit that is found bears the name
found_name : (us : List Procedure) (x : List ℕ) (u : Procedure) → find_unit us x ≡ Some u → x ≡ u.name
found_name [] x u h = absurd cc
found_name (v ∷ us) x u h = go (found_name us x u) (name_eq v.name x) refl h
  where
    go : (find_unit us x ≡ Some u → x ≡ u.name) → (b : Bool) → name_eq v.name x ≡ b → (let o : Option Procedure = if b then Some v else find_unit us x in o ≡ Some u) → x ≡ u.name
    go rest true e q = let s : v ≡ u = cc in sym (name_same v.name x e) ∙ ap (λ (z : Procedure). z.name) s
    go rest false e q = rest q

-- the unit of a number
pub unit_at : (rs : List Routine) (i : ℕ) (d : Routine) → i < length rs → slice_get (units_in rs) i ≡ Some (procedure_of (get_or rs i d).unit.now)
unit_at [] i d l = absurd (omega arith)
unit_at (r ∷ rs) zero d l = refl
unit_at (r ∷ rs) (suc i) d l = unit_at rs i d (omega arith)

unit_past : (rs : List Routine) (i : ℕ) → length rs ≤ i → slice_get (units_in rs) i ≡ None
unit_past [] i l = refl
unit_past (r ∷ rs) zero l = absurd (omega arith)
unit_past (r ∷ rs) (suc i) l = unit_past rs i (omega arith)

-- as many reversals are open after a unit was entered
pub entry_count : (level height : ℕ) (log : Log) (rs : List Reversal) → length (with_entry level height log rs).begun ≡ length rs
entry_count level height log [] = refl
entry_count level height log (r ∷ rs) = refl

-- ---- dummies that aren't written

module _ (rs : List Routine) (number : ℕ) (name : List ℕ) (found : find_unit (units_in rs) name ≡ slice_get (units_in rs) number) (r : Routine) (lt : number < length rs) (at : r ≡ get_or rs number r) (k : IsRoutine (units_in rs) r) where
  -- the unit is that of its name
  own_name : find_unit (units_in rs) r.unit.now.name ≡ Some (procedure_of r.unit.now)
  own_name =
      let is = found ∙ unit_at rs number r lt ∙ ap (λ (z : Routine). Some (procedure_of z.unit.now)) (sym at) in
      ap (find_unit (units_in rs)) (sym (found_name (units_in rs) name (procedure_of r.unit.now) is)) ∙ is

  -- the statements of the unit write no dummy that isn't handed back
  not_written : (i : ℕ) → i < length r.unit.now.dummies → is_written_at r i ≡ false → writes (handed_back (units_in rs)) (var_at r.names i) (procedure_of r.unit.now).body ≡ false
  not_written i m h =
      let us = units_in rs in
      let u = procedure_of r.unit.now in
      let flags = k.writes ∙ handed_written (units_in rs) r.unit.now.name (procedure_of r.unit.now) own_name in
      let many = ap length flags ∙ length-map r.unit.now.dummies (is_written us u) in
      let there : i < length r.writes.now = omega (arith, m, many) in
      let first : nat_lt i (length r.unit.now.dummies) ≡ true = grind arith in
      let second : nat_lt i (length r.writes.now) ≡ true = grind arith in
      let flag = ap (λ ws. get_or ws i false) flags ∙ get_or-map (is_written us u) r.unit.now.dummies i [] false m in
      ap (λ x. writes (handed_back us) x u.body) (ap (λ ns. var_at ns i) k.laid.names ∙ ap plain (get_or_append_left r.unit.now.dummies k.laid.others [] i m))
      ∙ sym flag ∙ sym (λ z. first z && (second z && get_or r.writes.now i false)) ∙ h

-- ---- within a call

-- a misfit that is known of each scene is one of this scene
pub misfit_at : {P Q : Type 0} (x : Stop) (line : ℕ) → (P → Q) → IsMisfit x line P → IsMisfit x line Q
misfit_at (stop.Trap trap.Shape l) line f h = (h.0, f h.1)
misfit_at (stop.Trap trap.Division l) line f h = h
misfit_at (stop.Trap trap.Index l) line f h = h
misfit_at (stop.Trap trap.Step l) line f h = h
misfit_at (stop.Trap trap.Tape l) line f h = h
misfit_at (stop.Trap trap.Schedule l) line f h = h
misfit_at (stop.Trap trap.Power l) line f h = h
misfit_at stop.Budget line f h = h
misfit_at stop.TapeFull line f h = h
misfit_at stop.Memory line f h = h

module _ {C : Type 0} where
  module _ (rs : List Routine) (depth number : ℕ) (name : List ℕ) (some : 0 < depth) (found : find_unit (units_in rs) name ≡ slice_get (units_in rs) number) (n : Setting C) (args : Terms) (line : ℕ) (s : Scene C) where
    deeper : (d : ℕ) → 0 < d → calls_of (units_in rs) d n name args line s ≡ call_in (calls_of (units_in rs) (d - 1)) n (handed_back (units_in rs) name) (find_unit (units_in rs) name) args line s
    deeper zero h = absurd (omega arith)
    deeper (suc d) h = let one : suc d - 1 ≡ d = omega arith in ap (λ z. call_in (calls_of (units_in rs) z) n (handed_back (units_in rs) name) (find_unit (units_in rs) name) args line s) (sym one)

    -- a unit that isn't there
    pub call_past : length rs ≤ number → calls_of (units_in rs) depth n name args line s ≡ (λ k. Trapped shape_trap line (stand n s))
    call_past l = deeper depth some ∙ ap (λ u. call_in (calls_of (units_in rs) (depth - 1)) n (handed_back (units_in rs) name) u args line s) (found ∙ unit_past rs number l)

    -- a unit that is there
    pub call_at : (r : Routine) (ws : List Bool) → number < length rs → r ≡ get_or rs number r → ws ≡ handed_back (units_in rs) r.unit.now.name → calls_of (units_in rs) depth n name args line s ≡ call_in (calls_of (units_in rs) (depth - 1)) n ws (Some (procedure_of r.unit.now)) args line s
    call_at r ws l at w =
        let is = found ∙ unit_at rs number r l ∙ ap (λ (z : Routine). Some (procedure_of z.unit.now)) (sym at) in
        let same = found_name (units_in rs) name (procedure_of r.unit.now) is in
        deeper depth some
        ∙ ap (λ u. call_in (calls_of (units_in rs) (depth - 1)) n (handed_back (units_in rs) name) u args line s) is
        ∙ ap (λ z. call_in (calls_of (units_in rs) (depth - 1)) n z (Some (procedure_of r.unit.now)) args line s) (ap (handed_back (units_in rs)) same ∙ sym w)

  -- a list of slots that was filled in place
  pub filled_whole : (vs : List (Slot C)) (all : List (CodeActual C)) (ws xs us : List (Slot C)) (n : ℕ) → xs ≡ ws → n ≡ length ws → AreFilled vs all xs us → AreFilled vs all ws (take n (us ++ drop (length us) ws))
  filled_whole vs all ws xs us n v len f =
      subst (λ z. AreFilled vs all z (take n (us ++ drop (length us) ws))) v
      (subst (AreFilled vs all xs) (sym (take_at us (drop (length us) ws) n (f.count ∙ ap length v ∙ sym len))) f)

  -- a dummy that isn't written holds at the end what its whole variable holds
  pub unwritten_read : (rs : List Routine) (number : ℕ) (name : List ℕ) (found : find_unit (units_in rs) name ≡ slice_get (units_in rs) number) (r : Routine) (lt : number < length rs) (at : r ≡ get_or rs number r) (k : IsRoutine (units_in rs) r) (names : List (List ℕ)) (shape : Var → Shape) (t : Store C) (all : List (CodeActual C)) (depth : ℕ) (n : Setting C) (s s' : Scene C) (j j' : ℕ) → run (calls_of (units_in rs) depth) n (procedure_of r.unit.now).body s j ≡ Done s' j' → ((x : Var) (i : ℕ) → s.store x i ≡ entered_with n.numbers r (actuals_in names shape t all) x i) → AreRead r all names s'.store t
  unwritten_read rs number name found r lt at k names shape t all depth n s s' j j' e start i v c unwritten given =
      let m = (given_is (length r.unit.now.dummies) all i (actual.Whole v) given).0 in
      let longer = length-append r.unit.now.dummies k.laid.others in
      let many = ap length k.laid.names in
      keeps_others (units_in rs) depth n (procedure_of r.unit.now).body s s' j j' e (var_at r.names i) (not_written rs number name found r lt at k i m unwritten) c
      ∙ start (var_at r.names i) c
      ∙ given_cells n.numbers r k.laid names shape t all i (omega (arith, m, longer, many)) (actual.Whole v) c given

  -- ---- before the unit runs

  -- one actual's trap is that of all
  pub actual_breaks : {A B : Type 0} (whole : Result (List (Actual C)) Trap) (one : Result (Actual C) Trap) (rest : Result (List (Actual C)) Trap) (before : List (Actual C)) (f : A → Actual C) (g : B → List (Actual C)) (line : ℕ) (x : Stop) → whole ≡ then_ok (then_ok one (λ a. then_ok rest (λ got. Ok (a ∷ got)))) (λ got. Ok (before ++ got)) → Gets f line one (Err x) → Gets g line whole (Err x)
  actual_breaks whole one rest before f g line (stop.Trap t l) p h = (p ∙ ap (λ z. then_ok (then_ok z (λ a. then_ok rest (λ got. Ok (a ∷ got)))) (λ got. Ok (before ++ got))) h.0, h.1)
  actual_breaks whole one rest before f g line stop.Budget p h = h
  actual_breaks whole one rest before f g line stop.TapeFull p h = h
  actual_breaks whole one rest before f g line stop.Memory p h = tt

  -- one actual more
  pub actual_next : (whole : Result (List (Actual C)) Trap) (one : Result (Actual C) Trap) (rest : Result (List (Actual C)) Trap) (before : List (Actual C)) (a : Actual C) → whole ≡ then_ok (then_ok one (λ a. then_ok rest (λ got. Ok (a ∷ got)))) (λ got. Ok (before ++ got)) → one ≡ Ok a → whole ≡ then_ok rest (λ got. Ok ((before ++ a ∷ []) ++ got))
  actual_next whole one rest before a p h = p ∙ ap (λ z. then_ok (then_ok z (λ a. then_ok rest (λ got. Ok (a ∷ got)))) (λ got. Ok (before ++ got))) h ∙ step rest
    where
      step : (rest : Result (List (Actual C)) Trap) → then_ok (then_ok rest (λ got. Ok (a ∷ got))) (λ got. Ok (before ++ got)) ≡ then_ok rest (λ got. Ok ((before ++ a ∷ []) ++ got))
      step (Ok got) = ap Ok (sym (append_assoc before (a ∷ []) got))
      step (Err t) = refl

  -- all that were found and the next are the slots'
  pub below_next : (vs : List (Slot C)) (all : List (CodeActual C)) (a : CodeActual C) → AreActualsBelow vs all → IsActualBelow vs a → AreActualsBelow vs (all ++ a ∷ [])
  below_next vs all a h b k d lt = go (nat_lt k (length all)) refl
    where
      go : (c : Bool) → nat_lt k (length all) ≡ c → IsActualBelow vs (get_or (all ++ a ∷ []) k d)
      go true e = let m : k < length all = grind arith in subst (IsActualBelow vs) (sym (get_or_append_left all (a ∷ []) d k m)) (h k d m)
      go false e =
          let ge : length all ≤ k = grind arith in
          let n = length-append all (a ∷ []) in
          let s : length all ≡ k = omega (arith, ge, lt, n) in
          subst (λ z. IsActualBelow vs (get_or (all ++ a ∷ []) z d)) s (subst (IsActualBelow vs) (sym (get_or_push all a d (length all) refl)) b)

module _ {C : Type 0} {numbers : Numbers C} where
  -- ---- how the parts of a call end

  -- a machine with the tape and what was counted of another stands as that does
  stands_too : (w : Stand) (m m' : Machine C) → m'.tape ≡ m.tape → m'.tally ≡ m.tally → Stands numbers m w → Stands numbers m' w
  stands_too w m m' p q h = record { tape = h.tape ∙ ap (λ (z : Held C). map numbers.shown z.words) (sym p); log = h.log ∙ ap (λ (z : Tallied). z.log) (sym q) }

-- so a stop is a stop of both
module _ {C : Type 0} (numbers : Numbers C) where
  trapped_too : (t : CodeTrap) (line : ℕ) (o : Outcome (Scene C)) (m m' : Machine C) → m'.tape ≡ m.tape → m'.tally ≡ m.tally → IsTrapped numbers m t line o → IsTrapped numbers m' t line o
  trapped_too t line (Trapped d l w) m m' p q h = (h.0, h.1, stands_too w m m' p q h.2)
  trapped_too t line (Done a k) m m' p q h = absurd h
  trapped_too t line (More w) m m' p q h = absurd h
  trapped_too t line (Full w) m m' p q h = absurd h

  more_too : (o : Outcome (Scene C)) (m m' : Machine C) → m'.tape ≡ m.tape → m'.tally ≡ m.tally → HasMore numbers m o → HasMore numbers m' o
  more_too (More w) m m' p q h = stands_too w m m' p q h
  more_too (Done a k) m m' p q h = absurd h
  more_too (Trapped d l w) m m' p q h = absurd h
  more_too (Full w) m m' p q h = absurd h

  full_too : (o : Outcome (Scene C)) (m m' : Machine C) → m'.tape ≡ m.tape → m'.tally ≡ m.tally → IsFull numbers m o → IsFull numbers m' o
  full_too (Full w) m m' p q h = stands_too w m m' p q h
  full_too (Done a k) m m' p q h = absurd h
  full_too (Trapped d l w) m m' p q h = absurd h
  full_too (More w) m m' p q h = absurd h

module _ {C : Type 0} {numbers : Numbers C} where
  pub moved : (e e' : Entry numbers) (o : Runs C) (before : ℕ) (x : Stop) (m m' : Machine C) → m'.left ≡ m.left → m'.tape ≡ m.tape → m'.tally ≡ m.tally → Ends e o before (Err x) m → Ends e' o before (Err x) m'
  moved e e' o before stop.Memory m m' l p q h = tt
  moved e e' o before (stop.Trap t line) m m' l p q h = uses_alike o before m.left m'.left (λ j. IsTrapped numbers m t line) (λ j. IsTrapped numbers m' t line) l (λ j z g. trapped_too numbers t line z m m' p q g) h
  moved e e' o before stop.Budget m m' l p q h = more_too numbers (o before) m m' p q h
  moved e e' o before stop.TapeFull m m' l p q h = uses_alike o before m.left m'.left (λ j. IsFull numbers m) (λ j. IsFull numbers m') l (λ j z g. full_too numbers z m m' p q g) h

  -- where a value's trap was found, the run traps
  pub gets_err : {A B : Type 0} (f : A → B) (e : Entry numbers) (r : Result B Trap) (line : ℕ) (x : Stop) (m : Machine C) (s : Scene C) (go : B → Runs C) → Gets f line r (Err x) → Holds e m s → Ends e (λ k. with_value r line (stand (setting_at e) s) (λ b. go b k)) m.left (Err x) m
  gets_err f e r line (stop.Trap t l) m s go g h =
      subst (λ z. Ends e (λ k. with_value z line (stand (setting_at e) s) (λ b. go b k)) m.left (Err (stop.Trap t l)) m) (sym g.0)
      (uses_none (λ k. Trapped (trap_of t) line (stand (setting_at e) s)) m.left m.left refl (λ j. IsTrapped numbers m t l) (λ j. (refl, sym g.1, holds_stand e m s h)))
  gets_err f e r line stop.Budget m s go g h = absurd g
  gets_err f e r line stop.TapeFull m s go g h = absurd g
  gets_err f e r line stop.Memory m s go g h = tt

  module _ (q : Calls C) (e : Entry numbers) (s : Scene C) (r : Routine) (ws : List Bool) (args : Terms) (line : ℕ) (m : Machine C) (h : Holds e m s) where
    -- an actual's trap
    pub call_err : {A : Type 0} (f : A → List (Actual C)) (x : Stop) → Gets f line (actuals (setting_at e) args s.store) (Err x) → Ends e (call_in q (setting_at e) ws (Some (procedure_of r.unit.now)) args line s) m.left (Err x) m
    call_err f x g =
        gets_err f e (actuals (setting_at e) args s.store) line x m s
        (λ got k. if dummies_fit numbers (procedure_of r.unit.now) (entered_with numbers r got) r.unit.now.dummies got
        then then_do (unit_run q (setting_at e) (procedure_of r.unit.now) line (record s { store = entered_with numbers r got }) k)
        (λ s1 j. Done (record s { store = copied_out r.unit.now.dummies ws got s1.store s.store; tape = s1.tape; events = s1.events }) j)
        else Trapped shape_trap line (stand (setting_at e) s)) g h

    module _ (got : List (Actual C)) (found : actuals (setting_at e) args s.store ≡ Ok got) where
      -- the scene at the unit's entry
      abbrev first_scene : Scene C
      first_scene = entered (setting_at e) (procedure_of r.unit.now) (record s { store = entered_with numbers r got })

      abbrev check : Scene C → ℕ → Outcome (Scene C)
      check s1 j = if s1.opened == 0 then Done s1 j else Trapped schedule_trap line (stand (setting_at e) s1)

      abbrev copy : Scene C → ℕ → Outcome (Scene C)
      copy s1 j = Done (record s { store = copied_out r.unit.now.dummies ws got s1.store s.store; tape = s1.tape; events = s1.events }) j

      abbrev within : Entry numbers
      within = inside e (shapes_with numbers r got) (length m.tally.begun)

      abbrev body_run : Runs C
      body_run = run q (setting_at within) (procedure_of r.unit.now).body first_scene

      is_call : (b : Bool) → fit_from numbers r got 0 ≡ b → call_in q (setting_at e) ws (Some (procedure_of r.unit.now)) args line s ≡ (λ k. if b then then_do (then_do (body_run k) check) copy else Trapped shape_trap line (stand (setting_at e) s))
      is_call b f =
          ap (λ v k. with_value v line (stand (setting_at e) s) (λ z. if dummies_fit numbers (procedure_of r.unit.now) (entered_with numbers r z) r.unit.now.dummies z
          then then_do (unit_run q (setting_at e) (procedure_of r.unit.now) line (record s { store = entered_with numbers r z }) k)
          (λ s1 j. Done (record s { store = copied_out r.unit.now.dummies ws z s1.store s.store; tape = s1.tape; events = s1.events }) j)
          else Trapped shape_trap line (stand (setting_at e) s))) found
          ∙ ap (λ c k. if c then then_do (then_do (body_run k) check) copy else Trapped shape_trap line (stand (setting_at e) s)) f

      -- a dummy that doesn't fit
      pub call_misfit : (x : Stop) → IsMisfit x line (fit_from numbers r got 0 ≡ false) → Ends e (call_in q (setting_at e) ws (Some (procedure_of r.unit.now)) args line s) m.left (Err x) m
      call_misfit (stop.Trap trap.Shape l) g =
          subst (λ o. Ends e o m.left (Err (stop.Trap trap.Shape l)) m) (sym (is_call false g.1))
          (uses_none (λ k. Trapped shape_trap line (stand (setting_at e) s)) m.left m.left refl (λ j. IsTrapped numbers m trap.Shape l) (λ j. (refl, sym g.0, holds_stand e m s h)))
      call_misfit (stop.Trap trap.Division l) g = absurd g
      call_misfit (stop.Trap trap.Index l) g = absurd g
      call_misfit (stop.Trap trap.Step l) g = absurd g
      call_misfit (stop.Trap trap.Tape l) g = absurd g
      call_misfit (stop.Trap trap.Schedule l) g = absurd g
      call_misfit (stop.Trap trap.Power l) g = absurd g
      call_misfit stop.Budget g = absurd g
      call_misfit stop.TapeFull g = absurd g
      call_misfit stop.Memory g = tt

      module _ (fit : fit_from numbers r got 0 ≡ true) (m1 : Machine C) where
        -- the unit stops
        pub call_break : (x : Stop) (m2 : Machine C) → Ends within body_run m.left (Err x) m1 → m2.left ≡ m1.left → m2.tape ≡ m1.tape → m2.tally ≡ m1.tally → Ends e (call_in q (setting_at e) ws (Some (procedure_of r.unit.now)) args line s) m.left (Err x) m2
        call_break x m2 g l p t =
            subst (λ o. Ends e o m.left (Err x) m2) (sym (is_call true fit))
            (moved within e (λ k. then_do (then_do (body_run k) check) copy) m.left x m1 m2 l p t (ends_break within (λ k. then_do (body_run k) check) m.left copy x m1 (ends_break within body_run m.left check x m1 g)))

        -- it ends while a reversal is open
        pub call_open : (m2 : Machine C) → Ends within body_run m.left (Ok tt) m1 → (length m1.tally.begun == m1.base) ≡ false → m2.left ≡ m1.left → m2.tape ≡ m1.tape → m2.tally ≡ m1.tally → Ends e (call_in q (setting_at e) ws (Some (procedure_of r.unit.now)) args line s) m.left (Err (stop.Trap trap.Schedule line)) m2
        call_open m2 d c l p t =
            let o = d.holds.opened in
            let still : (d.scene.opened == 0) ≡ false = some d.scene.opened o in
            let trapped : Ends e (λ j. then_do (if d.scene.opened == 0 then Done d.scene j else Trapped schedule_trap line (stand (setting_at e) d.scene)) copy) m1.left (Err (stop.Trap trap.Schedule line)) m2 =
            subst (λ b. Ends e (λ j. then_do (if b then Done d.scene j else Trapped schedule_trap line (stand (setting_at e) d.scene)) copy) m1.left (Err (stop.Trap trap.Schedule line)) m2) (sym still)
            (uses_none (λ k. Trapped schedule_trap line (stand (setting_at e) d.scene)) m1.left m2.left l (λ j. IsTrapped numbers m2 trap.Schedule line) (λ j. (refl, refl, stands_too (stand (setting_at e) d.scene) m1 m2 p t (holds_stand within m1 d.scene d.holds)))) in
            subst (λ z. Ends e z m.left (Err (stop.Trap trap.Schedule line)) m2) (sym (is_call true fit))
            (uses_then (λ k. then_do (then_do (body_run k) check) copy) (λ j. then_do (check d.scene j) copy) m.left m1.left (twice d) m2.left (λ j. IsTrapped numbers m2 trap.Schedule line) trapped)
          where
            -- what follows the unit
            twice : (d : Ends within body_run m.left (Ok tt) m1) → Uses (λ k. then_do (then_do (body_run k) check) copy) m.left m1.left (λ j z. z ≡ then_do (check d.scene j) copy)
            twice d = uses_on (λ k. then_do (body_run k) check) copy (check d.scene) m.left m1.left (uses_in body_run check d.scene m.left m1.left d.uses)

            some : (i : ℕ) → i + m1.base ≡ length m1.tally.begun → (i == 0) ≡ false
            some zero o = let z : length m1.tally.begun ≡ m1.base = omega (arith, o) in absurd (let bad : true ≡ false = sym (nat_refl m1.base) ∙ ap (λ y. y == m1.base) (sym z) ∙ c in cc)
            some (suc i) o = grind arith

        -- it ends, and its dummies are handed back
        pub call_done : (m3 : Machine C) (d : Ends within body_run m.left (Ok tt) m1) → (length m1.tally.begun == m1.base) ≡ true → m3.tape ≡ m1.tape → m3.tally ≡ m1.tally → m3.left ≡ m1.left → m3.level ≡ m.level → m3.base ≡ m.base
            → (Shows numbers m1.frame.names.now m1.frame.slots.items within.shape d.scene.store → Shows numbers m3.frame.names.now m3.frame.slots.items e.shape (copied_out r.unit.now.dummies ws got d.scene.store s.store))
            → Ends e (call_in q (setting_at e) ws (Some (procedure_of r.unit.now)) args line s) m.left (Ok tt) m3
        call_done m3 d c p t l v b shown =
            let o = d.holds.opened in
            let base = d.holds.base in
            let was = h.opened in
            let same = nat_same (length m1.tally.begun) m1.base c in
            let closed : d.scene.opened ≡ 0 = omega (arith, o, same) in
            let count = ap (λ (z : Tallied). length z.begun) t in
            let held : Holds e m3 (record s { store = copied_out r.unit.now.dummies ws got d.scene.store s.store; tape = d.scene.tape; events = d.scene.events }) = record {
              room = ap (λ (z : Held C). z.room) p ∙ d.holds.room;
              level = v ∙ h.level;
              base = b ∙ h.base;
              shown = shown d.holds.shown;
              tape = d.holds.tape ∙ ap (λ (z : Held C). z.words) (sym p);
              opened = omega (arith, was, same, base, b, count);
              told = subst (λ z. Tells z d.scene.events) (sym t) d.holds.told;
            } in
            let uses = uses_on (λ k. then_do (body_run k) check) copy (check d.scene) m.left m1.left (uses_in body_run check d.scene m.left m1.left d.uses) in
            let done : Ends e (λ j. then_do (check d.scene j) copy) m1.left (Ok tt) m3 =
            subst (λ i. Ends e (λ j. then_do (if i == 0 then Done d.scene j else Trapped schedule_trap line (stand (setting_at e) d.scene)) copy) m1.left (Ok tt) m3) (sym closed) (done_at_once e m1 m3 (record s { store = copied_out r.unit.now.dummies ws got d.scene.store s.store; tape = d.scene.tape; events = d.scene.events }) held l) in
            subst (λ z. Ends e z m.left (Ok tt) m3) (sym (is_call true fit))
            (record {
              scene = done.scene;
              holds = done.holds;
              uses = uses_then (λ k. then_do (then_do (body_run k) check) copy) (λ j. then_do (check d.scene j) copy) m.left m1.left uses m3.left (λ j z. z ≡ Done done.scene j) done.uses;
            })

  -- ---- the end of a unit

  -- a unit that is done while a reversal is open traps
  pub finish_open : (e : Entry numbers) (o : Runs C) (before line : ℕ) (m : Machine C) → Ends e o before (Ok tt) m → (length m.tally.begun ≡ m.base → ⊥) → Ends e (λ k. then_do (o k) (closed (setting_at e) line)) before (Err (stop.Trap trap.Schedule line)) m
  finish_open e o before line m d differ =
      let still = some d.scene.opened d.holds.opened in
      let trapped : Ends e (closed (setting_at e) line d.scene) m.left (Err (stop.Trap trap.Schedule line)) m =
      subst (λ b. Ends e (λ j. if b then Done d.scene j else Trapped schedule_trap line (stand (setting_at e) d.scene)) m.left (Err (stop.Trap trap.Schedule line)) m) (sym still)
      (uses_none (λ k. Trapped schedule_trap line (stand (setting_at e) d.scene)) m.left m.left refl (λ j. IsTrapped numbers m trap.Schedule line) (λ j. (refl, refl, holds_stand e m d.scene d.holds))) in
      uses_then (λ k. then_do (o k) (closed (setting_at e) line)) (closed (setting_at e) line d.scene) before m.left (uses_in o (closed (setting_at e) line) d.scene before m.left d.uses) m.left (λ j. IsTrapped numbers m trap.Schedule line) trapped
    where
      some : (i : ℕ) → i + m.base ≡ length m.tally.begun → (i == 0) ≡ false
      some zero o = absurd (differ (omega (arith, o)))
      some (suc i) o = grind arith

  -- a unit that is done where none is open is done
  pub finish_closed : (e : Entry numbers) (o : Runs C) (before line : ℕ) (m : Machine C) → Ends e o before (Ok tt) m → length m.tally.begun ≡ m.base → Ends e (λ k. then_do (o k) (closed (setting_at e) line)) before (Ok tt) m
  finish_closed e o before line m d same =
      let n = d.holds.opened in
      let none : d.scene.opened ≡ 0 = omega (arith, n, same) in
      let done : Ends e (closed (setting_at e) line d.scene) m.left (Ok tt) m =
      subst (λ i. Ends e (λ j. if i == 0 then Done d.scene j else Trapped schedule_trap line (stand (setting_at e) d.scene)) m.left (Ok tt) m) (sym none) (done_at_once e m m d.scene d.holds refl) in
      record {
        scene = done.scene;
        holds = done.holds;
        uses = uses_then (λ k. then_do (o k) (closed (setting_at e) line)) (closed (setting_at e) line d.scene) before m.left (uses_in o (closed (setting_at e) line) d.scene before m.left d.uses) m.left (λ j z. z ≡ Done done.scene j) done.uses;
      }

  -- the body that is prepared ends as that of the unit
  pub unit_ends : (q : Calls C) (within : Entry numbers) (s : Scene C) (r : Routine) (names : List (List ℕ)) (k j : ℕ) (x : Result (Unit {0}) Stop) (m : Machine C) → names ≡ r.names → steps_in r.names r.body ≡ code_of r.unit.now.body → j ≡ k → Ends within (run q (setting_at within) (steps_in names r.body) s) j x m → Ends within (run q (setting_at within) (code_of r.unit.now.body) s) k x m
  unit_ends q within s r names k j x m named body left h = subst (λ (p : Code × ℕ). Ends within (run q (setting_at within) p.0 s) p.1 x m) (λ i. ((ap (λ ns. steps_in ns r.body) named ∙ body) i, left i)) h

  -- the calls of a unit hand variables of one cell alone to scalars, with the cells that the slots of its entry have
  pub entered_suited : (units : List Procedure) (r : Routine) (t : Store C) (shape : Var → Shape) (s : Store C) (f : Frame C) → IsRoutine units r → f.names.now ≡ r.names → IsFrame r.names f.slots.items → Shows numbers r.names f.slots.items shape s → ((x : Var) → shape x ≡ shape_of (extents_of numbers (procedure_of r.unit.now) t x)) → AreSuited units (HasOneCell f.names.now (counts_in f.slots.items)) (steps_in f.names.now r.body)
  entered_suited units r t shape s f k named framed shown e =
      let one = one_cell numbers (procedure_of r.unit.now) t r.names f.slots.items shape s framed shown e in
      let suited = suited_on (IsScalarIn (procedure_of r.unit.now)) (HasOneCell r.names (counts_in f.slots.items)) one units (code_of r.unit.now.body) k.suited in
      subst (λ ns. AreSuited units (HasOneCell ns (counts_in f.slots.items)) (steps_in ns r.body)) (sym named) (subst (AreSuited units (HasOneCell r.names (counts_in f.slots.items))) (sym k.body) suited)

-- ---- the entry of a unit

module _ {C : Type 0} {numbers : Numbers C} where
  -- a machine that went into a unit has its first scene in hand
  pub went_in : (e : Entry numbers) (m m1 m2 : Machine C) (first f : Frame C) (l : ℕ) (s : Scene C) (shape : Var → Shape) (t : Store C) (name : List ℕ) (shapes : List Shape)
      → m1 ≡ record m { tally = m1.tally } → m1.tally ≡ with_event m.tally (Enter name (suc m.level) (length m.tape.words) shapes) → l ≡ suc m.level → m2 ≡ record m1 { frame = first; base = length m1.tally.begun; level = l }
      → Holds e m s → Shows numbers f.names.now f.slots.items shape t
      → Holds (inside e shape (length m.tally.begun)) (record m2 { frame = f }) (record { store = t; tape = s.tape; opened = 0; events = Enter name (suc e.level) (length s.tape) shapes ∷ s.events })
  went_in e m m1 m2 first f l s shape t name shapes same counted one into h q =
      let was = h.level in
      let level : l ≡ suc e.level = one ∙ ap suc was in
      let tape = ap (λ (z : Machine C). z.tape) into ∙ ap (λ (z : Machine C). z.tape) same in
      let tally = ap (λ (z : Machine C). z.tally) into in
      let told : m2.tally ≡ with_entry (suc e.level) (length s.tape) m.tally.log m.tally.begun = tally ∙ counted ∙ (λ i. with_entry (suc (was i)) (length (sym h.tape i)) m.tally.log m.tally.begun) in
      let based : m2.base ≡ length m1.tally.begun = ap (λ (z : Machine C). z.base) into in
      let begun = ap (λ (z : Tallied). length z.begun) tally in
      record {
        room = ap (λ (z : Held C). z.room) tape ∙ h.room;
        level = ap (λ (z : Machine C). z.level) into ∙ level;
        base = based ∙ ap (λ (z : Tallied). length z.begun) counted ∙ entry_count (suc m.level) (length m.tape.words) m.tally.log m.tally.begun;
        shown = q;
        tape = h.tape ∙ ap (λ (z : Held C). z.words) (sym tape);
        opened = omega (arith, based, begun);
        told = subst (λ z. Tells z (Enter name (suc e.level) (length s.tape) shapes ∷ s.events)) (sym told) (told_next m.tally (Enter name (suc e.level) (length s.tape) shapes) s.events h.told);
      }
