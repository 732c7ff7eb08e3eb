-- What each action of a reversal does, from what the groups and the calls of the step unit and of its adjoint do.
use Rattle.std.proofs.Common.{◌≡◌, ◌<◌, ◌^◌, ℕ, zero, suc, ◌+◌, ◌-◌, false, List, [], ◌∷◌, ◌++◌, length, refl, sym, ap, ◌∙◌, subst, arith}
use Rattle.std.specs.Prelude.{ℤ, pos, Ok}
use Rattle.adj_tree.specs.Code.{Var, plain, shadow, helper, first, stride, count, turn, entry, kind, lower, upper, slots, name_eq, plus, minus, times, var, bin, none, Mark, assign, unmarked, loop, runtime, give_action, Code}
use Rattle.adj_tree.proofs.Names.{nat_refl, name_refl}
use Rattle.adj_word.specs.Word.{wrap, add, sub, mul}
use Rattle.adj_word.specs.Pairing.{pairing}
use Rattle.adj_word.proofs.Residues.{wrap_word}
use Rattle.adj_word.proofs.Counting.{word-count, count_up}
use Rattle.adj_revolve.specs.declared.machine.Action.{Action}
use Rattle.adj_revolve.specs.declared.machine.Action.TheVariants.{Store as Put, Advance, Turn, Keep, Drop}
use Rattle.adj_revolve.specs.Schedule.{schedule_of}
use Rattle.def_meaning.specs.Append.{◌+++◌}
use Rattle.def_meaning.specs.Store.{Shape, Store, set}
use Rattle.def_meaning.specs.Value.{Setting, value}
use Rattle.def_meaning.specs.Run.{Calls, trips}
use Rattle.def_meaning.specs.Runtime.{steps_of, snapshots_of}
use Rattle.law_meaning.specs.Leads.{Leads, ActLeads}
use Rattle.law_meaning.proofs.Leadings.{leads_append, act_at_once}
use Rattle.law_sweep.specs.Pairs.{Key, Words, shadows, on_words}
use Rattle.law_sweep.specs.Scenes.{Course, scene}
use Rattle.def_sweep.specs.Rows.{literal}
use Rattle.def_sweep.specs.Reversals.{Called, Reversal, LoopRun, times as times_called, AreReversed}
use Rattle.def_sweep.specs.ReversalCode.{at_turn, arms, one_action, slots_of}
use Rattle.law_sweep.proofs.Slots.{slots_same}
use Rattle.law_sweep.proofs.Turns.{next_store}
use Rattle.law_sweep.proofs.Told.{AreBetween}
use Rattle.law_sweep.proofs.Goings.{Goes, TurnsGo, goes_leads, goes_one, goes_step_before, turns_go-none, turns_go-more, turns_go-one, loop_goes}
use Rattle.law_sweep.proofs.Actions.{do_1, do_2, do_3, do_4, do_5}
use Rattle.law_sweep.proofs.Playing.{past, Played, Taken, Renewed, Acts}
use Rattle.law_sweep.proofs.ActionStores.{at_past, past_less, SameHelpers, SameFixed, fixed_none, fixed_of, fixed_then, told, told_kind, told_lower, told_upper, Beside, own_set, variable_set, beside_then, told_beside, next_beside, AtStep, Ready, trips_between}

-- the reversal of a loop of depth d and l turns with m snapshots, by its directive; `a0` and `c0` are its first value and its step, x its
-- variable
module _ (q : Calls ℤ) (sh : Var → Shape) (level : ℕ) (cells : List Key) (d line : ℕ) (x : List ℕ) (l m : ℕ) (mark : Mark) (a0 c0 : ℤ) (unit adj : List ℕ) (Kind : Called → Type 0) (words : ℕ) (keep back plain_call adjoint : Code) (Standing : ℕ → Store ℤ → Type 0) (Loose : Store ℤ → Type 0) (Snap : ℕ → List ℤ → Type 0) (change : ℕ → Words → Words) (loops : ℕ → List LoopRun) where
  abbrev nw : Setting ℤ
  nw = on_words sh level

  abbrev called : List ℕ → List Shape → ℕ → List Called
  called name shapes height = record { unit = name; height = height; shapes = shapes } ∷ []

  -- the snapshot is pushed
  pub record SnapshotPushed (i : ℕ) (f : Store ℤ) : Type 0 where
    pub snap : List ℤ
    pub is : Snap i snap
    pub pushes : (b : Course) (t : List ℤ) → Leads q nw keep (scene b f t) (scene b f (snap ++ t))

  -- the snapshot is popped
  pub record SnapshotPopped (i : ℕ) (snap : List ℤ) (g : Store ℤ) : Type 0 where
    pub after : Store ℤ
    pub pops : (b : Course) (t : List ℤ) → Leads q nw back (scene b g (snap ++ t)) (scene b after t)
    pub stands : Standing i after
    pub helpers : SameHelpers g after
    pub shades : (y : List ℕ) (j : ℕ) → after (shadow y) j ≡ g (shadow y) j

  -- the step unit is called
  pub record Stepped (i : ℕ) (b : Course) (f : Store ℤ) (t : List ℤ) : Type 0 where
    pub after : Store ℤ
    pub shapes : List Shape
    pub right : (h : ℕ) → Kind (record { unit = unit; height = h; shapes = shapes })
    pub goes : Goes q nw plain_call b f after t t (called unit shapes (length t)) []
    pub stands : Standing (suc i) after
    pub helpers : SameHelpers f after
    pub shades : (y : List ℕ) (j : ℕ) → after (shadow y) j ≡ f (shadow y) j

  -- its adjoint is called
  pub record TurnedBack (i : ℕ) (b : Course) (f : Store ℤ) (t : List ℤ) : Type 0 where
    pub after : Store ℤ
    pub rs : List Reversal
    pub shapes : List Shape
    pub right : (h : ℕ) → Kind (record { unit = adj; height = h; shapes = shapes })
    pub goes : Goes q nw adjoint b f after t t (called adj shapes (length t)) rs
    pub reversed : AreReversed (loops i) rs
    pub loose : Loose after
    pub helpers : SameHelpers f after
    pub pairs : (y : Words) → pairing cells (shadows after) y ≡ pairing cells (shadows f) (change i y)

  -- what a reversal asks of the groups and of the calls
  pub record Stepping : Type 0 where
    pub snapshots : (i : ℕ) (snap : List ℤ) → Snap i snap → length snap ≡ words
    pub pushed : (i : ℕ) (f : Store ℤ) → Standing i f → SnapshotPushed i f
    pub popped : (i : ℕ) (snap : List ℤ) (g : Store ℤ) → Snap i snap → Loose g → SnapshotPopped i snap g
    pub stepped : (i : ℕ) (b : Course) (f : Store ℤ) (t : List ℤ) → i < l → Standing i f → AtStep x a0 c0 i f → Stepped i b f t
    pub turned : (i : ℕ) (b : Course) (f : Store ℤ) (t : List ℤ) → i < l → Standing i f → AtStep x a0 c0 i f → TurnedBack i b f t
    -- neither looks at the loop's variable, at shadows or at helpers of its depth
    pub standing : (i : ℕ) (f g : Store ℤ) → Beside d x f g → Standing i f → Standing i g
    pub loose : (f g : Store ℤ) → Beside d x f g → Loose f → Loose g
    pub loosen : (i : ℕ) (f : Store ℤ) → Standing i f → Loose f

  abbrev pub all : List Action
  all = schedule_of 0 l m

  abbrev pub action : Code
  action = one_action line d (plain x) (slots_of d mark) keep back plain_call adjoint

  -- before the k-th action
  abbrev IsReady : ℕ → Store ℤ → Type 0
  IsReady k f = Ready sh level d l m mark a0 c0 k f

  module _ (steps_fit : steps_of (pos l) ≡ Ok l) (snapshots_fit : snapshots_of (pos m) ≡ Ok m) (few : suc (suc (length all)) < 2 ^ 63) (small : suc l < 2 ^ 63) (differ : name_eq unit adj ≡ false) (differ' : name_eq adj unit ≡ false) (s : Stepping) where
    -- one call, counted
    same_unit : (z : List Shape) (h : ℕ) → times_called unit (called unit z h) ≡ 1
    same_unit z h = rw (name_refl unit) refl

    same_adj : (z : List Shape) (h : ℕ) → times_called adj (called adj z h) ≡ 1
    same_adj z h = rw (name_refl adj) refl

    other_unit : (z : List Shape) (h : ℕ) → times_called unit (called adj z h) ≡ 0
    other_unit z h = rw differ refl

    other_adj : (z : List Shape) (h : ℕ) → times_called adj (called unit z h) ≡ 0
    other_adj z h = rw differ' refl

    gives : (k : ℕ) (a : Action) (rest : List Action) (b : Course) (f : Store ℤ) (t : List ℤ) → past k all ≡ a ∷ rest → IsReady k f → ActLeads q nw (runtime (give_action (var (helper count d)) (slots_of d mark) (var (helper entry d)) (helper kind d) (helper lower d) (helper upper d))) line (scene b f t) (scene b (told d a f) t)
    gives k a rest b f t at r =
        let found = at_past k all a rest at in
        act_at_once q nw line (runtime (give_action (var (helper count d)) (slots_of d mark) (var (helper entry d)) (helper kind d) (helper lower d) (helper upper d))) (scene b f t) (scene b (told d a f) t)
        (λ j. rw (r.count_is, r.slots_is, r.entry_is, steps_fit, snapshots_fit, found) refl)

    -- an action that was done, with the step of the loop after it
    abbrev next : Store ℤ → Store ℤ
    next f = next_store nw (helper entry d) (pos 1) f

    done : (k : ℕ) (end : Store ℤ → Type 0) (ch : Words → Words) (ls : List LoopRun) (n o low high : ℕ) (a : Action) (rest : List Action) (b : Course) (f f1 : Store ℤ) (t t1 : List ℤ) (calls : List Called) (rs : List Reversal) → past k all ≡ a ∷ rest → IsReady k f →
        Goes q nw (arms line d (plain x) keep back plain_call adjoint) b (told d a f) f1 t t1 calls rs → SameFixed d (told d a f) f1 → end (next f1) →
        ((y : Words) → pairing cells (shadows f1) y ≡ pairing cells (shadows f) (ch y)) → AreReversed ls rs → times_called unit calls ≡ n → times_called adj calls ≡ o → AreBetween Kind low high calls →
        Played q sh level cells action (helper entry d) unit adj Kind words IsReady 1 k end ch ls n o low high b f t t1
    done k end ch ls n o low high a rest b f f1 t t1 calls rs at r g fixed e p v w z i =
        let less = past_less k all a rest at in
        let again : k + 1 ≡ suc k = omega arith in
        let up : add (pos (suc k)) (pos 1) ≡ pos (suc (suc k)) = count_up (suc k) (omega arith) in
        record {
          after = next f1;
          calls = calls;
          rs = rs;
          runs = turns_go-one q nw action (helper entry d) (pos 1) b f f1 t t1 calls rs
              (goes_step_before q nw line (runtime (give_action (var (helper count d)) (slots_of d mark) (var (helper entry d)) (helper kind d) (helper lower d) (helper upper d))) (arms line d (plain x) keep back plain_call adjoint) b f (told d a f) f1 t t t1 calls rs (gives k a rest b f t at r) g);
          ready = subst (λ n. IsReady n (next f1)) (sym again) (record {
            count_is = fixed.count_is ∙ r.count_is;
            first_is = fixed.first_is ∙ r.first_is;
            stride_is = fixed.stride_is ∙ r.stride_is;
            slots_is = slots_same sh level d mark f (next f1) fixed.slots_is ∙ r.slots_is;
            entry_is = rw (nat_refl d) (ap (λ z. add z (pos 1)) (fixed.entry_is ∙ r.entry_is) ∙ up);
          });
          ends = e;
          pairs = p;
          reversed = v;
          advances_are = w;
          turns_are = z;
          within = i;
        }

    stands_told : (i : ℕ) (a : Action) (f : Store ℤ) → Standing i f → Standing i (told d a f)
    stands_told i a f h = s.standing i f (told d a f) (told_beside d x a f) h

    stands_next : (i : ℕ) (f : Store ℤ) → Standing i f → Standing i (next f)
    stands_next i f h = s.standing i f (next f) (next_beside d x sh level f) h

    loose_next : (f : Store ℤ) → Loose f → Loose (next f)
    loose_next f h = s.loose f (next f) (next_beside d x sh level f) h

    -- ---- snapshots

    puts : (k i low high : ℕ) (rest : List Action) (b : Course) (f : Store ℤ) (t : List ℤ) → past k all ≡ Put i ∷ rest → IsReady k f → Standing i f → Taken q sh level cells action (helper entry d) unit adj Kind words IsReady all l Standing Loose Snap change loops k i low high b f t
    puts k i low high rest b f t at r h =
        let f1 = told d (Put i) f in
        let p = s.pushed i f1 (stands_told i (Put i) f h) in
        record {
          snap = p.snap;
          is = p.is;
          played = done k (Standing i) (λ y. y) [] 0 0 low high (Put i) rest b f f1 t (p.snap ++ t) [] [] at r
              (do_1 q sh level line d (plain x) keep back plain_call adjoint b f1 f1 t (p.snap ++ t) [] [] (told_kind d (Put i) f) (told_kind d (Put i) f) (goes_leads q nw keep b f1 f1 t (p.snap ++ t) (p.pushes b t)))
              (fixed_none d f1) (stands_next i f1 (stands_told i (Put i) f h)) (λ y. refl) tt refl refl tt;
        }

    drops : (k i low high : ℕ) (rest : List Action) (b : Course) (f : Store ℤ) (snap t : List ℤ) → past k all ≡ Drop i ∷ rest → IsReady k f → Loose f → Snap i snap → Played q sh level cells action (helper entry d) unit adj Kind words IsReady 1 k (Standing i) (λ y. y) [] 0 0 low high b f (snap ++ t) t
    drops k i low high rest b f snap t at r h is =
        let f1 = told d (Drop i) f in
        let p = s.popped i snap f1 is (s.loose f f1 (told_beside d x (Drop i) f) h) in
        done k (Standing i) (λ y. y) [] 0 0 low high (Drop i) rest b f p.after (snap ++ t) t [] [] at r
        (do_5 q sh level line d (plain x) keep back plain_call adjoint b f1 p.after (snap ++ t) t [] [] (told_kind d (Drop i) f) (goes_leads q nw back b f1 p.after (snap ++ t) t (p.pops b t)))
        (fixed_of d f1 p.after p.helpers) (stands_next i p.after p.stands) (λ y. ap (λ z. pairing cells z y) (λ i x. p.shades x.0 x.1 i)) tt refl refl tt

    keeps : (k i low high : ℕ) (rest : List Action) (b : Course) (f : Store ℤ) (snap t : List ℤ) → past k all ≡ Keep i ∷ rest → IsReady k f → Loose f → Snap i snap → Renewed q sh level cells action (helper entry d) unit adj Kind words IsReady all l Standing Loose Snap change loops k i low high b f (snap ++ t) t
    keeps k i low high rest b f snap t at r h is =
        let f1 = told d (Keep i) f in
        let p = s.popped i snap f1 is (s.loose f f1 (told_beside d x (Keep i) f) h) in
        let w = s.pushed i p.after p.stands in
        record {
          snap = w.snap;
          is = w.is;
          played = done k (Standing i) (λ y. y) [] 0 0 low high (Keep i) rest b f p.after (snap ++ t) (w.snap ++ t) [] [] at r
              (do_4 q sh level line d (plain x) keep back plain_call adjoint b f1 p.after (snap ++ t) (w.snap ++ t) [] [] (told_kind d (Keep i) f) (p.helpers.at kind d 0 ∙ told_kind d (Keep i) f)
              (goes_leads q nw (back +++ keep) b f1 p.after (snap ++ t) (w.snap ++ t) (leads_append q nw back keep (scene b f1 (snap ++ t)) (scene b p.after t) (scene b p.after (w.snap ++ t)) (p.pops b t) (w.pushes b t))))
              (fixed_of d f1 p.after p.helpers) (stands_next i p.after p.stands) (λ y. ap (λ z. pairing cells z y) (λ i x. p.shades x.0 x.1 i)) tt refl refl tt;
        }

    -- ---- the adjoint of a step

    turns_done : (k i : ℕ) (rest : List Action) (b : Course) (f : Store ℤ) (t : List ℤ) → past k all ≡ Turn i ∷ rest → i < l → IsReady k f → Standing i f → Played q sh level cells action (helper entry d) unit adj Kind words IsReady 1 k Loose (change i) (loops i) 0 1 (length t) (length t) b f t t
    turns_done k i rest b f t at less r h =
        let f1 = told d (Turn i) f in
        let v = add (f1 (helper first d) 0) (mul (f1 (helper lower d) 0) (f1 (helper stride d) 0)) in
        let f2 = set f1 (plain x) 0 v in
        let v_is : v ≡ add a0 (mul (pos i) c0) = λ j. add (r.first_is j) (mul (told_lower d (Turn i) f j) (r.stride_is j)) in
        let value : AtStep x a0 c0 i f2 = rw (name_refl x) v_is in
        let stands2 : Standing i f2 = s.standing i f f2 (beside_then d x f f1 f2 (told_beside d x (Turn i) f) (variable_set d x v f1)) h in
        let c = s.turned i b f2 t less stands2 value in
        done k Loose (change i) (loops i) 0 1 (length t) (length t) (Turn i) rest b f c.after t t (called adj c.shapes (length t)) c.rs at r
        (do_3 q sh level line d (plain x) keep back plain_call adjoint b f1 c.after t t (called adj c.shapes (length t)) c.rs (told_kind d (Turn i) f) (c.helpers.at kind d 0 ∙ told_kind d (Turn i) f)
        (goes_step_before q nw line (assign (plain x) none (bin plus (var (helper first d)) (bin times (var (helper lower d)) (var (helper stride d))))) adjoint b f1 f2 c.after t t t (called adj c.shapes (length t)) c.rs
        (act_at_once q nw line (assign (plain x) none (bin plus (var (helper first d)) (bin times (var (helper lower d)) (var (helper stride d))))) (scene b f1 t) (scene b f2 t) (λ j. refl)) c.goes))
        (fixed_of d f1 c.after (record { at = λ r k n. c.helpers.at r k n })) (loose_next c.after c.loose) (λ y. c.pairs y) c.reversed (other_unit c.shapes (length t)) (same_adj c.shapes (length t)) ((c.right (length t), (omega arith, omega arith)), tt)

    -- ---- the calls of an advance

    record Advanced (n i : ℕ) (b : Course) (f : Store ℤ) (t : List ℤ) : Type 0 where
      after : Store ℤ
      calls : List Called
      goes : TurnsGo q nw n (at_turn line d (plain x) turn plain_call) (helper turn d) (pos 1) b f after t t calls []
      stands : Standing (i + n) after
      fixed : SameFixed d f after
      shades : (y : List ℕ) (j : ℕ) → after (shadow y) j ≡ f (shadow y) j
      units : times_called unit calls ≡ n
      adjs : times_called adj calls ≡ 0
      within : AreBetween Kind (length t) (length t) calls

    advanced : (n i : ℕ) (b : Course) (f : Store ℤ) (t : List ℤ) → i + n < l → f (helper turn d) 0 ≡ pos i → f (helper first d) 0 ≡ a0 → f (helper stride d) 0 ≡ c0 → Standing i f → Advanced n i b f t
    advanced zero i b f t less number_is first_is stride_is h = record {
      after = f;
      calls = [];
      goes = turns_go-none q nw (at_turn line d (plain x) turn plain_call) (helper turn d) (pos 1) b f t;
      stands = let e : i + 0 ≡ i = omega arith in subst (λ z. Standing z f) (sym e) h;
      fixed = fixed_none d f;
      shades = λ y j. refl;
      units = refl;
      adjs = refl;
      within = tt;
    }
    advanced (suc n) i b f t less number_is first_is stride_is h =
        let v = add (f (helper first d) 0) (mul (f (helper turn d) 0) (f (helper stride d) 0)) in
        let f2 = set f (plain x) 0 v in
        let v_is : v ≡ add a0 (mul (pos i) c0) = λ j. add (first_is j) (mul (number_is j) (stride_is j)) in
        let value : AtStep x a0 c0 i f2 = rw (name_refl x) v_is in
        let stands2 : Standing i f2 = s.standing i f f2 (variable_set d x v f) h in
        let c = s.stepped i b f2 t (omega arith) stands2 value in
        let g1 = goes_step_before q nw line (assign (plain x) none (bin plus (var (helper first d)) (bin times (var (helper turn d)) (var (helper stride d))))) plain_call b f f2 c.after t t t (called unit c.shapes (length t)) []
        (act_at_once q nw line (assign (plain x) none (bin plus (var (helper first d)) (bin times (var (helper turn d)) (var (helper stride d))))) (scene b f t) (scene b f2 t) (λ j. refl)) c.goes in
        let f3 = next_store nw (helper turn d) (pos 1) c.after in
        let up : add (pos i) (pos 1) ≡ pos (suc i) = count_up i (omega arith) in
        let number3 : f3 (helper turn d) 0 ≡ pos (suc i) = rw (nat_refl d) (ap (λ z. add z (pos 1)) (c.helpers.at turn d 0 ∙ number_is) ∙ up) in
        let stands3 : Standing (suc i) f3 = s.standing (suc i) c.after f3 (own_set d x turn (add (c.after (helper turn d) 0) (pos 1)) c.after) c.stands in
        let r = advanced n (suc i) g1.later f3 t (omega arith) number3 (c.helpers.at first d 0 ∙ first_is) (c.helpers.at stride d 0 ∙ stride_is) stands3 in
        let sum : suc i + n ≡ i + suc n = omega arith in
        record {
          after = r.after;
          calls = called unit c.shapes (length t) ++ r.calls;
          goes = turns_go-more q nw (at_turn line d (plain x) turn plain_call) (helper turn d) (pos 1) n b f c.after r.after t t t (called unit c.shapes (length t)) r.calls [] []
              g1
              r.goes;
          stands = subst (λ z. Standing z r.after) sum r.stands;
          fixed = fixed_then d f f3 r.after (record { count_is = c.helpers.at count d 0; first_is = c.helpers.at first d 0; stride_is = c.helpers.at stride d 0; slots_is = c.helpers.at slots d 0; entry_is = c.helpers.at entry d 0; kind_is = c.helpers.at kind d 0 }) r.fixed;
          shades = λ y j. r.shades y j ∙ c.shades y j;
          units = let one : times_called unit (called unit c.shapes (length t) ++ r.calls) ≡ suc (times_called unit r.calls) = rw (name_refl unit) (omega arith) in one ∙ ap suc r.units;
          adjs = let none_here : times_called adj (called unit c.shapes (length t) ++ r.calls) ≡ times_called adj r.calls = rw differ' (omega arith) in none_here ∙ r.adjs;
          within = ((c.right (length t), (omega arith, omega arith)), r.within);
        }

    advances_done : (k i n : ℕ) (rest : List Action) (b : Course) (f : Store ℤ) (t : List ℤ) → past k all ≡ Advance i (i + n) ∷ rest → i + n < l → IsReady k f → Standing i f → Played q sh level cells action (helper entry d) unit adj Kind words IsReady 1 k (Standing (i + n)) (λ y. y) [] n 0 (length t) (length t) b f t t
    advances_done k i n rest b f t at less r h =
        let f1 = told d (Advance i (i + n)) f in
        let word : wrap (pos i) ≡ pos i = wrap_word (pos i) (word-count i (omega arith)) in
        let f2 = set f1 (helper turn d) 0 (wrap (f1 (helper lower d) 0)) in
        let number : f2 (helper turn d) 0 ≡ pos i = rw (nat_refl d) word in
        let stands2 : Standing i f2 = s.standing i f f2 (beside_then d x f f1 f2 (told_beside d x (Advance i (i + n)) f) (own_set d x turn (wrap (f1 (helper lower d) 0)) f1)) h in
        let c = advanced n i b f2 t less number r.first_is r.stride_is stands2 in
        let kind_after : c.after (helper kind d) 0 ≡ pos 2 = c.fixed.kind_is ∙ told_kind d (Advance i (i + n)) f in
        done k (Standing (i + n)) (λ y. y) [] n 0 (length t) (length t) (Advance i (i + n)) rest b f c.after t t c.calls [] at r
        (do_2 q sh level line d (plain x) keep back plain_call adjoint b f1 c.after t t c.calls [] (told_kind d (Advance i (i + n)) f) kind_after
        (goes_one q nw line (loop (helper turn d) (var (helper lower d)) (bin minus (var (helper upper d)) (literal 1)) (literal 1) (at_turn line d (plain x) turn plain_call) unmarked) b f1 c.after t t c.calls []
        (loop_goes q nw line (helper turn d) (var (helper lower d)) (bin minus (var (helper upper d)) (literal 1)) (literal 1) (at_turn line d (plain x) turn plain_call) b f1 c.after t t (f1 (helper lower d) 0) (sub (f1 (helper upper d) 0) (pos 1)) (pos 1) n c.calls []
        refl refl refl (ap (λ z. trips unmarked z (sub (f1 (helper upper d) 0) (pos 1)) (pos 1)) (told_lower d (Advance i (i + n)) f) ∙ ap (λ z. trips unmarked (pos i) (sub z (pos 1)) (pos 1)) (told_upper d (Advance i (i + n)) f) ∙ trips_between l i n small less) c.goes)))
        (record { count_is = c.fixed.count_is; first_is = c.fixed.first_is; stride_is = c.fixed.stride_is; slots_is = c.fixed.slots_is; entry_is = c.fixed.entry_is; kind_is = c.fixed.kind_is })
        (stands_next (i + n) c.after c.stands) (λ y. ap (λ z. pairing cells z y) (λ i x. c.shades x.0 x.1 i)) tt c.units c.adjs c.within

    pub acts : Acts q sh level cells action (helper entry d) unit adj Kind words IsReady all l Standing Loose Snap change loops
    acts = record { snapshots = s.snapshots; puts = puts; advances = advances_done; turns = turns_done; keeps = keeps; drops = drops }
