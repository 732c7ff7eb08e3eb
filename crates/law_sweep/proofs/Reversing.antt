-- A reversal as a whole: what it does to the store and the tape, and what it tells.
use Rattle.std.proofs.Common.{◌≡◌, ◌<◌, ◌≤◌, ◌^◌, ◌+◌, ◌*◌, ℕ, suc, false, List, ◌∷◌, length, refl, sym, ap, ◌∙◌, subst, arith}
use Rattle.std.specs.Prelude.{ℤ, pos, Ok}
use Rattle.adj_tree.specs.Code.{Var, plain, helper, first, stride, count, entry, entries, name_eq, var, Mark, unmarked, loop, runtime, begin_reversal, count_actions, end_reversal, Code, stop}
use Rattle.adj_tree.proofs.Names.{nat_refl}
use Rattle.adj_word.specs.Word.{wrap}
use Rattle.adj_word.specs.Pairing.{pairing}
use Rattle.adj_word.proofs.Residues.{wrap_word}
use Rattle.adj_word.proofs.Counting.{word-count}
use Rattle.adj_revolve.specs.declared.machine.Action.{Action}
use Rattle.adj_revolve.specs.Schedule.{schedule_of}
use Rattle.adj_revolve.specs.Machine.{total_cost}
use Rattle.adj_revolve.proofs.PlayLemmas.{plays_least}
use Rattle.adj_revolve.proofs.ScheduleLemmas.{schedule_cost, schedule_plays}
use Rattle.def_meaning.specs.Append.{one}
use Rattle.def_meaning.specs.Event.{Begin, End}
use Rattle.def_meaning.specs.Store.{Shape, Store, set}
use Rattle.def_meaning.specs.Value.{Setting, value}
use Rattle.def_meaning.specs.Run.{Calls, trips}
use Rattle.def_meaning.specs.Runtime.{steps_of, snapshots_of}
use Rattle.law_meaning.specs.Leads.{Leads}
use Rattle.law_meaning.proofs.Leadings.{leads_stop, leads_act, leads_step}
use Rattle.law_sweep.specs.Pairs.{Key, Words, shadows, on_words}
use Rattle.law_sweep.specs.Scenes.{Course, scene}
use Rattle.def_sweep.specs.Rows.{literal}
use Rattle.def_sweep.specs.Reversals.{Reversal, LoopRun, IsOfStep, Reverses, AreReversed, StepUnits, Called}
use Rattle.law_sweep.specs.Tells.{Tells}
use Rattle.def_sweep.specs.ReversalCode.{slots_of, reversal}
use Rattle.law_sweep.proofs.Told.{reversal_of, tells_reversal, between_all}
use Rattle.law_sweep.proofs.Slots.{slots_same}
use Rattle.law_sweep.proofs.Goings.{loop_goes}
use Rattle.law_sweep.specs.Steps.{changes, loops_of}
use Rattle.law_sweep.proofs.Playing.{schedule_played}
use Rattle.law_sweep.proofs.ActionStores.{Ready, begun_beside, trips_all}
use Rattle.law_sweep.proofs.Acting.{Stepping, action, acts}

module _ (q : Calls ℤ) (sh : Var → Shape) (level : ℕ) (cells : List Key) (d line : ℕ) (x : List ℕ) (l m : ℕ) (mark : Mark) (a0 c0 : ℤ) (step : StepUnits) (words : ℕ) (keep back plain_call adjoint : Code) (Standing : ℕ → Store ℤ → Type 0) (Loose : Store ℤ → Type 0) (Snap : ℕ → List ℤ → Type 0) (change : ℕ → Words → Words) (loops : ℕ → List LoopRun) where
  abbrev nw : Setting ℤ
  nw = on_words sh level

  abbrev unit : List ℕ
  unit = step.unit

  abbrev adj : List ℕ
  adj = step.adjoint

  abbrev Kind : Called → Type 0
  Kind = IsOfStep step words

  -- the reversal of one run of the loop whose DO stands at a line, from the store f and the tape t
  pub record Reversing (at : ℕ) (base : Course) (f : Store ℤ) (t : List ℤ) : Type 0 where
    pub after : Store ℤ
    pub later : Course
    pub own : Reversal
    pub inner : List Reversal
    pub runs : Leads q nw (reversal line d (plain x) (slots_of d mark) keep back plain_call adjoint) (scene base f t) (scene later after t)
    pub tells : Tells level base later (own ∷ inner)
    -- it is that of the loop
    pub reverses : Reverses (record { mark = record { line = at; turns = l; snapshots = m }; step = step }) own
    pub begins : own.start ≡ length t
    -- and within it those that the steps have, from the last to the first
    pub reversed : AreReversed (loops_of loops 0 l) inner
    pub loose : Loose after
    pub pairs : (y : Words) → pairing cells (shadows after) y ≡ pairing cells (shadows f) (changes change 0 l y)

  abbrev steps : List Action
  steps = schedule_of 0 l m

  pub reversing : 0 < m → steps_of (pos l) ≡ Ok l → snapshots_of (pos m) ≡ Ok m → suc (suc (length steps)) < 2 ^ 63 → suc l < 2 ^ 63 → name_eq unit adj ≡ false → name_eq adj unit ≡ false →
      Stepping q sh level cells d line x l m mark a0 c0 unit adj Kind words keep back plain_call adjoint Standing Loose Snap change loops →
      (at : ℕ) (base : Course) (f : Store ℤ) (t : List ℤ) → f (helper count d) 0 ≡ pos l → f (helper first d) 0 ≡ a0 → f (helper stride d) 0 ≡ c0 → value nw (slots_of d mark) f ≡ Ok (pos m) → Standing 0 f → Reversing at base f t
  reversing slot steps_fit snapshots_fit few small differ differ' s at base f t count_is first_is stride_is slots_is h =
      let n = length steps in
      let f1 = set f (helper entries d) 0 (pos n) in
      let f2 = set f1 (helper entry d) 0 (wrap (pos 1)) in
      let b1 : Course = record { opened = suc base.opened; events = Begin l m level (length t) ∷ base.events } in
      let a = acts q sh level cells d line x l m mark a0 c0 unit adj Kind words keep back plain_call adjoint Standing Loose Snap change loops steps_fit snapshots_fit few small differ differ' s in
      let p = schedule_played q sh level cells (action q sh level cells d line x l m mark a0 c0 unit adj Kind words keep back plain_call adjoint Standing Loose Snap change loops) (helper entry d) unit adj Kind words
      (Ready sh level d l m mark a0 c0) steps l Standing Loose Snap change loops a m slot refl b1 f2 t
      (s.standing 0 f f2 (begun_beside d x n f) h) (s.loosen 0 f2)
      (record { count_is = count_is; first_is = first_is; stride_is = stride_is; slots_is = slots_same sh level d mark f f2 refl ∙ slots_is; entry_is = rw (nat_refl d) one_word }) in
      let looped = loop_goes q nw line (helper entry d) (literal 1) (var (helper entries d)) (literal 1) (action q sh level cells d line x l m mark a0 c0 unit adj Kind words keep back plain_call adjoint Standing Loose Snap change loops) b1 f1 p.after t t (pos 1) (f1 (helper entries d) 0) (pos 1) n p.calls p.rs
      refl refl refl (ap (λ z. trips unmarked (pos 1) z (pos 1)) (entries_is f) ∙ trips_all n few) p.runs in
      let b2 : Course = record { opened = base.opened; events = End level ∷ looped.later.events } in
      record {
        after = p.after;
        later = b2;
        own = reversal_of l m (length t) p.calls;
        inner = p.rs;
        runs =
            leads_step q nw line (runtime (begin_reversal (var (helper count d)) (slots_of d mark))) _ (scene base f t) (scene b1 f t) (scene b2 p.after t) (λ k. rw (count_is, slots_is, steps_fit, snapshots_fit) refl)
            (leads_step q nw line (runtime (count_actions (var (helper count d)) (slots_of d mark) (helper entries d))) _ (scene b1 f t) (scene b1 f1 t) (scene b2 p.after t) (λ k. rw (count_is, slots_is, steps_fit, snapshots_fit) refl)
            (leads_act q nw line (loop (helper entry d) (literal 1) (var (helper entries d)) (literal 1) (action q sh level cells d line x l m mark a0 c0 unit adj Kind words keep back plain_call adjoint Standing Loose Snap change loops) unmarked) (one line (runtime end_reversal)) (scene b1 f1 t) (scene looped.later p.after t) (scene b2 p.after t) looped.runs
            (leads_step q nw line (runtime end_reversal) stop (scene looped.later p.after t) (scene b2 p.after t) (scene b2 p.after t) (λ k. rw looped.tells.opened refl) (leads_stop q nw (scene b2 p.after t)))));
        tells = tells_reversal level l m (length t) base looped.later p.calls p.rs looped.tells;
        reverses = record { steps = refl; snapshots = refl; ended = refl; fewest = λ actions plays. subst (λ n. n ≤ total_cost actions) (sym p.advances_are) (plays_least l m actions slot plays); attained = (schedule_of 0 l m, (schedule_plays l m slot, schedule_cost 0 l m slot ∙ sym p.advances_are)); advances = p.advances_are; adjoints = p.turns_are; words = words; within = between_all Kind (length t) (length t + m * words) p.calls p.within };
        begins = refl;
        reversed = p.reversed;
        loose = p.ends;
        pairs = λ y. p.pairs y;
      }
    where
      one_word : wrap (pos 1) ≡ pos 1
      one_word = wrap_word (pos 1) (word-count 1 (omega arith))

      entries_is : (f : Store ℤ) → set f (helper entries d) 0 (pos (length steps)) (helper entries d) 0 ≡ pos (length steps)
      entries_is f = rw (nat_refl d) refl
