-- What a reversal as a whole takes.
use Rattle.std.proofs.Common.{◌≡◌, ◌<◌, ◌≤◌, ◌^◌, ℕ, suc, ◌+◌, ◌*◌, List, ◌∷◌, length, refl, ap, ◌∙◌, arith}
use Rattle.std.specs.Prelude.{ℤ, pos, Ok}
use Rattle.adj_tree.specs.Code.{Var, plain, helper, first, stride, count, entry, entries, var, Mark, unmarked, loop, runtime, begin_reversal, count_actions, end_reversal, Code, stop}
use Rattle.adj_tree.proofs.Names.{nat_refl}
use Rattle.adj_word.specs.Word.{wrap}
use Rattle.adj_word.proofs.Residues.{wrap_word}
use Rattle.adj_word.proofs.Counting.{word-count}
use Rattle.adj_revolve.specs.Binomial.{beta}
use Rattle.adj_revolve.specs.declared.machine.Action.{Action}
use Rattle.adj_revolve.specs.Schedule.{schedule_of}
use Rattle.def_meaning.specs.Append.{one}
use Rattle.def_meaning.specs.Event.{Begin, End}
use Rattle.def_meaning.specs.Store.{Shape, Store, set}
use Rattle.def_meaning.specs.Value.{Setting, value}
use Rattle.def_meaning.specs.Run.{Calls, trips}
use Rattle.def_meaning.specs.Runtime.{steps_of, snapshots_of}
use Rattle.law_sweep.specs.Pairs.{on_words}
use Rattle.law_sweep.specs.Scenes.{Course, scene}
use Rattle.def_sweep.specs.Rows.{literal}
use Rattle.def_sweep.specs.ReversalCode.{slots_of, reversal}
use Rattle.law_sweep.proofs.Slots.{slots_same}
use Rattle.law_sweep.proofs.ActionStores.{Ready, begun_beside, trips_all}
use Rattle.law_cost.specs.Sums.{sum_of}
use Rattle.law_cost.proofs.Takes.{Takes, takes_stop, takes_more, takes_act, takes_step, loop_takes}
use Rattle.law_cost.proofs.Playing.{schedule_played}
use Rattle.law_cost.proofs.Acting.{Stepping, inner, action, acts}

module _ (q : Calls ℤ) (sh : Var → Shape) (level : ℕ) (d line : ℕ) (x : List ℕ) (l m : ℕ) (mark : Mark) (a0 c0 : ℤ) (keep back plain_call adjoint : Code) (Standing : ℕ → Store ℤ → Type 0) (Loose : Store ℤ → Type 0) (Snap : ℕ → List ℤ → Type 0) (W : ℕ) (P A : ℕ → ℕ) where
  abbrev nw : Setting ℤ
  nw = on_words sh level

  abbrev steps : List Action
  steps = schedule_of 0 l m

  -- the actions of a reversal of l steps with r repetitions take at most so much
  abbrev pub actions_take : ℕ → ℕ
  actions_take r = (30 + 2 * W) * l + r * sum_of (λ i. P i + 2) 0 l + sum_of A 0 l

  -- the reversal of one run of the loop, from the store f and the tape t
  pub record Reversing (r : ℕ) (base : Course) (f : Store ℤ) (t : List ℤ) : Type 0 where
    pub after : Store ℤ
    pub later : Course
    pub opened : later.opened ≡ base.opened
    pub takes : Takes q nw (reversal line d (plain x) (slots_of d mark) keep back plain_call adjoint) (scene base f t) (scene later after t) (4 + actions_take r)

  abbrev Code' : Code
  Code' = action q sh level d line x l m mark a0 c0 keep back plain_call adjoint Standing Loose Snap W P A

  pub reversing : 0 < m → steps_of (pos l) ≡ Ok l → snapshots_of (pos m) ≡ Ok m → suc (suc (length steps)) < 2 ^ 63 → suc l < 2 ^ 63 →
      Stepping q sh level d line x l m mark a0 c0 keep back plain_call adjoint Standing Loose Snap W P A → (r : ℕ) → l ≤ beta m r →
      (base : Course) (f : Store ℤ) (t : List ℤ) → f (helper count d) 0 ≡ pos l → f (helper first d) 0 ≡ a0 → f (helper stride d) 0 ≡ c0 → value nw (slots_of d mark) f ≡ Ok (pos m) → Standing 0 f → Reversing r base f t
  reversing slot steps_fit snapshots_fit few small s r enough base f t count_is first_is stride_is slots_is h =
      let n = length steps in
      let f1 = set f (helper entries d) 0 (pos n) in
      let f2 = set f1 (helper entry d) 0 (wrap (pos 1)) in
      let b1 : Course = record { opened = suc base.opened; events = Begin l m level (length t) ∷ base.events } in
      let a = acts q sh level d line x l m mark a0 c0 keep back plain_call adjoint Standing Loose Snap W P A steps_fit snapshots_fit few small s in
      let p = schedule_played q sh level Code' (helper entry d) W (inner q sh level d line x l m mark a0 c0 keep back plain_call adjoint Standing Loose Snap W P A) A
      (Ready sh level d l m mark a0 c0) steps l Standing Loose Snap a m slot refl r enough b1 f2 t
      (s.standing 0 f f2 (begun_beside d x n f) h) (s.loosen 0 f2)
      (record { count_is = count_is; first_is = first_is; stride_is = stride_is; slots_is = slots_same sh level d mark f f2 refl ∙ slots_is; entry_is = rw (nat_refl d) one_word }) in
      let most = actions_take r in
      let the_loop = loop (helper entry d) (literal 1) (var (helper entries d)) (literal 1) Code' unmarked in
      let looped = loop_takes q nw line (helper entry d) (literal 1) (var (helper entries d)) (literal 1) Code' (scene b1 f1 t) (scene p.later p.after t) (pos 1) (f1 (helper entries d) 0) (pos 1) n most
      refl refl refl (ap (λ z. trips unmarked (pos 1) z (pos 1)) (entries_is f) ∙ trips_all n few) p.takes in
      let b2 : Course = record { opened = base.opened; events = End level ∷ p.later.events } in
      let last = takes_step q nw line (runtime end_reversal) stop (scene p.later p.after t) (scene b2 p.after t) (scene b2 p.after t) 0 (λ k. rw p.opened refl) (takes_stop q nw (scene b2 p.after t)) in
      record {
        after = p.after;
        later = b2;
        opened = refl;
        takes =
            takes_more q nw (reversal line d (plain x) (slots_of d mark) keep back plain_call adjoint) (scene base f t) (scene b2 p.after t) (1 + (1 + (1 + most + (1 + 0)))) (4 + most) (omega arith)
            (takes_step q nw line (runtime (begin_reversal (var (helper count d)) (slots_of d mark))) _ (scene base f t) (scene b1 f t) (scene b2 p.after t) (1 + (1 + most + (1 + 0))) (λ k. rw (count_is, slots_is, steps_fit, snapshots_fit) refl)
            (takes_step q nw line (runtime (count_actions (var (helper count d)) (slots_of d mark) (helper entries d))) _ (scene b1 f t) (scene b1 f1 t) (scene b2 p.after t) (1 + most + (1 + 0)) (λ k. rw (count_is, slots_is, steps_fit, snapshots_fit) refl)
            (takes_act q nw line the_loop (one line (runtime end_reversal)) (scene b1 f1 t) (scene p.later p.after t) (scene b2 p.after t) most (1 + 0) looped last)));
      }
    where
      one_word : wrap (pos 1) ≡ pos 1
      one_word = wrap_word (pos 1) (word-count 1 (omega arith))

      entries_is : (f : Store ℤ) → set f (helper entries d) 0 (pos (length steps)) (helper entries d) 0 ≡ pos (length steps)
      entries_is f = rw (nat_refl d) refl
