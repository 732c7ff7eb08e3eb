-- What a run costs, and that it ends alike with more statements.
use Rattle.std.proofs.Common.{◌≡◌, ℕ, ◌+◌, ◌-◌, ◌<◌, ◌≤◌, List, [], refl, sym, ap, ◌∙◌, subst, arith}
use Rattle.std.specs.Prelude.{Option, reverse}
use Rattle.adj_tree.specs.Code.{Code, Procedure}
use Rattle.def_meaning.specs.Numbers.{Numbers}
use Rattle.def_meaning.specs.Store.{scalar}
use Rattle.def_meaning.specs.Value.{Setting}
use Rattle.def_meaning.specs.Scene.{Scene, Outcome, Done, IsMore, then_do}
use Rattle.def_meaning.specs.Run.{Calls, run}
use Rattle.def_meaning.specs.Units.{Slot, Output, calls_of, unit_run, setting_in, input_store, dummy_slots, run_unit}
use Rattle.law_meaning.specs.Leads.{Leads}
use Rattle.law_meaning.specs.Laws.{DoneWithMore, LeadsWhereDone}
use Rattle.law_meaning.proofs.Verdicts.{Ending, finished, stopped, filled, with_left, Settled, Verdict, goes_on, settled, more_then}
use Rattle.law_meaning.proofs.Longer.{CallsAlike, run_verdict, unit_verdict, calls_alike}

-- what f spent to come to b, and g spends: all other statements are left
pub record Spent {B : Type 0} (f g : ℕ → Outcome B) (b : B) (k k' : ℕ) : Type 0 where
  pub cost : ℕ
  pub is : k ≡ cost + k'
  pub later : (j : ℕ) → g (cost + j) ≡ Done b j

-- a run that is done spent what it costs
pub spent : {B : Type 0} (f g : ℕ → Outcome B) (b : B) (k k' : ℕ) → Verdict f g k → f k ≡ Done b k' → Spent f g b k k'
spent f g b k k' (goes_on m) h = absurd (subst IsMore h (m k (omega arith)))
spent f g b k k' (settled s) h = go s.ending refl
  where
    came : (e : Ending _) → s.ending ≡ e → with_left e s.rest ≡ Done b k'
    came e is = sym (ap f s.is ∙ s.same s.rest ∙ ap (λ z. with_left z s.rest) is) ∙ h

    go : (e : Ending _) → s.ending ≡ e → Spent f g b k k'
    go (finished c) is =
        let done : Done c s.rest ≡ Done b k' = came (finished c) is in
        let same_b : c ≡ b = cc in
        let same_k : s.rest ≡ k' = cc in
        record {
          cost = s.cost;
          is = s.is ∙ ap (λ z. s.cost + z) same_k;
          later = λ j. s.later j ∙ ap (λ z. with_left z j) is ∙ ap (λ z. Done z j) same_b;
        }
    go (stopped t line w) is = absurd (let e = came (stopped t line w) is in cc)
    go (filled w) is = absurd (let e = came (filled w) is in cc)

-- a list that is done with some number of statements leads from its scene to the other
pub leads_of_done : {C : Type 0} (q q' : Calls C) → CallsAlike q q' → (n : Setting C) (c : Code) (s s' : Scene C) (k k' : ℕ) → run q n c s k ≡ Done s' k' → Leads q' n c s s'
leads_of_done q q' alike n c s s' k k' h = let w = spent (run q n c s) (run q' n c s) s' k k' (run_verdict q q' alike n c s k) h in record { cost = w.cost; by = w.later }

-- over the calls of a program
pub leads_where_done : {C : Type 0} → LeadsWhereDone C
leads_where_done units depth n c s s' k k' h = leads_of_done (calls_of units depth) (calls_of units depth) (calls_alike units depth depth (omega arith)) n c s s' k k' h

-- it is done alike with more statements and with deeper calls
pub run_later : {C : Type 0} → DoneWithMore C
run_later units depth deeper le n c s s' k k' m h =
    let w = spent (run (calls_of units depth) n c s) (run (calls_of units deeper) n c s) s' k k' (run_verdict (calls_of units depth) (calls_of units deeper) (calls_alike units depth deeper le) n c s k) h in
    let e : k + m ≡ w.cost + (k' + m) = omega (arith, w.is) in
    ap (run (calls_of units deeper) n c s) e ∙ w.later (k' + m)

-- ---- the run of a unit of a program

module _ {C : Type 0} (n : Numbers C) (units : List Procedure) (u : Procedure) (input : List (Slot C)) (tape : List C) (room : Option ℕ) where
  abbrev start : Scene C
  start = record { store = input_store n u input; tape = tape; opened = 0; events = [] }

  abbrev around : Setting C
  around = record { numbers = n; shape = λ x. scalar; room = room; level = 0 }

  -- the unit with calls to a depth
  abbrev within : ℕ → ℕ → Outcome (Scene C)
  within depth = unit_run (calls_of units depth) around u u.line start

  abbrev output : ℕ → Scene C → ℕ → Outcome (Output C)
  output k s left = Done (record { slots = dummy_slots (setting_in around u start.store) u s.store; tape = s.tape; events = reverse s.events }) (k - left)

  -- the unit comes to the same end with deeper calls
  verdict : (k m : ℕ) → k ≤ m → (j : ℕ) → Verdict (within k) (within m) j
  verdict k m le j = unit_verdict (calls_of units k) (calls_of units m) (calls_alike units k m le) around u u.line start j

  -- an end gives the same output whatever was left
  same_output : (cost rest m : ℕ) (e : Ending (Scene C)) → then_do (with_left e (rest + m)) (output (cost + rest + m)) ≡ then_do (with_left e rest) (output (cost + rest))
  same_output cost rest m (finished s) =
      let e : cost + rest + m - (rest + m) ≡ cost + rest - rest = omega arith in
      ap (Done (record { slots = dummy_slots (setting_in around u start.store) u s.store; tape = s.tape; events = reverse s.events })) e
  same_output cost rest m (stopped t line w) = refl
  same_output cost rest m (filled w) = refl

  -- a run that ends otherwise than out of statements ends alike with more
  pub ends_alike : (k m : ℕ) → (IsMore (run_unit n units u input tape room k) → ⊥) → run_unit n units u input tape room (k + m) ≡ run_unit n units u input tape room k
  ends_alike k m h = go (verdict k (k + m) (omega arith) k)
    where
      go : Verdict (within k) (within (k + m)) k → then_do (within (k + m) (k + m)) (output (k + m)) ≡ then_do (within k k) (output k)
      go (goes_on f) = absurd (h (more_then (within k k) (output k) (f k (omega arith))))
      go (settled s) =
          let more_left : k + m ≡ s.cost + (s.rest + m) = omega (arith, s.is) in
          ap (λ z. then_do z (output (k + m))) (ap (within (k + m)) more_left ∙ s.later (s.rest + m))
          ∙ ap (λ z. then_do (with_left s.ending (s.rest + m)) (output (z + m))) s.is
          ∙ same_output s.cost s.rest m s.ending
          ∙ ap (λ z. then_do (with_left s.ending s.rest) (output z)) (sym s.is)
          ∙ ap (λ z. then_do z (output k)) (sym (ap (within k) s.is ∙ s.same s.rest))

  -- so two such runs end alike
  pub one_end : (k m : ℕ) → (IsMore (run_unit n units u input tape room k) → ⊥) → (IsMore (run_unit n units u input tape room m) → ⊥) → run_unit n units u input tape room k ≡ run_unit n units u input tape room m
  one_end k m h h' = let e : m + k ≡ k + m = omega arith in sym (ends_alike k m h) ∙ ap (run_unit n units u input tape room) (sym e) ∙ ends_alike m k h'

  -- what a run that is done used
  used_is : (k cost : ℕ) → cost ≤ k → (e : Ending (Scene C)) (out : Output C) (used : ℕ) → then_do (with_left e (k - cost)) (output k) ≡ Done out used → used ≡ cost
  used_is k cost le (finished s) out used h = let e : k - (k - cost) ≡ used = cc in omega arith
  used_is k cost le (stopped t line w) out used h = absurd cc
  used_is k cost le (filled w) out used h = absurd cc

  -- a run that is done used no more than it had, and has more to do with fewer
  pub more_before : (k : ℕ) (out : Output C) (used : ℕ) → run_unit n units u input tape room k ≡ Done out used → (used ≤ k) × ((j : ℕ) → j < used → IsMore (run_unit n units u input tape room j))
  more_before k out used h = (enough, early)
    where
      -- the run with j statements came to an end that cost no more than those: it is that of the run with k
      cost_of : (j : ℕ) → j ≤ k → Settled (within j) (within k) j → used ≤ j
      cost_of j le s =
          let k_is : k ≡ s.cost + (k - s.cost) = omega (arith, s.is) in
          let same : used ≡ s.cost = used_is k s.cost (omega (arith, s.is)) s.ending out used (sym (ap (λ z. then_do z (output k)) (ap (within k) k_is ∙ s.later (k - s.cost))) ∙ h) in
          omega (arith, s.is)

      at_most : Verdict (within k) (within k) k → used ≤ k
      at_most (goes_on f) = absurd (subst IsMore h (more_then (within k k) (output k) (f k (omega arith))))
      at_most (settled s) = cost_of k (omega arith) s

      enough : used ≤ k
      enough = at_most (verdict k k (omega arith) k)

      more : (j : ℕ) → j < used → Verdict (within j) (within k) j → IsMore (then_do (within j j) (output j))
      more j lt (goes_on f) = more_then (within j j) (output j) (f j (omega arith))
      more j lt (settled s) = absurd (let le : used ≤ j = cost_of j (omega (arith, enough)) s in omega arith)

      early : (j : ℕ) → j < used → IsMore (run_unit n units u input tape room j)
      early j lt = more j lt (verdict j k (omega (arith, enough)) j)
