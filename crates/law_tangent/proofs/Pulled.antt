-- A run that follows another under names of its own follows it.
use Rattle.std.proofs.Common.{◌≡◌, ℕ, ◌+◌, List, sym, ap, ◌∙◌, subst, arith}
use Rattle.adj_tree.specs.Code.{Var, Code, Procedure}
use Rattle.def_meaning.specs.Trap.{Trap}
use Rattle.def_meaning.specs.Value.{Setting}
use Rattle.def_meaning.specs.Scene.{Scene, Stand, IsMore, Outcome, Done, Trapped, More, Full}
use Rattle.def_meaning.specs.Run.{run}
use Rattle.def_meaning.specs.Rename.{rename}
use Rattle.def_meaning.specs.Seen.{Separates, pulled_setting, pulled_scene, pulled_outcome}
use Rattle.def_meaning.specs.Units.{calls_of}
use Rattle.law_meaning.specs.Follows.{Runs, Follows, both_more, both_done, both_trap, both_full}
use Rattle.law_meaning.proofs.Inversions.{done_same}
use Rattle.law_meaning.proofs.Costs.{run_later}
use Rattle.law_meaning.proofs.Renamed.{run_renamed}

module _ {D : Type 0} (r : Var → Var) where
  more_pulled : (o : Outcome (Scene D)) → IsMore (pulled_outcome r o) → IsMore o
  more_pulled (Done a k) h = absurd h
  more_pulled (Trapped t line w) h = absurd h
  more_pulled (More w) h = tt
  more_pulled (Full w) h = absurd h

  trap_pulled : (o : Outcome (Scene D)) (t : Trap) (line : ℕ) (w : Stand) → pulled_outcome r o ≡ Trapped t line w → o ≡ Trapped t line w
  trap_pulled (Done a k) t line w h = absurd cc
  trap_pulled (Trapped t' line' w') t line w h =
      let et : t' ≡ t = cc in
      let el : line' ≡ line = cc in
      let ew : w' ≡ w = cc in
      λ i. Trapped (et i) (el i) (ew i)
  trap_pulled (More v) t line w h = absurd cc
  trap_pulled (Full v) t line w h = absurd cc

  full_pulled : (o : Outcome (Scene D)) (w : Stand) → pulled_outcome r o ≡ Full w → o ≡ Full w
  full_pulled (Done a k) w h = absurd cc
  full_pulled (Trapped t line v) w h = absurd cc
  full_pulled (More v) w h = absurd cc
  full_pulled (Full v) w h = let e : v ≡ w = cc in ap Full e

  done_pulled : (o : Outcome (Scene D)) (s : Scene D) (k : ℕ) → pulled_outcome r o ≡ Done s k → (e : Scene D) × ((o ≡ Done e k) × (pulled_scene r e ≡ s))
  done_pulled (Done e j) s k h = let m : j ≡ k = cc in (e, (ap (Done e) m, done_same (pulled_scene r e) s j k h))
  done_pulled (Trapped t line v) s k h = absurd cc
  done_pulled (More v) s k h = absurd cc
  done_pulled (Full v) s k h = absurd cc

module _ {A D : Type 0} (w slack : ℕ) (R : A → Scene D → Type 0) (r : Var → Var) (sep : Separates r) (units : List Procedure) (depth : ℕ) (n : Setting D) (c : Code) (s : Scene D) (o : Runs A) where
  abbrev named : Runs (Scene D)
  named = run (calls_of units depth) n (rename r c) s

  abbrev plainer : Runs (Scene D)
  plainer = run (calls_of units depth) (pulled_setting r n) c (pulled_scene r s)

  seen : (k : ℕ) → pulled_outcome r (named k) ≡ plainer k
  seen k = run_renamed r sep units depth n c s k

  pub follows_named : (k : ℕ) → Follows R w slack o plainer k → Follows (λ a e. R a (pulled_scene r e)) w slack o named k
  follows_named k (both_more e m) = both_more e (λ j le. more_pulled r (named j) (subst IsMore (sym (seen j)) (m j le)))
  follows_named k (both_done d) =
      let first = done_pulled r (named (d.cost + 0)) d.second 0 (seen (d.cost + 0) ∙ d.by 0) in
      both_done (record {
        first = d.first;
        spent = d.spent;
        left = d.left;
        is = d.is;
        done = d.done;
        second = first.0;
        cost = d.cost;
        least = d.least;
        most = d.most;
        early = λ j lt. more_pulled r (named j) (subst IsMore (sym (seen j)) (d.early j lt));
        by = λ j.
            let e : d.cost + j ≡ d.cost + 0 + j = omega arith in
            let z : 0 + j ≡ j = omega arith in
            ap named e ∙ run_later units depth depth (omega arith) n (rename r c) s first.0 (d.cost + 0) 0 j first.1.0 ∙ ap (Done first.0) z;
        related = subst (R d.first) (sym first.1.1) d.related;
      })
  follows_named k (both_trap d) = both_trap (record { kind = d.kind; line = d.line; stands = d.stands; done = d.done; other = d.other; stands_there = d.stands_there; cost = d.cost; by = λ j. trap_pulled r (named (d.cost + j)) d.other d.line d.stands_there (seen (d.cost + j) ∙ d.by j) })
  follows_named k (both_full d) = both_full (record { stands = d.stands; done = d.done; stands_there = d.stands_there; cost = d.cost; by = λ j. full_pulled r (named (d.cost + j)) d.stands_there (seen (d.cost + j) ∙ d.by j) })

-- what is known of both results, wherever they are done
pub follows_both_known : {A B : Type 0} (w slack : ℕ) (R Q : A → B → Type 0) (o : Runs A) (p : Runs B) (k : ℕ) → Follows R w slack o p k → ((a : A) (b : B) (left cost : ℕ) → o k ≡ Done a left → p (cost + 0) ≡ Done b 0 → R a b → Q a b) → Follows Q w slack o p k
follows_both_known w slack R Q o p k (both_more e m) h = both_more e m
follows_both_known w slack R Q o p k (both_done d) h = both_done (record {
  first = d.first;
  spent = d.spent;
  left = d.left;
  is = d.is;
  done = d.done;
  second = d.second;
  cost = d.cost;
  least = d.least;
  most = d.most;
  early = d.early;
  by = d.by;
  related = h d.first d.second d.left d.cost d.done (d.by 0) d.related;
})
follows_both_known w slack R Q o p k (both_trap d) h = both_trap d
follows_both_known w slack R Q o p k (both_full d) h = both_full d

-- a run that is another's, on the left
pub follows_as : {A B : Type 0} (w slack : ℕ) (R : A → B → Type 0) (o o' : Runs A) (p p' : Runs B) (k : ℕ) → ((j : ℕ) → o' j ≡ o j) → ((j : ℕ) → p' j ≡ p j) → Follows R w slack o p k → Follows R w slack o' p' k
follows_as w slack R o o' p p' k f g h = subst (λ z. Follows R w slack z p' k) (λ i j. sym (f j) i) (subst (λ z. Follows R w slack o z k) (λ i j. sym (g j) i) h)
