-- Full marks, where everything is needed and held, meet the laws of every kernel program.
use Rattle.std.proofs.Common.{◌≡◌, ℕ, suc, true, List, refl}
use Rattle.std.specs.Prelude.{Option, Some, None}
use Rattle.def_meaning.specs.Written.{find_unit}
use Rattle.adj_tree.specs.Code.{Var, plain, Term, Terms, assign, choose, loop, during, call, runtime, Act, Code, stop, step, Procedure}
use Rattle.def_names.specs.Numbers.{Vars, next, behind}
use Rattle.def_names.specs.Numbering.{point_before, point_after}
use Rattle.def_sweep.specs.Facts.{Facts}
use Rattle.def_sweep.specs.Plan.{actuals_named}
use Rattle.def_sweep.specs.Callees.{nothing, CalleeFacts}
use Rattle.law_sweep.specs.Laws.{ValueLaws, TangentLaws, WayLaws, AssignmentLaws, CallLaws, ActLaws, ListLaws, point_inside}
use Rattle.def_sweep.specs.Marking.{full_marks, callee_of, full_facts, facts_in, callee_facts}

-- each call gives names
abbrev mutual
  pub GivesNames' : Act → Type 0
  GivesNames' (assign x subs e) = Unit {0}
  GivesNames' (choose c a b) = GivesNames a × GivesNames b
  GivesNames' (loop x a b c body n) = GivesNames body
  GivesNames' (during c body) = GivesNames body
  GivesNames' (call name args) = (given : List (List ℕ)) × (args ≡ actuals_named given)
  GivesNames' (runtime r) = ⊥

  pub GivesNames : Code → Type 0
  GivesNames stop = Unit {0}
  GivesNames (step line a rest) = GivesNames' a × GivesNames rest

module _ (ps : List Procedure) (name : List ℕ) where
  abbrev w : Facts
  w = facts_in full_facts name

  abbrev g : List ℕ → CalleeFacts
  g = callee_facts full_facts ps

  values : (cut dropped : Vars) (p q : ℕ) → ValueLaws w cut dropped p q
  values cut dropped p q = record { needs = λ v h. refl; holds = λ v h. refl }

  tangents : (cut : Vars) (p q : ℕ) → TangentLaws w.marks cut p q
  tangents cut p q = record { varies = λ v h. refl; serves = λ v h. refl; shadows = λ v a b. refl }

  pub way : (p q : ℕ) → WayLaws w p q
  way p q = record { values = values nothing nothing p q; tangents = tangents nothing p q }

  assignment : (i : ℕ) (x : Var) (subs : Terms) (e : Term) → AssignmentLaws w i x subs e
  assignment i x subs e = record {
    values = values _ _ _ _;
    tangents = tangents _ _ _;
    needs_reads = λ v h. refl;
    needs_uses = λ k v h. refl;
    keeps = λ h. refl;
    holds_reads = λ v h. refl;
    saves = λ k h. refl;
    varies_target = λ v a b. refl;
    serves_target = λ v a b. refl;
    adjoints = refl;
    shadows = λ v a b. refl;
  }

  call_laws : (i : ℕ) (other : List ℕ) (given : List (List ℕ)) → CallLaws w i (g other) given
  call_laws i other given = record {
    values = values _ _ _ _;
    tangents = tangents _ _ _;
    needs_members = λ a d x b n. refl;
    needs_uses = λ a d x b n. refl;
    keeps = λ d x b n h. refl;
    holds_reads = λ a d x b n o. refl;
    saves = λ a d x b n h. refl;
    varies_in = λ d x b h. refl;
    serves_in = λ d x b h. refl;
    varies_out = λ d x b h. refl;
    serves_out = λ d x b h. refl;
    shadows_actual = λ d x b h. refl;
    shadows_dummy = λ d x b h o. full_shadow other d;
    adjoints = λ h. cc;
  }
    where
      full_shadow : (other d : List ℕ) → (g other).callee.shadowed (plain d) ≡ true
      full_shadow other d = go (find_unit ps other)
        where
          go : (o : Option Procedure) → (callee_of full_marks ps other o).shadowed (plain d) ≡ true
          go None = refl
          go (Some u) = refl

  mutual
    pub act_laws : (i : ℕ) (a : Act) → GivesNames' a → ActLaws g w i a
    act_laws i (assign x subs e) o = assignment i x subs e
    act_laws i (choose c a b) o = (
      record { keeps_adjointed = λ h. refl; keeps = λ h. cc; needs_uses = λ k v h. refl; first_end = way _ _; other_end = way _ _ },
      (list_laws (point_before i) (suc i) a o.0, list_laws (point_before i) (behind (suc i) a) b o.1),
    )
    act_laws i (loop x a b c body n) o = (
      record {
        keeps_adjointed = λ h. refl;
        keeps = λ h. cc;
        keeps_reset = λ h. refl;
        keeps_variable = λ h. refl;
        needs_uses = λ k v h. refl;
        saves = λ k h. refl;
        entry_values = values _ _ _ _;
        entry_tangents = tangents _ _ _;
        step_values = values _ _ _ _;
        step_tangents = tangents _ _ _;
        exit = way _ _;
        adjoints_reset = λ h. refl;
      },
      list_laws (point_inside i) (suc i) body o,
    )
    act_laws i (during c body) o = (
      record { keeps_adjointed = λ h. refl; keeps = λ h. cc; needs_uses = λ k v h. refl; entry = way _ _; again = way _ _; exit = way _ _ },
      list_laws (point_inside i) (suc i) body o,
    )
    act_laws i (call other args) o = (o.0, (o.1, call_laws i other o.0))
    act_laws i (runtime r) o = absurd o

    pub list_laws : (p i : ℕ) (c : Code) → GivesNames c → ListLaws g w p i c
    list_laws p i stop o = tt
    list_laws p i (step line a rest) o = (way p (point_before i), (act_laws i a o.0, list_laws (point_after i) (next i a) rest o.1))
