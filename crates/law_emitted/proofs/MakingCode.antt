-- The body of a unit that is made of a unit, whichever it is, is formed as written code is; and its helpers stand once.
use Rattle.std.proofs.Common.{◌≡◌, ℕ, Bool, true, false, List, [], ◌∷◌, arith, if◌then◌else◌}
use Rattle.std.specs.Prelude.{◌||◌, not, Option, Some, None}
use Rattle.adj_tree.specs.Code.{Var, plain, helper, work, temp, Terms, Procedure}
use Rattle.def_meaning.specs.Apart.{has_name}
use Rattle.def_names.specs.Numbers.{Vars, everything}
use Rattle.def_names.specs.Variables.{variables}
use Rattle.def_meaning.specs.Written.{is_written}
use Rattle.def_sweep.specs.Marking.{ProgramMarks, first_statement, arrays_of, dummy_set}
use Rattle.def_sweep.specs.Plan.{Plan, Schedules}
use Rattle.def_sweep.specs.Program.{works_used, temps_used, helpers_used_with, schedules_in, left_by}
use Rattle.def_sweep.specs.SplitRows.{left_of}
use Rattle.law_emitted.proofs.Lists.{Each, each_more}
use Rattle.law_emitted.proofs.Sources.{each_name}
use Rattle.law_emitted.proofs.Tables.{AreHelpers}
use Rattle.law_emitted.proofs.Apart.{VarsApart, used_apart_with, forth_apart}
use Rattle.law_emitted.proofs.Used.{used_helpers_with, used_works, used_temps, all_helped, forth_helpers, forth_helped}
use Rattle.law_emitted.proofs.Over.{OverCode, Any}
use Rattle.law_emitted.proofs.Follows.{FollowsBy}
use Rattle.law_emitted.proofs.Sweeps.{AllowsPushes, Allows, forth_body_over, body_over, back_body_over}
use Rattle.law_emitted.proofs.MadeFaults.{MayStand}
use Rattle.law_emitted.proofs.Makings.{Making, as_adjoint, as_forth, as_back, its_shadows, plan_with, its_plan, its_helpers, its_code, its_turns, ClearsOwn}

module _ (sb : Bool) (m : ProgramMarks) (ps : List Procedure) (u : Procedure) where
  abbrev sc : Schedules
  sc = schedules_in sb ps

  abbrev i : ℕ
  i = first_statement ps u.name

  -- the plan of an adjoint, and that of the others
  abbrev own_plan : Plan
  own_plan = plan_with m ps u m.kept m.saved

  abbrev whole_plan : Plan
  whole_plan = plan_with m ps u (λ i. true) (λ i. everything)

  -- ---- its helpers

  pub its_are_helpers : (k : Making) → AreHelpers (its_helpers sb m ps u k)
  its_are_helpers (as_adjoint at_turn at_end) = used_helpers_with sc own_plan i u.body
  its_are_helpers as_forth = forth_helpers sc whole_plan i u.body
  its_are_helpers as_back = used_helpers_with sc whole_plan i u.body

  pub its_once : (k : Making) → VarsApart (its_helpers sb m ps u k)
  its_once (as_adjoint at_turn at_end) = used_apart_with sc own_plan i u.body
  its_once as_forth = forth_apart sc whole_plan i u.body
  its_once as_back = used_apart_with sc whole_plan i u.body

  -- ---- what it leaves on the tape

  -- what holds of each variable holds of those
  of_left : (P : List ℕ → Type 0) (w : Vars) (ds xs : List (List ℕ)) → Each P xs → Each P (left_of w ds xs)
  of_left P w ds [] h = tt
  of_left P w ds (x ∷ xs) h = go (not (has_name x ds) || w (plain x)) (of_left P w ds xs h.1)
    where
      go : (b : Bool) → Each P (left_of w ds xs) → Each P (if b then x ∷ left_of w ds xs else left_of w ds xs)
      go true ih = (h.0, ih)
      go false ih = ih

  pub left_known : Each (λ x. has_name x (variables u) ≡ true) (left_by ps u)
  left_known = of_left (λ x. has_name x (variables u) ≡ true) (dummy_set (is_written ps u)) u.dummies (variables u) (each_name (λ x. has_name x (variables u) ≡ true) (variables u) (λ x h. h))

  -- ---- its body

  module _ (Q : Var → Option ℕ → Type 0) (A : Var → Type 0) (C : List ℕ → Terms → Type 0) (body_over_any : OverCode Q A Any u.body) where
    allows_pushes : (a : Vars) (hs : List Var) → MayStand Q A a (arrays_of u) (variables u) hs → AllowsPushes Q A (arrays_of u)
    allows_pushes a hs may = record { whole = λ x e q. may.arrays x e; scalars = λ x e q. may.scalars x e q }

    allows : (a : Vars) (hs : List Var) → MayStand Q A a (arrays_of u) (variables u) hs → Allows Q A a (arrays_of u)
    allows a hs may = record { shadows = λ x n marked q. may.shadows x n marked q; whole_shadows = λ x marked e q. may.shadow_arrays x marked e; pushed = allows_pushes a hs may }

    stand : (a : Vars) (hs : List Var) → MayStand Q A a (arrays_of u) (variables u) hs → Each (λ x. Q (plain x) None) (left_by ps u)
    stand a hs may = each_more (λ x. has_name x (variables u) ≡ true) (λ x. Q (plain x) None) (λ x h. may.wholes x h) (left_by ps u) left_known

    stand_marked : (a : Vars) (hs : List Var) → MayStand Q A a (arrays_of u) (variables u) hs → (xs : List (List ℕ)) → Each (λ x. (has_name x (variables u) ≡ true) × (a (plain x) ≡ true)) xs → Each (λ x. Q (plain x) None × (a (plain x) ≡ true)) xs
    stand_marked a hs may xs h = each_more (λ x. (has_name x (variables u) ≡ true) × (a (plain x) ≡ true)) (λ x. Q (plain x) None × (a (plain x) ≡ true)) (λ x k. (may.wholes x k.0, k.1)) xs h

    -- where of each CALL holds what is asked of it
    pub its_code_over : (k : Making) → ClearsOwn m u k → MayStand Q A (its_shadows m u k) (arrays_of u) (variables u) (its_helpers sb m ps u k) → FollowsBy sc C (its_turns k C) (its_plan m ps u k) i u.body → OverCode Q A C (its_code sb m ps u k)
    its_code_over (as_adjoint at_turn at_end) clears may f =
        let p = own_plan in
        let hs = helpers_used_with sc p i u.body in
        body_over Q A C sc p (allows (m.shadowed u.name) hs may) (works_used p.marks i u.body) (temps_used p.marks i u.body) (λ j low high. may.helpers (helper work j) (used_works sc p i u.body j low high)) (λ j low high. may.helpers (helper temp j) (used_temps sc p i u.body j low high))
        i u.line u.body at_turn at_end f body_over_any (all_helped sc p i u.body (λ v. Q v (Some 0)) (λ v h. may.helpers v h)) (omega arith) (omega arith) (stand_marked (m.shadowed u.name) hs may at_turn clears.0) (stand_marked (m.shadowed u.name) hs may at_end clears.1)
    its_code_over as_forth clears may f = forth_body_over Q A C (its_turns as_forth C) sc whole_plan (allows_pushes _ _ may) i u.line (left_by ps u) u.body f body_over_any (forth_helped sc whole_plan i u.body (λ v. Q v (Some 0)) (λ v h. may.helpers v h)) (stand _ _ may)
    its_code_over as_back clears may f =
        let p = whole_plan in
        let hs = helpers_used_with sc p i u.body in
        back_body_over Q A C sc p (allows (m.shadowed u.name) hs may) (works_used p.marks i u.body) (temps_used p.marks i u.body) (λ j low high. may.helpers (helper work j) (used_works sc p i u.body j low high)) (λ j low high. may.helpers (helper temp j) (used_temps sc p i u.body j low high))
        i u.line (left_by ps u) u.body f body_over_any (all_helped sc p i u.body (λ v. Q v (Some 0)) (λ v h. may.helpers v h)) (omega arith) (omega arith) (stand (m.shadowed u.name) hs may)
