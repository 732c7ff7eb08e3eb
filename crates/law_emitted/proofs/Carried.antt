-- What the units that are made call is emitted: as it is where a kept call names it that isn't split, or a reversal turns it; as an adjoint where an adjointed call
-- names it that isn't split; and as a forward and a backward unit where a split call names it.
use Rattle.std.proofs.Common.{◌≡◌, ℕ, Bool, true, false, List, [], map, sym, ◌∙◌}
use Rattle.std.specs.Prelude.{◌&&◌, ◌||◌, not, Some, None}
use Rattle.adj_tree.specs.Code.{name_eq, Act, assign, choose, loop, during, call, runtime, Procedure}
use Rattle.def_meaning.specs.Written.{find_unit}
use Rattle.def_names.specs.CallFaults.{faults_of_call}
use Rattle.def_names.specs.Calls.{Call, call_in, calls}
use Rattle.def_names.specs.Statements.{At, statements}
use Rattle.def_names.proofs.Variables.{or_left, or_right}
use Rattle.def_sweep.specs.Marking.{ProgramMarks, first_statement}
use Rattle.def_sweep.specs.Plan.{Schedules}
use Rattle.def_sweep.specs.Program.{calls_in, calls_some, turns_in, turns_some, takes_part, answers, has_adjoint, has_pair, kept_calls, is_kept_with, is_carried_with, schedules_in}
use Rattle.law_sweep.specs.Source.{is_unit}
use Rattle.law_sweep.proofs.UnitLists.{found_there}
use Rattle.law_emitted.specs.Splits.{MaySplit}
use Rattle.law_emitted.proofs.Lists.{Each, each_more}
use Rattle.law_emitted.proofs.Statements.{CallHasNone, call_of_unit}
use Rattle.law_emitted.proofs.MadeFaults.{each_in_flat}
use Rattle.law_emitted.proofs.Pairs.{adjoint_part, pair_part}
use Rattle.law_emitted.proofs.Calling.{MayCall, may_call}
use Rattle.law_emitted.proofs.CheckedStepCalls.{never_turned, turns_found_some}
use Rattle.law_emitted.proofs.Callings.{calls_all, calls_found_some, roots_reached}
use Rattle.law_emitted.proofs.Makings.{Making, as_adjoint, as_forth, as_back, is_made, its_kept}

-- the units that are emitted as they are, those with an adjoint, and those with a forward and a backward unit
abbrev pub AreCarriedWith : Bool → ProgramMarks → List Procedure → Procedure → List ℕ → Type 0
AreCarriedWith sb m ps head n = is_carried_with sb m ps head n ≡ true

abbrev pub HaveAdjoint : ProgramMarks → List Procedure → Procedure → List ℕ → Type 0
HaveAdjoint m ps head n = (has_adjoint m ps head n ≡ true) × (is_unit ps n ≡ true)

abbrev pub HavePair : ProgramMarks → List Procedure → Procedure → List ℕ → Type 0
HavePair m ps head n = (has_pair m ps head n ≡ true) × (is_unit ps n ≡ true)

-- each CALL of a unit without faults of calls is of a unit that is there
calls_there : (ps : List Procedure) (u : Procedure) → Each (CallHasNone ps u) (statements u.body) → Each (λ (c : At Call). is_unit ps (c.1).0 ≡ true) (calls u)
calls_there ps u h =
    each_in_flat (λ (c : At Call). is_unit ps (c.1).0 ≡ true) (λ (s : At Act). map (λ c. (s.0, c)) (call_in s.1)) (statements u.body)
    (each_more (CallHasNone ps u) (λ s. Each (λ (c : At Call). is_unit ps (c.1).0 ≡ true) (map (λ c. (s.0, c)) (call_in s.1))) (λ s k. at s.0 s.1 k) (statements u.body) h)
  where
    at : (line : ℕ) (a : Act) → faults_of_call ps u line a ≡ [] → Each (λ (c : At Call). is_unit ps (c.1).0 ≡ true) (map (λ c. (line, c)) (call_in a))
    at line (assign x s e) k = tt
    at line (choose c a b) k = tt
    at line (loop x a b c body m) k = tt
    at line (during c body) k = tt
    at line (call name args) k = let c = call_of_unit ps u line name args k in ((found_there ps name c.unit c.found).0, tt)
    at line (runtime r) k = tt

module _ (sb : Bool) (m : ProgramMarks) (ps : List Procedure) (head u : Procedure) (found : find_unit ps u.name ≡ Some u) where
  abbrev sc : Schedules
  sc = schedules_in sb ps

  kept_so : (b : Bool) (n : List ℕ) → kept_calls m ps head n ≡ true → is_kept_with b m ps head n ≡ true
  kept_so true n h = or_left (kept_calls m ps head n) (turns_some (schedules_in true ps) (λ n. has_adjoint m ps head n || has_pair m ps head n) m.adjointed n 0 ps) h
  kept_so false n h = h

  -- ---- the calls of a unit that has an adjoint

  pub kept_carried : has_adjoint m ps head u.name ≡ true → (n : List ℕ) → calls_in (λ i. m.kept i && not (m.split i)) n (first_statement ps u.name) u.body ≡ true → is_carried_with sb m ps head n ≡ true
  kept_carried there n c =
      roots_reached (is_kept_with sb m ps head) (λ i. true) ps u.name u found n
      (kept_so sb n (or_left (calls_some (has_adjoint m ps head) (λ i. m.kept i && not (m.split i)) n 0 ps) (calls_some (has_pair m ps head) (λ i. not (m.split i)) n 0 ps) (calls_found_some (has_adjoint m ps head) (λ i. m.kept i && not (m.split i)) n 0 ps u.name u found there c)))

  -- ---- those of one that has a forward and a backward unit, which keep every call

  pub all_carried : has_pair m ps head u.name ≡ true → (n : List ℕ) → calls_in (λ i. not (m.split i)) n (first_statement ps u.name) u.body ≡ true → is_carried_with sb m ps head n ≡ true
  all_carried there n c =
      roots_reached (is_kept_with sb m ps head) (λ i. true) ps u.name u found n
      (kept_so sb n (or_right (calls_some (has_adjoint m ps head) (λ i. m.kept i && not (m.split i)) n 0 ps) (calls_some (has_pair m ps head) (λ i. not (m.split i)) n 0 ps) (calls_found_some (has_pair m ps head) (λ i. not (m.split i)) n 0 ps u.name u found there c)))

  -- ---- those of both

  -- the step unit of a loop that is reversed by a schedule
  pub turned_carried : (has_adjoint m ps head u.name || has_pair m ps head u.name) ≡ true → (n : List ℕ) → turns_in sc m.adjointed n (first_statement ps u.name) u.body ≡ true → is_carried_with sb m ps head n ≡ true
  turned_carried there n c = roots_reached (is_kept_with sb m ps head) (λ i. true) ps u.name u found n (turned_so sb c)
    where
      none_turned : turns_in None m.adjointed n (first_statement ps u.name) u.body ≡ true → ⊥
      none_turned h = let c : true ≡ false = sym h ∙ never_turned m.adjointed n (first_statement ps u.name) u.body in cc

      turned_so : (b : Bool) → turns_in (schedules_in b ps) m.adjointed n (first_statement ps u.name) u.body ≡ true → is_kept_with b m ps head n ≡ true
      turned_so true h =
          or_right (kept_calls m ps head n) (turns_some (schedules_in true ps) (λ n. has_adjoint m ps head n || has_pair m ps head n) m.adjointed n 0 ps)
          (turns_found_some (schedules_in true ps) (λ n. has_adjoint m ps head n || has_pair m ps head n) m.adjointed n 0 ps u.name u found there h)
      turned_so false h = absurd (none_turned h)

  -- the unit of an adjointed call that isn't split has an adjoint
  pub adjointed_there : takes_part m ps head u.name ≡ true → (n : List ℕ) → calls_in (λ i. m.adjointed i && not (m.split i)) n (first_statement ps u.name) u.body ≡ true → has_adjoint m ps head n ≡ true
  adjointed_there part n c = or_right (name_eq head.name n) (answers m ps head n) (calls_found_some (takes_part m ps head) (λ i. m.adjointed i && not (m.split i)) n 0 ps u.name u found part c)

  -- and that of a split call a forward and a backward unit
  pub split_there : takes_part m ps head u.name ≡ true → (n : List ℕ) → calls_in (λ i. m.adjointed i && m.split i) n (first_statement ps u.name) u.body ≡ true → has_pair m ps head n ≡ true
  split_there part n c = calls_found_some (takes_part m ps head) (λ i. m.adjointed i && m.split i) n 0 ps u.name u found part c

  -- so it is with what is made of the unit, whatever it is
  module _ (none : Each (CallHasNone ps u) (statements u.body)) (may : MaySplit (schedules_in sb ps) m.adjointed m.split (first_statement ps u.name) u.body) where
    called_there : (s : ℕ → Bool) (n : List ℕ) → calls_in s n (first_statement ps u.name) u.body ≡ true → is_unit ps n ≡ true
    called_there s n c = calls_all (is_unit ps) s n (first_statement ps u.name) u (calls_there ps u none) c

    adjoints : takes_part m ps head u.name ≡ true → (n : List ℕ) → calls_in (λ i. m.adjointed i && not (m.split i)) n (first_statement ps u.name) u.body ≡ true → HaveAdjoint m ps head n
    adjoints part n c = (adjointed_there part n c, called_there (λ i. m.adjointed i && not (m.split i)) n c)

    pairs : takes_part m ps head u.name ≡ true → (n : List ℕ) → calls_in (λ i. m.adjointed i && m.split i) n (first_statement ps u.name) u.body ≡ true → HavePair m ps head n
    pairs part n c = (split_there part n c, called_there (λ i. m.adjointed i && m.split i) n c)

    adjoint_calls : has_adjoint m ps head u.name ≡ true → MayCall (AreCarriedWith sb m ps head) (HaveAdjoint m ps head) (HavePair m ps head) sc m.kept m.adjointed m.split (first_statement ps u.name) u.body
    adjoint_calls there =
        let part = adjoint_part m ps head u.name u found there in
        may_call (AreCarriedWith sb m ps head) (HaveAdjoint m ps head) (HavePair m ps head) sc m.kept m.adjointed m.split (first_statement ps u.name) u.body may (kept_carried there) (adjoints part) (pairs part)
        (turned_carried (or_left (has_adjoint m ps head u.name) (has_pair m ps head u.name) there))

    pair_calls : has_pair m ps head u.name ≡ true → MayCall (AreCarriedWith sb m ps head) (HaveAdjoint m ps head) (HavePair m ps head) sc (λ i. true) m.adjointed m.split (first_statement ps u.name) u.body
    pair_calls there =
        let part = pair_part m ps head u.name u found there in
        may_call (AreCarriedWith sb m ps head) (HaveAdjoint m ps head) (HavePair m ps head) sc (λ i. true) m.adjointed m.split (first_statement ps u.name) u.body may (all_carried there) (adjoints part) (pairs part)
        (turned_carried (or_right (has_adjoint m ps head u.name) (has_pair m ps head u.name) there))

    pub its_calls : (k : Making) → is_made m ps head u k ≡ true → MayCall (AreCarriedWith sb m ps head) (HaveAdjoint m ps head) (HavePair m ps head) sc (its_kept m k) m.adjointed m.split (first_statement ps u.name) u.body
    its_calls (as_adjoint at_turn at_end) there = adjoint_calls there
    its_calls as_forth there = pair_calls there
    its_calls as_back there = pair_calls there
