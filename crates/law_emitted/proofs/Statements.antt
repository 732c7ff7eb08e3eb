-- Statements of a unit that has no faults fit.
use Rattle.std.proofs.Common.{◌≡◌, ℕ, suc, Bool, true, false, List, [], ◌∷◌, ◌++◌, refl, sym, ap, ◌∙◌, subst, if◌then◌else◌}
use Rattle.std.specs.Prelude.{◌&&◌, ◌||◌, ◌==◌, not, length, flat_map, Option, Some, None}
use Rattle.adj_tree.specs.Code.{Var, name_eq, plain, shadow, helper, Term, Terms, none, more, Mark, Act, assign, choose, loop, during, call, runtime, Code, stop, step, Procedure}
use Rattle.adj_tree.proofs.Names.{nat_same, name_refl}
use Rattle.def_meaning.specs.LeastSet.{Dummies}
use Rattle.def_meaning.specs.Written.{find_unit, writes, act_writes, handed_back}
use Rattle.law_meaning.specs.Common.{CallsInside', CallsInside}
use Rattle.def_text.specs.Written.{IsWrittenMark, IsWrittenAct, IsWrittenCode}
use Rattle.def_names.specs.Reserved.{is_runtime}
use Rattle.def_names.specs.Statements.{At, inner, statements}
use Rattle.def_names.specs.Standing.{Standing, scalar, in_term, in_place, in_mark, in_actuals, in_act}
use Rattle.def_names.specs.Variables.{rank, variables}
use Rattle.def_names.specs.Fault.{Rules, fault, faults_if}
use Rattle.def_names.specs.NameFaults.{has_rank, taken_in}
use Rattle.def_names.specs.CallFaults.{are_actuals_for, faults_of_unit_call, faults_of_call}
use Rattle.def_names.specs.WriteFaults.{may_write, writes_of_variable}
use Rattle.def_kernel.specs.Form.{AreDistinctNames, IsKernelAct, IsKernelCode}
use Rattle.def_sweep.specs.Marks.{Marks}
use Rattle.def_names.specs.Numbers.{next, behind}
use Rattle.def_names.proofs.Variables.{or_left, or_right}
use Rattle.def_meaning.proofs.Variables.{name_comm}
use Rattle.def_sweep.specs.Plan.{beside, actuals_named, found_or, Schedules, Step, reversed_by, ByStep}
use Rattle.def_sweep.specs.Reversals.{ReversedLines}
use Rattle.def_sweep.specs.Schedules.{schedules_by}
use Rattle.def_sweep.specs.Names.{source_names, adjoint_after}
use Rattle.def_sweep.specs.Callees.{CalleeFacts}
use Rattle.law_sweep.specs.Kernel.{IsThere, AsMany, HasSlots, ReversalFits, CallFits, FitsBy, FitsListBy}
use Rattle.def_sweep.specs.Marking.{ProgramMarks, ProgramFacts, callee_of, callee_facts, arrays_of}
use Rattle.def_sweep.specs.Program.{calls_act, calls_in, turns_act, turns_in}
use Rattle.law_sweep.specs.Source.{is_unit}
use Rattle.law_sweep.proofs.Full.{GivesNames', GivesNames}
use Rattle.law_sweep.proofs.ByStep.{step_inside, step_known}
use Rattle.law_sweep.proofs.UnitLists.{found_there}
use Rattle.law_sweep.proofs.EmittedUnits.{apart_source}
use Rattle.law_emitted.specs.Checked.{TellsAct, TellsCode}
use Rattle.law_emitted.proofs.CheckedStepCalls.{slots_written, turned_alone}
use Rattle.law_emitted.proofs.Lists.{Each, each_front, each_behind, each_more, none_each}
use Rattle.def_names.proofs.Faultless.{none_if}
use Rattle.law_emitted.proofs.Texts.{Known, text_term, text_terms, text_test, place_variable, place_terms, known_term, treated, actuals_given, actuals_apart, actuals_known, actuals_many, actuals_rank}

pub not_false : (b : Bool) → not b ≡ false → b ≡ true
not_false true h = refl
not_false false h = absurd cc

pub both_false : (a b : Bool) → a ≡ false → b ≡ false → (a || b) ≡ false
both_false true b e f = absurd cc
both_false false b e f = f

-- ---- calls give names

mutual
  names_given' : (a : Act) → IsWrittenAct a → IsKernelAct a → GivesNames' a
  names_given' (assign x subs e) w k = tt
  names_given' (choose c a b) w k = (names_given a w.1 k.0, names_given b w.2 k.1)
  names_given' (loop x first last by body m) w k = names_given body w.4 k.1
  names_given' (during c body) w k = names_given body w.1 k
  names_given' (call name args) w k = actuals_given args k w.1
  names_given' (runtime r) w k = absurd k

  pub names_given : (c : Code) → IsWrittenCode c → IsKernelCode c → GivesNames c
  names_given stop w k = tt
  names_given (step line a rest) w k = (names_given' a w.0 k.0, names_given rest w.1 k.1)

-- ---- a list whose statements don't write a variable doesn't

-- no statement writes it
abbrev pub Spared : Dummies → Var → At Act → Type 0
Spared handed x s = may_write handed x s.1 ≡ false

mutual
  spares' : (handed : Dummies) (x : Var) (a : Act) → may_write handed x a ≡ false → Each (Spared handed x) (inner a) → act_writes handed x a ≡ false
  spares' handed x (assign y subs e) h k = h
  spares' handed x (choose c a b) h k =
      both_false (writes handed x a) (writes handed x b) (spares handed x a (each_front (Spared handed x) (statements a) (statements b) k)) (spares handed x b (each_behind (Spared handed x) (statements a) (statements b) k))
  spares' handed x (loop y first last by body m) h k = both_false _ (writes handed x body) h (spares handed x body k)
  spares' handed x (during c body) h k = spares handed x body k
  spares' handed x (call name args) h k = h
  spares' handed x (runtime r) h k = h

  pub spares : (handed : Dummies) (x : Var) (c : Code) → Each (Spared handed x) (statements c) → writes handed x c ≡ false
  spares handed x stop k = refl
  spares handed x (step line a rest) k =
      both_false (act_writes handed x a) (writes handed x rest)
      (spares' handed x a k.0 (each_front (Spared handed x) (inner a) (statements rest) k.1))
      (spares handed x rest (each_behind (Spared handed x) (inner a) (statements rest) k.1))

-- ---- what a CALL without fault is of

pub record CallsUnit (ps : List Procedure) (caller : Procedure) (name : List ℕ) (args : Terms) : Type 0 where
  pub unit : Procedure
  pub found : find_unit ps name ≡ Some unit
  pub fit : are_actuals_for caller unit unit.dummies args ≡ true

pub call_of_unit : (ps : List Procedure) (caller : Procedure) (line : ℕ) (name : List ℕ) (args : Terms) → faults_of_call ps caller line (call name args) ≡ [] → CallsUnit ps caller name args
call_of_unit ps caller line name args h = go (is_runtime name) h
  where
    at : (o : Option Procedure) → find_unit ps name ≡ o → faults_of_unit_call caller o line args ≡ [] → CallsUnit ps caller name args
    at None e h = absurd cc
    at (Some u) e h = record { unit = u; found = e; fit = not_false (are_actuals_for caller u u.dummies args) (none_if (not (are_actuals_for caller u u.dummies args)) (fault 15 line) h) }

    go : (b : Bool) → (if b then fault 15 line ∷ [] else faults_of_unit_call caller (find_unit ps name) line args) ≡ [] → CallsUnit ps caller name args
    go true h = absurd cc
    go false h = at (find_unit ps name) refl h

-- each call of a list is of a unit
abbrev pub CallHasNone : List Procedure → Procedure → At Act → Type 0
CallHasNone ps u s = faults_of_call ps u s.0 s.1 ≡ []

mutual
  calls_inside' : (ps : List Procedure) (u : Procedure) (line : ℕ) (a : Act) → faults_of_call ps u line a ≡ [] → Each (CallHasNone ps u) (inner a) → CallsInside' (is_unit ps) a
  calls_inside' ps u line (assign x subs e) h k = tt
  calls_inside' ps u line (choose c a b) h k = (calls_inside ps u a (each_front (CallHasNone ps u) (statements a) (statements b) k), calls_inside ps u b (each_behind (CallHasNone ps u) (statements a) (statements b) k))
  calls_inside' ps u line (loop x first last by body m) h k = calls_inside ps u body k
  calls_inside' ps u line (during c body) h k = calls_inside ps u body k
  calls_inside' ps u line (call name args) h k = let c = call_of_unit ps u line name args h in (found_there ps name c.unit c.found).0
  calls_inside' ps u line (runtime r) h k = tt

  pub calls_inside : (ps : List Procedure) (u : Procedure) (c : Code) → Each (CallHasNone ps u) (statements c) → CallsInside (is_unit ps) c
  calls_inside ps u stop k = tt
  calls_inside ps u (step line a rest) k =
      (calls_inside' ps u line a k.0 (each_front (CallHasNone ps u) (inner a) (statements rest) k.1), calls_inside ps u rest (each_behind (CallHasNone ps u) (inner a) (statements rest) k.1))

-- ---- statements fit

-- what a unit without faults has of each statement
pub record StatementSound (rules : Rules) (ps : List Procedure) (u : Procedure) (s : At Act) : Type 0 where
  pub ranks : flat_map (λ n. faults_if (not (has_rank u n)) (fault 9 s.0)) (taken_in rules.takes_runtime s.1) ≡ []
  pub called : CallHasNone ps u s
  pub spared : writes_of_variable (handed_back ps) s.1 ≡ []
  pub known : Each (Known (variables u)) (in_act s.1)

-- a unit that is there is found
pub unit_found : (ps : List Procedure) (n : List ℕ) → is_unit ps n ≡ true → (u : Procedure) × (find_unit ps n ≡ Some u)
unit_found [] n h = absurd cc
unit_found (v ∷ ps) n h = go (name_eq v.name n) h (unit_found ps n)
  where
    go : (b : Bool) → (b || is_unit ps n) ≡ true → (is_unit ps n ≡ true → (u : Procedure) × (find_unit ps n ≡ Some u)) → (u : Procedure) × ((if b then Some v else find_unit ps n) ≡ Some u)
    go true h ih = (v, refl)
    go false h ih = ih h

module _ (sb : Bool) (lines : ReversedLines) (rules : Rules) (facts : ProgramFacts) (ps : List Procedure) (name : List ℕ) (u : Procedure) (present : Bool) (answers paired carried : List ℕ → Bool) (mm : Marks) where
  abbrev g : List ℕ → CalleeFacts
  g = callee_facts facts ps

  abbrev m : ProgramMarks
  m = facts.marks

  abbrev sc : Schedules
  sc = schedules_by sb g

  abbrev Sound : At Act → Type 0
  Sound s = StatementSound rules ps u s

  -- what an adjointed call names has an adjoint that is called, or, where the call is split, both units; and what a kept call names is carried
  abbrev pub Answered : List ℕ → Type 0
  Answered n = present ≡ true → answers n ≡ true

  abbrev pub Paired : List ℕ → Type 0
  Paired n = present ≡ true → paired n ≡ true

  abbrev pub Carried : List ℕ → Type 0
  Carried n = present ≡ true → carried n ≡ true

  abbrev pub FitsHere : ℕ → ℕ → Act → Type 0
  FitsHere i line a = FitsBy sc lines ps g answers paired carried present mm (variables u) (arrays_of u) (handed_back ps) i line a

  abbrev pub ListFits : ℕ → Code → Type 0
  ListFits i c = FitsListBy sc lines ps g answers paired carried present mm (variables u) (arrays_of u) (handed_back ps) i c

  -- a name that stands as a scalar is no array
  no_array : (x : List ℕ) (line : ℕ) (b : Bool) → b ≡ has_rank u (record { name = x; subscripts = Some 0 }) → faults_if (not b) (fault 9 line) ≡ [] → arrays_of u (plain x) ≡ false
  no_array x line b e h =
      let t : (0 == rank u x) ≡ true = sym e ∙ not_false b (none_if (not b) (fault 9 line) h) in
      let r : 0 ≡ rank u x = nat_same 0 (rank u x) t in
      ap (λ k. not (k == 0)) (sym r)

  scalar_at : (x : List ℕ) (line : ℕ) (later : List Standing) → flat_map (λ n. faults_if (not (has_rank u n)) (fault 9 line)) (record { name = x; subscripts = Some 0 } ∷ later) ≡ [] → arrays_of u (plain x) ≡ false
  scalar_at x line later h = no_array x line (has_rank u (record { name = x; subscripts = Some 0 })) refl (none_each (λ n. faults_if (not (has_rank u n)) (fault 9 line)) (record { name = x; subscripts = Some 0 } ∷ later) h).0

  target_scalar : (x : List ℕ) (subs : Terms) (e : Term) (line : ℕ) → flat_map (λ n. faults_if (not (has_rank u n)) (fault 9 line)) (in_act (assign (plain x) subs e)) ≡ [] → subs ≡ none → arrays_of u (plain x) ≡ false
  target_scalar x none e line h n = scalar_at x line (in_term e) h
  target_scalar x (more a es) e line h n = absurd cc

  -- the names of a DO stand behind that of its mark
  loop_scalar : (x : List ℕ) (first last by : Term) (body : Code) (m : Mark) (line : ℕ) → flat_map (λ n. faults_if (not (has_rank u n)) (fault 9 line)) (in_act (loop (plain x) first last by body m)) ≡ [] → arrays_of u (plain x) ≡ false
  loop_scalar x first last by body m line h =
      no_array x line (has_rank u (record { name = x; subscripts = Some 0 })) refl
      (each_behind (λ n. faults_if (not (has_rank u n)) (fault 9 line) ≡ []) (in_mark m) (scalar (plain x) ++ (in_term first ++ (in_term last ++ in_term by)))
      (none_each (λ n. faults_if (not (has_rank u n)) (fault 9 line)) (in_act (loop (plain x) first last by body m)) h)).0

  -- the body of a DO doesn't write its variable
  body_spares : (x : Var) (first last by : Term) (body : Code) (m : Mark) → writes_of_variable (handed_back ps) (loop x first last by body m) ≡ [] → writes (handed_back ps) x body ≡ false
  body_spares x first last by body m h =
      spares (handed_back ps) x body
      (each_more (λ s. faults_if (may_write (handed_back ps) x s.1) (fault 11 s.0) ≡ []) (Spared (handed_back ps) x) (λ s e. none_if (may_write (handed_back ps) x s.1) (fault 11 s.0) e) (statements body)
      (none_each (λ s. faults_if (may_write (handed_back ps) x s.1) (fault 11 s.0)) (statements body) h))

  call_fits : (other : List ℕ) (args : Terms) → AreDistinctNames args → CallsUnit ps u other args → Each (Known (variables u)) (in_actuals args) → (given : List (List ℕ)) → args ≡ actuals_named given → CallFits ps (variables u) (arrays_of u) (g other) other given
  call_fits other args d c k given e = record {
    unit = c.unit;
    found = c.found;
    apart = actuals_apart given (subst AreDistinctNames e d);
    many = subst (λ ds. AsMany ds given) (sym dummies) (actuals_many u c.unit c.unit.dummies given fit);
    variables = λ a h. actuals_known (variables u) given (subst (λ l. Each (Known (variables u)) (in_actuals l)) e k) a h;
    ranks = λ x a b none. ap (λ n. not (n == 0)) (actuals_rank u c.unit c.unit.dummies given fit x a (subst (λ ds. beside ds given x ≡ Some a) dummies b) ∙ ap length none);
  }
    where
      dummies : (g other).callee.dummies ≡ c.unit.dummies
      dummies = ap (λ o. (callee_of m ps other o).dummies) c.found

      fit : are_actuals_for u c.unit c.unit.dummies (actuals_named given) ≡ true
      fit = subst (λ l. are_actuals_for u c.unit c.unit.dummies l ≡ true) e c.fit

  -- a unit has another name than its adjoint
  own_apart : (n : List ℕ) → is_unit ps n ≡ true → name_eq n (g n).callee.adjoint ≡ false
  own_apart n h =
      let f = unit_found ps n h in
      ap (λ o. name_eq n (callee_of m ps n o).adjoint) f.1 ∙ ap (λ x. name_eq n (adjoint_after (source_names ps) ps x)) (found_there ps n f.0 f.1).1 ∙ apart_source false m ps u [] [] n n h h

  -- the body of a DO, by how it is reversed
  loop_choice : (i : ℕ) (body : Code) (mark : Mark) → IsWrittenMark mark → Each Sound (statements body) → (((n : List ℕ) → turns_in sc mm.adjointed n (suc i) body ≡ true → Carried n) → ListFits (suc i) body) →
      (o : Option Step) → reversed_by sc mm.adjointed i body mark ≡ o → ((n : List ℕ) → found_or o (turns_in sc mm.adjointed n (suc i) body) (λ t. name_eq n t.name) ≡ true → Carried n) → ByStep o (ListFits (suc i) body) (λ t. ReversalFits (g t.name) present (carried t.name) t × ListFits (suc i) body)
  loop_choice i body mark w inside rest None e t = rest t
  loop_choice i body mark w inside rest (Some r) e t =
      let known = step_known sb g mm.adjointed i body mark r e in
      let slots = subst HasSlots known.marked (slots_written sc mm.adjointed i body mark r e w) in
      let is_there = step_inside (is_unit ps) sc mm.adjointed i body mark r e (calls_inside ps u body (each_more Sound (CallHasNone ps u) (λ s o. (let called = o.called in called)) (statements body) inside)) in
      let apart = own_apart r.name is_there in (
        record { slots = slots; other_name = apart; other_adjoint = name_comm r.name (g r.name).callee.adjoint apart; emitted = t r.name (name_refl r.name) },
        rest (λ n h. absurd (let c : true ≡ false = sym h ∙ turned_alone sc mm.adjointed i body mark r n (suc i) e in cc)),
      )

  -- the statements whose calls are adjointed and not split, are split, and are kept and not split
  abbrev pub whole_call : ℕ → Bool
  whole_call j = mm.adjointed j && not (mm.split j)

  abbrev pub split_call : ℕ → Bool
  split_call j = mm.adjointed j && mm.split j

  abbrev pub staying : ℕ → Bool
  staying j = mm.kept j && not (mm.split j)

  call_there : (other : List ℕ) (split adjointed kept : Bool) → ((adjointed && not split) ≡ true → Answered other) → ((adjointed && split) ≡ true → Paired other) → ((kept && not split) ≡ true → Carried other) → IsThere split (answers other) (paired other) (carried other) present adjointed kept
  call_there other true adjointed kept c p d = λ pr a. p (ap (λ b. b && true) a) pr
  call_there other false adjointed kept c p d = (λ pr a. c (ap (λ b. b && true) a) pr, λ pr a. d (ap (λ b. b && true) a) pr)

  mutual
    act_fits : (i line : ℕ) (a : Act) → IsWrittenAct a → IsKernelAct a → Sound (line, a) → Each Sound (inner a) → ((n : List ℕ) → calls_act whole_call n i a ≡ true → Answered n) → ((n : List ℕ) → calls_act split_call n i a ≡ true → Paired n) → ((n : List ℕ) → calls_act staying n i a ≡ true → Carried n) → ((n : List ℕ) → turns_act sc mm.adjointed n i a ≡ true → Carried n) → TellsAct lines sc g mm.adjointed i line a → FitsHere i line a
    act_fits i line (assign (plain x) subs e) w k s inside c p d t z = record {
      variable = (let known = s.known in known.0);
      rank = target_scalar x subs e line s.ranks;
      apart = k.0;
      text = λ v h. text_term v e w.1 h;
      subs_text = λ v h. text_terms v subs (place_terms (plain x) subs w.0) h;
      treated = treated e k.1;
      known = λ y h. known_term (variables u) y e (each_behind (Known (variables u)) (in_place (plain x) subs) (in_term e) s.known) h;
    }
    act_fits i line (assign (shadow x) subs e) w k s inside c p d t z = absurd (place_variable (shadow x) subs w.0)
    act_fits i line (assign (helper r j) subs e) w k s inside c p d t z = absurd (place_variable (helper r j) subs w.0)
    act_fits i line (choose o a b) w k s inside c p d t z = (
      λ v h. text_test v o w.0 h,
      (
        list_fits (suc i) a w.1 k.0 (each_front Sound (statements a) (statements b) inside) (λ n h. c n (or_left (calls_in whole_call n (suc i) a) (calls_in whole_call n (behind (suc i) a) b) h)) (λ n h. p n (or_left (calls_in split_call n (suc i) a) (calls_in split_call n (behind (suc i) a) b) h)) (λ n h. d n (or_left (calls_in staying n (suc i) a) (calls_in staying n (behind (suc i) a) b) h)) (λ n h. t n (or_left (turns_in sc mm.adjointed n (suc i) a) (turns_in sc mm.adjointed n (behind (suc i) a) b) h)) z.0,
        list_fits (behind (suc i) a) b w.2 k.1 (each_behind Sound (statements a) (statements b) inside) (λ n h. c n (or_right (calls_in whole_call n (suc i) a) (calls_in whole_call n (behind (suc i) a) b) h)) (λ n h. p n (or_right (calls_in split_call n (suc i) a) (calls_in split_call n (behind (suc i) a) b) h)) (λ n h. d n (or_right (calls_in staying n (suc i) a) (calls_in staying n (behind (suc i) a) b) h)) (λ n h. t n (or_right (turns_in sc mm.adjointed n (suc i) a) (turns_in sc mm.adjointed n (behind (suc i) a) b) h)) z.1,
      ),
    )
    act_fits i line (loop (plain x) first last by body mark) w k s inside c p d t z = (
      record {
        told = z.0;
        variable = (each_behind (Known (variables u)) (in_mark mark) (scalar (plain x) ++ (in_term first ++ (in_term last ++ in_term by))) s.known).0;
        scalar = loop_scalar x first last by body mark line s.ranks;
        spares = body_spares (plain x) first last by body mark s.spared;
        text_first = λ v h. text_term v first w.1 h;
        text_last = λ v h. text_term v last w.2 h;
        text_step = λ v h. text_term v by w.3 h;
      },
      loop_choice i body mark w.5 inside (λ turned. list_fits (suc i) body w.4 k.1 inside c p d turned z.1) (reversed_by sc mm.adjointed i body mark) refl t,
    )
    act_fits i line (loop (shadow x) first last by body mark) w k s inside c p d t z = absurd w.0
    act_fits i line (loop (helper r j) first last by body mark) w k s inside c p d t z = absurd w.0
    act_fits i line (during o body) w k s inside c p d t z = (λ v h. text_test v o w.0 h, list_fits (suc i) body w.1 k inside c p d t z)
    act_fits i line (call other args) w k s inside c p d t z = (
      call_fits other args k (call_of_unit ps u line other args s.called) s.known,
      call_there other (mm.split i) (mm.adjointed i) (mm.kept i) (λ e. c other (ap (λ b. b && name_eq other other) e ∙ name_refl other)) (λ e. p other (ap (λ b. b && name_eq other other) e ∙ name_refl other)) (λ e. d other (ap (λ b. b && name_eq other other) e ∙ name_refl other)),
    )
    act_fits i line (runtime r) w k s inside c p d t z = absurd k

    pub list_fits : (i : ℕ) (l : Code) → IsWrittenCode l → IsKernelCode l → Each Sound (statements l) → ((n : List ℕ) → calls_in whole_call n i l ≡ true → Answered n) → ((n : List ℕ) → calls_in split_call n i l ≡ true → Paired n) → ((n : List ℕ) → calls_in staying n i l ≡ true → Carried n) → ((n : List ℕ) → turns_in sc mm.adjointed n i l ≡ true → Carried n) → TellsCode lines sc g mm.adjointed i l → ListFits i l
    list_fits i stop w k s c p d t z = tt
    list_fits i (step line a rest) w k s c p d t z = (
      act_fits i line a w.0 k.0 s.0 (each_front Sound (inner a) (statements rest) s.1) (λ n h. c n (or_left (calls_act whole_call n i a) (calls_in whole_call n (next i a) rest) h)) (λ n h. p n (or_left (calls_act split_call n i a) (calls_in split_call n (next i a) rest) h)) (λ n h. d n (or_left (calls_act staying n i a) (calls_in staying n (next i a) rest) h)) (λ n h. t n (or_left (turns_act sc mm.adjointed n i a) (turns_in sc mm.adjointed n (next i a) rest) h)) z.0,
      list_fits (next i a) rest w.1 k.1 (each_behind Sound (inner a) (statements rest) s.1) (λ n h. c n (or_right (calls_act whole_call n i a) (calls_in whole_call n (next i a) rest) h)) (λ n h. p n (or_right (calls_act split_call n i a) (calls_in split_call n (next i a) rest) h)) (λ n h. d n (or_right (calls_act staying n i a) (calls_in staying n (next i a) rest) h)) (λ n h. t n (or_right (turns_act sc mm.adjointed n i a) (turns_in sc mm.adjointed n (next i a) rest) h)) z.1,
    )
