-- A checked program meets all that the law on emitted programs asks, and so what is emitted for it is its adjoint.
use Rattle.std.proofs.Common.{◌≡◌, ℕ, Bool, true, false, List, [], ◌∷◌, map, refl, sym, ap, ◌∙◌, subst}
use Rattle.std.specs.Prelude.{◌&&◌, ◌||◌, not, flat_map, Option, Some, None, IsTrue}
use Rattle.adj_tree.specs.Code.{Var, plain, Act, Procedure}
use Rattle.adj_tree.specs.declared.fault.Refusal.{Refusal}
use Rattle.def_meaning.specs.Written.{find_unit, handed_back}
use Rattle.def_meaning.specs.Read.{is_extent}
use Rattle.def_meaning.specs.Units.{declared}
use Rattle.def_text.specs.Written.{IsWrittenProcedure}
use Rattle.def_names.specs.Statements.{At, statements}
use Rattle.def_names.specs.Standing.{in_act}
use Rattle.def_names.specs.Variables as named
use Rattle.def_names.specs.Variables.{variables}
use Rattle.def_names.specs.Calls.{Call, calls, calls_lead}
use Rattle.def_names.specs.Fault.{Rules, fault, faults_if, again}
use Rattle.def_names.specs.UnitFaults.{unit_places, reserved_units, repeated_units}
use Rattle.def_names.specs.NameFaults.{undeclared, declared_twice, misused, bad_extents, has_bad_extents, has_rank, taken_in, faults_of_names}
use Rattle.def_names.specs.CallFaults.{faults_of_call}
use Rattle.def_names.specs.ChainFaults.{cycles, or_else, long_chains}
use Rattle.def_names.specs.WriteFaults.{writes_of_variable, written_variables, written_extents, faults_of_writes}
use Rattle.def_names.specs.Laws.{HasNone}
use Rattle.def_names.proofs.Sound.{sound_has_none}
use Rattle.def_kernel.specs.Form.{IsKernelCode}
use Rattle.def_meaning.specs.Apart.{has_name, AreApart}
use Rattle.def_sweep.specs.Naming.{AreInside}
use Rattle.def_sweep.specs.Declared.{unit_name, unit_at}
use Rattle.law_sweep.specs.Laws.{UnitLaws}
use Rattle.def_sweep.specs.Marking.{ProgramMarks, ProgramFacts, full_marks, full_facts, marks_in, callee_of, callee_facts, read_by, plain_by, arrays_of, first_statement, entry_point}
use Rattle.def_sweep.specs.Program.{calls_in, calls_some, turns_in, turns_some, takes_part, has_adjoint, has_pair, answers, kept_calls, is_kept_with, is_carried_with, schedules_in}
use Rattle.law_sweep.specs.Environment.{PairFits, UnitFitsBy}
use Rattle.def_sweep.specs.SplitMarks.{split_marks}
use Rattle.law_sweep.specs.Source.{is_unit, CallUnits, SourceFitsWith}
use Rattle.def_sweep.specs.Reversals.{ReversedLines}
use Rattle.def_sweep.specs.Schedules.{schedules_by}
use Rattle.def_names.proofs.Variables.{and_true, or_left, or_right, not_true}
use Rattle.law_emitted.proofs.CheckedStepCalls.{turns_found_some, never_turned, none_told}
use Rattle.law_sweep.proofs.Full.{list_laws, way}
use Rattle.law_sweep.proofs.Variables.{variables_apart, dummy_among}
use Rattle.law_sweep.proofs.UnitLists.{found_there}
use Rattle.law_sweep.proofs.Adjoint.{emitted_is_adjoint, full_is_adjoint}
use Rattle.law_emitted.specs.Checked.{IsChecked, AreLawful, AreLawfulFor, AreLawfulForWith, LinesTell, LawfulFits, LawfulIsAdjoint, ReachedIsAdjoint, CheckedFits, CheckedIsAdjoint}
use Rattle.law_emitted.proofs.Lists.{Each, each_more, each_all, each_unit, each_found, none_each}
use Rattle.def_names.proofs.Faultless.{none_front, none_behind, none_if, apart_places}
use Rattle.law_emitted.proofs.Texts.{Known}
use Rattle.law_emitted.proofs.Statements.{names_given, CallHasNone, calls_inside, StatementSound, list_fits}
use Rattle.law_emitted.proofs.Callings.{Found, all_found, each_at, head_uncalled, calls_found_some, roots_reached}
use Rattle.law_emitted.proofs.CheckedUnits.{dummy_names, unit_names, extents_dummies, names_known}
use Rattle.law_emitted.proofs.Names.{variables_inside}
use Rattle.law_sweep.proofs.Unsplit.{nowhere_some}
use Rattle.law_sweep.proofs.Declared.{no_extents}
use Rattle.law_emitted.proofs.Pairs.{wrote, extents_spared, none_declared, wider_some, adjoint_part, pair_part}

-- every dummy is a member
all_members : (ps : List Procedure) (name d : List ℕ) (o : Option Procedure) → (callee_of full_marks ps name o).members (plain d) ≡ true
all_members ps name d None = refl
all_members ps name d (Some u) = refl

-- members and shadows of a unit are those of the marks, whatever is found
members_said : (m : ProgramMarks) (ps : List Procedure) (name d : List ℕ) (o : Option Procedure) → m.members name (plain d) ≡ true → (callee_of m ps name o).members (plain d) ≡ true
members_said m ps name d None h = h
members_said m ps name d (Some u) h = h

shadows_said : (m : ProgramMarks) (ps : List Procedure) (name : List ℕ) (v : Var) (o : Option Procedure) → (callee_of m ps name o).shadowed v ≡ m.shadowed name v
shadows_said m ps name v None = refl
shadows_said m ps name v (Some u) = refl

each_sound : (rules : Rules) (ps : List Procedure) (u : Procedure) (ss : List (At Act)) → Each (λ s. flat_map (λ n. faults_if (not (has_rank u n)) (fault 9 s.0)) (taken_in rules.takes_runtime s.1) ≡ []) ss → Each (CallHasNone ps u) ss → Each (λ s. writes_of_variable (handed_back ps) s.1 ≡ []) ss → Each (λ s. Each (Known (variables u)) (in_act s.1)) ss → Each (StatementSound rules ps u) ss
each_sound rules ps u [] a b c d = tt
each_sound rules ps u (s ∷ ss) a b c d = (record { ranks = a.0; called = b.0; spared = c.0; known = d.0 }, each_sound rules ps u ss a.1 b.1 c.1 d.1)

first_none : (xs ys : List Refusal) → or_else xs ys ≡ [] → xs ≡ []
first_none [] ys h = refl
first_none (x ∷ xs) ys h = absurd cc

pub calls_known : (ps us : List Procedure) → Each (λ u. Each (CallHasNone ps u) (statements u.body)) us → CallUnits ps us
calls_known ps [] h = tt
calls_known ps (u ∷ us) h = (calls_inside ps u u.body h.0, calls_known ps us h.1)

module _ (rules : Rules) (ps : List Procedure) (checked : IsChecked rules ps) where
  none : HasNone rules ps
  none = sound_has_none rules ps checked.sound

  pub units_apart : AreApart (map unit_name ps)
  units_apart = subst AreApart (unit_names ps) (apart_places 19 [] (unit_places ps) (none_behind (reserved_units ps) (repeated_units ps) none.units))

  pub found : Each (Found ps) ps
  found = all_found ps units_apart

  pub all_calls : Each (λ u. Each (CallHasNone ps u) (statements u.body)) ps
  all_calls =
      each_more (λ u. flat_map (λ s. faults_of_call ps u s.0 s.1) (statements u.body) ≡ []) (λ u. Each (CallHasNone ps u) (statements u.body)) (λ u h. none_each (λ s. faults_of_call ps u s.0 s.1) (statements u.body) h) ps
      (none_each (λ u. flat_map (λ s. faults_of_call ps u s.0 s.1) (statements u.body)) ps none.calls)

  -- no call leads back to its unit
  no_cycle : (u : Procedure) → find_unit ps u.name ≡ Some u → Each (λ (c : At Call). calls_lead ps (c.1).0 u.name ≡ false) (calls u)
  no_cycle u f =
      each_more (λ (c : At Call). faults_if (calls_lead ps (c.1).0 u.name) (fault 16 c.0) ≡ []) (λ c. calls_lead ps (c.1).0 u.name ≡ false) (λ c h. none_if (calls_lead ps (c.1).0 u.name) (fault 16 c.0) h) (calls u)
      (none_each (λ (c : At Call). faults_if (calls_lead ps (c.1).0 u.name) (fault 16 c.0)) (calls u)
      (each_found (λ u. flat_map (λ (c : At Call). faults_if (calls_lead ps (c.1).0 u.name) (fault 16 c.0)) (calls u) ≡ []) ps
      (none_each (λ u. flat_map (λ (c : At Call). faults_if (calls_lead ps (c.1).0 u.name) (fault 16 c.0)) (calls u)) ps (first_none (cycles ps) (long_chains rules ps) none.chains)) u.name u f))

  -- ---- a unit that is found

  module _ (name : List ℕ) (u : Procedure) (f : find_unit ps name ≡ Some u) where
    of_names : faults_of_names rules ps u ≡ []
    of_names = each_found (λ u. faults_of_names rules ps u ≡ []) ps (none_each (faults_of_names rules ps) ps none.names) name u f

    once : declared_twice u ≡ []
    once = none_front (declared_twice u) _ (none_behind (undeclared u) _ of_names)

    ranked : misused rules u ≡ []
    ranked = none_front (misused rules u) _ (none_behind (declared_twice u) _ (none_behind (undeclared u) _ of_names))

    extended : bad_extents u ≡ []
    extended = none_front (bad_extents u) _ (none_behind (misused rules u) _ (none_behind (declared_twice u) _ (none_behind (undeclared u) _ of_names)))

    pub written : IsWrittenProcedure u
    written = each_found IsWrittenProcedure ps (each_all IsWrittenProcedure ps checked.written) name u f

    pub kernel : IsKernelCode u.body
    kernel = each_found (λ u. IsKernelCode u.body) ps (each_unit (λ u. IsKernelCode u.body) ps checked.kernel) name u f

    of_writes : faults_of_writes (handed_back ps) u ≡ []
    of_writes = each_found (λ u. faults_of_writes (handed_back ps) u ≡ []) ps (none_each (faults_of_writes (handed_back ps)) ps none.writes) name u f

    sound : Each (StatementSound rules ps u) (statements u.body)
    sound =
        each_sound rules ps u (statements u.body)
        (none_each (λ s. flat_map (λ n. faults_if (not (has_rank u n)) (fault 9 s.0)) (taken_in rules.takes_runtime s.1)) (statements u.body) ranked)
        (each_found (λ u. Each (CallHasNone ps u) (statements u.body)) ps all_calls name u f)
        (none_each (λ s. writes_of_variable (handed_back ps) s.1) (statements u.body) (none_front (written_variables (handed_back ps) u) _ of_writes))
        (names_known u)

    dummies_apart : AreApart u.dummies
    dummies_apart = subst AreApart (dummy_names u.line u.dummies) (apart_places 8 [] (named.dummy_places u) (none_front (again 8 [] (named.dummy_places u)) (again 8 [] (named.declared_places u)) once))

    pub extent_is_dummy : (d : List ℕ) → is_extent d u.declarations ≡ true → has_name d u.dummies ≡ true
    extent_is_dummy d h =
        extents_dummies u d u.declarations
        (each_more (λ d. faults_if (has_bad_extents u d) (fault 12 d.line) ≡ []) (λ d. has_bad_extents u d ≡ false) (λ d e. none_if (has_bad_extents u d) (fault 12 d.line) e) u.declarations
        (none_each (λ d. faults_if (has_bad_extents u d) (fault 12 d.line)) u.declarations extended)) h

    inside_text : AreInside (variables u)
    inside_text = variables_inside u written

    -- full marks meet the laws
    full_laws : UnitLaws (callee_facts full_facts ps) (callee_facts full_facts ps name) (first_statement ps name) u.body
    full_laws = record {
      laws = list_laws ps name (entry_point ps name) (first_statement ps name) u.body (names_given u.body written.body kernel);
      ends = way ps name _ _;
      shadows = λ v a b. refl;
      members = λ d a b. all_members ps name d (find_unit ps name);
    }

  -- ---- with facts that meet the laws

  module _ (sb : Bool) (lines : ReversedLines) (w : ProgramFacts) (head : Procedure) (lawful : AreLawfulForWith sb w ps head) (tells : LinesTell lines sb w ps) where
    abbrev m : ProgramMarks
    m = w.marks

    module _ (name : List ℕ) (u : Procedure) (f : find_unit ps name ≡ Some u) (ins : IsTrue (lawful.reached name)) where
      same_dummies : (callee_facts w ps name).callee.dummies ≡ u.dummies
      same_dummies = ap (λ o. (callee_of m ps name o).dummies) f

      -- what is said of its name is said of that by which it is known
      moved : (p : List ℕ → Bool) → p name ≡ true → p u.name ≡ true
      moved p there = let same : u.name ≡ name = (found_there ps name u f).1 in ap p same ∙ there

      -- what a unit that takes part calls has an adjoint that is called, where the call is adjointed and not split, and both units, where it is split
      answered : (n : List ℕ) → calls_in (λ j. m.adjointed j && not (m.split j)) n (first_statement ps name) u.body ≡ true → takes_part m ps head name ≡ true → answers m ps head n ≡ true
      answered n c there = calls_found_some (takes_part m ps head) (λ j. m.adjointed j && not (m.split j)) n 0 ps name u f (moved (takes_part m ps head) there) c

      paired : (n : List ℕ) → calls_in (λ j. m.adjointed j && m.split j) n (first_statement ps name) u.body ≡ true → takes_part m ps head name ≡ true → has_pair m ps head n ≡ true
      paired n c there = calls_found_some (takes_part m ps head) (λ j. m.adjointed j && m.split j) n 0 ps name u f (moved (takes_part m ps head) there) c

      kept_so : (b : Bool) (n : List ℕ) → kept_calls m ps head n ≡ true → is_kept_with b m ps head n ≡ true
      kept_so true n h = or_left (kept_calls m ps head n) (turns_some (schedules_in true ps) (λ k. has_adjoint m ps head k || has_pair m ps head k) m.adjointed n 0 ps) h
      kept_so false n h = h

      -- what its adjoint calls by a kept call is carried, and what its forward unit calls
      carried : (n : List ℕ) → calls_in (λ j. m.kept j && not (m.split j)) n (first_statement ps name) u.body ≡ true → has_adjoint m ps head name ≡ true → is_carried_with sb m ps head n ≡ true
      carried n c there =
          roots_reached (is_kept_with sb m ps head) (λ i. true) ps name u f n
          (kept_so sb n (or_left (calls_some (has_adjoint m ps head) (λ j. m.kept j && not (m.split j)) n 0 ps) (calls_some (has_pair m ps head) (λ j. not (m.split j)) n 0 ps) (calls_found_some (has_adjoint m ps head) (λ j. m.kept j && not (m.split j)) n 0 ps name u f (moved (has_adjoint m ps head) there) c)))

      carried_forth : (n : List ℕ) → calls_in (λ j. not (m.split j)) n (first_statement ps name) u.body ≡ true → has_pair m ps head name ≡ true → is_carried_with sb m ps head n ≡ true
      carried_forth n c there =
          roots_reached (is_kept_with sb m ps head) (λ i. true) ps name u f n
          (kept_so sb n (or_right (calls_some (has_adjoint m ps head) (λ j. m.kept j && not (m.split j)) n 0 ps) (calls_some (has_pair m ps head) (λ j. not (m.split j)) n 0 ps) (calls_found_some (has_pair m ps head) (λ j. not (m.split j)) n 0 ps name u f (moved (has_pair m ps head) there) c)))

      abbrev turning : List ℕ → Bool
      turning n = has_adjoint m ps head n || has_pair m ps head n

      -- and so is the step unit of a loop that is reversed by a schedule
      turned : (n : List ℕ) → turns_in (schedules_by sb (callee_facts w ps)) m.adjointed n (first_statement ps name) u.body ≡ true → turning name ≡ true → is_carried_with sb m ps head n ≡ true
      turned n c there = roots_reached (is_kept_with sb m ps head) (λ i. true) ps name u f n (turned_so sb c)
        where
          none_turned : turns_in None m.adjointed n (first_statement ps name) u.body ≡ true → ⊥
          none_turned h = let c : true ≡ false = sym h ∙ never_turned m.adjointed n (first_statement ps name) u.body in cc

          turned_so : (b : Bool) → turns_in (schedules_by b (callee_facts w ps)) m.adjointed n (first_statement ps name) u.body ≡ true → is_kept_with b m ps head n ≡ true
          turned_so true h = or_right (kept_calls m ps head n) (turns_some (schedules_in true ps) turning m.adjointed n 0 ps) (turns_found_some (schedules_in true ps) turning m.adjointed n 0 ps name u f (moved turning there) h)
          turned_so false h = absurd (none_turned h)

      pair_fits : has_pair m ps head name ≡ true → PairFits (schedules_by sb (callee_facts w ps)) lines ps (callee_facts w ps) (answers m ps head) (has_pair m ps head) (is_carried_with sb m ps head) name u (first_statement ps name) (variables u) (arrays_of u)
      pair_fits there = record {
        code =
            (let written_unit = written name u f in
            list_fits sb lines rules w ps name u true (answers m ps head) (has_pair m ps head) (is_carried_with sb m ps head) (split_marks (callee_facts w ps name).facts.marks) (first_statement ps name) u.body written_unit.body (kernel name u f) (sound name u f)
            (λ n c pr. answered n c (pair_part m ps head name u f there)) (λ n c pr. paired n c (pair_part m ps head name u f there)) (λ n c pr. carried_forth n c there)
            (λ n c pr. turned n c (or_right (has_adjoint m ps head name) (has_pair m ps head name) there)) (tells name u f));
        calls = lawful.reads name u f ins there;
        written = λ x h. wrote (variables u) (handed_back ps) x u.body (kernel name u f) (names_known u) h;
        extents = λ d h. extents_spared ps u (none_front (written_extents (handed_back ps) u) _ (none_behind (written_variables (handed_back ps) u) _ (of_writes name u f))) d (extent_is_dummy name u f d h) h;
        inside = λ x. none_declared u (inside_text name u f) x;
      }

      unit_fits : UnitFitsBy (schedules_by sb (callee_facts w ps)) lines ps (callee_facts w ps) (has_adjoint m ps head) (answers m ps head) (has_pair m ps head) (is_carried_with sb m ps head) name u (first_statement ps name) (variables u) (arrays_of u)
      unit_fits = record {
        dummies = sym same_dummies;
        dummies_apart = subst AreApart (sym same_dummies) (dummies_apart name u f);
        vars_apart = variables_apart u;
        dummies_among = λ d h. dummy_among u d (subst (λ ds. has_name d ds ≡ true) same_dummies h);
        scalars = λ x h. no_extents (declared u.declarations (plain x)) h;
        wrote = λ d. ap (λ o. (callee_of m ps name o).written (plain d)) f;
        reads = λ d. ap (λ o. read_by ps o d) f;
        shadowed = λ v. shadows_said m ps name v (find_unit ps name);
        inert = λ h. sym (ap (λ o. plain_by (marks_in m name) (first_statement ps name) o) f) ∙ h;
        laws = lawful.laws name u f ins;
        extents = λ d h. members_said m ps name d (find_unit ps name) (lawful.extents name u f ins d h);
        code =
            (let written_unit = written name u f in
            list_fits sb lines rules w ps name u (has_adjoint m ps head name) (answers m ps head) (has_pair m ps head) (is_carried_with sb m ps head) (marks_in m name) (first_statement ps name) u.body written_unit.body (kernel name u f) (sound name u f)
            (λ n c there. answered n c (adjoint_part m ps head name u f there)) (λ n c there. paired n c (adjoint_part m ps head name u f there)) (λ n c there. carried n c there)
            (λ n c there. turned n c (or_left (has_adjoint m ps head name) (has_pair m ps head name) there)) (tells name u f));
        pair = pair_fits;
      }

    pub source_fits : (number : ℕ) → unit_at number ps ≡ head ∷ [] → SourceFitsWith sb lines w ps head
    source_fits number is = record {
      reached = lawful.reached;
      head_reached = lawful.head_reached;
      closed = lawful.closed;
      units = λ name v f c. unit_fits name v f c;
      apart = dummies_apart;
      inside = λ name v f. inside_text name v f;
      extents = λ name v f d h. extent_is_dummy name v f d h;
      known = calls_known ps ps all_calls;
      there = (each_at (Found ps) number ps head found is).0;
      uncalled =
          not_true (answers m ps head head.name)
          (λ e.
          let p : true ≡ false = sym (wider_some (takes_part m ps head) (λ j. m.adjointed j && not (m.split j)) m.adjointed (λ j q. (and_true (m.adjointed j) (not (m.split j)) q).0) head.name 0 ps e) ∙ head_uncalled ps found m.adjointed head.name no_cycle in
          cc);
    }

  -- what meets the laws of all units does so for each head
  pub lawful_for : (w : ProgramFacts) → AreLawful w ps → (number : ℕ) (head : Procedure) → unit_at number ps ≡ head ∷ [] → AreLawfulFor w ps head
  lawful_for w lawful number head is = record {
    reached = is_unit ps;
    head_reached = (found_there ps head.name head (each_at (Found ps) number ps head found is).0).0;
    closed = λ name u f c. calls_inside ps u u.body (each_found (λ u. Each (CallHasNone ps u) (statements u.body)) ps all_calls name u f);
    laws = λ name u f c. lawful.laws name u f;
    extents = λ name u f c. lawful.extents name u f;
    reads = λ name u f c p. lawful.reads head name u f p;
  }

  pub full_lawful : AreLawful full_facts ps
  full_lawful = record {
    laws = λ name u f. full_laws name u f;
    extents = λ name u f d h. refl;
    reads = λ head name u f p. absurd (let q : true ≡ false = sym p ∙ nowhere_some (takes_part full_marks ps head) name 0 ps in cc);
  }

-- where no loop is reversed by a schedule
pub no_lines : (w : ProgramFacts) (ps : List Procedure) → LinesTell (λ line. None) false w ps
no_lines w ps name u f = none_told (callee_facts w ps) w.marks.adjointed (first_statement ps name) u.body

pub lawful_fits : LawfulFits
lawful_fits rules ps checked w lawful head u is = source_fits rules ps checked false (λ line. None) w u (lawful_for rules ps checked w lawful head u is) (no_lines w ps) head is

pub lawful_is_adjoint : LawfulIsAdjoint
lawful_is_adjoint rules ps checked w lawful head vars outvars u is suits = emitted_is_adjoint false (λ line. None) w ps head vars outvars u is (lawful_fits rules ps checked w lawful head u is) suits

pub reached_is_adjoint : ReachedIsAdjoint
reached_is_adjoint rules ps checked w head vars outvars u is schedules lines lawful tells suits = emitted_is_adjoint schedules lines w ps head vars outvars u is (source_fits rules ps checked schedules lines w u lawful tells head is) suits

pub checked_fits : CheckedFits
checked_fits rules ps checked head u is = lawful_fits rules ps checked full_facts (full_lawful rules ps checked) head u is

pub checked_is_adjoint : CheckedIsAdjoint
checked_is_adjoint rules ps checked head vars outvars u is = full_is_adjoint ps head vars outvars u is (checked_fits rules ps checked head u is)
