-- What `check` runs as the emitted program of a head, and what holds of it.
use Rattle.std.proofs.Common.{◌≡◌, ℕ, ◌≤◌, Bool, true, List, length, Some, None, refl, sym, ap, ◌∙◌, subst}
use Rattle.std.specs.Prelude.{Ok}
use Rattle.std.specs.List.{slice_get}
use Rattle.std.proofs.lemmas.List.{length-map}
use Rattle.adj_tree.specs.Code.{Procedure}
use Rattle.adj_tree.specs.Lines.{unlined}
use Rattle.adj_tree.specs.declared.marks.Head.{Head}
use Rattle.def_common.specs.Source.{ReadsLowered, KeepsRuns}
use Rattle.def_text.specs.Reads.{ReadsSplits}
use Rattle.def_text.specs.Text.{text_of}
use Rattle.def_text.specs.Written.{IsWritten}
use Rattle.def_text.specs.declared.mode.Mode.TheVariants.{Source, Run}
use Rattle.def_meaning.specs.Written.{find_unit}
use Rattle.def_meaning.specs.Apart.{has_name}
use Rattle.def_names.specs.Check.{IsSound}
use Rattle.def_names.specs.Fault.{run_rules}
use Rattle.def_names.specs.HeadFaults.{first_head_fault, flags_found, unit_number, head_of}
use Rattle.def_names.specs.Variables.{variables}
use Rattle.def_sweep.specs.MarkedAdjoint.{shadow_flags}
use Rattle.def_sweep.specs.Marking.{ProgramMarks}
use Rattle.def_sweep.specs.Names.{adjoint_name}
use Rattle.def_sweep.specs.Reversals.{ReversedLines}
use Rattle.law_emitted.specs.Shadowed.{AllHaveShadows}
use Rattle.def_kernel.specs.Kernel.{EachUnit}
use Rattle.def_adjoint.specs.KernelShape.{HasKernelShape}
use Rattle.def_kernel.specs.Stepped.{kernel_of}
use Rattle.law_kernel.specs.Sound.{IsAccepted}
use Rattle.def_adjoint.specs.Adjoint.{IsAdjointOf}
use Rattle.law_emitted.proofs.Kernels.{kernel_checked, found_name, becomes}
use Rattle.law_analysed.proofs.Lending.{exact_shadows}
use Rattle.def_text.specs.OrTooMany.{OrTooMany}
use Rattle.law_limits.specs.Limits.{EmittedIsRunnableWith}
use Rattle.def_planned.specs.Planned.{split_problem, lines_by, reversed_for, marks_by}
use Rattle.law_planned.proofs.Planned as planned
use Rattle.law_planned.proofs.OwnNames.{own_names}
use Rattle.law_analysed.specs.MarkedLines.{program_lines, AreLinesApart}
use Rattle.adj_tool_answer.specs.Answer.{Answer}
use Rattle.adj_tool_answer.specs.Laws.{ProgramTold}
use Rattle.def_refused.specs.TextFaults.{program_of}
use Rattle.adj_data.specs.Fitting.{IsSized}
use Rattle.adj_tool_answer.specs.Endings.{Asked}
use Rattle.adj_tool_answer.proofs.Heads.{numbered}
use Rattle.adj_tool_answer.proofs.Sized.{sized}
use Rattle.adj_tool_check.specs.Checking.{Sides, check_answer}
use Rattle.adj_tool_check.specs.Emitted as checking
use Rattle.adj_tool_check.specs.Emitted.{IsRunnable, read_back}
use Rattle.adj_tool_check.specs.Agreeing.{AreAdjoint, Agrees, CheckAgrees, CheckTraps}
use Rattle.adj_tool_check.proofs.Readings.{alike_read}
use Rattle.adj_tool.specs.Check.{AreSides, IsChecked, IsCompared}
use Rattle.adj_tool.specs.Exactly.{IsReadBack, RunsWritten}
use Rattle.adj_tool.specs.Headline.{RunsAdjoint}
use Rattle.adj_tool.proofs.Runs.{has_shape, runs_adjoint}
use Rattle.adj_tool.specs.Fitting.{most_numbered, kernel_fits}
use Rattle.adj_tool.specs.Headline.{IsUnit, flags_of}
use Rattle.adj_tool.specs.Planned.{IsKnownFor, AreExact}
use Rattle.adj_tool.proofs.Heads.{head_there, few_variables, fits_widest}

-- the adjoint of a head in a program is one unit, whichever names are asked for
one_adjoint : (ps : List Procedure) (name : List ℕ) (qs : List Procedure) (lines : ReversedLines) (m : ProgramMarks) (vars outvars others outothers : List Bool) (x : IsAdjointOf lines m ps name vars outvars qs) (y : IsAdjointOf lines m ps name others outothers qs) → x.adjoint ≡ y.adjoint
one_adjoint ps name qs lines m vars outvars others outothers x y =
    let kernels : Some x.kernel ≡ Some y.kernel = sym x.becomes ∙ y.becomes in
    let same : x.kernel ≡ y.kernel = cc in
    let adjoints : Some x.adjoint ≡ Some y.adjoint = sym x.is_there ∙ ap (λ k. find_unit qs (adjoint_name (kernel_of ps) k)) same ∙ y.is_there in
    cc

module _ (lines : List ℕ) (ps : List Procedure) (name : List ℕ) (h : Head) (accepted : IsAccepted ps) (qs : List Procedure) (adjoint : List ℕ) (shadowed : List Bool)
    (known : IsKnownFor lines (kernel_of ps) (record { unit = unit_number (kernel_of ps) name; vars = h.vars; outvars = h.outvars }) qs adjoint shadowed) where
  abbrev m : ProgramMarks
  m = marks_by lines ps known.emitted.activity known.emitted.liveness known.emitted.saved known.emitted.held

  -- it is what exact analyses have emitted
  pub exact : AreExact lines ps name h m
  exact = record { activity = known.emitted.activity; liveness = known.emitted.liveness; saved = known.emitted.saved; held = known.emitted.held; analysed = known.emitted.analysed; are = refl }

  -- its text reads as it, or has too many statements
  reads_as : EmittedIsRunnableWith true → kernel_fits (kernel_of ps) ≡ true → (bytes : List ℕ) → program_of Source bytes ≡ Ok ps → OrTooMany (λ found. unlined found ≡ unlined qs) (program_of Run (text_of qs))
  reads_as runnable fits bytes given =
      let x = known.emitted in
      let few : EachUnit (λ v. length (variables v) ≤ most_numbered) (kernel_of ps) = few_variables (kernel_of ps) (fits_widest (kernel_of ps) fits) in
      let shadows : AllHaveShadows m (kernel_of ps) (kernel_of ps) = exact_shadows run_rules (split_problem lines ps name h.vars h.outvars) (kernel_checked ps accepted) x.activity x.analysed.active m refl (λ n. refl) in
      subst (λ z. OrTooMany (λ found. unlined found ≡ unlined z) (program_of Run (text_of z))) (sym x.emitted) (runnable bytes ps given accepted few m shadows (planned.splits ps accepted lines true m refl) (unit_number (kernel_of ps) name) h.vars h.outvars)

  module _ (apart : AreLinesApart (program_lines ps)) (u : Procedure) (found : find_unit ps name ≡ Some u) where
    pub adjoins : (others : List Procedure) → unlined qs ≡ unlined others → IsAdjointOf (lines_by ps m) m ps name h.vars h.outvars others
    adjoins others same =
        let x = known.emitted in
        planned.is_reversed ps accepted apart name u found h.vars h.outvars lines x.activity x.liveness x.saved x.held x.analysed others (ap unlined (sym x.emitted) ∙ same)

    -- and so are its looks and what its run takes
    pub runs_for : (others : List Procedure) → unlined qs ≡ unlined others → RunsAdjoint lines m ps name h.vars h.outvars others
    runs_for others same = let x = known.emitted in runs_adjoint ps accepted apart name u found h.vars h.outvars lines x.activity x.liveness x.saved x.held x.analysed others (ap unlined (sym x.emitted) ∙ same)

    pub shape_for : (others : List Procedure) → unlined qs ≡ unlined others → HasKernelShape true m ps name h.vars h.outvars others
    shape_for others same = let x = known.emitted in has_shape ps accepted apart name u found h.vars h.outvars lines x.activity x.liveness x.saved x.held x.analysed others (ap unlined (sym x.emitted) ∙ same)

    -- the shadows of the head are those of what it becomes
    pub shadows_are : (v : Procedure) → find_unit ps name ≡ Some v → shadowed ≡ shadow_flags (m.shadowed name) v.dummies
    shadows_are v there =
        let a = adjoins qs refl in
        let like = becomes ps name v a.kernel there a.becomes in
        known.shadows a.kernel (numbered (kernel_of ps) name a.kernel a.becomes)
        ∙ (λ i. shadow_flags (m.shadowed (found_name (kernel_of ps) name a.kernel a.becomes i)) (like.same_dummies i))

    pub emitted_for : EmittedIsRunnableWith true → kernel_fits (kernel_of ps) ≡ true → (bytes : List ℕ) → program_of Source bytes ≡ Ok ps → checking.IsEmittedFor ps name h.vars h.outvars qs adjoint shadowed
    emitted_for runnable fits bytes given =
        let x = known.emitted in
        record {
          runnable = record {
            written = subst IsWritten (sym x.emitted) (planned.reversed_written ps accepted name h.vars h.outvars lines x.activity x.liveness x.saved x.held x.analysed);
            reads = reads_as runnable fits bytes given;
            sound = λ others same. planned.reversed_sound ps accepted name h.vars h.outvars lines x.activity x.liveness x.saved x.held x.analysed others (ap unlined (sym x.emitted) ∙ same);
          };
          lines = lines_by ps m;
          own_names = own_names ps accepted m;
          marks = m;
          adjoins = adjoins;
          named = λ k there. known.named k (numbered (kernel_of ps) name k there);
          shadows = shadows_are;
        }

    -- both sides, and what holds of them
    module _ (runnable : IsRunnable qs) where
      abbrev pub runs_back : RunsAdjoint lines m ps name h.vars h.outvars (read_back qs)
      runs_back = runs_for (read_back qs) (alike_read qs runnable)

      abbrev back : IsAdjointOf (lines_by ps m) m ps name h.vars h.outvars (read_back qs)
      back = runs_back.adjoins

      abbrev sides : Sides
      sides = record { source = ps; head = u; vars = h.vars; outvars = h.outvars; emitted = read_back qs; adjoint = back.adjoint; shadowed = shadowed }

      -- the adjoint is found by the name that is known
      pub adjoint_there : find_unit (read_back qs) adjoint ≡ Some back.adjoint
      adjoint_there = ap (find_unit (read_back qs)) (known.named back.kernel (numbered (kernel_of ps) name back.kernel back.becomes)) ∙ back.is_there

      abbrev pub are_sides : AreSides lines ps name h sides
      are_sides = record {
        source = refl;
        is_head = found;
        vars = refl;
        outvars = refl;
        marks = m;
        exact = exact;
        runs = runs_back;
        shape = shape_for (read_back qs) (alike_read qs runnable);
        adjoint = refl;
        shadows = shadows_are u found;
      }

      -- what is run is what is emitted, printed and read back
      pub is_read_back : ProgramTold → IsReadBack (reversed_for ps name h.vars h.outvars m) (read_back qs)
      is_read_back told = let planned = reversed_for ps name h.vars h.outvars m in record { found = program_of Run (text_of planned); is = told Run (text_of planned); such = ap read_back known.emitted.emitted }

      same_head : u ≡ back.unit
      same_head = let both : Some u ≡ Some back.unit = sym found ∙ back.is_head in cc

      pub are_adjoint : IsSized u → length h.vars ≡ length u.dummies → length h.outvars ≡ length u.dummies → AreAdjoint sides
      are_adjoint sized vars outvars = record {
        sized = sized;
        vars = vars;
        outvars = outvars;
        side = record { lines = lines_by ps m; own_names = own_names ps accepted m; marks = m; name = name; adjoins = back; is_head = same_head; is_adjoint = refl; shadows = shadows_are u found };
      }

-- ---- the head that is asked for

module _ (ps : List Procedure) (name : List ℕ) (vars outvars : List (List ℕ)) (sound : first_head_fault ps name vars outvars ≡ None) (h : Head) (is : h ≡ head_of ps name vars outvars) where
  abbrev there : IsUnit ps name
  there = head_there ps name vars outvars sound

  -- its number is that of its unit
  pub unit_at : slice_get ps h.unit ≡ Some there.unit
  unit_at = ap (λ (z : Head). slice_get ps z.unit) is ∙ numbered ps name there.unit there.found

  pub unit_is : (v : Procedure) → slice_get ps h.unit ≡ Some v → there.unit ≡ v
  unit_is v at = let both : Some there.unit ≡ Some v = sym unit_at ∙ at in cc

  pub named_there : (v : Procedure) → slice_get ps h.unit ≡ Some v → find_unit ps v.name ≡ Some v
  named_there v at =
      let same = unit_is v at in
      subst (λ w. find_unit ps w.name ≡ Some w) same (ap (find_unit ps) (found_name ps name there.unit there.found) ∙ there.found)

  pub name_is : (v : Procedure) → slice_get ps h.unit ≡ Some v → v.name ≡ name
  name_is v at = ap (λ (w : Procedure). w.name) (sym (unit_is v at)) ∙ found_name ps name there.unit there.found

  vars_are : h.vars ≡ flags_of vars there.unit.dummies
  vars_are = ap (λ (z : Head). z.vars) is ∙ ap (λ o. flags_found o vars) there.found

  outvars_are : h.outvars ≡ flags_of outvars there.unit.dummies
  outvars_are = ap (λ (z : Head). z.outvars) is ∙ ap (λ o. flags_found o outvars) there.found

  -- it has a flag for each dummy
  pub many_vars : (v : Procedure) → slice_get ps h.unit ≡ Some v → length h.vars ≡ length v.dummies
  many_vars v at = ap length vars_are ∙ length-map there.unit.dummies (λ d. has_name d vars) ∙ ap (λ (w : Procedure). length w.dummies) (unit_is v at)

  pub many_outvars : (v : Procedure) → slice_get ps h.unit ≡ Some v → length h.outvars ≡ length v.dummies
  many_outvars v at = ap length outvars_are ∙ length-map there.unit.dummies (λ d. has_name d outvars) ∙ ap (λ (w : Procedure). length w.dummies) (unit_is v at)

-- ---- the answer to data

module _ (r : Asked) (vars outvars : List (List ℕ)) (lines : List ℕ) (ps : List Procedure) (accepted : IsAccepted ps) (clean : IsSound run_rules ps) (apart : AreLinesApart (program_lines ps)) (sound : first_head_fault ps r.head vars outvars ≡ None) (h : Head) (is : h ≡ head_of ps r.head vars outvars)
    (qs : List Procedure) (adjoint : List ℕ) (shadowed : List Bool) (known : IsKnownFor lines (kernel_of ps) (record { unit = unit_number (kernel_of ps) r.head; vars = h.vars; outvars = h.outvars }) qs adjoint shadowed) (runnable : IsRunnable qs) where
  abbrev head : IsUnit ps r.head
  head = there ps r.head vars outvars sound h is

  abbrev both : Sides
  both = sides lines ps r.head h accepted qs adjoint shadowed known apart head.unit head.found runnable

  abbrev are_both : AreSides lines ps r.head h both
  are_both = are_sides lines ps r.head h accepted qs adjoint shadowed known apart head.unit head.found runnable

  both_adjoint : AreAdjoint both
  both_adjoint =
      let at = unit_at ps r.head vars outvars sound h is in
      are_adjoint lines ps r.head h accepted qs adjoint shadowed known apart head.unit head.found runnable (sized ps accepted.written clean h.unit head.unit at)
      (many_vars ps r.head vars outvars sound h is head.unit at) (many_outvars ps r.head vars outvars sound h is head.unit at)

  pub is_checked : CheckTraps → (bytes : List ℕ) (a : Answer) → a ≡ check_answer r both bytes → IsChecked lines ps h r bytes a
  is_checked law bytes a same = record { sides = both; are_sides = are_both; is = same; traps = law r both both_adjoint bytes }

  pub runs_written : CheckTraps → ProgramTold → (bytes : List ℕ) (a : Answer) → a ≡ check_answer r both bytes → RunsWritten lines ps h r bytes a
  unfolding is_checked
  runs_written law told bytes a same = record { checked = is_checked law bytes a same; emitted = is_read_back lines ps r.head h accepted qs adjoint shadowed known apart head.unit head.found runnable told }

  runs_asked : RunsAdjoint lines are_both.marks ps r.head (head_of ps r.head vars outvars).vars (head_of ps r.head vars outvars).outvars both.emitted
  runs_asked = subst (λ (z : Head). RunsAdjoint lines are_both.marks ps r.head z.vars z.outvars both.emitted) is are_both.runs

  -- by the names that were asked for
  abbrev are_asked : AreSides lines ps r.head (head_of ps r.head vars outvars) both
  are_asked = record {
    source = refl;
    is_head = head.found;
    vars = ap (λ (z : Head). z.vars) is;
    outvars = ap (λ (z : Head). z.outvars) is;
    marks = are_both.marks;
    exact = subst (λ z. AreExact lines ps r.head z are_both.marks) is are_both.exact;
    runs = runs_asked;
    shape = subst (λ (z : Head). HasKernelShape true are_both.marks ps r.head z.vars z.outvars both.emitted) is are_both.shape;
    adjoint = one_adjoint ps r.head both.emitted (lines_by ps are_both.marks) are_both.marks _ _ _ _ are_both.runs.adjoins runs_asked.adjoins;
    shadows = are_both.shadows;
  }

  pub is_compared : CheckAgrees → (bytes : List ℕ) (reads : ReadsLowered bytes ps) → KeepsRuns reads.shared → ReadsSplits bytes lines → (a : Answer) → a ≡ check_answer r both bytes → IsCompared r vars outvars bytes a
  unfolding both_adjoint are_adjoint
  is_compared law bytes reads keeps marked a same = λ done. record {
    source = ps;
    reads = reads;
    keeps = keeps;
    splits = lines;
    reads_splits = marked;
    sides = both;
    are_sides = are_asked;
    agrees = subst (λ (z : Answer). Agrees r (lines_by ps are_both.marks) both bytes z.text) (sym same) (law r both both_adjoint bytes (ap (λ (z : Answer). z.status) (sym same) ∙ done));
  }
