-- The head that is asked for, and what the text of its adjoint is.
use Rattle.std.proofs.Common.{arith, ◌≡◌, inl, inr, ℕ, ◌<◌, ◌≤◌, List, [], ◌∷◌, length, map, Option, Some, None, refl, sym, ap, ap₂, ◌∙◌, subst}
use Rattle.std.proofs.Math.Nat.{le-max_left, le-max_right}
use Rattle.std.proofs.lemmas.Bool.{ltb-false, le-ltb}
use Rattle.std.proofs.lemmas.List.{length-map}
use Rattle.std.specs.Prelude.{Bool, true, false, not, nat_lt, ◌&&◌, ◌^◌, Result, Ok}
use Rattle.adj_tree.specs.Code.{Procedure}
use Rattle.adj_tree.specs.View.{procedure_of, procedures_of}
use Rattle.adj_tree.specs.declared.unit.Program.{Program}
use Rattle.adj_tree.specs.declared.marks.Head.{Head}
use Rattle.def_meaning.specs.Written.{find_unit}
use Rattle.def_common.specs.Source.{ReadsLowered, KeepsRuns}
use Rattle.def_text.specs.Reads.{ReadsSplits}
use Rattle.def_text.specs.ReadsAs.{ReadsAs}
use Rattle.def_text.specs.Written as texts
use Rattle.def_text.specs.Text.{text_of}
use Rattle.def_text.specs.declared.mode.Mode.TheVariants.{Source, Run}
use Rattle.adj_tree.specs.declared.fault.Refusal.{Refusal}
use Rattle.adj_tree.specs.Lines.{unlined}
use Rattle.law_text.proofs.TextUnlined.{one_text}
use Rattle.def_names.specs.Fault.{source_rules, run_rules, first_of}
use Rattle.def_names.specs.Check.{IsSound}
use Rattle.def_names.specs.HeadFaults.{first_head_fault, faults_of_head, flags_found, unit_number, head_of}
use Rattle.def_sweep.specs.Marking.{ProgramMarks}
use Rattle.def_names.specs.Variables.{variables}
use Rattle.adj_symbols.specs.Numbers.{Fits, widest}
use Rattle.adj_symbols.specs.Checked.{Known, AreFacts}
use Rattle.def_names.proofs.Variables.{and_true}
use Rattle.def_names.specs.StatementsIn.{statements_in}
use Rattle.law_analysed.specs.MarkedLines.{program_lines, AreLinesApart}
use Rattle.law_planned.proofs.ReadLines.{read_apart}
use Rattle.adj_tool.proofs.LoweredLines.{lowered_lines}
use Rattle.law_emitted.specs.Shadowed.{AllHaveShadows}
use Rattle.def_kernel.specs.Form.{IsKernel}
use Rattle.def_kernel.specs.Kernel.{EachUnit}
use Rattle.def_kernel.specs.Stepped.{kernel_of}
use Rattle.law_kernel.specs.Sound.{IsAccepted}
use Rattle.law_emitted.specs.Splits.{AllMaySplit}
use Rattle.law_emitted.proofs.Kernels.{kernel_checked, head_within}
use Rattle.law_analysed.proofs.Lending.{exact_shadows}
use Rattle.def_text.specs.OrTooMany.{OrTooMany}
use Rattle.law_limits.specs.Limits.{EmittedIsRunnableWith}
use Rattle.law_names.proofs.Lines.{sound_lines}
use Rattle.def_adjoint.specs.KernelShape.{HasKernelShape}
use Rattle.def_flow.specs.Carried.{IsCarrying, carried_by}
use Rattle.def_tangent.specs.IsTangent.{IsTangentOfSource}
use Rattle.def_tangent.specs.Program.{tangent_for}
use Rattle.law_tangent_carried.specs.Limits.{TangentIsRunnable}
use Rattle.law_tangent_carried.proofs.Written.{tangent_is_written}
use Rattle.law_tangent_carried.proofs.SoundTexts.{tangent_is_sound}
use Rattle.law_tangent_carried.proofs.Weighing.{accepted_by_weight}
use Rattle.def_planned.specs.Planned.{kernel_problem, split_problem, reversed_for, marks_by}
use Rattle.law_planned.proofs.Planned as planned
use Rattle.adj_tool.specs.Planned.{IsEmittedFor, AreExact, IsTangentEmitted, IsTextFor}
use Rattle.adj_tool.specs.declared.task.Wanted.{Wanted}
use Rattle.adj_tool.specs.declared.task.Wanted.TheVariants as wanted
use Rattle.adj_tool.specs.Arguments.{Request}
use Rattle.adj_tool_answer.specs.Answer.{Answer}
use Rattle.adj_tool_answer.specs.Laws.{ProgramTold}
use Rattle.def_refused.specs.TextFaults.{program_of}
use Rattle.adj_tool_answer.proofs.BlocksKept.{blocks_kept}
use Rattle.adj_tool.proofs.Runs.{has_shape, runs_adjoint}
use Rattle.adj_tool.specs.Fitting.{most_numbered, is_numbered, kernel_fits}
use Rattle.adj_tool.specs.Answer.{most_bytes, IsGiven}
use Rattle.adj_tool.specs.Exactly.{ReadsFor, ReadsTangent, ReadsWritten}
use Rattle.adj_tool.specs.Headline.{IsUnit, IsCanonical, Rewrites, RunsAdjoint, Writes, EmitsAdjoint, EmitsTangent, flags_of}

-- where the head has no fault, it is there
pub head_there : (ps : List Procedure) (name : List ℕ) (vars outvars : List (List ℕ)) → first_head_fault ps name vars outvars ≡ None → IsUnit ps name
head_there ps name vars outvars h = go (find_unit ps name) refl h
  where
    go : (o : Option Procedure) → find_unit ps name ≡ o → first_of (faults_of_head o vars outvars) ≡ None → IsUnit ps name
    go None e k = absurd cc
    go (Some u) e k = record { unit = u; found = e }

-- ---- a kernel that fits

pub few_variables : (us : List Procedure) → widest (map variables us) ≤ most_numbered → EachUnit (λ v. length (variables v) ≤ most_numbered) us
few_variables [] l = tt
few_variables (u ∷ us) l =
    let first = le-max_left (length (variables u)) (widest (map variables us)) in
    let rest = le-max_right (length (variables u)) (widest (map variables us)) in
    (omega (arith, first, l), few_variables us (omega (arith, rest, l)))

counted_is : (n : ℕ) → is_numbered n ≡ true → n ≤ most_numbered
counted_is n h = go (nat_lt most_numbered n) refl h
  where
    go : (b : Bool) → nat_lt most_numbered n ≡ b → not b ≡ true → n ≤ most_numbered
    go true e k = absurd cc
    go false e k = ltb-false most_numbered n e

pub fits_widest : (us : List Procedure) → kernel_fits us ≡ true → widest (map variables us) ≤ most_numbered
fits_widest us h =
    let units = is_numbered (length us) in
    let statements = is_numbered (statements_in 0 us) in
    let wide = is_numbered (widest (map variables us)) in
    counted_is (widest (map variables us)) (and_true statements wide (and_true units (statements && wide) h).1).1

numbered : (n : ℕ) → n < 2 ^ 30 → is_numbered n ≡ true
numbered n l = ap not (le-ltb most_numbered n (omega (arith, l)))

-- what is checked and has few units, statements and variables is a kernel that fits
pub fits_known : (k : Known) (us : List Procedure) → procedures_of k.program ≡ us → AreFacts k → Fits k → kernel_fits us ≡ true
fits_known k us p h f =
    let wide : widest k.variables ≡ widest (map variables (procedures_of k.program)) = ap widest h.variables in
    subst (λ vs. kernel_fits vs ≡ true) p
    (ap₂ ◌&&◌ (numbered (length (procedures_of k.program)) f.units) (ap₂ ◌&&◌ (numbered (statements_in 0 (procedures_of k.program)) f.statements) (numbered (widest (map variables (procedures_of k.program))) (subst (λ n. n < 2 ^ 30) wide f.variables))))

-- no two marked loops of a program stand at one line that a text within the limit gives
pub lines_apart : (bytes : List ℕ) (ps : List Procedure) → length bytes ≤ most_bytes → ReadsLowered bytes ps → AreLinesApart (program_lines ps)
lines_apart bytes ps few reads = subst (λ qs. AreLinesApart (program_lines qs)) (sym reads.is) (subst AreLinesApart (sym (lowered_lines reads.shared)) (read_apart bytes reads.shared reads.reads (omega (arith, few))))

-- what is read as one program is read as one that differs in line numbers alone
other_lines : (one other : List Procedure) → unlined one ≡ unlined other → (r : Result (List Procedure) Refusal) → OrTooMany (λ found. unlined found ≡ unlined one) r → OrTooMany (λ found. unlined found ≡ unlined other) r
other_lines one other same r (inl x) = inl (x.0, x.1, x.2 ∙ same)
other_lines one other same r (inr x) = inr x

module _ (r : Request) (ps : List Procedure) (h : Head) (sound : first_head_fault ps r.head r.vars r.outvars ≡ None) (is : h ≡ head_of ps r.head r.vars r.outvars) where
  there : IsUnit ps r.head
  there = head_there ps r.head r.vars r.outvars sound

  vars_is : h.vars ≡ flags_of r.vars there.unit.dummies
  vars_is = ap (λ (z : Head). z.vars) is ∙ ap (λ o. flags_found o r.vars) there.found

  outvars_is : h.outvars ≡ flags_of r.outvars there.unit.dummies
  outvars_is = ap (λ (z : Head). z.outvars) is ∙ ap (λ o. flags_found o r.outvars) there.found

  -- it is an adjoint, and has the shape, by these marks
  abbrev Adjoins : List ℕ → ProgramMarks → List Bool → List Bool → List Procedure → Type 0
  Adjoins lines m vars outvars qs = RunsAdjoint lines m ps r.head vars outvars qs × HasKernelShape true m ps r.head vars outvars qs

  -- the text of what is emitted is a program
  rewrites : (qs : List Procedure) (text : List ℕ) (back : ReadsAs text qs) (bytes : List ℕ) (reads : ReadsLowered bytes ps) → KeepsRuns reads.shared → Rewrites r bytes text
  rewrites qs text back bytes reads keeps = record {
    source = ps;
    reads = reads;
    keeps = keeps;
    unit = there.unit;
    is_head = there.found;
    emitted = back.0;
    reads_back = back.1;
  }

  -- it has other lines than the one that was printed
  canonical : (qs : List Procedure) (text : List ℕ) → text ≡ text_of qs → (back : ReadsAs text qs) → IsSound run_rules back.0 → OrTooMany (λ found. unlined found ≡ unlined qs) (program_of Run (text_of qs)) → ProgramTold →
      (bytes : List ℕ) (reads : ReadsLowered bytes ps) (keeps : KeepsRuns reads.shared) → IsCanonical r bytes text (rewrites qs text back bytes reads keeps)
  unfolding rewrites
  canonical qs text is_text back sound runs told bytes reads keeps = record {
    text = is_text ∙ one_text qs back.0 (sym back.2);
    runs = record {
      found = program_of Run text;
      is = told Run text;
      such = subst (λ (z : List ℕ). OrTooMany (λ found. unlined found ≡ unlined back.0) (program_of Run z)) (sym is_text) (other_lines qs back.0 (sym back.2) (program_of Run (text_of qs)) runs);
    };
    sound = sound;
  }

  -- the program that the text is, is an adjoint of the text that reads as the program
  pub head_adjoins : IsAccepted ps → EmittedIsRunnableWith true → ProgramTold → (lines : List ℕ) (text : List ℕ) → ReadsWritten lines ps r.head h text → (bytes : List ℕ) → length bytes ≤ most_bytes → ReadsSplits bytes lines → ReadsLowered bytes ps → program_of Source bytes ≡ Ok ps → EmitsAdjoint r bytes text
  unfolding rewrites
  head_adjoins accepted runnable told lines text back bytes few marked reads given =
      let x = back.exact in
      let m = marks_by lines ps x.activity x.liveness x.saved x.held in
      let qs = reversed_for ps r.head h.vars h.outvars back.marks in
      let same : unlined (reversed_for ps r.head h.vars h.outvars m) ≡ unlined back.reads.0 = ap (λ n. unlined (reversed_for ps r.head h.vars h.outvars n)) (sym x.are) ∙ sym back.reads.2 in
      let narrow : EachUnit (λ v. length (variables v) ≤ most_numbered) (kernel_of ps) = few_variables (kernel_of ps) (fits_widest (kernel_of ps) back.fits) in
      let shadows : AllHaveShadows back.marks (kernel_of ps) (kernel_of ps) =
      subst (λ n. AllHaveShadows n (kernel_of ps) (kernel_of ps)) (sym x.are) (exact_shadows run_rules (split_problem lines ps r.head h.vars h.outvars) (kernel_checked ps accepted) x.activity x.analysed.active m refl (λ n. refl)) in
      let may : AllMaySplit true back.marks (kernel_of ps) (kernel_of ps) = subst (λ n. AllMaySplit true n (kernel_of ps) (kernel_of ps)) (sym x.are) (planned.splits ps accepted lines true m refl) in
      let runs : OrTooMany (λ found. unlined found ≡ unlined qs) (program_of Run (text_of qs)) = runnable bytes ps given accepted narrow back.marks shadows may (unit_number (kernel_of ps) r.head) h.vars h.outvars in
      let keeps : KeepsRuns reads.shared = blocks_kept source_rules Source bytes ps given accepted.sound reads in
      let exact : Adjoins lines m h.vars h.outvars back.reads.0 = (runs_adjoint ps accepted (lines_apart bytes ps few reads) r.head there.unit there.found h.vars h.outvars lines x.activity x.liveness x.saved x.held x.analysed back.reads.0 same, has_shape ps accepted (lines_apart bytes ps few reads) r.head there.unit there.found h.vars h.outvars lines x.activity x.liveness x.saved x.held x.analysed back.reads.0 same) in
      let both : Adjoins lines back.marks (flags_of r.vars there.unit.dummies) (flags_of r.outvars there.unit.dummies) back.reads.0 =
      subst (λ n. Adjoins lines n (flags_of r.vars there.unit.dummies) (flags_of r.outvars there.unit.dummies) back.reads.0) (sym x.are)
      (subst (λ v. Adjoins lines m v (flags_of r.outvars there.unit.dummies) back.reads.0) vars_is (subst (λ v. Adjoins lines m h.vars v back.reads.0) outvars_is exact)) in
      record {
        adjoint = record {
          programs = rewrites qs text back.reads bytes reads keeps;
          splits = lines;
          reads_splits = marked;
          marks = back.marks;
          exact = subst (λ z. AreExact lines ps r.head z back.marks) is x;
          adjoins = both.0;
        };
        canonical = canonical qs text back.is_text back.reads (planned.reversed_sound ps accepted r.head h.vars h.outvars lines x.activity x.liveness x.saved x.held x.analysed back.reads.0 same) runs told bytes reads keeps;
        shape = both.1;
      }

  -- the program that the text is, is the tangent of the text that reads as the program
  pub head_tangents : IsAccepted ps → TangentIsRunnable → ProgramTold → (text : List ℕ) → ReadsTangent ps r.head h text → (bytes : List ℕ) → ReadsLowered bytes ps → program_of Source bytes ≡ Ok ps → EmitsTangent r bytes text
  unfolding rewrites there
  head_tangents accepted runnable told text back bytes reads given =
      let k = kernel_problem ps r.head h.vars h.outvars in
      let qs = tangent_for (carried_by (kernel_of ps) back.carried) ps r.head h.vars in
      let narrow : EachUnit (λ v. length (variables v) ≤ most_numbered) (kernel_of ps) = few_variables (kernel_of ps) (fits_widest (kernel_of ps) back.fits) in
      let runs : OrTooMany (λ found. unlined found ≡ unlined qs) (program_of Run (text_of qs)) = runnable bytes ps given accepted narrow k refl back.varied back.carried back.exact in
      let sound : IsSound run_rules back.reads.0 = sound_lines run_rules qs back.reads.0 (sym back.reads.2) (tangent_is_sound run_rules k (kernel_checked ps accepted) (omega arith) back.varied back.carried back.exact) in
      let keeps : KeepsRuns reads.shared = blocks_kept source_rules Source bytes ps given accepted.sound reads in
      record {
        tangent = record {
          programs = rewrites qs text back.reads bytes reads keeps;
          varied = back.varied;
          carried = back.carried;
          exact = subst (λ v. IsCarrying (kernel_problem ps r.head v (flags_of r.outvars there.unit.dummies)) back.varied back.carried) vars_is (subst (λ v. IsCarrying (kernel_problem ps r.head h.vars v) back.varied back.carried) outvars_is back.exact);
          is_tangent = subst (λ v. IsTangentOfSource (carried_by (kernel_of ps) back.carried) ps r.head v back.reads.0) vars_is (accepted_by_weight ps accepted r.head there.unit there.found h.vars h.outvars back.varied back.carried back.exact back.reads.0 (sym back.reads.2));
        };
        canonical = canonical qs text back.is_text back.reads sound runs told bytes reads keeps;
      }

  -- the text that was wanted is what it is to be
  pub head_transforms : IsAccepted ps → EmittedIsRunnableWith true → TangentIsRunnable → ProgramTold → (w : Wanted) (lines : List ℕ) (text : List ℕ) → ReadsFor w lines ps r.head h text → (bytes : List ℕ) → length bytes ≤ most_bytes → ReadsSplits bytes lines → ReadsLowered bytes ps → program_of Source bytes ≡ Ok ps → Writes w r bytes text
  head_transforms accepted runnable tangent_runnable told wanted.Adjoint lines text back bytes few marked reads given = head_adjoins accepted runnable told lines text back bytes few marked reads given
  head_transforms accepted runnable tangent_runnable told wanted.Tangent lines text back bytes few marked reads given = head_tangents accepted tangent_runnable told text back bytes reads given
  head_transforms accepted runnable tangent_runnable told wanted.Plan lines text back bytes few marked reads given = tt

-- ---- the kernel as code gives it

module _ (ps : List Procedure) (p : Program) (lowered : procedures_of p ≡ kernel_of ps) where
  -- the number of the head is that of a unit of it
  pub kernel_head : (name : List ℕ) → IsUnit ps name → (n : ℕ) → n ≡ unit_number (procedures_of p) name → n < length p.units
  kernel_head name u n e =
      subst (λ k. k < length p.units) (sym (e ∙ ap (λ l. unit_number l name) lowered))
      (subst (λ k. unit_number (kernel_of ps) name < k) (ap length (sym lowered) ∙ length-map p.units procedure_of) (head_within ps name u.unit u.found))

  -- it is in kernel form
  pub in_kernel_form : IsAccepted ps → IsKernel (procedures_of p)
  in_kernel_form a = subst IsKernel (sym lowered) (kernel_checked ps a).kernel

  -- what is said of it with the head's number there is said of the kernel of the program
  pub for_kernel : (P : List Procedure → Head → Type 0) (name : List ℕ) (n : ℕ) → n ≡ unit_number (procedures_of p) name → (vars outvars : List Bool) → P (procedures_of p) (record { unit = n; vars = vars; outvars = outvars }) → P (kernel_of ps) (record { unit = unit_number (kernel_of ps) name; vars = vars; outvars = outvars })
  for_kernel P name n e vars outvars x =
      subst (λ us. P us (record { unit = unit_number us name; vars = vars; outvars = outvars })) lowered (subst (λ k. P (procedures_of p) (record { unit = k; vars = vars; outvars = outvars })) e x)

-- what is emitted is written, so that its text reads as it
module _ (lines : List ℕ) (ps : List Procedure) (name : List ℕ) (h : Head) (accepted : IsAccepted ps) (qs : List Procedure) (x : IsEmittedFor lines (kernel_of ps) (record { unit = unit_number (kernel_of ps) name; vars = h.vars; outvars = h.outvars }) qs) where
  abbrev m : ProgramMarks
  m = marks_by lines ps x.activity x.liveness x.saved x.held

  pub exact_marks : AreExact lines ps name h m
  exact_marks = record { activity = x.activity; liveness = x.liveness; saved = x.saved; held = x.held; analysed = x.analysed; are = refl }

  pub emitted_reads : kernel_fits (kernel_of ps) ≡ true → (bytes : List ℕ) → bytes ≡ text_of qs → (texts.IsWritten qs → ReadsAs bytes qs) → ReadsWritten lines ps name h bytes
  emitted_reads fits bytes text reads =
      let written : texts.IsWritten qs = subst texts.IsWritten (sym x.emitted) (planned.reversed_written ps accepted name h.vars h.outvars lines x.activity x.liveness x.saved x.held x.analysed) in
      record { fits = fits; marks = m; exact = exact_marks; is_text = text ∙ ap text_of x.emitted; reads = subst (λ z. ReadsAs bytes z) x.emitted (reads written) }

-- a tangent is written, so that its text reads as it
module _ (ps : List Procedure) (name : List ℕ) (h : Head) (accepted : IsAccepted ps) (qs : List Procedure) (x : IsTangentEmitted (kernel_of ps) (record { unit = unit_number (kernel_of ps) name; vars = h.vars; outvars = h.outvars }) qs) where
  pub tangent_reads : kernel_fits (kernel_of ps) ≡ true → (bytes : List ℕ) → bytes ≡ text_of qs → (texts.IsWritten qs → ReadsAs bytes qs) → ReadsTangent ps name h bytes
  tangent_reads fits bytes text reads =
      let written : texts.IsWritten qs = subst texts.IsWritten (sym x.emitted) (tangent_is_written run_rules (kernel_problem ps name h.vars h.outvars) (kernel_checked ps accepted) x.varied x.carried x.exact) in
      record { fits = fits; varied = x.varied; carried = x.carried; exact = x.exact; is_text = text ∙ ap text_of x.emitted; reads = subst (λ z. ReadsAs bytes z) x.emitted (reads written) }

-- ---- the text that is wanted

module _ (lines : List ℕ) (ps : List Procedure) (name : List ℕ) (h : Head) (accepted : IsAccepted ps) where
  -- the head in the kernel
  abbrev own : Head
  own = record { unit = unit_number (kernel_of ps) name; vars = h.vars; outvars = h.outvars }

  pub text_given : (w : Wanted) (text : List ℕ) → IsTextFor w lines (kernel_of ps) own text → (a : Answer) → a.status ≡ 0 → a.text ≡ text → IsGiven w lines ps name h a
  text_given wanted.Adjoint text x a done is = done
  text_given wanted.Tangent text x a done is = done
  text_given wanted.Plan text x a done is = record { said = x.said; takes = x.takes; tells = x.tells; text = (λ i. record { status = done i; text = (is ∙ x.is_text) i }) }

  pub text_reads : kernel_fits (kernel_of ps) ≡ true → (w : Wanted) → (text : List ℕ) → IsTextFor w lines (kernel_of ps) own text → ReadsFor w lines ps name h text
  text_reads fits wanted.Adjoint text x = emitted_reads lines ps name h accepted x.program x.emitted fits text x.is_text x.reads
  text_reads fits wanted.Tangent text x = tangent_reads ps name h accepted x.program x.emitted fits text x.is_text x.reads
  text_reads fits wanted.Plan text x = tt
