-- Where nothing has a fault and each run is done, the answer is done.
use Rattle.std.proofs.Common.{◌≡◌, ℕ, List, length, sym, ap, subst, ◌∙◌, Result, Ok, Some, None}
use Rattle.std.specs.Prelude.{drop, true, false}
use Rattle.std.proofs.lemmas.Bool.{le-ltb}
use Rattle.adj_tree.specs.Code.{Procedure}
use Rattle.adj_tree.specs.declared.fault.Refusal.{Refusal}
use Rattle.adj_tree.specs.declared.marks.Head.{Head}
use Rattle.def_text.specs.Data.{data_of}
use Rattle.def_text.specs.declared.mode.Mode.{Mode}
use Rattle.def_text.specs.declared.mode.Mode.TheVariants.{Source, Run}
use Rattle.def_meaning.specs.Log.{log_of}
use Rattle.def_names.specs.HeadFaults.{head_of}
use Rattle.adj_data.specs.Given.{input_given}
use Rattle.adj_tool_answer.specs.Answer.{Answer}
use Rattle.adj_tool_answer.specs.Laws.{ProgramOnly}
use Rattle.adj_tool_answer.specs.Programs.{IsProgram}
use Rattle.adj_tool_answer.specs.Endings.{Asked}
use Rattle.adj_tool_check.specs.Checking.{Sides, Given, after, compared, dual_run, adjoint_run, adjoints_in, tangents_in, runs_answer, faulty_or, given_of}
use Rattle.adj_tool_jacobian.specs.Jacobian as jacobian
use Rattle.adj_tool_jacobian.specs.Jacobian.{TellsDerivative, task_of}
use Rattle.adj_tool_run.specs.Running as running
use Rattle.adj_tool_run.specs.Running.{checked_answer, ended, head_answer, input_answer, text_answer}
use Rattle.adj_tool.specs.Answer.{most_bytes, AnswersChecked, AnswersFitted, AnswersHeaded, AnswersSized, AnswersText, IsGiven}
use Rattle.adj_tool.specs.Check.{AnswersAcceptedCheck, AnswersSizedCheck, AnswersSoundCheck, AnswersTextCheck, Fitted, IsChecked, Unrefused}
use Rattle.adj_tool.specs.Complete.{AreDone, CheckIsDone, JacobianIsDone, RunIsDone, WantedIsDone}
use Rattle.adj_tool.specs.declared.task.Wanted.{Wanted}
use Rattle.adj_tool.specs.declared.task.Wanted.TheVariants as wanted

-- the answer that is given for an accepted program
given_is_done : (w : Wanted) (lines : List ℕ) (ps : List Procedure) (name : List ℕ) (h : Head) (a : Answer) → IsGiven w lines ps name h a → a.status ≡ 0
given_is_done wanted.Adjoint lines ps name h a g = g
given_is_done wanted.Tangent lines ps name h a g = g
given_is_done wanted.Plan lines ps name h a g = ap (λ (z : Answer). z.status) g.text

-- three runs that are done
runs_are_done : (r : Asked) (p : Sides) (d : Given) → AreDone r p d → (runs_answer r p d).status ≡ 0
runs_are_done r p d x =
    (λ i. (after r (x.original.is i) (λ out. after r (dual_run r p d) (λ dual. after r (adjoint_run r p d) (λ back. compared p d out.slots (tangents_in dual) (adjoints_in p back) (log_of back.events).advances)))).status)
    ∙ (λ i. (after r (x.dual.is i) (λ dual. after r (adjoint_run r p d) (λ back. compared p d x.original.output.slots (tangents_in dual) (adjoints_in p back) (log_of back.events).advances))).status)
    ∙ (λ i. (after r (x.adjoint.is i) (λ back. compared p d x.original.output.slots (tangents_in x.dual.output) (adjoints_in p back) (log_of back.events).advances)).status)

module _ (only : ProgramOnly) where
  -- a text is one program
  same_found : (mode : Mode) (bytes : List ℕ) (found : Result (List Procedure) Refusal) → IsProgram mode bytes found → (source : List Procedure) → IsProgram mode bytes (Ok source) → found ≡ Ok source
  same_found mode bytes found is source h = sym (only mode bytes found is) ∙ only mode bytes (Ok source) h

  pub wanted_is_done : WantedIsDone
  wanted_is_done w r bytes a t h =
      let s = t.text in
      let ps = s.source in
      let hd = head_of ps r.head r.vars r.outvars in
      let sized : AnswersSized false w r bytes a = subst (λ b. AnswersSized b w r bytes a) (le-ltb most_bytes (length bytes) s.few) h.sized in
      let such : AnswersText w r bytes (Ok ps) a = subst (λ f. AnswersText w r bytes f a) (same_found Source bytes sized.found sized.is ps s.program) sized.such in
      let lines = such.lines in
      let checked : AnswersChecked None w r lines ps a = subst (λ o. AnswersChecked o w r lines ps a) s.sound such.such in
      let headed : AnswersHeaded None w r lines ps a = subst (λ o. AnswersHeaded o w r lines ps a) t.head checked in
      let fitted : AnswersFitted true w lines ps r.head hd a = subst (λ b. AnswersFitted b w lines ps r.head hd a) t.fits headed in
      given_is_done w lines ps r.head hd a fitted

  pub run_is_done : RunIsDone
  run_is_done r bytes a t u is_head none done h =
      let ps = t.source in
      let line = (data_of bytes).1 in
      let given = drop (data_of bytes).0 bytes in
      let sized : running.AnswersSized false r bytes a = subst (λ b. running.AnswersSized b r bytes a) (le-ltb running.most_bytes (length bytes) t.few) h in
      let such : a ≡ text_answer r bytes (Ok ps) = subst (λ f. a ≡ text_answer r bytes f) (same_found Run bytes sized.found sized.is ps t.program) sized.such in
      let checked : a ≡ checked_answer None r bytes ps = such ∙ ap (λ o. checked_answer o r bytes ps) t.sound in
      let headed : a ≡ head_answer r bytes ps (Some u) = checked ∙ ap (head_answer r bytes ps) is_head in
      let input : a ≡ input_answer None r ps u (input_given line given u) = headed ∙ ap (λ o. input_answer o r ps u (input_given line given u)) none in
      ap (λ (z : Answer). z.status) (input ∙ ap (ended r u.dummies) done.is)

  pub jacobian_is_done : JacobianIsDone
  jacobian_is_done r vars outvars bytes a t sound_head u is_head none done h =
      let ps = t.source in
      let hd = head_of ps r.head vars outvars in
      let line = (data_of bytes).1 in
      let given = drop (data_of bytes).0 bytes in
      let p = task_of r ps u hd.vars (input_given line given u) in
      let sized : jacobian.AnswersSized false r vars outvars bytes a = subst (λ b. jacobian.AnswersSized b r vars outvars bytes a) (le-ltb jacobian.most_bytes (length bytes) t.few) h in
      let such : jacobian.AnswersText r vars outvars bytes (Ok ps) a = subst (λ f. jacobian.AnswersText r vars outvars bytes f a) (same_found Source bytes sized.found sized.is ps t.program) sized.such in
      let checked : jacobian.AnswersChecked None r vars outvars bytes ps a = subst (λ o. jacobian.AnswersChecked o r vars outvars bytes ps a) t.sound such in
      let headed : jacobian.AnswersHeaded None r vars outvars bytes ps a = subst (λ o. jacobian.AnswersHeaded o r vars outvars bytes ps a) sound_head checked in
      let at_head : jacobian.AnswersHead r bytes ps hd (Some u) a = subst (λ o. jacobian.AnswersHead r bytes ps hd o a) is_head headed in
      let input : jacobian.AnswersInput None r ps u hd (input_given line given u) a = subst (λ o. jacobian.AnswersInput o r ps u hd (input_given line given u) a) none at_head in
      let told : TellsDerivative p hd.outvars done.output a = subst (λ o. jacobian.AnswersEnd r p hd.outvars o a) done.is input in
      ap (λ (z : Answer). z.status) told.is

  pub check_is_done : CheckIsDone
  check_is_done r vars outvars bytes a t runs h =
      let s = t.text in
      let ps = s.source in
      let hd = head_of ps r.head vars outvars in
      let sized : AnswersSizedCheck false r vars outvars bytes a = subst (λ b. AnswersSizedCheck b r vars outvars bytes a) (le-ltb most_bytes (length bytes) s.few) h in
      let such : AnswersTextCheck r vars outvars bytes (Ok ps) a = subst (λ f. AnswersTextCheck r vars outvars bytes f a) (same_found Source bytes sized.found sized.is ps s.program) sized.such in
      let lines = such.lines in
      let checked : AnswersSoundCheck r vars outvars bytes lines ps a = subst (λ o. Unrefused o (AnswersSoundCheck r vars outvars bytes lines ps a) a) s.sound such.such in
      let headed : AnswersAcceptedCheck r bytes lines ps hd a = subst (λ o. Unrefused o (AnswersAcceptedCheck r bytes lines ps hd a) a) t.head checked in
      let is : IsChecked lines ps hd r bytes a = subst (λ b. Fitted b (IsChecked lines ps hd r bytes a) a) t.fits headed in
      let p = is.sides in
      let held = runs lines such.reads p is.are_sides is.is in
      ap (λ (z : Answer). z.status) (is.is ∙ ap (λ o. faulty_or o (runs_answer r p (given_of p bytes))) held.0) ∙ runs_are_done r p (given_of p bytes) held.1
