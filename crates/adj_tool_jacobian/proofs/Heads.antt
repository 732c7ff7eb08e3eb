-- The head: the unit of a name, its number, and its data.
use Rattle.std.proofs.Common.{◌≡◌, ℕ, ◌<◌, List, drop, length, refl, sym, ap, subst, ◌∙◌, Option, Some, None}
use Rattle.std.specs.Prelude.{ℤ}
use Rattle.std.specs.List.{slice_get}
use Rattle.std.proofs.lemmas.Option.{slice_get_within}
use Rattle.adj_tree.specs.Code.{Procedure}
use Rattle.adj_tree.specs.declared.marks.Head.{Head}
use Rattle.def_text.specs.Data.{data_of}
use Rattle.def_meaning.specs.Units.{Slot}
use Rattle.def_meaning.specs.Written.{find_unit}
use Rattle.def_names.specs.Fault.{first_of}
use Rattle.def_names.specs.HeadFaults.{first_head_fault, faults_of_head, unit_number}
use Rattle.adj_data.specs.DataCodes.{data_code_number}
use Rattle.adj_data.specs.Faults.{Fault, data_fault}
use Rattle.adj_data.specs.Given.{IsFirstFault, input_given}
use Rattle.adj_data.specs.declared.data_error.DataError.{DataError}
use Rattle.adj_data.specs.declared.data_error.DataError.TheVariants as error
use Rattle.adj_tool_answer.specs.Answer.{Answer}
use Rattle.adj_tool_answer.specs.Endings.{Asked, bad_data}
use Rattle.adj_tool_answer.specs.EndingViews.{error_answer}
use Rattle.adj_tool_answer.proofs.Heads.{numbered}
use Rattle.adj_tool_jacobian.specs.Jacobian.{AnswersData, AnswersHead, AnswersInput, AnswersRun, task_of}

-- the head's unit
pub record IsHead (ps : List Procedure) (name : List ℕ) : Type 0 where
  pub unit : Procedure
  pub found : find_unit ps name ≡ Some unit

-- where no unit has the name, that is a fault of the head
pub no_fault : (ps : List Procedure) (name : List ℕ) (vars outvars : List (List ℕ)) → first_head_fault ps name vars outvars ≡ None → IsHead ps name
no_fault ps name vars outvars h = go (find_unit ps name) refl h
  where
    go : (o : Option Procedure) → find_unit ps name ≡ o → first_of (faults_of_head o vars outvars) ≡ None → IsHead ps name
    go None e k = absurd cc
    go (Some u) e k = record { unit = u; found = e }

-- so it stands at the number of its name
pub located : (ps : List Procedure) (name : List ℕ) (vars outvars : List (List ℕ)) → first_head_fault ps name vars outvars ≡ None → find_unit ps name ≡ slice_get ps (unit_number ps name)
located ps name vars outvars h = let u = no_fault ps name vars outvars h in u.found ∙ sym (numbered ps name u.unit u.found)

pub inside : (ps : List Procedure) (name : List ℕ) (vars outvars : List (List ℕ)) → first_head_fault ps name vars outvars ≡ None → unit_number ps name < length ps
inside ps name vars outvars h = let u = no_fault ps name vars outvars h in slice_get_within ps (unit_number ps name) u.unit (numbered ps name u.unit u.found)

-- ---- the answer for a head that was found, where its data begin at a place and behind the line of a number

module _ (r : Asked) (bytes : List ℕ) (ps : List Procedure) (h : Head) (u : Procedure) (found : find_unit ps r.head ≡ Some u) (d : ℕ × ℕ) (is : d ≡ data_of bytes) (given : List ℕ) (rest : given ≡ drop d.0 bytes) where
  answered : (a : Answer) → AnswersData r ps u h d.1 given a ≡ AnswersHead r bytes ps h (find_unit ps r.head) a
  answered a = ap (λ z. AnswersData r ps u h d.1 z a) rest ∙ ap (λ (z : ℕ × ℕ). AnswersData r ps u h z.1 (drop z.0 bytes) a) is ∙ ap (λ o. AnswersHead r bytes ps h o a) (sym found)

  -- they give no input
  pub bad_input : (e : DataError) → IsFirstFault e (data_fault d.1 given u) → (a : Answer) → Some a ≡ error_answer e → AnswersHead r bytes ps h (find_unit ps r.head) a
  bad_input (error.Data c n) first a same =
      let f : Fault = record { code = data_code_number c; line = n } in
      let is_bad : a ≡ bad_data f = cc in
      subst (λ A. A) (answered a) (subst (λ o. AnswersInput o r ps u h (input_given d.1 given u) a) (sym first) is_bad)
  bad_input error.Memory first a same = absurd cc

  -- they give an input
  pub good_input : (slots : List (Slot ℤ)) → data_fault d.1 given u ≡ None → slots ≡ input_given d.1 given u → (a : Answer) → AnswersRun r h.outvars (task_of r ps u h.vars slots) a → AnswersHead r bytes ps h (find_unit ps r.head) a
  good_input slots none same a run =
      subst (λ A. A) (answered a) (subst (λ o. AnswersInput o r ps u h (input_given d.1 given u) a) (sym none) (subst (λ s. AnswersRun r h.outvars (task_of r ps u h.vars s) a) same run))
