-- What is run as an emitted program is that program but for line numbers.
use Rattle.std.proofs.Common.{◌≡◌, inl, inr, ℕ, true, false, List, [], refl, sym, ap, ◌∙◌, subst, Option, Some, None}
use Rattle.std.specs.Prelude.{is_some, Result, Ok, Err}
use Rattle.adj_tree.specs.Code.{Procedure}
use Rattle.adj_tree.specs.Lines.{unlined}
use Rattle.adj_tree.specs.View.{procedures_of}
use Rattle.adj_tree.specs.declared.marks.Head.{Head}
use Rattle.adj_tree.specs.declared.fault.Refusal.{Refusal}
use Rattle.def_text.specs.Text.{text_of}
use Rattle.def_text.specs.declared.mode.Mode.TheVariants.{Run}
use Rattle.def_meaning.specs.Written.{find_unit}
use Rattle.def_names.specs.Fault.{first_of}
use Rattle.def_names.specs.HeadFaults.{first_head_fault, faults_of_head}
use Rattle.def_text.specs.OrTooMany.{OrTooMany}
use Rattle.def_refused.specs.TextFaults.{program_of}
use Rattle.def_adjoint.specs.Adjoint.{IsAdjointOf}
use Rattle.adj_tool_check.specs.Emitted.{or_itself, read_back, IsRunnable, IsEmittedFor}
use Rattle.adj_tool_check.specs.Agreeing.{IsAdjointSide}
use Rattle.adj_tool_check.specs.Ready.{sides_of}
use Rattle.adj_tool_check.specs.declared.emitted.Emitted.{Emitted}

itself : (qs : List Procedure) (r : Result (List Procedure) Refusal) → OrTooMany (λ found. unlined found ≡ unlined qs) r → unlined qs ≡ unlined (or_itself qs r)
itself qs r (inl x) = sym x.2 ∙ ap (λ z. unlined (or_itself qs z)) (sym x.1)
itself qs r (inr x) = ap (λ z. unlined (or_itself qs z)) (sym x.1)

pub alike_read : (qs : List Procedure) → IsRunnable qs → unlined qs ≡ unlined (read_back qs)
alike_read qs h = itself qs (program_of Run (text_of qs)) h.reads

-- the head that is asked for has no fault where its unit is there
pub none_faulty : (ps : List Procedure) (name : List ℕ) → is_some (find_unit ps name) ≡ true → first_head_fault ps name [] [] ≡ None
none_faulty ps name h = go (find_unit ps name) h
  where
    go : (o : Option Procedure) → is_some o ≡ true → first_of (faults_of_head o [] []) ≡ None
    go (Some u) k = refl
    go None k = absurd cc

-- ---- sides

module _ (ps : List Procedure) (u : Procedure) (h : Head) (e : Emitted) (found : find_unit ps u.name ≡ Some u) (known : IsEmittedFor ps u.name h.vars h.outvars (procedures_of e.program) e.adjoint e.shadowed) where
  abbrev back : IsAdjointOf known.lines known.marks ps u.name h.vars h.outvars (read_back (procedures_of e.program))
  back = known.adjoins (read_back (procedures_of e.program)) (alike_read (procedures_of e.program) known.runnable)

  -- the adjoint of the head is there
  pub adjoint_is : find_unit (read_back (procedures_of e.program)) e.adjoint ≡ Some back.adjoint
  adjoint_is = ap (find_unit (read_back (procedures_of e.program))) (known.named back.kernel back.becomes) ∙ back.is_there

  pub is_side : (a : Procedure) → find_unit (read_back (procedures_of e.program)) e.adjoint ≡ Some a → IsAdjointSide (sides_of ps u h e a)
  is_side a there =
      let heads : Some u ≡ Some back.unit = sym found ∙ back.is_head in
      let adjoints : Some a ≡ Some back.adjoint = sym there ∙ adjoint_is in
      record {
        lines = known.lines;
        own_names = known.own_names;
        marks = known.marks;
        name = u.name;
        adjoins = back;
        is_head = cc;
        is_adjoint = cc;
        shadows = known.shadows u found;
      }
