use Rattle.std.proofs.Common.{◌≡◌, ℕ, List, ap, sym, subst, ◌∙◌}
use Rattle.std.specs.Prelude.{IfOk}
use Rattle.adj_tree.specs.View.{code_of}
use Rattle.def_meaning.specs.Rename.{rename}
use Rattle.def_names.specs.Numbers.{Vars}
use Rattle.def_sweep.specs.Plan.{Callee}
use Rattle.def_sweep.specs.SplitRows.{forth_body, back_body}
use Rattle.adj_sweep.specs.Callees.{KnowsAll}
use Rattle.adj_sweep.specs.Plans.{naming_in, plan_of, schedules_of}
use Rattle.adj_weave.specs.Left.{read_only, unless_among}
use Rattle.adj_weave.specs.Making.{half_code}
use Rattle.adj_weave.proofs.unit.Part.half_body.Goals as goal

pub returns-in-Forth : goal.returns-in-Forth
returns-in-Forth c =
    let g = c.args.self.now in
    let p = c.args.plan.now in
    let left = c.as_slice-2.ensures.value ∙ c.in_ok-left.ensures.left ∙ ap (λ xs. unless_among (read_only xs g.written.now) g.variables.now) c.as_slice.ensures.members in
    record {
      body = subst (λ h. IfOk c.forth_body.result (λ d. (callees : List ℕ → Callee) (reads : List ℕ → Vars) → KnowsAll p.callees.now callees reads → code_of d ≡ rename (naming_in p) (half_code (schedules_of p reads) (plan_of p callees) g h))) (sym c.in-Forth.is)
          (subst (λ xs. IfOk c.forth_body.result (λ d. (callees : List ℕ → Callee) (reads : List ℕ → Vars) → KnowsAll p.callees.now callees reads → code_of d ≡ rename (naming_in p) (forth_body (schedules_of p reads) (plan_of p callees) g.number g.unit.now.line xs (code_of g.unit.now.body)))) left
          c.forth_body.ensures.body);
    }

pub returns : goal.returns
returns c =
    let g = c.args.self.now in
    let p = c.args.plan.now in
    let left = c.as_slice-2.ensures.value ∙ c.in_ok-left.ensures.left ∙ ap (λ xs. unless_among (read_only xs g.written.now) g.variables.now) c.as_slice.ensures.members in
    record {
      body = subst (λ h. IfOk c.back_body.result (λ d. (callees : List ℕ → Callee) (reads : List ℕ → Vars) → KnowsAll p.callees.now callees reads → code_of d ≡ rename (naming_in p) (half_code (schedules_of p reads) (plan_of p callees) g h))) (sym c.in-Back.is)
          (subst (λ xs. IfOk c.back_body.result (λ d. (callees : List ℕ → Callee) (reads : List ℕ → Vars) → KnowsAll p.callees.now callees reads → code_of d ≡ rename (naming_in p) (back_body (schedules_of p reads) (plan_of p callees) g.number g.unit.now.line xs (code_of g.unit.now.body)))) left
          c.back_body.ensures.body);
    }
