use Rattle.std.proofs.Common.{◌≡◌, ℕ, List, sym, subst}
use Rattle.std.specs.Prelude.{IfOk}
use Rattle.adj_tree.specs.View.{code_of}
use Rattle.def_meaning.specs.Rename.{rename}
use Rattle.def_names.specs.Numbers.{Vars}
use Rattle.def_sweep.specs.Plan.{Callee}
use Rattle.adj_sweep.specs.Callees.{KnowsAll}
use Rattle.adj_sweep.specs.Plans.{naming_in, plan_of, schedules_of}
use Rattle.adj_weave.specs.Making.{its_code}
use Rattle.adj_weave.proofs.unit.Part.body.Goals as goal

pub returns-in-Adjoint : goal.returns-in-Adjoint
returns-in-Adjoint c =
    let g = c.args.self.now in
    let p = c.args.plan.now in
    record {
      body = subst (λ k. IfOk c.adjoint_body.result (λ d. (callees : List ℕ → Callee) (reads : List ℕ → Vars) → KnowsAll p.callees.now callees reads → code_of d ≡ rename (naming_in p) (its_code (schedules_of p reads) (plan_of p callees) g k))) (sym c.in-Adjoint.is)
          c.adjoint_body.ensures.body;
    }
