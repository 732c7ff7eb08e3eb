use Rattle.std.proofs.Common.{◌∙◌, sym, ap, ◌∷◌, []}
use Rattle.std.specs.Prelude.{if◌then◌else◌}
use Rattle.adj_tree.specs.Code.{plain, none, runtime, pop_word, pop_array, step}
use Rattle.adj_tree.specs.View.{code_of}
use Rattle.def_meaning.specs.Append.{◌+++◌}
use Rattle.def_meaning.specs.Apart.{has_name}
use Rattle.def_sweep.specs.Rows.{pops}
use Rattle.adj_sweep.specs.Plans.{plan_of}
use Rattle.adj_sweep.proofs.plan.Plan.pop_actual.Goals as goal

pub returns-then-not-is_in : goal.returns-then-not-is_in
returns-then-not-is_in c =
    let a = c.args.actual.now in
    record {
      popped = λ callees. ap (λ b. pops (plan_of c.args.self.now callees) c.args.line (if b then a.name ∷ [] else []) +++ code_of c.args.rest) (sym (sym c.is_in.ensures.member ∙ c.if-not-is_in.true));
    }

pub returns : goal.returns
returns c =
    let a = c.args.actual.now in
    record {
      popped = λ callees.
          c.in_ok-code.ensures.step
          ∙ ap (λ z. step c.args.line (runtime z) (code_of c.args.rest)) (c.pop_of.ensures.call ∙ ap (λ y. if has_name y c.args.self.now.arrays.now then pop_array (plain y) else pop_word (plain y) none) c.in_ok-name.ensures.same)
          ∙ ap (λ b. pops (plan_of c.args.self.now callees) c.args.line (if b then a.name ∷ [] else []) +++ code_of c.args.rest) (sym (sym c.is_in.ensures.member ∙ c.if-not-is_in.false));
    }
