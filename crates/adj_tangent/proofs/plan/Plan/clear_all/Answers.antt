use Rattle.std.proofs.Common.{◌∙◌, sym, ap, refl}
use Rattle.std.proofs.lemmas.List.{drop_all}
use Rattle.adj_tree.specs.Listed.{steps_onto}
use Rattle.def_meaning.specs.Apart.{is_named}
use Rattle.def_meaning.specs.Append.{◌+++◌}
use Rattle.def_meaning.specs.Rename.{rename}
use Rattle.def_tangent.specs.Program.{cleared}
use Rattle.adj_tangent.specs.Plans.{naming_in}
use Rattle.adj_tangent.proofs.Written.{next_cleared}
use Rattle.adj_tangent.proofs.plan.Plan.clear_all.Goals as goal

pub loop-x-preserved : goal.loop-x-preserved
loop-x-preserved c = λ rest.
    next_cleared (naming_in c.args.self.now) (is_named c.args.arrays.now) c.args.line c.args.names.now c.loop-x.x-index c.x-item.result c.loop-x.steps.items c.clear.new.steps.items rest c.loop-x-test.true c.x-item.is c.in_ok-clear.ensures.steps
    ∙ c.loop-x.invariant rest

pub returns : goal.returns
returns c = record {
  steps = λ rest.
      ap (λ z. steps_onto c.loop-x.steps.items (rename (naming_in c.args.self.now) (cleared (is_named c.args.arrays.now) c.args.line z) +++ rest)) (sym (drop_all c.loop-x.x-index c.args.names.now c.loop-x-test.false))
      ∙ c.loop-x.invariant rest;
}
