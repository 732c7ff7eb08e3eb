use Rattle.std.proofs.Common.{◌∙◌, map, sym, ap}
use Rattle.adj_tree.specs.Listed.{terms_onto}
use Rattle.adj_tree.specs.View.{term_of}
use Rattle.def_meaning.specs.Rename.{rename_terms}
use Rattle.adj_tangent.specs.Plans.{naming_in, all_with_tangents}
use Rattle.adj_tangent.proofs.Actuals.{tangents_all}
use Rattle.adj_tangent.proofs.plan.Plan.with_tangents.Goals as goal

pub returns : goal.returns
returns c =
    let r = naming_in c.args.self.now in
    let flags = c.args.carried.now in
    record {
      actuals = c.in_ok-all.ensures.listed
          ∙ ap (λ z. terms_onto (map term_of c.loop-k.made.items) (rename_terms r z)) (sym (tangents_all flags c.as_slice-given.result.now c.loop-k.k c.loop-k-test.false)) ∙ c.loop-k.invariant
          ∙ ap (λ z. rename_terms r (all_with_tangents flags z)) (c.as_slice-given.ensures.value ∙ c.in_ok-names.ensures.names);
    }
