use Rattle.std.proofs.Common.{◌∙◌, ◌∷◌, [], refl}
use Rattle.adj_weave.specs.declared.calls.Counting.TheVariants as which
use Rattle.adj_weave.specs.Orders.{is_edge}
use Rattle.adj_weave.proofs.Reached.{edges_along, taking_are}
use Rattle.adj_weave.proofs.Searched.{both_ok, edges_within, edges_listed, same_paths}
use Rattle.adj_weave.specs.Marked.{program_marks}
use Rattle.adj_weave.proofs.found.Search.taking.Goals as goal

pub reach-requires-clause-edges : goal.reach-requires-clause-edges
reach-requires-clause-edges c =
    let s = c.args.self in
    let r = c.requires.searched in
    edges_within s r.0 r.1 (is_edge s.marked.now which.Adjointed) c.as_slice.result.now (c.as_slice.ensures.value ∙ c.in_ok-edges.ensures.edges)

pub returns : goal.returns
returns c =
    let s = c.args.self in
    let m = program_marks s.marked.now in
    let f = is_edge s.marked.now which.Adjointed in
    let n = c.args.head in
    record {
      taking = both_ok c.reach.result _ _ _
          (λ flags count exact ps h is at.
          taking_are ps is.apart m h n at flags (count ∙ is.count)
          (same_paths c.as_slice.result.now (edges_along ps is.apart f) (n ∷ []) (n ∷ []) flags (edges_listed s ps is f c.as_slice.result.now (c.as_slice.ensures.value ∙ c.in_ok-edges.ensures.edges)) refl exact))
          c.reach.ensures.count c.reach.ensures.exact;
    }
