use Rattle.std.proofs.Common.{◌∙◌, ◌∷◌, [], ◌++◌, refl, ap}
use Rattle.adj_weave_units.specs.Calls.{ends_of}
use Rattle.adj_weave.specs.declared.calls.Counting.TheVariants as which
use Rattle.adj_weave.specs.Orders.{is_edge}
use Rattle.adj_weave.proofs.Reached.{edges_along, adjointed_are}
use Rattle.adj_weave.proofs.Searched.{both_ok, edges_listed, same_paths}
use Rattle.adj_weave.specs.Marked.{program_marks}
use Rattle.adj_weave.proofs.found.Search.adjointed.Goals as goal

pub returns : goal.returns
returns c =
    let s = c.args.self in
    let m = program_marks s.marked.now in
    let f = is_edge s.marked.now which.Whole in
    let n = c.args.head in
    let flags = c.args.taking.now in
    record {
      adjointed = both_ok c.reach.result _ _ _
          (λ found count exact ps h is at are.
          let called = c.in_ok-places.ensures.called ∙ ap (ends_of flags) (edges_listed s ps is f _ refl) in
          adjointed_are ps is.apart m h n at flags are found (count ∙ is.count)
          (same_paths [] [] c.as_slice.result.now (ends_of flags (edges_along ps is.apart f) ++ (n ∷ [])) found refl (c.as_slice.ensures.value ∙ c.in_ok-push.ensures.items ∙ ap (λ xs. xs ++ (n ∷ [])) called) exact))
          c.reach.ensures.count c.reach.ensures.exact;
    }
