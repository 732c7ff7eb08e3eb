use Rattle.std.proofs.Common.{◌∙◌, ◌++◌, ◌<◌, true, refl, ap, sym, subst}
use Rattle.std.specs.List.{All}
use Rattle.std.proofs.lemmas.List.Elements.{All-append}
use Rattle.adj_sweep.specs.HelperSteps.{are_reversed}
use Rattle.adj_weave_units.specs.Calls.{ends_of}
use Rattle.adj_weave.specs.declared.calls.Counting.TheVariants as which
use Rattle.adj_weave.specs.Orders.{is_edge}
use Rattle.adj_weave.proofs.Reached.{edges_along, carried_are}
use Rattle.adj_weave.proofs.Searched.{both_ok, edges_listed, edges_within, same_paths}
use Rattle.adj_weave.specs.Marked.{program_marks}
use Rattle.adj_weave.proofs.found.Search.carried.Goals as goal

pub reach-requires-clause-edges : goal.reach-requires-clause-edges
reach-requires-clause-edges c =
    let r = c.requires.searched in
    edges_within c.args.self r.0 r.1 (λ i turns. true) c.as_slice-2.result.now (c.as_slice-2.ensures.value ∙ c.in_ok-edges.ensures.edges)

pub reach-requires-clause-start : goal.reach-requires-clause-start
reach-requires-clause-start c =
    let s = c.args.self in
    let all = c.as_slice-3.ensures.value ∙ c.in_ok-extend_from_slice.ensures.items ∙ ap (λ xs. c.in_ok-called.called.items ++ xs) c.as_slice.ensures.value in
    subst (All (λ x. x < s.count)) (sym all) (All-append (λ x. x < s.count) c.in_ok-called.called.items c.in_ok-more.more.items c.in_ok-called.ensures.below c.in_ok-more.ensures.below)

pub returns : goal.returns
returns c =
    let s = c.args.self in
    let m = program_marks s.marked.now in
    let own = is_edge s.marked.now (which.Plain c.args.loops) in
    let pair = is_edge s.marked.now (which.Paired c.args.loops) in
    let one = c.args.adjointed.now in
    let two = c.args.paired.now in
    record {
      carried = both_ok c.reach.result _ _ _
          (λ found count exact ps h is a p.
          let called = c.in_ok-called.ensures.called ∙ ap (ends_of one) (edges_listed s ps is own _ refl) in
          let more = c.in_ok-more.ensures.called ∙ ap (ends_of two) (edges_listed s ps is pair _ refl) in
          let all = c.as_slice-3.ensures.value ∙ c.in_ok-extend_from_slice.ensures.items ∙ (λ i. called i ++ (c.as_slice.ensures.value ∙ more) i) in
          carried_are ps is.apart m h (are_reversed c.args.loops) one two a p found (count ∙ is.count)
          (same_paths c.as_slice-2.result.now (edges_along ps is.apart (λ i turns. true)) c.as_slice-3.result.now (ends_of one (edges_along ps is.apart own) ++ ends_of two (edges_along ps is.apart pair)) found (edges_listed s ps is (λ i turns. true) c.as_slice-2.result.now (c.as_slice-2.ensures.value ∙ c.in_ok-edges.ensures.edges)) all exact))
          c.reach.ensures.count c.reach.ensures.exact;
    }
