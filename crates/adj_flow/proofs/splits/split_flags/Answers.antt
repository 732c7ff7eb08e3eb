use Rattle.std.proofs.Common.{ap, ◌∙◌, map}
use Rattle.adj_tree.specs.View.{procedure_of}
use Rattle.adj_reach.specs.Edges.{flag}
use Rattle.def_flow.specs.Splits.{marked_from}
use Rattle.adj_flow.proofs.Splitting.{told}
use Rattle.adj_flow.proofs.splits.split_flags.Goals as goal

pub returns : goal.returns
returns c =
    let ps = map procedure_of c.args.units.now in
    let marked = flag c.as_slice.result.now in
    record {
      split = λ n.
          ap (λ z. flag z n) (c.new.ensures.members ∙ c.in_ok-flags.ensures.flags)
          ∙ told marked n ps
          ∙ ap (λ l. marked_from l n 0 ps) (λ i k. (ap (λ z. flag z k) c.as_slice.ensures.value ∙ c.in_ok-marked.ensures.flags k) i);
    }
