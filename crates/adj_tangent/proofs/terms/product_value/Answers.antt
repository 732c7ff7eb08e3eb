use Rattle.adj_tree.specs.Code.{bin, times}
use Rattle.adj_tree.specs.View.{term_of}
use Rattle.def_sweep.specs.Marked.{own_or}
use Rattle.adj_sweep_assignment.specs.Sites.{naming_of}
use Rattle.adj_tangent.proofs.terms.product_value.Goals as goal

pub returns : goal.returns
returns c =
    let f = c.args.first in
    let s = c.args.second in
    record {
      value = λ b d x y h g.
          c.in_ok-made.ensures.value (naming_of c.args.site.now) b d (bin times x (own_or s.own s.temp (term_of s.term.now))) (bin times (own_or f.own f.temp (term_of f.term.now)) y)
          (c.in_ok-from_left.ensures.value b x h) (c.in_ok-from_right.ensures.value d y g);
    }
