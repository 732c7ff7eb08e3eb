use Rattle.std.proofs.Common.{◌≡◌, ◌∙◌, sym, ap}
use Rattle.std.specs.Prelude.{pos}
use Rattle.adj_tree.specs.Code.{helper, count, turn, minus, var, lit, neg, bin, none, loop, runtime, pop_word, unmarked, step, Code}
use Rattle.adj_tree.specs.View.{code_of}
use Rattle.def_meaning.specs.Append.{◌+++◌}
use Rattle.def_meaning.specs.Rename.{rename}
use Rattle.def_sweep.specs.Rows.{while_backward}
use Rattle.adj_naming.specs.Roles.{role_of}
use Rattle.adj_sweep.specs.Plans.{naming_in}
use Rattle.adj_sweep.proofs.plan.Plan.while_backward.Goals as goal

pub returns-then-idle : goal.returns-then-idle
returns-then-idle c =
    record { backward = λ inner h. ap (λ z. rename (naming_in c.args.self.now) (while_backward z c.args.at.depth c.args.at.line inner) +++ code_of c.args.rest) (sym c.if-idle.true) }

pub returns : goal.returns
returns c =
    let r = naming_in c.args.self.now in
    let d = c.args.at.depth in
    let line = c.args.at.line in
    let rest = code_of c.args.rest in
    let h = c.of_depth.ensures in
    let back = λ (z : Code). loop (r (helper turn d)) (bin minus (var (r (helper count d))) (lit (pos 1))) (lit (pos 0)) (neg (lit (pos 1))) z unmarked in
    let gone : code_of c.in_ok-gone.gone ≡ step line (back (code_of c.args.body)) rest = c.in_ok-gone.ensures.step in
    record {
      backward = λ inner q.
          c.in_ok-code.ensures.step
          ∙ (λ i. step line (runtime (pop_word (r (helper (role_of (h.role i)) (h.number i))) none)) ((gone ∙ ap (λ z. step line (back z) rest) q) i))
          ∙ ap (λ z. rename r (while_backward z d line inner) +++ rest) (sym c.if-idle.false);
    }
