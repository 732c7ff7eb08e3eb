use Rattle.std.proofs.Common.{◌≡◌, ◌∙◌, refl, sym, ap}
use Rattle.std.specs.Prelude.{pos}
use Rattle.adj_tree.specs.Code.{helper, count, plus, var, lit, bin, none, assign, during, runtime, push_word, step}
use Rattle.adj_tree.specs.Listed.{code_turned}
use Rattle.adj_tree.specs.View.{test_of, code_of}
use Rattle.def_meaning.specs.Append.{◌+++◌, one}
use Rattle.def_meaning.specs.Rename.{rename}
use Rattle.def_sweep.specs.Rows.{while_forward}
use Rattle.adj_naming.specs.Roles.{role_of}
use Rattle.adj_sweep.specs.Plans.{naming_in}
use Rattle.adj_sweep.specs.Swept.{in_order}
use Rattle.adj_sweep.proofs.Turned.{turned_before, put_behind}
use Rattle.adj_sweep.proofs.Rows.{counted_named, plain_while_named, told_while_named}
use Rattle.adj_sweep.proofs.plan.Plan.while_forward.Goals as goal

pub returns-then-idle : goal.returns-then-idle
returns-then-idle c =
    let r = naming_in c.args.self.now in
    let at = c.args.at in
    let test = test_of c.args.c.now in
    let t = code_of c.args.turned in
    let body = in_order (code_of c.args.body) in
    record {
      forward = λ inner h.
          put_behind t (code_of c.in_ok-plain.plain) at.line _ (during test body) c.in_ok-plain.ensures.step (λ i. during test (c.turned.ensures.turned i))
          ∙ ap (λ z. in_order t +++ z) (plain_while_named r (λ y. refl) at.line at.depth c.args.c.now body inner h)
          ∙ ap (λ i. in_order t +++ rename r (while_forward i at.depth at.line test inner)) (sym c.if-idle.true);
    }

pub returns : goal.returns
returns c =
    let r = naming_in c.args.self.now in
    let at = c.args.at in
    let d = at.depth in
    let line = at.line in
    let test = test_of c.args.c.now in
    let t = code_of c.args.turned in
    let h = c.of_depth-count.ensures in
    let own : helper (role_of c.of_depth-count.result.role) c.of_depth-count.result.number ≡ helper count d = λ i. helper (role_of (h.role i)) (h.number i) in
    let body = code_turned (code_of c.args.body) (one line (assign (r (helper count d)) none (bin plus (var (r (helper count d))) (lit (pos 1))))) in
    let opened : code_of c.in_ok-opened.opened ≡ step line (assign (r (helper count d)) none (lit (pos 0))) t = c.in_ok-opened.ensures.set in
    let gone : code_of c.in_ok-gone.gone ≡ step line (during test body) (step line (assign (r (helper count d)) none (lit (pos 0))) t) =
    c.in_ok-gone.ensures.step ∙ (λ i. step line (during test (c.in_ok-counted.ensures.counted i)) (opened i)) in
    record {
      forward = λ inner q.
          ap in_order (c.in_ok-code.ensures.step ∙ (λ i. step line (runtime (push_word (r (own i)) none)) (gone i)))
          ∙ turned_before t _
          ∙ ap (λ z. in_order t +++ z) (told_while_named r (λ y. refl) d line c.args.c.now body inner (counted_named r (λ y. refl) d line (code_of c.args.body) inner q))
          ∙ ap (λ i. in_order t +++ rename r (while_forward i d line test inner)) (sym c.if-idle.false);
    }
