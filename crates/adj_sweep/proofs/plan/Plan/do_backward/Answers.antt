use Rattle.std.proofs.Common.{◌≡◌, ◌∙◌, refl, sym, ap}
use Rattle.std.specs.Prelude.{pos}
use Rattle.adj_tree.specs.Code.{plain, helper, first, stride, count, turn, plus, minus, times, var, lit, neg, bin, none, assign, loop, runtime, pop_word, unmarked, step, Code}
use Rattle.adj_tree.specs.View.{code_of}
use Rattle.def_meaning.specs.Append.{◌+++◌, one}
use Rattle.def_meaning.specs.Rename.{rename}
use Rattle.def_sweep.specs.Rows.{loop_backward, reset}
use Rattle.def_sweep.specs.Marked.{code_if}
use Rattle.adj_sweep_assignment.specs.View.{marks_of}
use Rattle.adj_naming.specs.Roles.{role_of}
use Rattle.adj_sweep.specs.Plans.{naming_in}
use Rattle.adj_sweep.proofs.Rows.{turns_back_named}
use Rattle.adj_sweep.proofs.plan.Plan.do_backward.Goals as goal

pub returns-then-idle : goal.returns-then-idle
returns-then-idle c =
    let r = naming_in c.args.self.now in
    let at = c.args.at in
    let x = c.args.variable.now in
    let m = marks_of c.args.self.now.marks.now in
    let behind : Code = code_if (m.saved at.number (plain x)) (one at.line (runtime (pop_word (plain x) none))) +++ (rename r (reset m at.number at.line x) +++ code_of c.args.rest) in
    record { backward = λ inner h. c.in_ok-popped.ensures.popped ∙ ap (λ z. rename r (loop_backward z at.depth at.line (plain x) inner) +++ behind) (sym c.if-idle.true) }

pub returns : goal.returns
returns c =
    let r = naming_in c.args.self.now in
    let d = c.args.at.depth in
    let line = c.args.at.line in
    let x = c.args.variable.now in
    let rest = code_of c.in_ok-popped.popped in
    let value = bin plus (var (r (helper first d))) (bin times (var (r (helper turn d))) (var (r (helper stride d)))) in
    let body : code_of c.in_ok-turned.turned ≡ step line (assign (plain x) none value) (code_of c.args.body) = c.in_ok-turned.ensures.step in
    let back = λ (z : Code). loop (r (helper turn d)) (bin minus (var (r (helper count d))) (lit (pos 1))) (lit (pos 0)) (neg (lit (pos 1))) z unmarked in
    let gone : code_of c.in_ok-gone.gone ≡ step line (back (step line (assign (plain x) none value) (code_of c.args.body))) rest =
    c.in_ok-gone.ensures.step ∙ ap (λ z. step line (back z) rest) body in
    record {
      backward = λ inner h.
          let turns : Code = rename r (loop_backward c.args.idle d line (plain x) inner) in
          c.in_ok-code.ensures.step
          ∙ (λ i. step line (runtime (pop_word (r (helper (role_of (c.of_depth-3.ensures.role i)) (c.of_depth-3.ensures.number i))) none)) ((c.in_ok-stepped.ensures.step
          ∙ (λ j. step line (runtime (pop_word (r (helper (role_of (c.of_depth-2.ensures.role j)) (c.of_depth-2.ensures.number j))) none)) ((c.in_ok-begun.ensures.step
          ∙ (λ k. step line (runtime (pop_word (r (helper (role_of (c.of_depth.ensures.role k)) (c.of_depth.ensures.number k))) none)) (gone k))) j))) i))
          ∙ turns_back_named r (λ y. refl) d line x (code_of c.args.body) inner rest h
          ∙ ap (λ z. rename r (loop_backward z d line (plain x) inner) +++ rest) (sym c.if-idle.false)
          ∙ ap (λ z. turns +++ z) c.in_ok-popped.ensures.popped;
    }
