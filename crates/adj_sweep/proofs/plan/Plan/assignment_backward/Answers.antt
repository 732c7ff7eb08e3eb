use Rattle.std.proofs.Common.{◌∙◌, sym, ap}
use Rattle.std.specs.Prelude.{◌&&◌}
use Rattle.adj_tree.specs.Code.{plain, runtime, pop_word}
use Rattle.adj_tree.specs.View.{term_of, terms_of, code_of}
use Rattle.def_meaning.specs.Append.{◌+++◌, one}
use Rattle.def_meaning.specs.Rename.{rename}
use Rattle.def_sweep.specs.Marks.{active_at}
use Rattle.def_sweep.specs.Marked.{code_if}
use Rattle.def_sweep.specs.AdjointOf.{adjoint_where}
use Rattle.adj_sweep_assignment.specs.View.{marks_of}
use Rattle.adj_sweep.specs.Plans.{naming_in}
use Rattle.adj_sweep.proofs.plan.Plan.assignment_backward.Goals as goal

pub returns-then-not-kept : goal.returns-then-not-kept
returns-then-not-kept c =
    let m = marks_of c.args.self.now.marks.now in
    let x = c.args.place.now in
    let saved = m.saved c.args.number (plain x.name) in
    let popped = one c.args.line (runtime (pop_word (plain x.name) (terms_of x.subs))) in
    let adjoint = rename (naming_in c.args.self.now) (code_if (m.adjointed c.args.number) (adjoint_where (active_at m c.args.number) x.name (terms_of x.subs) (term_of c.args.e.now) c.args.line)) +++ code_of c.args.rest in
    record { backward = c.in_ok-adjoint.ensures.adjoint ∙ ap (λ k. code_if (k && saved) popped +++ adjoint) (sym (sym c.kept.ensures.kept ∙ c.if-not-kept.true)) }

pub returns : goal.returns
returns c =
    let m = marks_of c.args.self.now.marks.now in
    let x = c.args.place.now in
    let saved = m.saved c.args.number (plain x.name) in
    let popped = one c.args.line (runtime (pop_word (plain x.name) (terms_of x.subs))) in
    let adjoint = rename (naming_in c.args.self.now) (code_if (m.adjointed c.args.number) (adjoint_where (active_at m c.args.number) x.name (terms_of x.subs) (term_of c.args.e.now) c.args.line)) +++ code_of c.args.rest in
    record { backward = c.in_ok-code.ensures.popped ∙ ap (λ z. code_if saved popped +++ z) c.in_ok-adjoint.ensures.adjoint ∙ ap (λ k. code_if (k && saved) popped +++ adjoint) (sym (sym c.kept.ensures.kept ∙ c.if-not-kept.false)) }
