use Rattle.std.proofs.Common.{◌∙◌, refl, sym, ap}
use Rattle.std.specs.Prelude.{◌&&◌}
use Rattle.adj_tree.specs.Code.{plain, runtime, pop_word}
use Rattle.adj_tree.specs.View.{term_of, terms_of, code_of}
use Rattle.def_meaning.specs.Append.{◌+++◌, one}
use Rattle.def_meaning.specs.Rename.{rename}
use Rattle.def_sweep.specs.Marks.{active_at}
use Rattle.def_sweep.specs.Marked.{code_if}
use Rattle.def_sweep.specs.AdjointOf.{adjoint_where}
use Rattle.adj_sweep_assignment.specs.View.{marks_of}
use Rattle.adj_sweep.specs.Plans.{naming_in}
use Rattle.adj_sweep.specs.Swept.{in_order}
use Rattle.adj_sweep.proofs.Turned.{joined}
use Rattle.adj_sweep.proofs.Rows.{pop_kept, assignment_kept}
use Rattle.adj_sweep.proofs.plan.Plan.assignment.Goals as goal

pub returns : goal.returns
returns c =
    let r = naming_in c.args.self.now in
    let m = marks_of c.args.self.now.marks.now in
    let x = c.args.place.now in
    let old = c.args.sweeps in
    let k = old.number in
    let line = c.args.line in
    let popped = code_if (m.kept k && m.saved k (plain x.name)) (one line (runtime (pop_word (plain x.name) (terms_of x.subs)))) in
    let adjoint = code_if (m.adjointed k) (adjoint_where (active_at m k) x.name (terms_of x.subs) (term_of c.args.e.now) line) in
    let behind = rename r adjoint +++ code_of old.backward in
    record {
      sweeps = λ sc callees d. record {
        number = c.in_ok-after.ensures.next;
        forth = c.in_ok-forward.ensures.forward ∙ ap (λ z. in_order (code_of old.forward) +++ z) (sym (assignment_kept r (λ y. refl) (m.kept k) (m.saved k (plain x.name)) line x.name x.subs c.args.e.now));
        back = joined r popped adjoint (code_of c.in_ok-backward.backward) behind (code_of old.backward)
            (c.in_ok-backward.ensures.backward ∙ ap (λ z. z +++ behind) (sym (pop_kept r (λ y. refl) (m.kept k && m.saved k (plain x.name)) line x.name x.subs))) refl;
      };
    }
