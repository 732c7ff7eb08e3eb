use Rattle.std.proofs.Common.{◌≡◌, true, refl, sym, ap, ◌∙◌, arith, if◌then◌else◌, ◌&&◌}
use Rattle.adj_tree.specs.Code.{plain, runtime, pop_word}
use Rattle.adj_tree.specs.View.{term_of, terms_of}
use Rattle.def_sweep.specs.Marks.{active_at}
use Rattle.def_sweep.specs.AdjointOf.{works_in_where, temps_in_where}
use Rattle.def_meaning.specs.Append.{one}
use Rattle.def_sweep.specs.Marked.{code_if}
use Rattle.adj_sweep_assignment.specs.View.{marks_of}
use Rattle.adj_sweep.proofs.Idle.{adjoint_assigned}
use Rattle.adj_sweep.proofs.uses.Known.assignment.Goals as goal

pub returns-then-adjointed : goal.returns-then-adjointed
returns-then-adjointed c =
    let m = marks_of c.args.self.now.marks.now in
    let i = c.args.number in
    let x = c.args.target.now.name in
    let subs = terms_of c.args.target.now.subs in
    let e = term_of c.args.e.now in
    let is : m.adjointed i ≡ true = sym c.adjointed.ensures.adjointed ∙ c.if-adjointed.true in
    record {
      uses = λ r arrays callees d. record {
        idle = λ line. sym (adjoint_assigned (active_at m i) x subs e line (code_if (m.kept i && m.saved i (plain x)) (one line (runtime (pop_word (plain x) subs)))) (m.adjointed i) is);
        tells = refl;
        works = c.in_ok-measure.ensures.works ∙ sym (ap (λ b. if b then works_in_where (active_at m i) e 1 else 0) is);
        temps = c.in_ok-measure.ensures.temps ∙ sym (ap (λ b. if b then temps_in_where (active_at m i) e else 0) is);
        depth = refl;
        number = omega (arith, c.in_ok-next.ensures.sum);
      };
    }
