use Rattle.std.proofs.Common.{None, not, sym, ap, ◌∙◌, subst}
use Rattle.adj_tree.specs.Code.{plain}
use Rattle.adj_tree.specs.View.{terms_of}
use Rattle.def_meaning.specs.Append.{◌+++◌, one}
use Rattle.def_sweep.specs.Plan.{names_of, save_group, snapshot_group}
use Rattle.def_sweep.specs.Rows.{is_empty, pops, adjoint_call}
use Rattle.def_sweep.proofs.UnsplitRows.{unsplit_backward}
use Rattle.adj_sweep_assignment.specs.View.{marks_of}
use Rattle.adj_sweep_assignment.proofs.Unsplit.{never_split}
use Rattle.adj_sweep.specs.Callees.{Knows}
use Rattle.adj_sweep.specs.Uses.{plan_by, saves_some}
use Rattle.adj_sweep.proofs.Idle.{adjointed_there, nothing_called, kept_called, pops_there}
use Rattle.adj_sweep.proofs.uses.Known.is_idle_call.Goals as goal

pub returns-then-adjointed : goal.returns-then-adjointed
returns-then-adjointed c =
    let m = marks_of c.args.self.now.marks.now in
    let i = c.args.number in
    record {
      idle = λ arrays callees reads k d line.
          adjointed_there (plan_by c.args.self.now arrays callees) i d line c.args.name.now (terms_of c.args.actuals.now) (sym c.adjointed.ensures.adjointed ∙ c.if-adjointed.true);
    }

pub returns-then-not-kept : goal.returns-then-not-kept
returns-then-not-kept c =
    let m = marks_of c.args.self.now.marks.now in
    let i = c.args.number in
    let given = names_of (terms_of c.args.actuals.now) in
    record {
      idle = λ arrays callees reads k d line.
          let p = plan_by c.args.self.now arrays callees in
          let g = callees c.args.name.now in
          sym (nothing_called (m.kept i) (m.adjointed i) (pops p line (snapshot_group g given) +++ one line (adjoint_call g given)) (pops p line (save_group m i g given)) (sym c.kept.ensures.kept ∙ c.if-not-kept.true) (sym c.adjointed.ensures.adjointed ∙ c.if-adjointed.false))
          ∙ ap is_empty (sym (unsplit_backward None p i d line c.args.name.now (terms_of c.args.actuals.now) (never_split c.args.self.now.marks.now i (sym c.adjointed.ensures.adjointed ∙ c.if-adjointed.false))));
    }

pub returns : goal.returns
returns c =
    let m = marks_of c.args.self.now.marks.now in
    let i = c.args.number in
    let given = names_of (terms_of c.args.actuals.now) in
    record {
      idle = λ arrays callees reads k d line.
          let p = plan_by c.args.self.now arrays callees in
          let g = callees c.args.name.now in
          let known = subst (λ z. Knows z g (reads c.args.name.now)) (sym c.find-callee.ensures.found) (k c.args.name.now) in
          ap not (c.saves.ensures.saves ∙ ap (λ ds. saves_some (λ x. m.saved i (plain x)) ds given) (c.as_slice.ensures.value ∙ known.dummies))
          ∙ sym (pops_there p line g (reads c.args.name.now) (m.saved i) g.dummies given)
          ∙ sym (kept_called (m.kept i) (m.adjointed i) (pops p line (snapshot_group g given) +++ one line (adjoint_call g given)) (pops p line (save_group m i g given)) (sym c.kept.ensures.kept ∙ c.if-not-kept.false) (sym c.adjointed.ensures.adjointed ∙ c.if-adjointed.false))
          ∙ ap is_empty (sym (unsplit_backward None p i d line c.args.name.now (terms_of c.args.actuals.now) (never_split c.args.self.now.marks.now i (sym c.adjointed.ensures.adjointed ∙ c.if-adjointed.false))));
    }
