use Rattle.std.proofs.Common.{◌∙◌, sym}
use Rattle.adj_tree.specs.Code.{plain, runtime, pop_word, step}
use Rattle.adj_tree.specs.View.{terms_of, code_of}
use Rattle.def_meaning.specs.Append.{one}
use Rattle.adj_sweep_assignment.specs.View.{marks_of}
use Rattle.adj_sweep.proofs.Emitted.{kept_before_if, kept_before_not}
use Rattle.adj_sweep.proofs.plan.Plan.pop_saved.Goals as goal

pub returns-then-not-saved : goal.returns-then-not-saved
returns-then-not-saved c =
    let x = c.args.place.now in
    let saved = (marks_of c.args.self.now.marks.now).saved c.args.number (plain x.name) in
    record { popped = kept_before_not saved (one c.args.line (runtime (pop_word (plain x.name) (terms_of x.subs)))) (code_of c.args.rest) (sym c.saved.ensures.saved ∙ c.if-not-saved.true) }

pub returns : goal.returns
returns c =
    let x = c.args.place.now in
    let saved = (marks_of c.args.self.now.marks.now).saved c.args.number (plain x.name) in
    let copied = c.in_ok-copy.ensures in
    let act = runtime (pop_word (plain x.name) (terms_of x.subs)) in
    record {
      popped = kept_before_if saved (one c.args.line act) (code_of c.args.rest) (code_of c.in_ok-code.code) (sym c.saved.ensures.saved ∙ c.if-not-saved.false)
          (c.in_ok-code.ensures.step ∙ (λ i. step (c.pop.ensures.line i) ((c.pop.ensures.act ∙ (λ j. runtime (pop_word (plain (copied.name j)) (copied.subscripts j)))) i) (code_of c.args.rest)));
    }
