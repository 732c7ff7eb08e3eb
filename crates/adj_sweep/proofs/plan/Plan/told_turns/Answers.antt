use Rattle.std.proofs.Common.{◌≡◌, ◌∙◌, refl, ap}
use Rattle.std.specs.Prelude.{pos}
use Rattle.adj_tree.specs.Code.{plain, helper, first, stride, count, plus, var, lit, bin, none, assign, loop, runtime, push_word, unmarked, step, Code}
use Rattle.adj_tree.specs.Listed.{code_turned}
use Rattle.adj_tree.specs.View.{term_of, code_of}
use Rattle.def_meaning.specs.Append.{◌+++◌, one}
use Rattle.adj_sweep.specs.Plans.{naming_in}
use Rattle.adj_sweep.specs.Swept.{in_order}
use Rattle.adj_sweep.proofs.Turned.{turned_before}
use Rattle.adj_sweep.proofs.Rows.{counted_named, told_turns_named}
use Rattle.adj_sweep.proofs.plan.Plan.told_turns.Goals as goal

pub returns : goal.returns
returns c =
    let r = naming_in c.args.self.now in
    let at = c.args.at in
    let d = at.depth in
    let line = at.line in
    let b = c.args.bounds.now in
    let x = b.variable.now in
    let t = code_of c.args.turned in
    let body = code_turned (code_of c.args.body) (one line (assign (r (helper count d)) none (bin plus (var (r (helper count d))) (lit (pos 1))))) in
    let turns = loop (plain x) (var (r (helper first d))) (term_of b.limit.now) (var (r (helper stride d))) body unmarked in
    let begun = λ (z : Code). step line (assign (r (helper count d)) none (lit (pos 0))) z in
    let opened = begun (step line (assign (r (helper stride d)) none (term_of b.step.now)) (step line (assign (r (helper first d)) none (term_of b.first.now)) t)) in
    let ends = λ (z : Code). step line (runtime (push_word (r (helper stride d)) none)) (step line (runtime (push_word (r (helper first d)) none)) z) in
    let close = λ (z : Code). step line (runtime (push_word (r (helper count d)) none)) z in
    let gone : code_of c.in_ok-gone.gone ≡ step line turns opened = c.in_ok-gone.ensures.step ∙ ap (step line turns) (c.in_ok-opened.ensures.set ∙ ap begun c.in_ok-bound.ensures.set) in
    record {
      told = λ inner h.
          ap in_order (c.in_ok-code.ensures.pushed ∙ ap close (c.in_ok-pushed.ensures.pushed ∙ ap ends gone))
          ∙ turned_before t _
          ∙ ap (λ z. in_order t +++ z) (told_turns_named r (λ y. refl) d line x b.first.now b.limit.now b.step.now body inner (counted_named r (λ y. refl) d line (code_of c.args.body) inner h));
    }
