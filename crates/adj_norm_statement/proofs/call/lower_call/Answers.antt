use Rattle.std.proofs.Common.{[], subst}
use Rattle.adj_tree.specs.Code.{none, call}
use Rattle.adj_tree.specs.Listed.{terms_turned}
use Rattle.adj_tree.specs.View.{terms_of}
use Rattle.def_meaning.specs.Append.{◌+++◌, one}
use Rattle.def_meaning.proofs.Appends.{append_assoc}
use Rattle.def_kernel.specs.Lowered.{reduced_all, before_all, locals_in_all, all_passed, before_passing_all, after_passing_all}
use Rattle.adj_norm_statement.specs.Locals.{local_by}
use Rattle.adj_norm_statement.specs.Steps.{Writes}
use Rattle.adj_norm_statement.proofs.Onto.{writes_both, writes_same}
use Rattle.adj_norm_statement.proofs.call.lower_call.Goals as goal

pub returns-clause-steps : goal.returns-clause-steps
returns-clause-steps c =
    let local = local_by c.args.locals.now in
    let line = c.args.line in
    let ws = c.args.written.now in
    let args = terms_of c.args.actuals.now in
    let j = locals_in_all args in
    let es = reduced_all local 0 args in
    let n = c.in_ok-named.ensures in
    let s0 = c.args.steps.now.items in
    let s1 = c.name_all.new.steps.items in
    let s2 = c.write_call.new.steps.items in
    let first = before_all local line 0 args in
    let second = before_passing_all local line j ws [] es in
    let unit = c.args.unit.now in
    let third = one line (call unit (all_passed local j ws [] es)) in
    let last = after_passing_all local line j ws [] es in
    let put : Writes [] c.name_all.new.after.items last = subst (λ z. Writes z c.name_all.new.after.items last) c.new-after.ensures.items n.after in
    let called : Writes s1 s2 (third +++ last) = writes_same s1 s2 (one line (call unit (terms_turned (terms_of c.in_ok-named.named.turned) none)) +++ last) (third +++ last) (c.in_ok-write_call.ensures.steps last put) (λ i. one line (call unit (n.names i)) +++ last) in
    writes_same s0 s2 _ _ (writes_both s0 s1 s2 (first +++ second) (third +++ last) n.steps called) (append_assoc first second (third +++ last))
