use Rattle.std.proofs.Common.{◌≡◌, ◌∙◌, []}
use Rattle.adj_tree.specs.View.{terms_of}
use Rattle.def_kernel.specs.Lowered.{reduced_all, before_all, locals_in_all, all_passed, before_passing_all, after_passing_all}
use Rattle.adj_norm_statement.specs.Locals.{local_by}
use Rattle.adj_norm_statement.specs.Steps.{Writes}
use Rattle.adj_norm_statement.proofs.Onto.{writes_both, writes_same}
use Rattle.adj_norm_statement.proofs.call.name_all.Goals as goal

pub returns-clause-names : goal.returns-clause-names
returns-clause-names c =
    let v = c.in_ok-values.ensures in
    let reduced : terms_of c.turned-reduced.result ≡ reduced_all (local_by c.args.locals.now) 0 (terms_of c.args.actuals.now) = c.turned-reduced.ensures.turned ∙ v.values in
    c.in_ok-named.ensures.names ∙ (λ i. all_passed (v.locals i) (v.next i) c.args.written.now [] (reduced i))

pub returns-clause-steps : goal.returns-clause-steps
returns-clause-steps c =
    let local = local_by c.args.locals.now in
    let line = c.args.line in
    let ws = c.args.written.now in
    let args = terms_of c.args.actuals.now in
    let es = reduced_all local 0 args in
    let v = c.in_ok-values.ensures in
    let reduced : terms_of c.turned-reduced.result ≡ es = c.turned-reduced.ensures.turned ∙ v.values in
    let s0 = c.args.steps.now.items in
    let s1 = c.reduce_all.new.steps.items in
    let s2 = c.pass_all.new.steps.items in
    let first = before_all local line 0 args in
    let second = before_passing_all local line (locals_in_all args) ws [] es in
    let passings : Writes s1 s2 second = writes_same s1 s2 (before_passing_all (local_by c.reduce_all.new.locals) line c.in_ok-values.values.next ws [] (terms_of c.turned-reduced.result)) second c.in_ok-named.ensures.steps (λ i. before_passing_all (v.locals i) line (v.next i) ws [] (reduced i)) in
    writes_both s0 s1 s2 first second v.steps passings

pub returns-clause-after : goal.returns-clause-after
returns-clause-after c =
    let local = local_by c.args.locals.now in
    let line = c.args.line in
    let ws = c.args.written.now in
    let args = terms_of c.args.actuals.now in
    let es = reduced_all local 0 args in
    let v = c.in_ok-values.ensures in
    let reduced : terms_of c.turned-reduced.result ≡ es = c.turned-reduced.ensures.turned ∙ v.values in
    writes_same c.args.after.now.items c.pass_all.new.after.items (after_passing_all (local_by c.reduce_all.new.locals) line c.in_ok-values.values.next ws [] (terms_of c.turned-reduced.result)) (after_passing_all local line (locals_in_all args) ws [] es) c.in_ok-named.ensures.after (λ i. after_passing_all (v.locals i) line (v.next i) ws [] (reduced i))
