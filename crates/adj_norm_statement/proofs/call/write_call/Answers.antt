use Rattle.adj_tree.specs.Code.{none, call}
use Rattle.adj_tree.specs.Listed.{terms_turned}
use Rattle.adj_tree.specs.View.{terms_of}
use Rattle.def_meaning.specs.Append.{one}
use Rattle.adj_norm_statement.specs.Steps.{Writes}
use Rattle.adj_norm_statement.proofs.Onto.{writes_both, writes_same, writes_appended}
use Rattle.adj_norm_statement.proofs.call.write_call.Goals as goal

pub returns : goal.returns
returns c =
    let line = c.args.line in
    let unit = c.args.unit.now in
    let s0 = c.args.steps.now.items in
    let s1 = c.write.new.steps.items in
    let s2 = c.append.new.self.items in
    let items = c.args.after.now.items in
    let third = one line (call unit (terms_turned (terms_of c.args.turned) none)) in
    let called : Writes s0 s1 third = writes_same s0 s1 (one line (call c.in_ok-name.name (terms_of c.turned.result))) third c.in_ok-write.ensures.written (λ i. one line (call (c.in_ok-name.ensures.same i) (c.turned.ensures.turned i))) in
    record { steps = λ rest h. writes_both s0 s1 s2 third rest called (writes_appended s1 s2 items rest c.in_ok-append.ensures.items h) }
