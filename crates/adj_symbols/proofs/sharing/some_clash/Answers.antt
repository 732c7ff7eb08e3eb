use Rattle.std.proofs.Common.{ap, sym, ◌∙◌, ◌+◌, drop, get_or, true, false}
use Rattle.adj_tree.specs.View.{term_of, terms_of, procedure_of}
use Rattle.adj_symbols.specs.Sharing.{tests_of, and_actual, meets, some_meets}
use Rattle.adj_symbols.proofs.Clashing.{goes_on, no_actuals}
use Rattle.adj_symbols.proofs.sharing.some_clash.Goals as goal

pub returns-in-Empty : goal.returns-in-Empty
returns-in-Empty c =
    let u = procedure_of c.args.caller.now in
    let t = tests_of c.loop-is_written.known in
    let left = drop c.loop-is_written.is_written-index c.args.row.now in
    sym (no_actuals u t left) ∙ ap (λ z. some_meets u t left (terms_of z)) (sym c.in-Empty.is) ∙ c.loop-is_written.invariant

pub returns-then-branch : goal.returns-then-branch
returns-then-branch c =
    let u = procedure_of c.args.caller.now in
    let row = c.args.row.now in
    let i = c.loop-is_written.is_written-index in
    let t = tests_of c.loop-is_written.known in
    let e = term_of c.in-More.first.value in
    let es = terms_of c.in-More.next.value in
    let hit = sym c.if-branch.true ∙ c.in_ok-clashes-in-More.ensures.clashes ∙ ap (λ z. meets u t (get_or row i false) (term_of z)) c.deref.ensures in
    sym (goes_on u t row i e es true c.loop-is_written-test.true hit)
    ∙ ap (λ z. some_meets u t (drop i row) (terms_of z)) (sym c.in-More.is)
    ∙ c.loop-is_written.invariant

pub loop-is_written-preserved : goal.loop-is_written-preserved
loop-is_written-preserved c =
    let u = procedure_of c.args.caller.now in
    let row = c.args.row.now in
    let i = c.loop-is_written.is_written-index in
    let t = tests_of c.loop-is_written.known in
    let w = get_or row i false in
    let e = term_of c.in-More.first.value in
    let es = terms_of c.in-More.next.value in
    let miss = sym c.if-branch.false ∙ c.in_ok-clashes-in-More.ensures.clashes ∙ ap (λ z. meets u t w (term_of z)) c.deref.ensures in
    ap (λ k. some_meets u k (drop (i + 1) row) (terms_of c.deref-rest.result.now)) (c.in_ok-clashes-in-More.ensures.known ∙ ap (λ z. and_actual u t w (term_of z)) c.deref.ensures)
    ∙ ap (λ z. some_meets u (and_actual u t w e) (drop (i + 1) row) (terms_of z)) c.deref-rest.ensures
    ∙ sym (goes_on u t row i e es false c.loop-is_written-test.true miss)
    ∙ ap (λ z. some_meets u t (drop i row) (terms_of z)) (sym c.in-More.is)
    ∙ c.loop-is_written.invariant
