use Rattle.std.proofs.Common.{◌≡◌, ◌∙◌, ◌+◌, ap, sym}
use Rattle.adj_tree.specs.Code.{plain, var, elem, none, assign}
use Rattle.adj_tree.specs.View.{terms_of}
use Rattle.def_meaning.specs.Append.{◌+++◌, one}
use Rattle.def_kernel.specs.Lowered.{put_back, length_of, locals_in_all, before_held, passed, before_passing, after_passing}
use Rattle.adj_norm_statement.specs.Locals.{local_by}
use Rattle.adj_norm_statement.specs.Passings.{passing_of}
use Rattle.adj_norm_statement.proofs.Onto.{writes_both, writes_same}
use Rattle.adj_norm_statement.proofs.passing.pass.Goals as goal

pub returns-in_ok-made-in-PutBack-clause-name : goal.returns-in_ok-made-in-PutBack-clause-name
returns-in_ok-made-in-PutBack-clause-name c =
    let local = local_by c.args.locals.now in
    let j = c.args.first in
    let subs = terms_of c.in-PutBack.subs in
    let h = c.in_ok-held-in-PutBack.ensures in
    let p : put_back (plain c.in-PutBack.array) subs ≡ passing_of c.args.actual = sym (ap passing_of c.in-PutBack.is) in
    let own : local_by c.hold_all.new.locals c.in_ok-held-in-PutBack.held.next ≡ local (j + (length_of subs + locals_in_all subs)) = λ k. (h.locals k) (h.next k) in
    c.in_ok-made-in-PutBack.ensures.name ∙ own ∙ ap (passed local j) p

pub returns-in_ok-made-in-PutBack-clause-steps : goal.returns-in_ok-made-in-PutBack-clause-steps
returns-in_ok-made-in-PutBack-clause-steps c =
    let local = local_by c.args.locals.now in
    let line = c.args.line in
    let j = c.args.first in
    let x = plain c.in-PutBack.array in
    let subs = terms_of c.in-PutBack.subs in
    let h = c.in_ok-held-in-PutBack.ensures in
    let p : put_back x subs ≡ passing_of c.args.actual = sym (ap passing_of c.in-PutBack.is) in
    let own : local_by c.hold_all.new.locals c.in_ok-held-in-PutBack.held.next ≡ local (j + (length_of subs + locals_in_all subs)) = λ k. (h.locals k) (h.next k) in
    writes_same _ _ _ _ (writes_both _ _ _ _ _ h.steps c.in_ok-made-in-PutBack.ensures.steps) ((λ k. before_held local line j subs +++ one line (assign (own k) none (elem x (h.subs k)))) ∙ ap (before_passing local line j) p)

pub returns-in_ok-made-in-PutBack-clause-after : goal.returns-in_ok-made-in-PutBack-clause-after
returns-in_ok-made-in-PutBack-clause-after c =
    let local = local_by c.args.locals.now in
    let line = c.args.line in
    let j = c.args.first in
    let x = plain c.in-PutBack.array in
    let subs = terms_of c.in-PutBack.subs in
    let h = c.in_ok-held-in-PutBack.ensures in
    let p : put_back x subs ≡ passing_of c.args.actual = sym (ap passing_of c.in-PutBack.is) in
    let own : local_by c.hold_all.new.locals c.in_ok-held-in-PutBack.held.next ≡ local (j + (length_of subs + locals_in_all subs)) = λ k. (h.locals k) (h.next k) in
    writes_same _ _ _ _ c.in_ok-made-in-PutBack.ensures.after ((λ k. one line (assign x (h.subs k) (var (own k)))) ∙ ap (after_passing local line j) p)
