use Rattle.std.proofs.Common.{◌≡◌, ◌∙◌, true, ap, sym}
use Rattle.adj_tree.specs.Code.{plain, var, more}
use Rattle.adj_tree.specs.View.{term_of, terms_of}
use Rattle.def_meaning.specs.Read.{reads_term}
use Rattle.adj_norm_statement.specs.Locals.{local_by}
use Rattle.adj_norm_statement.specs.Targets.{kept_apart}
use Rattle.adj_norm_statement.proofs.target.set_apart.Goals as goal

pub returns-clause-subs : goal.returns-clause-subs
returns-clause-subs c =
    let local = local_by c.args.locals.now in
    let x = plain c.args.name.now in
    let e = term_of c.args.e.now in
    let t = terms_of c.args.passed.turned in
    let own = c.args.passed.own in
    let known : true ≡ reads_term x e = sym c.if-not-stands_in.false ∙ c.stands_in.ensures.stands in
    let name : plain c.in_ok-local.local ≡ local own = c.in_ok-local.ensures.name ∙ (λ k. (c.in_ok-next.ensures.locals k) own) in
    c.in_ok-turned.ensures.terms ∙ ap (λ z. more (var z) t) name ∙ ap (λ b. more (kept_apart b (local own) e) t) known
