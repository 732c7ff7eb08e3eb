use Rattle.std.proofs.Common.{◌≡◌, ◌∙◌, subst}
use Rattle.std.specs.Prelude.{IfOk}
use Rattle.std.proofs.lemmas.Result.{IfOk-weaker}
use Rattle.adj_weave_units.specs.Calls.{ends_of}
use Rattle.adj_weave.specs.Orders.{is_edge}
use Rattle.adj_weave.proofs.Searched.{ends_within}
use Rattle.adj_weave.proofs.found.Search.called_by.Goals as goal

pub returns-clause-below : goal.returns-clause-below
returns-clause-below c =
    let s = c.args.self in
    let r = c.requires.searched in
    IfOk-weaker c.ends_of.result _ _
    (λ v h. ends_within s r.0 r.1 (is_edge s.marked.now c.args.counting) c.as_slice.result.now (c.as_slice.ensures.value ∙ c.in_ok-edges.ensures.edges) c.args.from.now v.items h)
    c.ends_of.ensures.ends

pub returns-clause-called : goal.returns-clause-called
returns-clause-called c =
    subst (λ es. IfOk c.ends_of.result (λ v. v.items ≡ ends_of c.args.from.now es)) (c.as_slice.ensures.value ∙ c.in_ok-edges.ensures.edges) c.ends_of.ensures.ends
