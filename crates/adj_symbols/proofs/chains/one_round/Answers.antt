use Rattle.std.proofs.Common.{ap, sym, ◌∙◌, ◌++◌, ◌∷◌, [], map, min}
use Rattle.std.proofs.lemmas.List.{drop_all, append-nil}
use Rattle.adj_tree.specs.View.{procedure_of, code_of}
use Rattle.def_names.specs.Calls.{chain}
use Rattle.adj_symbols.specs.Chain.{length_of, longer}
use Rattle.adj_symbols.proofs.Lengths.{longer_capped}
use Rattle.adj_symbols.proofs.Names.{map_more}
use Rattle.adj_symbols.proofs.chains.one_round.Goals as goal

pub loop-outline-preserved : goal.loop-outline-preserved
loop-outline-preserved c =
    let os = c.outlines-outline-items.result.now in
    let i = c.loop-outline.outline-index in
    let o = c.outline-item.result in
    let f = length_of (map procedure_of c.args.scope.now) c.args.lengths.now in
    let made = c.loop-outline.next.items in
    let length = c.add_list-length.ensures.length ∙ ap (λ u. min c.args.limit (chain f (code_of u.body))) c.unit.ensures.unit in
    map_more procedure_of (longer c.args.limit f) os i o made c.push.new.self.items c.loop-outline-test.true c.outline-item.is
    (c.in_ok-push.ensures.items ∙ ap (λ n. made ++ n ∷ []) (c.one_more.ensures ∙ longer_capped c.args.limit (chain f (code_of o.body)) c.add_list-length.result length))
    ∙ c.loop-outline.invariant

pub returns : goal.returns
returns c =
    let os = c.outlines-outline-items.result.now in
    let made = c.loop-outline.next.items in
    let f = longer c.args.limit (length_of (map procedure_of c.args.scope.now) c.args.lengths.now) in
    sym (append-nil made)
    ∙ ap (λ z. made ++ map f (map procedure_of z)) (sym (drop_all c.loop-outline.outline-index os c.loop-outline-test.false))
    ∙ c.loop-outline.invariant
    ∙ ap (λ z. map f (map procedure_of z)) c.outlines-outline-items.ensures.outlines
