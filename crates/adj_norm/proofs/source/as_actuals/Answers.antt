use Rattle.std.proofs.Common.{◌≡◌, map, take, ap, ◌∙◌, arith}
use Rattle.std.proofs.lemmas.List.{take_all}
use Rattle.adj_tree.specs.Code.{var, plain, none}
use Rattle.adj_tree.specs.Listed.{terms_onto}
use Rattle.adj_norm.proofs.Sources.{actuals_listed}
use Rattle.adj_norm.proofs.source.as_actuals.Goals as goal

pub returns : goal.returns
returns c =
    let l = c.loop-name in
    let names = c.args.names.now in
    let all : take l.name-index names ≡ names = take_all l.name-index names (omega arith) in
    record { actuals = c.in_ok-listed.ensures.listed ∙ ap (λ z. terms_onto z none) (l.invariant ∙ ap (map (λ x. var (plain x))) all) ∙ actuals_listed names }
