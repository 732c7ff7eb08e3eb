-- At most one argument stands before the last one.
use Rattle.std.proofs.Common.{◌≡◌, List, [], ◌∷◌, ◌++◌, ◌<◌, length, arith, ap}
use Rattle.std.proofs.lemmas.List.{nil_from_length, length_push}
use Rattle.adj_parse_expression.proofs.operand.Operand.application.Goals as goal

single : {X : Type 0} (items rest : List X) (x : X) → items ≡ rest ++ x ∷ [] → length items < 2 → items ≡ x ∷ []
single items [] x e few = e
single items (y ∷ rest) x e few = absurd (omega (arith, ap length e, length_push rest x, few))

pub returns-in-None : goal.returns-in-None
returns-in-None c =
    let nil = nil_from_length c.args.before.items (omega (arith, c.args.before.ok.0, c.in-None.ensures.cases.0)) in
    rw nil c.with_one.ensures

pub returns : goal.returns
returns c = rw (single c.args.before.items _ c.in-Some.first c.in-Some.ensures.items c.requires.number) c.with_two.ensures
