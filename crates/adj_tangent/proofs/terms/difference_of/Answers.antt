use Rattle.adj_tangent.proofs.Values.{some_value, none_less, some_less}
use Rattle.adj_tangent.proofs.terms.difference_of.Goals as goal

pub returns-in_ok-made-in-None : goal.returns-in_ok-made-in-None
returns-in_ok-made-in-None c = record { value = λ r b d x y h g. none_less r b d x y c.args.left c.in_ok-made-in-None.made c.in-None.is h (c.in_ok-made-in-None.ensures.value r d y g) }

pub returns-in_ok-made-in-Some : goal.returns-in_ok-made-in-Some
returns-in_ok-made-in-Some c = record {
  value = λ r b d x y h g.
      let there = some_value r b x c.args.left c.in-Some.x c.in-Some.is h in
      some_less r b d x y c.in_ok-made-in-Some.made there.0 (c.in_ok-made-in-Some.ensures.value r d x y there.1 g);
}
