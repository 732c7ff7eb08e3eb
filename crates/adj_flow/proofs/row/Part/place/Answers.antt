-- The place is that of a variable of the unit.
use Rattle.std.proofs.Common.{ℕ, ◌<◌, ◌^◌, sym, subst, ◌∙◌, arith}
use Rattle.std.specs.Prelude.{Option, IfSome}
use Rattle.adj_flow.proofs.UnitSetting.{place_below}
use Rattle.adj_flow.proofs.row.Part.place.Goals as goal

pub returns-clause-low : goal.returns-clause-low
returns-clause-low c =
    subst (λ (o : Option ℕ). IfSome o (λ j. j < 2 ^ 30)) (sym (c.get.ensures.number ∙ c.args.self.now.known c.args.name.now))
    (place_below c.args.self.now.variables.now c.args.name.now (2 ^ 30) (omega (arith, c.args.self.now.narrow)))
