use Rattle.std.proofs.Common.{rules, FitsSigned, w64, subst, ◌∙◌}
use Rattle.std.proofs.lemmas.Int.{to_z-of_z}
use Rattle.def_meaning.specs.Run.{with_turn}
use Rattle.adj_interp_frame.specs.Prepared.{var_at}
use Rattle.adj_interp.specs.Held.{setting_at, Holds}
use Rattle.adj_interp.proofs.machine.Machine.give.Goals as goal

pub returns-clause-holds : goal.returns-clause-holds
returns-clause-holds g c e s h =
    let n = setting_at e in
    let names = c.args.self.now.frame.names.now in
    let fits1 : FitsSigned w64 c.kind_of.result = search rules in
    let fits2 : FitsSigned w64 c.lower_of.result = search rules in
    let fits3 : FitsSigned w64 c.upper_of.result = search rules in
    let z1 = to_z-of_z w64 c.kind_of.result fits1 ∙ c.kind_of.ensures in
    let z2 = to_z-of_z w64 c.lower_of.result fits2 ∙ c.lower_of.ensures in
    let z3 = to_z-of_z w64 c.upper_of.result fits3 ∙ c.upper_of.ensures in
    let n2 = c.turn.ensures.names in
    let n3 = c.turn-2.ensures.names ∙ c.turn.ensures.names in
    subst (λ z. z) (λ i. Holds e c.turn-3.new.self (with_turn n (var_at (n3 i) c.args.upper) (z3 i) (with_turn n (var_at (n2 i) c.args.lower) (z2 i) (with_turn n (var_at names c.args.kind) (z1 i) s))))
    (c.turn-3.ensures.holds e _ (c.turn-2.ensures.holds e _ (c.turn.ensures.holds e s h)))
