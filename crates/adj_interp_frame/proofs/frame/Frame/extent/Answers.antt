use Rattle.std.proofs.Common.{rules, FitsSigned, w64, ap, ◌∙◌}
use Rattle.std.proofs.lemmas.Int.{to_z-of_z}
use Rattle.adj_interp_frame.proofs.frame.Frame.extent.Goals as goal

pub returns-in-Given : goal.returns-in-Given
returns-in-Given g c shape s h =
    let fits : FitsSigned w64 c.word.result = search rules in
    rw c.in-Given.is (to_z-of_z w64 c.word.result fits ∙ c.word.ensures ∙ ap (λ z. g.N.Number.numbers.shown z) (c.entry_word.ensures shape s h))
