use Rattle.std.proofs.Common.{sym, ap, ◌∙◌}
use Rattle.std.specs.Prelude.{Ok}
use Rattle.def_meaning.specs.Trap.{then_ok}
use Rattle.def_meaning.specs.Units.{one_word, nowhere}
use Rattle.adj_interp_frame.specs.Prepared.{term_in}
use Rattle.adj_interp_frame.specs.Framed.{result_of}
use Rattle.adj_interp_frame.proofs.Showing.{value_shown}
use Rattle.adj_interp_frame.proofs.frame.Frame.word.Goals as goal

pub returns-in-Ok-clause-word : goal.returns-in-Ok-clause-word
returns-in-Ok-clause-word g c shape room level s h =
    let names = c.args.self.now.names.now in
    sym (ap (λ v. then_ok v (λ u. Ok (one_word u nowhere))) (value_shown g.N.Number.numbers names c.args.self.now.slots.items shape room level s h (term_in names c.args.term.now) ∙ sym c.value.ensures.value ∙ ap result_of c.in-Ok.is))

pub returns-in-Err-clause-word : goal.returns-in-Err-clause-word
returns-in-Err-clause-word g c shape room level s h =
    let names = c.args.self.now.names.now in
    sym (ap (λ v. then_ok v (λ u. Ok (one_word u nowhere))) (value_shown g.N.Number.numbers names c.args.self.now.slots.items shape room level s h (term_in names c.args.term.now) ∙ sym c.value.ensures.value ∙ ap result_of c.in-Err.is))
