use Rattle.std.proofs.Common.{rules, ◌≡◌, ◌<◌, FitsSigned, w64, length, get_or, sym, ap, subst, ◌∙◌, arith}
use Rattle.std.proofs.lemmas.Int.{to_z-of_z}
use Rattle.adj_word.specs.Word.{add}
use Rattle.def_meaning.specs.Run.{with_turn}
use Rattle.def_meaning.proofs.Cells.{size_positive}
use Rattle.adj_interp_frame.specs.Framed.{zero_in}
use Rattle.adj_interp_frame.specs.declared.slot.Slot.{Slot}
use Rattle.adj_interp_frame.specs.Prepared.{var_at}
use Rattle.adj_interp.specs.Held.{setting_at, Holds}
use Rattle.adj_interp_frame.proofs.Reading.{read_cell}
use Rattle.adj_interp.proofs.machine.Machine.advance.Goals as goal

pub returns-clause-holds : goal.returns-clause-holds
returns-clause-holds g c e s h =
    let names = c.args.self.now.frame.names.now in
    let vs = c.args.self.now.frame.slots.items in
    let i = c.args.course.now.variable in
    let x = var_at names i in
    let by = c.args.course.now.by in
    let framed = c.requires.framed in
    let each = framed.each in
    let there = c.requires.there in
    let lt : i < length vs = omega (arith, each, there) in
    let fits : FitsSigned w64 c.add-word.result = search rules in
    let sum : c.add-word.result ≡ add c.word.result by = search rules in
    let first : c.first-value.result ≡ get_or c.index.result.now.cells.items 0 (zero_in g.N.Number.numbers) = search rules in
    let shown = g.N.Number.numbers.shown in
    let fits_first : FitsSigned w64 c.word.result = search rules in
    let held = first ∙ ap (λ (v : Slot _). get_or v.cells.items 0 (zero_in g.N.Number.numbers)) c.index.ensures ∙ sym (read_cell g.N.Number.numbers names vs i c.index.result.now 0 framed lt) ∙ sym (h.shown.cells x 0 (size_positive (e.shape x))) in
    subst (λ z. Holds e c.turn.new.self (with_turn (setting_at e) x z s)) (to_z-of_z w64 c.add-word.result fits ∙ sum ∙ ap (λ z. add z by) (c.word.ensures ∙ ap shown held)) (c.turn.ensures.holds e s h)
