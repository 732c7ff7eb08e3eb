use Rattle.std.proofs.Common.{rules, pos, w64, FitsSigned, slice_index_or, sym, ap, ◌∙◌}
use Rattle.std.proofs.lemmas.Int.{to_z-of_z}
use Rattle.def_meaning.specs.Numbers.{words}
use Rattle.adj_interp.specs.Concludes.{slot_seen}
use Rattle.adj_jacobian.proofs.Holding.{nth_is, held_at, held_past}
use Rattle.adj_jacobian.proofs.recovery.word_at.Goals as goal

pub returns-in-Some : goal.returns-in-Some
returns-in-Some c =
    let slot = c.in-Some.slot.now in
    let found = c.in-Some.ensures.lookup in
    let fits : FitsSigned w64 c.word_or_zero.result = search rules in
    to_z-of_z w64 c.word_or_zero.result fits ∙ c.word_or_zero.ensures ∙ ap (λ zs. slice_index_or zs c.args.at.cell (pos 0)) c.as_slice.ensures.members
    ∙ sym (nth_is words slot.cells c.args.at.cell) ∙ sym (held_at words slot_seen c.args.values.now c.args.at.dummy c.args.at.cell slot found.3.0 found.1)

pub returns-in-None : goal.returns-in-None
returns-in-None c = sym (held_past words slot_seen c.args.values.now c.args.at.dummy c.args.at.cell c.in-None.ensures.lookup.3)
