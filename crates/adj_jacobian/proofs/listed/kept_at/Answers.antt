use Rattle.std.proofs.Common.{sym, ap, ◌∙◌}
use Rattle.def_meaning.specs.Units.{nth_cell}
use Rattle.adj_interp.specs.Inputs.{entry_seen}
use Rattle.adj_jacobian_few.specs.declared.few.Few.{Few}
use Rattle.adj_jacobian_few.specs.Few.{few}
use Rattle.adj_jacobian.proofs.Holding.{held_at, held_past}
use Rattle.adj_jacobian.proofs.listed.kept_at.Goals as goal

pub returns-in-Some : goal.returns-in-Some
returns-in-Some c =
    let found = c.in-Some.ensures.lookup in
    c.kept_or_none.ensures
    ∙ ap (λ (b : Few). b.columns)
    (ap (λ cs. nth_cell few cs c.args.at.cell) c.as_slice.ensures.value ∙ sym (held_at few entry_seen c.args.slots.now c.args.at.dummy c.args.at.cell c.in-Some.slot.now found.3.0 found.1))

pub returns-in-None : goal.returns-in-None
returns-in-None c = ap (λ (b : Few). b.columns) (sym (held_past few entry_seen c.args.slots.now c.args.at.dummy c.args.at.cell c.in-None.ensures.lookup.3))
