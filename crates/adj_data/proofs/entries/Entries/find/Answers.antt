use Rattle.std.proofs.Common.{◌≡◌, Some, false, ap, sym, ◌∙◌}
use Rattle.adj_data.specs.Entries.{entry_named}
use Rattle.def_meaning.specs.Apart.{has_name}
use Rattle.adj_data.specs.Given.{entry_seen}
use Rattle.adj_data.proofs.Found.{stands_seen, absent, placed}
use Rattle.adj_data.proofs.entries.Entries.find.Goals as goal

pub returns-in_err-place : goal.returns-in_err-place
returns-in_err-place c =
    let x = c.args.name.now in
    let none : false ≡ has_name x c.self.inside.names = c.in_err-place.ensures.found in
    rw c.from_residual.ensures (absent x c.args.self.now (stands_seen x c.self.inside.entries.items c.self.inside.names c.args.self.now c.self.invariant c.self.view_is ∙ sym none))

pub returns : goal.returns
returns c =
    let x = c.args.name.now in
    ap (entry_named x) (sym c.self.view_is)
    ∙ placed x c.self.inside.entries.items c.self.inside.names c.in_ok-place.place c.index.result.now c.self.invariant (sym c.in_ok-place.ensures.place)
    ∙ ap (λ e. Some (entry_seen e)) (sym c.index.ensures)
