use Rattle.std.proofs.Common.{length, ap, sym, ◌∙◌}
use Rattle.std.specs.Prelude.{Some}
use Rattle.def_names.specs.NameFaults.{passed_in}
use Rattle.adj_symbols.specs.View.{places_of}
use Rattle.def_names.specs.Fault.{first_of, sooner}
use Rattle.adj_symbols.proofs.Names.{passed_place, within}
use Rattle.adj_symbols.proofs.unit_names.add_too_many.Goals as goal

pub returns-in-Some-get : goal.returns-in-Some-get
returns-in-Some-get c =
    let ps = c.args.variables.now in
    let n = c.in-Some.limit in
    c.add.ensures.added
    ∙ ap (λ r. sooner c.args.first.now (Some r)) c.passed.ensures
    ∙ ap (λ z. sooner c.args.first.now (first_of z)) (sym (passed_place n ps c.in-Some-get.place.now (within n (length ps) c.in-Some-get.ensures.lookup.0) c.in-Some-get.ensures.lookup.1))
    ∙ ap (λ l. sooner c.args.first.now (first_of (passed_in l (places_of ps)))) (sym c.in-Some.is)
