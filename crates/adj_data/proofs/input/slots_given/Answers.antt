use Rattle.std.proofs.Common.{◌≡◌, ◌+◌, map, drop, ap, subst, sym, ◌∙◌}
use Rattle.std.proofs.lemmas.Result.{err_from_is_err_and}
use Rattle.adj_tree.specs.Code.{plain}
use Rattle.adj_tree.specs.View.{extent_of, declaration_of, procedure_of}
use Rattle.def_meaning.specs.Units.{declared}
use Rattle.adj_data.specs.Entries.{entry_named}
use Rattle.adj_data.specs.Faults.{or_else, given_fault, dummy_fault, dummies_fault}
use Rattle.adj_data.specs.Given.{IsFirstFault}
use Rattle.adj_data.proofs.Declarations.{from_here}
use Rattle.adj_data.proofs.Entering.{fault_first}
use Rattle.adj_data.proofs.input.slots_given.Goals as goal

pub returns-in_err-slot-clause-fault : goal.returns-in_err-slot-clause-fault
returns-in_err-slot-clause-fault c =
    let u = procedure_of c.args.unit.now in
    let es = c.args.entries.now in
    let names = c.as_slice-name-items.result.now in
    let i = c.loop-name.name-index in
    let d = c.name-item.result in
    let e = c.in_err-slot.field-0.0 in
    let sizes : map extent_of c.extents.result.now ≡ declared (map declaration_of c.args.unit.now.decls) (plain d) =
    c.extents.ensures ∙ ap (λ x. declared (map declaration_of c.in_ok-declared.declared.firsts.items) (plain x)) c.bytes.ensures.bytes ∙ c.in_ok-declared.ensures.same d in
    let fault : given_fault es (map extent_of c.extents.result.now) (entry_named c.bytes-in-loop-name.result.now es) ≡ dummy_fault es u d =
    (λ k. given_fault es (sizes k) (entry_named (c.bytes-in-loop-name.ensures.bytes k) es)) in
    let whole : or_else (dummy_fault es u d) (dummies_fault es u (drop (i + 1) names)) ≡ dummies_fault es u c.args.unit.now.dummies =
    ap (dummies_fault es u) (sym (from_here names i d c.loop-name-test.true c.name-item.is)) ∙ c.loop-name.invariant.0 in
    let here = subst (IsFirstFault e) fault c.in_err-slot.ensures.fault in
    let p = err_from_is_err_and c.from_residual-in_err-slot.result c.from_residual-in_err-slot.ensures.1 in
    rw (p.1, p.2) (subst (IsFirstFault e) whole (fault_first e (dummy_fault es u d) (dummies_fault es u (drop (i + 1) names)) here))
