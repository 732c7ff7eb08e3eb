use Rattle.std.proofs.Common.{rules, ◌≡◌, List, map, true, sym, ap, refl, subst, ◌∙◌}
use Rattle.adj_tree.specs.declared.value.Slot.{Slot as CodeSlot}
use Rattle.std.specs.Prelude.{Err}
use Rattle.adj_tree.specs.View.{procedures_of}
use Rattle.def_meaning.specs.Numbers.{words}
use Rattle.def_meaning.specs.Units.{fits}
use Rattle.def_jacobian.specs.Patterns.{pattern_run}
use Rattle.def_jacobian.specs.Recovered.{entries, found}
use Rattle.adj_interp.specs.Concludes.{slot_seen}
use Rattle.adj_jacobian_groups.specs.View.{rows_of}
use Rattle.adj_jacobian.specs.Products.{tangent_in}
use Rattle.adj_jacobian.specs.Ends.{task_on, StopsSo, PatternOf}
use Rattle.adj_jacobian.specs.Derives.{AreProducts}
use Rattle.adj_jacobian.proofs.Derived.{numbered, member_at, columns_told, derived}
use Rattle.adj_jacobian.proofs.compressed.derivative.Goals as goal

pub pattern-requires-clause-fits : goal.pattern-requires-clause-fits
pattern-requires-clause-fits c = λ u at. subst (λ (vs : List CodeSlot). fits words u (map slot_seen vs) ≡ true) (sym c.as_slice-values.ensures.members) (c.requires.fits u at)

pub products-requires-clause-fits : goal.products-requires-clause-fits
products-requires-clause-fits c = λ u at. subst (λ (vs : List CodeSlot). fits words u (map slot_seen vs) ≡ true) (sym c.as_slice-values.ensures.members) (c.requires.fits u at)

pub products-requires-clause-columns : goal.products-requires-clause-columns
products-requires-clause-columns c =
    let units = procedures_of c.args.program.now.program in
    let m = member_at units c.args.head.now.unit c.requires.there in
    let p = task_on units m.member c.args.head.now.vars (map slot_seen c.as_slice-values.result.now) c.args.budget in
    columns_told p c.args.head.now.outvars (pattern_run p) c.in_ok-sparsity.sparsity (c.in_ok-sparsity.ensures m.member m.at)

pub groups-requires : goal.groups-requires
groups-requires c =
    let units = procedures_of c.args.program.now.program in
    let m = member_at units c.args.head.now.unit c.requires.there in
    let p = task_on units m.member c.args.head.now.vars (map slot_seen c.as_slice-values.result.now) c.args.budget in
    record { numbered = numbered p c.args.head.now.outvars (pattern_run p) c.in_ok-sparsity.sparsity (c.in_ok-sparsity.ensures m.member m.at) }

pub returns-in_err-sparsity : goal.returns-in_err-sparsity
returns-in_err-sparsity c = λ u at.
    let units = procedures_of c.args.program.now.program in
    let x = c.in_err-sparsity.field-0.0 in
    let r : c.from_residual.result ≡ Err c.in_err-sparsity.field-0.0 = search rules in
    rw r
    (subst (λ (vs : List CodeSlot). StopsSo (pattern_run (task_on units u c.args.head.now.vars (map slot_seen vs) c.args.budget)) x) c.as_slice-values.ensures.members (c.in_err-sparsity.ensures u at))

pub returns-in_err-tangents : goal.returns-in_err-tangents
returns-in_err-tangents c = λ u at.
    let units = procedures_of c.args.program.now.program in
    let x = c.in_err-tangents.field-0.0 in
    let r : c.from_residual-in_err-tangents.result ≡ Err c.in_err-tangents.field-0.0 = search rules in
    rw r
    (subst (λ (vs : List CodeSlot). StopsSo (pattern_run (task_on units u c.args.head.now.vars (map slot_seen vs) c.args.budget)) x) c.as_slice-values.ensures.members (c.in_err-tangents.ensures u at))

pub returns : goal.returns
returns c = λ u at.
    let units = procedures_of c.args.program.now.program in
    let vars = c.args.head.now.vars in
    let outvars = c.args.head.now.outvars in
    let sparsity = c.in_ok-sparsity.sparsity in
    let grouping = c.in_ok-grouping.grouping in
    let same = c.as_slice-values.ensures.members in
    let p = task_on units u vars (map slot_seen c.args.input) c.args.budget in
    let pattern : PatternOf p outvars (pattern_run p) sparsity =
    subst (λ (vs : List CodeSlot). PatternOf (task_on units u vars (map slot_seen vs) c.args.budget) outvars (pattern_run (task_on units u vars (map slot_seen vs) c.args.budget)) sparsity) same (c.in_ok-sparsity.ensures u at) in
    let products : AreProducts p grouping.group grouping.count c.in_ok-tangents.tangents.items =
    subst (λ (vs : List CodeSlot). AreProducts (task_on units u vars (map slot_seen vs) c.args.budget) grouping.group grouping.count c.in_ok-tangents.tangents.items) same (c.in_ok-tangents.ensures u at) in
    derived p outvars (pattern_run p) refl _ c.in_ok-tangents.tangents.items pattern c.in_ok-grouping.ensures.least c.in_ok-grouping.ensures.count products
    (c.in_ok-jacobian.ensures ∙ ap (λ (ps : List (List CodeSlot)). entries (found grouping.group (tangent_in ps)) (rows_of sparsity.rows) 0) c.as_slice-products.ensures.value)
