use Rattle.std.proofs.Common.{rules, ◌≡◌, ◌+◌, List, map, length, true, sym, ap, subst, ◌∙◌, arith}
use Rattle.std.specs.Prelude.{Err}
use Rattle.adj_tree.specs.declared.value.Slot.{Slot as CodeSlot}
use Rattle.adj_tree.specs.View.{procedures_of}
use Rattle.def_meaning.specs.Numbers.{words}
use Rattle.def_meaning.specs.Units.{fits}
use Rattle.def_jacobian.specs.Groups.{seed}
use Rattle.def_jacobian.specs.Patterns.{pattern_run, dual_run, tangent_of}
use Rattle.def_jacobian.specs.Recovered.{places}
use Rattle.adj_interp.specs.Concludes.{slot_seen}
use Rattle.adj_jacobian_groups.specs.View.{place_of}
use Rattle.adj_jacobian.specs.Ends.{task_on, StopsSo}
use Rattle.adj_jacobian.specs.Derives.{AreProducts}
use Rattle.adj_jacobian.proofs.Derived.{products_more}
use Rattle.adj_jacobian.proofs.compressed.products.Goals as goal

pub loop-group-init : goal.loop-group-init
loop-group-init c = λ u at. record { each = ap length c.new-all.ensures.items; told = λ g lt a. absurd (omega (arith, lt)) }

pub product-requires-clause-fits : goal.product-requires-clause-fits
product-requires-clause-fits c = λ u at. subst (λ (vs : List CodeSlot). fits words u (map slot_seen vs) ≡ true) (sym c.in_ok-copy.ensures) (c.requires.fits u at)

pub product-requires-clause-columns : goal.product-requires-clause-columns
product-requires-clause-columns c = subst (λ (vs : List CodeSlot). map place_of c.args.sparsity.now.cols ≡ places c.args.head.now.vars (map slot_seen vs) 0) (sym c.in_ok-copy.ensures) c.requires.columns

pub loop-group-preserved : goal.loop-group-preserved
loop-group-preserved c = λ u at.
    let units = procedures_of c.args.program.now.program in
    let groups = c.args.grouping.now.group in
    let k = c.loop-group.group in
    let p = task_on units u c.args.head.now.vars (map slot_seen c.args.input.now) c.args.budget in
    subst (λ items. AreProducts p groups (k + 1) items) (sym c.in_ok-add_product.ensures)
    (products_more p groups k c.loop-group.all.items c.in_ok-made.made (c.loop-group.invariant u at)
    (λ a. c.in_ok-made.ensures u at a ∙ ap (λ (vs : List CodeSlot). tangent_of (dual_run (task_on units u c.args.head.now.vars (map slot_seen vs) c.args.budget) (seed groups k)) a) c.in_ok-copy.ensures))

pub returns-in_err-made : goal.returns-in_err-made
returns-in_err-made c = λ u at.
    let units = procedures_of c.args.program.now.program in
    let x = c.in_err-made.field-0.0 in
    let r : c.from_residual-in_err-made.result ≡ Err c.in_err-made.field-0.0 = search rules in
    rw r
    (subst (λ (vs : List CodeSlot). StopsSo (pattern_run (task_on units u c.args.head.now.vars (map slot_seen vs) c.args.budget)) x) c.in_ok-copy.ensures (c.in_err-made.ensures u at))

pub returns : goal.returns
returns c = λ u at.
    let p = task_on (procedures_of c.args.program.now.program) u c.args.head.now.vars (map slot_seen c.args.input.now) c.args.budget in
    let test = c.loop-group-test.false in
    let past = c.loop-group.auto.group-end in
    let same : c.loop-group.group ≡ c.args.grouping.now.count = omega (arith, test, past) in
    subst (λ n. AreProducts p c.args.grouping.now.group n c.loop-group.all.items) same (c.loop-group.invariant u at)
