use Rattle.std.proofs.Common.{◌≡◌, ℕ, List, [], ◌++◌, ◌∷◌, length, drop, refl, sym, ap, ◌∙◌, append-nil, arith}
use Rattle.adj_tree.specs.Code.{none}
use Rattle.adj_tree.specs.View.{terms_of}
use Rattle.def_names.specs.Variables.{Name}
use Rattle.adj_symbols_writes.specs.Graph.{Unit', placed_of, actual_edges}
use Rattle.adj_symbols_writes.proofs.links.add_actuals.Goals as goal

no_actuals : (p : Unit') (i : ℕ) (ds : List Name) → actual_edges p i ds none ≡ []
no_actuals p i [] = refl
no_actuals p i (d ∷ ds) = refl

pub overflow_add-node : goal.overflow_add-node
overflow_add-node c =
    let l : length c.as_slice-dummy-items.result.now ≡ length c.args.called.now.unit.dummies = ap length (c.as_slice-dummy-items.ensures.members ∙ ap (λ u. u.dummies) c.unit-unit.ensures.unit) in
    omega (arith, l, c.loop-dummy.invariant.passed, c.first-node.ensures.room, c.first-node.ensures.first, c.loop-dummy-test.true)

pub returns-in-Empty : goal.returns-in-Empty
returns-in-Empty c =
    let p = placed_of c.args.dummies.now in
    let left = drop c.loop-dummy._dummy-index c.as_slice-dummy-items.result.now in
    let made = c.loop-dummy.out.items in
    let n = c.loop-dummy.node in
    record {
      added = sym (append-nil made) ∙ ap (λ z. made ++ z) (sym (no_actuals p n left)) ∙ ap (λ z. made ++ actual_edges p n left (terms_of z)) (sym c.in-Empty.is) ∙ c.loop-dummy.invariant.so_far;
    }
