use Rattle.std.proofs.Common.{◌≡◌, ◌+◌, ◌++◌, ◌∷◌, [], map, drop, ap, sym, ◌∙◌, append-nil, append_assoc, arith}
use Rattle.std.proofs.lemmas.List.{map_push, drop_all}
use Rattle.adj_tree.specs.View.{declaration_of}
use Rattle.def_kernel.specs.Stepped.{step_declarations}
use Rattle.adj_naming.proofs.Places.{from_here}
use Rattle.adj_norm.proofs.source.step_declarations.Goals as goal

pub loop-x-init : goal.loop-x-init
loop-x-init c = record { passed = λ ds k. ap (λ z. map declaration_of z ++ step_declarations ds c.args.line c.args.dummies.now) c.new-made.ensures.items }

pub loop-x-preserved : goal.loop-x-preserved
loop-x-preserved c =
    let l = c.loop-x in
    let items = c.args.dummies.now in
    let x = c.x-item.result in
    let line = c.args.line in
    let made = map declaration_of l.made.items in
    record {
      passed = λ ds k.
          let others = step_declarations ds line (drop (l.x-index + 1) items) in
          ap (λ z. map declaration_of z ++ others) c.in_ok-push.ensures.items ∙ ap (λ z. z ++ others) (map_push declaration_of l.made.items _)
          ∙ ap (λ z. (made ++ z) ++ others) (c.in_ok-step_declaration.ensures.declaration ds k) ∙ append_assoc made (step_declarations ds line (x ∷ [])) others
          ∙ ap (λ z. made ++ step_declarations ds line z) (sym (from_here items l.x-index x c.loop-x-test.true c.x-item.is)) ∙ l.invariant.passed ds k;
    }

pub returns : goal.returns
returns c =
    let l = c.loop-x in
    let items = c.args.dummies.now in
    let made = map declaration_of l.made.items in
    let none_left : drop l.x-index items ≡ [] = drop_all l.x-index items (omega arith) in
    record { declarations = λ ds k. sym (append-nil made) ∙ ap (λ z. made ++ step_declarations ds c.args.line z) (sym none_left) ∙ l.invariant.passed ds k }
