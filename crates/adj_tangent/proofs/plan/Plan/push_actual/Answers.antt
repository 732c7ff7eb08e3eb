use Rattle.std.proofs.Common.{◌∙◌, map, sym, ap}
use Rattle.adj_tree.specs.Code.{plain, var, more}
use Rattle.adj_tree.specs.Listed.{terms_onto}
use Rattle.adj_tree.specs.View.{term_of}
use Rattle.adj_tree.specs.declared.expr.Expr.TheVariants.{Var}
use Rattle.adj_tree.proofs.Onto.{terms_onto_push}
use Rattle.def_meaning.specs.Rename.{rename_terms}
use Rattle.adj_tangent.specs.Plans.{naming_in, with_tangent}
use Rattle.adj_tangent.proofs.plan.Plan.push_actual.Goals as goal

pub returns-in_ok-push-2 : goal.returns-in_ok-push-2
returns-in_ok-push-2 c =
    let r = naming_in c.args.self.now in
    let a = c.args.name.now in
    let v0 = c.args.made.now.items in
    let v1 = c.push.new.self.items in
    let v2 = c.push-then-carried.new.self.items in
    record {
      pushed = λ others.
          let rest = rename_terms r others in
          terms_onto_push v2 v1 (Var c.in_ok-shadow.shadow) rest c.in_ok-push-2.ensures.items
          ∙ terms_onto_push v1 v0 (Var c.in_ok-copy.field-0) (more (var (plain c.in_ok-shadow.shadow)) rest) c.in_ok-push.ensures.items
          ∙ (λ i. terms_onto (map term_of v0) (more (var (plain (c.in_ok-copy.ensures.same i))) (more (var (plain (c.in_ok-shadow.ensures.name i))) rest)))
          ∙ ap (λ b. terms_onto (map term_of v0) (rename_terms r (with_tangent b a others))) (sym c.if-carried.true);
    }

pub returns-else-carried : goal.returns-else-carried
returns-else-carried c =
    let r = naming_in c.args.self.now in
    let a = c.args.name.now in
    let v0 = c.args.made.now.items in
    let v1 = c.push.new.self.items in
    record {
      pushed = λ others.
          let rest = rename_terms r others in
          terms_onto_push v1 v0 (Var c.in_ok-copy.field-0) rest c.in_ok-push.ensures.items
          ∙ (λ i. terms_onto (map term_of v0) (more (var (plain (c.in_ok-copy.ensures.same i))) rest))
          ∙ ap (λ b. terms_onto (map term_of v0) (rename_terms r (with_tangent b a others))) (sym c.if-carried.false);
    }
