-- Tangents that are there, or not.
use Rattle.std.proofs.Common.{◌≡◌, Bool, true, false, sym, subst}
use Rattle.std.specs.Prelude.{◌||◌, Option, Some, None, Box}
use Rattle.std.specs.Global.{Global}
use Rattle.adj_tree.specs.Code.{Var, Term, neg}
use Rattle.adj_tree.specs.View.{term_of}
use Rattle.adj_tree.specs.declared.expr.Expr.{Expr}
use Rattle.def_meaning.specs.Rename.{rename_term}
use Rattle.def_tangent.specs.TangentOf.{difference_of}
use Rattle.adj_tangent.specs.Terms.{IsValue}

-- what is there where the tangent is
pub some_value : (r : Var → Var) (b : Bool) (t : Term) (o : Option (Box Expr Global)) (x : Box Expr Global) → o ≡ Some x → IsValue r b t o → (b ≡ true) × (term_of x.value ≡ rename_term r t)
some_value r b t o x e h = subst (IsValue r b t) e h

-- the difference of what isn't there and a tangent
pub none_less : (r : Var → Var) (b c : Bool) (x y : Term) (o p : Option (Box Expr Global)) → o ≡ None → IsValue r b x o → IsValue r c (neg y) p → IsValue r (b || c) (difference_of b c x y) p
none_less r b c x y o p e h g =
    let none : b ≡ false = subst (IsValue r b x) e h in
    subst (λ z. IsValue r (z || c) (difference_of z c x y) p) (sym none) g

-- and of a tangent
pub some_less : (r : Var → Var) (b c : Bool) (x y : Term) (p : Option (Box Expr Global)) → b ≡ true → IsValue r true (difference_of true c x y) p → IsValue r (b || c) (difference_of b c x y) p
some_less r b c x y p e g = subst (λ z. IsValue r (z || c) (difference_of z c x y) p) (sym e) g
