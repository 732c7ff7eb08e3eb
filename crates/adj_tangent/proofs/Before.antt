-- What stands before an assignment, by whether the right side is active.
use Rattle.std.proofs.Common.{◌≡◌, ℕ, Bool, true, false, List, sym, subst, ap, ◌∙◌, if◌then◌else◌}
use Rattle.std.specs.Prelude.{pos, Option, Some, None, Box}
use Rattle.std.specs.Global.{Global}
use Rattle.adj_tree.specs.Code.{Var, shadow, lit, Term, Terms, assign, Code, stop}
use Rattle.adj_tree.specs.View.{term_of}
use Rattle.adj_tree.specs.declared.expr.Expr.{Expr}
use Rattle.adj_tree.specs.declared.stmt.Stmt.{Stmt}
use Rattle.def_meaning.specs.Append.{◌+++◌, one}
use Rattle.def_meaning.specs.Rename.{rename, rename_term}
use Rattle.def_names.specs.Numbers.{Vars}
use Rattle.def_sweep.specs.Marked.{code_if}
use Rattle.def_sweep.specs.Occurrences.{is_active_where}
use Rattle.def_sweep.specs.AdjointOf.{temps_where}
use Rattle.def_tangent.specs.TangentOf.{tangent_term, parts_where, before_assignment}
use Rattle.adj_sweep_assignment.specs.Behind.{AreBehind}
use Rattle.adj_sweep_assignment.proofs.Behind.{both_behind}
use Rattle.adj_tangent.specs.Terms.{IsValue}
use Rattle.adj_tangent.proofs.Passive.{passive}
use Rattle.adj_tangent.proofs.Tangents.{moved}
use Rattle.adj_tangent.proofs.Values.{some_value}

module _ (r : Var → Var) (on : Vars) (t : List ℕ) (subs : Terms) (e : Term) (line : ℕ) where
  abbrev inside : Code
  inside = temps_where on e 1 line +++ parts_where on e 1 1 line

  abbrev set : Term → Code
  set x = one line (assign (shadow t) subs x)

  -- by whether it is active
  abbrev by : Bool → Code
  by b = code_if b inside +++ set (if b then tangent_term on e 1 else lit (pos 0))

  pub before_some : (o : Option (Box Expr Global)) (x : Box Expr Global) (s0 s1 s2 : List Stmt) → o ≡ Some x → IsValue r (is_active_where on e) (tangent_term on e 1) o → AreBehind (rename r inside) s0 s1 → ((z : Term) → term_of x.value ≡ rename_term r z → AreBehind (rename r (set z)) s1 s2) → AreBehind (rename r (before_assignment on t subs e line)) s0 s2
  before_some o x s0 s1 s2 h v before after =
      let there = some_value r (is_active_where on e) (tangent_term on e 1) o x h v in
      moved r (by true) (by (is_active_where on e)) s0 s2 (ap by (sym there.0)) (both_behind r inside (set (tangent_term on e 1)) s0 s1 s2 before (after (tangent_term on e 1) there.1))

  pub before_none : (o : Option (Box Expr Global)) (x : Box Expr Global) (s0 s1 s2 : List Stmt) → o ≡ None → term_of x.value ≡ lit (pos 0) → IsValue r (is_active_where on e) (tangent_term on e 1) o → AreBehind (rename r inside) s0 s1 → ((z : Term) → term_of x.value ≡ rename_term r z → AreBehind (rename r (set z)) s1 s2) → AreBehind (rename r (before_assignment on t subs e line)) s0 s2
  before_none o x s0 s1 s2 h zero v before after =
      let idle : is_active_where on e ≡ false = subst (IsValue r (is_active_where on e) (tangent_term on e 1)) h v in
      let p = passive on e idle in
      let none : inside ≡ stop = λ i. p.code 1 line i +++ p.parts 1 1 line i in
      moved r (stop +++ set (lit (pos 0))) (by (is_active_where on e)) s0 s2 (ap by (sym idle)) (both_behind r stop (set (lit (pos 0))) s0 s1 s2 (moved r inside stop s0 s1 none before) (after (lit (pos 0)) zero))
