-- A naming that keeps the variables of the text keeps the statements of the program.
use Rattle.std.proofs.Common.{◌≡◌, ◌⊎◌, inl, inr, ℕ, List, refl, sym, ap, subst}
use Rattle.adj_tree.specs.Code as code
use Rattle.adj_tree.specs.Code.{Var, push_word, pop_word, push_array, pop_array, push_control, pop_control, zero_array, begin_reversal, count_actions, give_action, assign, runtime}
use Rattle.adj_tree.specs.View.{term_of, terms_of, runtime_of, mark_of, act_of}
use Rattle.adj_tree.specs.declared.expr.Expr.{Expr}
use Rattle.adj_tree.specs.declared.expr.Place.{Place}
use Rattle.adj_tree.specs.declared.stmt.RunCall.{RunCall}
use Rattle.adj_tree.specs.declared.stmt.RunCall.TheVariants.{PushWord, PopWord, PushArray, PopArray, PushControl, PopControl, Zero, Begin, Actions, Action, End}
use Rattle.adj_tree.specs.declared.stmt.Act.{Act, Assign, Run}
use Rattle.adj_tree.specs.declared.stmt.Mark.{Mark}
use Rattle.adj_tree.specs.declared.stmt.Mark.TheVariants as marks
use Rattle.def_meaning.specs.Rename.{rename_runtime, rename_mark, rename_act}
use Rattle.def_tangent.specs.Forward.{Plan, tangent_act}
use Rattle.adj_sweep_assignment.proofs.Plain.{IsPlain, term_kept, terms_kept}

module _ (r : Var → Var) (h : IsPlain r) where
  pub run_kept : (c : RunCall) → rename_runtime r (runtime_of c) ≡ runtime_of c
  run_kept (PushWord p) = λ i. push_word (h p.name i) (terms_kept r h p.subs i)
  run_kept (PopWord p) = λ i. pop_word (h p.name i) (terms_kept r h p.subs i)
  run_kept (PushArray x) = ap push_array (h x)
  run_kept (PopArray x) = ap pop_array (h x)
  run_kept (PushControl e) = ap push_control (term_kept r h e)
  run_kept (PopControl x) = ap pop_control (h x)
  run_kept (Zero x) = ap zero_array (h x)
  run_kept (Begin l s) = λ i. begin_reversal (term_kept r h l.value i) (term_kept r h s.value i)
  run_kept (Actions l s n) = λ i. count_actions (term_kept r h l.value i) (term_kept r h s.value i) (h n i)
  run_kept (Action l s k a f t) = λ i. give_action (term_kept r h l.value i) (term_kept r h s.value i) (term_kept r h k.value i) (h a i) (h f i) (h t i)
  run_kept End = refl

  pub mark_kept : (m : Mark) → rename_mark r (mark_of m) ≡ mark_of m
  mark_kept marks.Plain = refl
  mark_kept (marks.Count n) = refl
  mark_kept (marks.From x) = ap code.count_from (h x)

  pub assign_kept : (p : Place) (e : Expr) → rename_act r (assign (code.plain p.name) (terms_of p.subs) (term_of e)) ≡ assign (code.plain p.name) (terms_of p.subs) (term_of e)
  assign_kept p e = λ i. assign (h p.name i) (terms_kept r h p.subs i) (term_kept r h e i)

  -- what becomes of a statement that the tangent has as it is
  pub as_it_is : (q : Plan) (a : Act) → ((p : Place) × (e : Expr) × (a ≡ Assign p e)) ⊎ ((c : RunCall) × (a ≡ Run c)) → rename_act r (tangent_act q (act_of a)) ≡ act_of a
  as_it_is q a (inl s) = subst (λ z. rename_act r (tangent_act q (act_of z)) ≡ act_of z) (sym s.2) (assign_kept s.0 s.1)
  as_it_is q a (inr s) = subst (λ z. rename_act r (tangent_act q (act_of z)) ≡ act_of z) (sym s.1) (ap runtime (run_kept s.0))
