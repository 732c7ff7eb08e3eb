-- The rows of the table of sweeps, under the names of the unit.
use Rattle.std.proofs.Common.{◌≡◌, ℕ, Bool, true, false, List, refl, sym, ap, ◌∙◌}
use Rattle.std.specs.Prelude.{pos}
use Rattle.adj_tree.specs.Code.{Var, plain, helper, first, stride, count, turn, plus, minus, times, lit, var, neg, bin, none, assign, choose, loop, during, runtime, push_word, pop_word, push_control, unmarked, Code, stop, step}
use Rattle.adj_tree.specs.Listed.{code_turned}
use Rattle.adj_tree.specs.View.{term_of, terms_of, test_of}
use Rattle.adj_tree.specs.declared.expr.Expr.{Expr}
use Rattle.adj_tree.specs.declared.expr.Exprs.{Exprs}
use Rattle.adj_tree.specs.declared.expr.Cond.{Cond}
use Rattle.def_meaning.specs.Append.{◌+++◌, one}
use Rattle.def_meaning.specs.Rename.{rename}
use Rattle.def_meaning.proofs.RenamedLists.{rename-append}
use Rattle.def_sweep.specs.Marked.{code_if}
use Rattle.def_sweep.specs.Rows.{literal, told_forward, loop_forward, loop_backward, while_forward}
use Rattle.adj_sweep.specs.Swept.{in_order}
use Rattle.adj_sweep_assignment.proofs.Plain.{IsPlain, term_kept, terms_kept, test_kept}
use Rattle.adj_sweep.proofs.Turned.{turned_before}

module _ (r : Var → Var) (plainly : IsPlain r) where
  -- ---- assignments

  -- what is pushed and popped is a place of the text
  pub push_kept : (b : Bool) (line : ℕ) (x : List ℕ) (subs : Exprs) → rename r (code_if b (one line (runtime (push_word (plain x) (terms_of subs))))) ≡ code_if b (one line (runtime (push_word (plain x) (terms_of subs))))
  push_kept true line x subs = λ i. one line (runtime (push_word (plainly x i) (terms_kept r plainly subs i)))
  push_kept false line x subs = refl

  pub pop_kept : (b : Bool) (line : ℕ) (x : List ℕ) (subs : Exprs) → rename r (code_if b (one line (runtime (pop_word (plain x) (terms_of subs))))) ≡ code_if b (one line (runtime (pop_word (plain x) (terms_of subs))))
  pop_kept true line x subs = λ i. one line (runtime (pop_word (plainly x i) (terms_kept r plainly subs i)))
  pop_kept false line x subs = refl

  -- and so is an assignment that is kept
  pub assignment_kept : (k s : Bool) (line : ℕ) (x : List ℕ) (subs : Exprs) (e : Expr) → rename r (code_if k (code_if s (one line (runtime (push_word (plain x) (terms_of subs)))) +++ one line (assign (plain x) (terms_of subs) (term_of e)))) ≡ code_if k (code_if s (one line (runtime (push_word (plain x) (terms_of subs)))) +++ one line (assign (plain x) (terms_of subs) (term_of e)))
  assignment_kept true s line x subs e =
      rename-append r (code_if s (one line (runtime (push_word (plain x) (terms_of subs))))) (one line (assign (plain x) (terms_of subs) (term_of e)))
      ∙ (λ i. push_kept s line x subs i +++ one line (assign (plainly x i) (terms_kept r plainly subs i) (term_kept r plainly e i)))
  assignment_kept false s line x subs e = refl

  -- ---- IF

  -- a part of an IF, which tells that it ran
  pub told_named : (idle other : Bool) (line n : ℕ) (x c : Code) → idle ≡ other → x ≡ rename r c → told_forward idle line x n ≡ rename r (told_forward other line c n)
  told_named idle true line n x c e h = ap (λ z. told_forward z line x n) e ∙ h
  told_named idle false line n x c e h =
      ap (λ z. told_forward z line x n) e ∙ ap (λ z. z +++ one line (runtime (push_control (literal n)))) h ∙ sym (rename-append r c (one line (runtime (push_control (literal n)))))

  -- its forward sweep
  pub choose_named : (idle other : Bool) (line : ℕ) (c : Cond) (x y a b : Code) → idle ≡ other → x ≡ rename r a → y ≡ rename r b → one line (choose (test_of c) (told_forward idle line x 1) (told_forward idle line y 0)) ≡ rename r (one line (choose (test_of c) (told_forward other line a 1) (told_forward other line b 0)))
  choose_named idle other line c x y a b e f g = λ i. one line (choose (sym (test_kept r plainly c) i) (told_named idle other line 1 x a e f i) (told_named idle other line 0 y b e g i))

  -- ---- loops

  -- a DO as it is
  pub plain_turns_named : (line d : ℕ) (x : List ℕ) (a b c : Expr) (body inner : Code) → body ≡ rename r inner → one line (loop (plain x) (term_of a) (term_of b) (term_of c) body unmarked) ≡ rename r (loop_forward true d line (plain x) (term_of a) (term_of b) (term_of c) inner)
  plain_turns_named line d x a b c body inner h =
      λ i. one line (loop (sym (plainly x) i) (sym (term_kept r plainly a) i) (sym (term_kept r plainly b) i) (sym (term_kept r plainly c) i) (h i) unmarked)

  -- a body at whose end a turn is counted
  pub counted_named : (d line : ℕ) (t inner : Code) → in_order t ≡ rename r inner → code_turned t (one line (assign (r (helper count d)) none (bin plus (var (r (helper count d))) (lit (pos 1))))) ≡ rename r (inner +++ one line (assign (helper count d) none (bin plus (var (helper count d)) (lit (pos 1)))))
  counted_named d line t inner h =
      let more = one line (assign (helper count d) none (bin plus (var (helper count d)) (lit (pos 1)))) in
      turned_before t (rename r more) ∙ ap (λ z. z +++ rename r more) h ∙ sym (rename-append r inner more)

  -- a DO whose turns are gone through backward
  pub told_turns_named : (d line : ℕ) (x : List ℕ) (a b c : Expr) (body inner : Code) → body ≡ rename r (inner +++ one line (assign (helper count d) none (bin plus (var (helper count d)) (lit (pos 1))))) → step line (assign (r (helper first d)) none (term_of a)) (step line (assign (r (helper stride d)) none (term_of c)) (step line (assign (r (helper count d)) none (lit (pos 0))) (step line (loop (plain x) (var (r (helper first d))) (term_of b) (var (r (helper stride d))) body unmarked) (step line (runtime (push_word (r (helper first d)) none)) (step line (runtime (push_word (r (helper stride d)) none)) (step line (runtime (push_word (r (helper count d)) none)) stop)))))) ≡ rename r (loop_forward false d line (plain x) (term_of a) (term_of b) (term_of c) inner)
  told_turns_named d line x a b c body inner h =
      λ i. step line (assign (r (helper first d)) none (sym (term_kept r plainly a) i)) (step line (assign (r (helper stride d)) none (sym (term_kept r plainly c) i)) (step line (assign (r (helper count d)) none (lit (pos 0))) (step line (loop (sym (plainly x) i) (var (r (helper first d))) (sym (term_kept r plainly b) i) (var (r (helper stride d))) (h i) unmarked) (step line (runtime (push_word (r (helper first d)) none)) (step line (runtime (push_word (r (helper stride d)) none)) (step line (runtime (push_word (r (helper count d)) none)) stop))))))

  -- its turns from the last to the first
  pub turns_back_named : (d line : ℕ) (x : List ℕ) (body inner rest : Code) → body ≡ rename r inner → step line (runtime (pop_word (r (helper count d)) none)) (step line (runtime (pop_word (r (helper stride d)) none)) (step line (runtime (pop_word (r (helper first d)) none)) (step line (loop (r (helper turn d)) (bin minus (var (r (helper count d))) (lit (pos 1))) (lit (pos 0)) (neg (lit (pos 1))) (step line (assign (plain x) none (bin plus (var (r (helper first d))) (bin times (var (r (helper turn d))) (var (r (helper stride d)))))) body) unmarked) rest))) ≡ rename r (loop_backward false d line (plain x) inner) +++ rest
  turns_back_named d line x body inner rest h =
      λ i. step line (runtime (pop_word (r (helper count d)) none)) (step line (runtime (pop_word (r (helper stride d)) none)) (step line (runtime (pop_word (r (helper first d)) none)) (step line (loop (r (helper turn d)) (bin minus (var (r (helper count d))) (lit (pos 1))) (lit (pos 0)) (neg (lit (pos 1))) (step line (assign (sym (plainly x) i) none (bin plus (var (r (helper first d))) (bin times (var (r (helper turn d))) (var (r (helper stride d)))))) (h i)) unmarked) rest)))

  -- a DO WHILE as it is
  pub plain_while_named : (line d : ℕ) (c : Cond) (body inner : Code) → body ≡ rename r inner → one line (during (test_of c) body) ≡ rename r (while_forward true d line (test_of c) inner)
  plain_while_named line d c body inner h = λ i. one line (during (sym (test_kept r plainly c) i) (h i))

  -- one whose turns are gone through backward
  pub told_while_named : (d line : ℕ) (c : Cond) (body inner : Code) → body ≡ rename r (inner +++ one line (assign (helper count d) none (bin plus (var (helper count d)) (lit (pos 1))))) → step line (assign (r (helper count d)) none (lit (pos 0))) (step line (during (test_of c) body) (step line (runtime (push_word (r (helper count d)) none)) stop)) ≡ rename r (while_forward false d line (test_of c) inner)
  told_while_named d line c body inner h = λ i. step line (assign (r (helper count d)) none (lit (pos 0))) (step line (during (sym (test_kept r plainly c) i) (h i)) (step line (runtime (push_word (r (helper count d)) none)) stop))
