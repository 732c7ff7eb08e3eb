-- What the grammar derives as blocks is what the machine makes of the statements.
use Rattle.std.proofs.Common.{◌≡◌, ◌≢◌, ℕ, Bool, true, false, cond, List, [], ◌∷◌, ◌++◌, Some, None, refl, sym, ap, ◌∙◌}
use Rattle.std.proofs.lemmas.Bool.{ne_eqb, eq-eqb, or_parts}
use Rattle.std.proofs.lemmas.List.{append_assoc, append-nil}
use Rattle.std.specs.Prelude.{◌==◌, not}
use Rattle.adj_tree.specs.Code.{Test, Mark, Act, Code, choose, during, stop, step}
use Rattle.adj_tree.specs.Common.{Shared}
use Rattle.adj_tree.specs.Listed.{code_listed}
use Rattle.def_text.specs.Statement.{Range}
use Rattle.def_text.specs.Block as blocks
use Rattle.def_text.specs.Block.{is_open, innermost, loop_of, ReadsBody, ReadsAct, ReadsElse}
use Rattle.def_text.specs.Form.{Form, subroutine, implicit_none, integers, common, simple, logical, opens_do, opens_while, end_do, go_on, opens_if, otherwise, otherwise_if, end_if, leaves, ends, Statement, at}
use Rattle.def_text.specs.declared.stated.Kind.{Kind}
use Rattle.def_text.specs.declared.stated.Kind.TheVariants.{Do, BlockIf, LogicalIf, Assign, Continue, EndIf, EndDo, Else, ElseIf, DoWhile}
use Rattle.adj_parse.specs.declared.phase.Phase.TheVariants.{Acting}
use Rattle.adj_parse.specs.Blocks.{Acts, Part, of_loop, of_while, of_if, of_else, of_chain, Block, close_while, Nest, acted, is_chain, is_labelled}
use Rattle.adj_parse.specs.Order.{may_follow, has_label, innermost_is, some_is, suits, reaches_out, breaks_loop}
use Rattle.adj_parse.specs.Unit.{Units}
use Rattle.adj_parse.proofs.Truths.{and_false}
use Rattle.adj_parse.proofs.Machine.{kind_of, stands, run, labels, IsBody, in_loop, in_while, in_if, in_else, is_open_some, innermost_labelled, close_while-other, no_chain, acts_of, listed_back}

abbrev pub is_executable : Form → Bool
is_executable (simple a) = true
is_executable (logical c a) = true
is_executable (opens_do l r s) = true
is_executable (opens_while c) = true
is_executable end_do = true
is_executable go_on = true
is_executable (opens_if c) = true
is_executable otherwise = true
is_executable (otherwise_if c) = true
is_executable end_if = true
is_executable f = false

-- a statement that closes nothing and whose label isn't open breaks no loop
breaks_none : (kind : Kind) (l : ℕ) (bs : List Block) → reaches_out kind bs ≡ false → some_is (is_labelled l) bs ≡ false → breaks_loop kind l bs ≡ false
breaks_none kind l bs h g = rw (h, g) (rw (and_false (innermost_is has_label bs)) refl)

-- the CONTINUE of the innermost loop breaks none
breaks_own : (l : ℕ) (bs : List Block) → innermost_is (is_labelled l) bs ≡ true → breaks_loop Continue l bs ≡ false
breaks_own l bs h = rw (and_false (innermost_is has_label bs), h) (and_false (some_is (is_labelled l) bs))

innermost_none : (is_such : Part → Bool) (bs : List Block) → some_is is_such bs ≡ false → innermost_is is_such bs ≡ false
innermost_none is_such [] h = refl
innermost_none is_such (b ∷ bs) h = (or_parts (is_such b.part) (some_is is_such bs) h).0

abbrev pub block : ℕ → Acts → Part → Block
block n before part = record { line = n; before = before; part = part }

module _ (done : List Shared) (unit : Shared) where
  -- in the open blocks of a unit
  abbrev pub inside : Nest → Units
  inside nest = record { done = done; current = Some (record { unit = unit; phase = Acting; nest = nest }) }

  abbrev at_block : List Block → Acts → Units
  at_block bs acts = inside (record { blocks = bs; acts = acts })

  stands_inside : (kind : Kind) (l : ℕ) (nest : Nest) → may_follow kind Acting ≡ true → suits kind nest.blocks ≡ true → breaks_loop kind l nest.blocks ≡ false → stands kind l (Some (record { unit = unit; phase = Acting; nest = nest })) ≡ true
  stands_inside kind l nest m h g = rw (m, h, g) refl

  -- an executable statement that stands rightly is acted on
  steps : (f : Form) (nest : Nest) (n l : ℕ) (ts : List Statement) → is_executable f ≡ true → suits (kind_of f) nest.blocks ≡ true → breaks_loop (kind_of f) l nest.blocks ≡ false → run (inside nest) (at n l f ∷ ts) ≡ run (inside (acted nest n l f)) ts
  unfolding run
  steps (simple a) nest n l ts x h g = ap (λ b. cond b (run (inside (acted nest n l (simple a))) ts) None) (stands_inside Assign l nest refl h g)
  steps (logical c a) nest n l ts x h g = ap (λ b. cond b (run (inside (acted nest n l (logical c a))) ts) None) (stands_inside LogicalIf l nest refl h g)
  steps (opens_do k r s) nest n l ts x h g = ap (λ b. cond b (run (inside (acted nest n l (opens_do k r s))) ts) None) (stands_inside Do l nest refl h g)
  steps (opens_while c) nest n l ts x h g = ap (λ b. cond b (run (inside (acted nest n l (opens_while c))) ts) None) (stands_inside DoWhile l nest refl h g)
  steps end_do nest n l ts x h g = ap (λ b. cond b (run (inside (acted nest n l end_do)) ts) None) (stands_inside EndDo l nest refl h g)
  steps go_on nest n l ts x h g = ap (λ b. cond b (run (inside (acted nest n l go_on)) ts) None) (stands_inside Continue l nest refl h g)
  steps (opens_if c) nest n l ts x h g = ap (λ b. cond b (run (inside (acted nest n l (opens_if c))) ts) None) (stands_inside BlockIf l nest refl h g)
  steps otherwise nest n l ts x h g = ap (λ b. cond b (run (inside (acted nest n l otherwise)) ts) None) (stands_inside Else l nest refl h g)
  steps (otherwise_if c) nest n l ts x h g = ap (λ b. cond b (run (inside (acted nest n l (otherwise_if c))) ts) None) (stands_inside ElseIf l nest refl h g)
  steps end_if nest n l ts x h g = ap (λ b. cond b (run (inside (acted nest n l end_if)) ts) None) (stands_inside EndIf l nest refl h g)
  steps (subroutine y ds) nest n l ts x h g = absurd cc
  steps implicit_none nest n l ts x h g = absurd cc
  steps (integers is) nest n l ts x h g = absurd cc
  steps (common b is) nest n l ts x h g = absurd cc
  steps leaves nest n l ts x h g = absurd cc
  steps ends nest n l ts x h g = absurd cc

  not_open : {ls : List ℕ} (bs : List Block) (l : ℕ) → ls ≡ labels bs → is_open ls l ≡ false → some_is (is_labelled l) bs ≡ false
  not_open bs l e h = sym (is_open_some bs l) ∙ ap (λ ks. is_open ks l) (sym e) ∙ h

  -- a CONTINUE with the label of the innermost loop
  continues : (bs : List Block) (acts : Acts) (n l : ℕ) (ts : List Statement) → innermost_is (is_labelled l) bs ≡ true → run (at_block bs acts) (at n l go_on ∷ ts) ≡ run (inside (close_while (is_labelled l) bs acts)) ts
  continues bs acts n l ts h = steps go_on (record { blocks = bs; acts = acts }) n l ts refl refl (breaks_own l bs h)

  own_label : (n l : ℕ) (s : Mark) (r : Range) (before : Acts) (bs : List Block) → l ≢ 0 → innermost_is (is_labelled l) (block n before (of_loop (Some l) r s) ∷ bs) ≡ true
  own_label n l s r before bs some = rw (ne_eqb l 0 some, eq-eqb l l refl) refl

  other_label : {ls : List ℕ} (bs : List Block) (l : ℕ) → IsBody bs → ls ≡ labels bs → innermost ls ≢ l → innermost_is (is_labelled l) bs ≡ false
  other_label bs l b e other = innermost_labelled l b ∙ rw (ne_eqb (innermost (labels bs)) l (λ q. other (ap innermost e ∙ q))) (and_false (not (l == 0)))

  same_label : {ls : List ℕ} (bs : List Block) (l : ℕ) → IsBody bs → ls ≡ labels bs → l ≢ 0 → innermost ls ≡ l → innermost_is (is_labelled l) bs ≡ true
  same_label bs l b e some same = innermost_labelled l b ∙ rw (ne_eqb l 0 some, eq-eqb (innermost (labels bs)) l (ap innermost (sym e) ∙ same)) refl

  close_own : (n l : ℕ) (s : Mark) (r : Range) (before : Acts) (bs : List Block) (acts : Acts) → l ≢ 0 → close_while (is_labelled l) (block n before (of_loop (Some l) r s) ∷ bs) acts ≡ close_while (is_labelled l) bs (before ++ (n, loop_of r (code_listed acts) s) ∷ [])
  close_own n l s r before bs acts some = rw (ne_eqb l 0 some, eq-eqb l l refl) refl

  -- a DO with a label, to the CONTINUE of that label and what it ends
  to_label : (n l k : ℕ) (s : Mark) (m : ℕ) (r : Range) (inner : Code) (ts rest : List Statement) (bs : List Block) (acts : Acts) → k ≢ 0 → some_is (is_labelled l) bs ≡ false →
      run (at_block (block n acts (of_loop (Some k) r s) ∷ bs) []) ts ≡ run (at_block (block n acts (of_loop (Some k) r s) ∷ bs) (acts_of inner)) (at m k go_on ∷ rest) →
      run (at_block bs acts) (at n l (opens_do (Some k) r s) ∷ ts) ≡ run (inside (close_while (is_labelled k) bs (acts ++ (n, loop_of r inner s) ∷ []))) rest
  to_label n l k s m r inner ts rest bs acts some h first =
      steps (opens_do (Some k) r s) (record { blocks = bs; acts = acts }) n l ts refl refl (breaks_none Do l bs refl h)
      ∙ first
      ∙ continues (block n acts (of_loop (Some k) r s) ∷ bs) (acts_of inner) m k rest (own_label n k s r acts bs some)
      ∙ ap (λ nest. run (inside nest) rest) (close_own n k s r acts bs (acts_of inner) some)
      ∙ ap (λ code. run (inside (close_while (is_labelled k) bs (acts ++ (n, loop_of r code s) ∷ []))) rest) (listed_back inner)

  mutual
    pub body : {ls : List ℕ} {ts rest : List Statement} {k : Code} → ReadsBody ls ts rest k → (bs : List Block) (acts : Acts) → IsBody bs → ls ≡ labels bs → run (at_block bs acts) ts ≡ run (at_block bs (acts ++ acts_of k)) rest
    body {ts = ts} blocks.ReadsBody.empty bs acts b e = ap (λ xs. run (at_block bs xs) ts) (sym (append-nil acts))
    body {rest = rest} (blocks.ReadsBody.more {us = us} {n = n} {l = l} {a = a} {body = k} h q r) bs acts b e =
        act q bs acts b e l (not_open bs l e h) ∙ body r bs (acts ++ (n, a) ∷ []) b e ∙ ap (λ xs. run (at_block bs xs) rest) (append_assoc acts ((n, a) ∷ []) (acts_of k))
    body (blocks.ReadsBody.skipped {ts = ts} {n = n} {l = l} h r) bs acts b e =
        let none = not_open bs l e h in
        steps go_on (record { blocks = bs; acts = acts }) n l ts refl refl (breaks_none Continue l bs refl none) ∙ ap (λ nest. run (inside nest) ts) (close_while-other (is_labelled l) bs acts (innermost_none (is_labelled l) bs none)) ∙ body r bs acts b e

    act : {ls : List ℕ} {n : ℕ} {f : Form} {ts rest : List Statement} {a : Act} → ReadsAct ls n f ts rest a → (bs : List Block) (acts : Acts) → IsBody bs → ls ≡ labels bs → (l : ℕ) → some_is (is_labelled l) bs ≡ false → run (at_block bs acts) (at n l f ∷ ts) ≡ run (at_block bs (acts ++ (n, a) ∷ [])) rest
    act {n = n} {rest = rest} (blocks.ReadsAct.simply {a = a}) bs acts b e l h = steps (simple a) (record { blocks = bs; acts = acts }) n l rest refl refl (breaks_none Assign l bs refl h)
    act {n = n} {rest = rest} (blocks.ReadsAct.guarded {c = c} {a = a}) bs acts b e l h = steps (logical c a) (record { blocks = bs; acts = acts }) n l rest refl refl (breaks_none LogicalIf l bs refl h)
    act {n = n} {rest = rest} (blocks.ReadsAct.branch {ts = ts} {c = c} {a = first} {b = other} r q) bs acts b e l h =
        steps (opens_if c) (record { blocks = bs; acts = acts }) n l ts refl refl (breaks_none BlockIf l bs refl h)
        ∙ body r (block n acts (of_if c) ∷ bs) [] in_if (ap (λ ks. 0 ∷ ks) e)
        ∙ else_part q bs n c acts (acts_of first) e
        ∙ ap (λ nest. run (inside nest) rest) (close_while-other is_chain bs _ (no_chain b))
        ∙ ap (λ k. run (at_block bs (acts ++ (n, choose c k other) ∷ [])) rest) (listed_back first)
    act {n = n} {rest = rest} (blocks.ReadsAct.unlabelled {ts = ts} {m = m} {k = k} {s = s} {r = r} {body = inner} q g) bs acts b e l h =
        let loop = block n acts (of_loop None r s) in
        steps (opens_do None r s) (record { blocks = bs; acts = acts }) n l ts refl refl (breaks_none Do l bs refl h)
        ∙ body q (loop ∷ bs) [] in_loop (ap (λ ks. 0 ∷ ks) e)
        ∙ steps end_do (record { blocks = loop ∷ bs; acts = acts_of inner }) m k rest refl refl (rw (not_open bs k e g) refl)
        ∙ ap (λ code. run (at_block bs (acts ++ (n, loop_of r code s) ∷ [])) rest) (listed_back inner)
    act {n = n} {rest = rest} (blocks.ReadsAct.repeated {ts = ts} {m = m} {k = k} {c = c} {body = inner} q g) bs acts b e l h =
        let loop = block n acts (of_while c) in
        steps (opens_while c) (record { blocks = bs; acts = acts }) n l ts refl refl (breaks_none DoWhile l bs refl h)
        ∙ body q (loop ∷ bs) [] in_while (ap (λ ks. 0 ∷ ks) e)
        ∙ steps end_do (record { blocks = loop ∷ bs; acts = acts_of inner }) m k rest refl refl (rw (not_open bs k e g) refl)
        ∙ ap (λ code. run (at_block bs (acts ++ (n, during c code) ∷ [])) rest) (listed_back inner)
    act {n = n} {rest = rest} (blocks.ReadsAct.labelled {ts = ts} {m = m} {l = k} {s = s} {r = r} {body = inner} some other q) bs acts b e l h =
        to_label n l k s m r inner ts rest bs acts some h (body q (block n acts (of_loop (Some k) r s) ∷ bs) [] in_loop (ap (λ ks. k ∷ ks) e))
        ∙ ap (λ nest. run (inside nest) rest) (close_while-other (is_labelled k) bs _ (other_label bs k b e other))
    act {n = n} (blocks.ReadsAct.shared {ts = ts} {rest = rest} {m = m} {l = k} {s = s} {r = r} {body = inner} some same q) bs acts b e l h =
        to_label n l k s m r inner ts rest bs acts some h (body q (block n acts (of_loop (Some k) r s) ∷ bs) [] in_loop (ap (λ ks. k ∷ ks) e))
        ∙ sym (continues bs (acts ++ (n, loop_of r inner s) ∷ []) m k rest (same_label bs k b e some same))

    else_part : {ls : List ℕ} {ts rest : List Statement} {other : Code} → ReadsElse ls ts rest other → (bs : List Block) (n : ℕ) (c : Test) (before acts : Acts) → ls ≡ labels bs → run (at_block (block n before (of_if c) ∷ bs) acts) ts ≡ run (inside (close_while is_chain bs (before ++ (n, choose c (code_listed acts) other) ∷ []))) rest
    else_part {rest = rest} (blocks.ReadsElse.nothing {n = m} {l = l} h) bs n c before acts e =
        steps end_if (record { blocks = block n before (of_if c) ∷ bs; acts = acts }) m l rest refl refl (rw (not_open bs l e h) refl)
    else_part {rest = rest} (blocks.ReadsElse.part {ts = ts} {n = i} {l = j} {m = m} {k = k} {body = other} h r g) bs n c before acts e =
        steps otherwise (record { blocks = block n before (of_if c) ∷ bs; acts = acts }) i j ts refl refl (rw (not_open bs j e h) refl)
        ∙ body r (block n before (of_else c (code_listed acts)) ∷ bs) [] in_else (ap (λ ks. 0 ∷ ks) e)
        ∙ steps end_if (record { blocks = block n before (of_else c (code_listed acts)) ∷ bs; acts = acts_of other }) m k rest refl refl (rw (not_open bs k e g) refl)
        ∙ ap (λ code. run (inside (close_while is_chain bs (before ++ (n, choose c (code_listed acts) code) ∷ []))) rest) (listed_back other)
    else_part {rest = rest} (blocks.ReadsElse.chained {ts = ts} {n = i} {l = j} {c = d} {a = first} {b = other} h r q) bs n c before acts e =
        let outer = block n before (of_chain c (code_listed acts)) in
        steps (otherwise_if d) (record { blocks = block n before (of_if c) ∷ bs; acts = acts }) i j ts refl refl (rw (not_open bs j e h) refl)
        ∙ body r (block i [] (of_if d) ∷ outer ∷ bs) [] in_if (ap (λ ks. 0 ∷ ks) e)
        ∙ else_part q (outer ∷ bs) i d [] (acts_of first) e
        ∙ ap (λ code. run (inside (close_while is_chain bs (before ++ (n, choose c (code_listed acts) (step i (choose d code other) stop)) ∷ []))) rest) (listed_back first)
