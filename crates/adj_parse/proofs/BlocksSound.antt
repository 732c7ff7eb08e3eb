-- What the machine makes of statements as blocks is derived by the grammar.
use Rattle.std.proofs.Common.{◌≡◌, ◌≢◌, ℕ, true, false, eqb, List, [], ◌∷◌, ◌++◌, Option, Some, None, refl, sym, subst, ◌∙◌}
use Rattle.std.proofs.lemmas.Bool.{ne_eqb, eq-eqb, eqb-true, eqb-false, or_parts}
use Rattle.std.specs.Prelude.{◌==◌, ◌&&◌, not}
use Rattle.adj_tree.specs.Code.{Test, Mark, Act, Code, choose, during, stop, step}
use Rattle.adj_tree.specs.Listed.{code_onto, code_listed}
use Rattle.def_text.specs.Statement.{Range}
use Rattle.def_text.specs.Block as blocks
use Rattle.def_text.specs.Block.{is_open, innermost, loop_of, ReadsBody, ReadsAct, ReadsElse}
use Rattle.def_text.specs.Form.{Form, subroutine, implicit_none, integers, common, simple, logical, opens_do, opens_while, end_do, go_on, opens_if, otherwise, otherwise_if, end_if, leaves, ends, Statement, at}
use Rattle.def_text.specs.declared.stated.Kind.{Kind}
use Rattle.def_text.specs.declared.stated.Kind.TheVariants.{Do, BlockIf, LogicalIf, Assign, Continue, EndIf, EndDo, Else, ElseIf, DoWhile}
use Rattle.adj_parse.specs.Blocks.{Acts, Part, of_loop, of_while, of_if, of_else, of_chain, Block, close_while, Nest, acted, is_chain, is_labelled}
use Rattle.adj_parse.specs.Order.{is_continue, has_no_label, is_first, is_if, innermost_is, some_is, suits, leaves_loop, breaks_loop}
use Rattle.adj_parse.proofs.Truths.{and_true, both, not_true}
use Rattle.adj_parse.proofs.Machine.{kind_of, labels, IsBody, at_bottom, in_loop, in_while, in_if, in_else, is_open_some, innermost_labelled, close_while-other, no_chain, onto_last}
use Rattle.adj_parse.proofs.BlocksComplete.{is_executable, block}

-- statements of a body, whatever follows
record Leads (ls : List ℕ) (us rest : List Statement) (acts : Acts) : Type 0 where
  follow : (r : List Statement) (tail : Code) → ReadsBody ls rest r tail → ReadsBody ls us r (code_onto acts tail)

-- the statements before lead to these blocks, and the body of the innermost begins here
data Begun (total : List Statement) : List Block → List Statement → Type 0 where
  from_start : Begun total [] total
  of_do : {bs : List Block} {us ts : List Statement} {n l : ℕ} {s : Mark} {k : Option ℕ} {r : Range} {before : Acts} → IsBody bs → Begun total bs us → is_open (labels bs) l ≡ false → Leads (labels bs) us (at n l (opens_do k r s) ∷ ts) before → Begun total (block n before (of_loop k r s) ∷ bs) ts
  behind_while : {bs : List Block} {us ts : List Statement} {n l : ℕ} {c : Test} {before : Acts} → IsBody bs → Begun total bs us → is_open (labels bs) l ≡ false → Leads (labels bs) us (at n l (opens_while c) ∷ ts) before → Begun total (block n before (of_while c) ∷ bs) ts
  behind_if : {bs : List Block} {us ts : List Statement} {n l : ℕ} {c : Test} {before : Acts} → IsBody bs → Begun total bs us → is_open (labels bs) l ≡ false → Leads (labels bs) us (at n l (opens_if c) ∷ ts) before → Begun total (block n before (of_if c) ∷ bs) ts
  behind_else : {bs : List Block} {us ts : List Statement} {n m l : ℕ} {c : Test} {before : Acts} {first : Code} → Begun total (block n before (of_if c) ∷ bs) us → is_open (labels bs) l ≡ false → ReadsBody (0 ∷ labels bs) us (at m l otherwise ∷ ts) first → Begun total (block n before (of_else c first) ∷ bs) ts
  behind_chain : {bs : List Block} {us ts : List Statement} {n m l : ℕ} {c d : Test} {before : Acts} {first : Code} → Begun total (block n before (of_if c) ∷ bs) us → is_open (labels bs) l ≡ false → ReadsBody (0 ∷ labels bs) us (at m l (otherwise_if d) ∷ ts) first → Begun total (block m [] (of_if d) ∷ block n before (of_chain c first) ∷ bs) ts

-- what is known before each statement of a body
pub record Holds (total : List Statement) (nest : Nest) (rest : List Statement) : Type 0 where
  is_body : IsBody nest.blocks
  items : List Statement
  begun : Begun total nest.blocks items
  leads : Leads (labels nest.blocks) items rest nest.acts

no_acts : {ls : List ℕ} {us : List Statement} → Leads ls us us []
no_acts = record { follow = λ r tail q. q }

listed : {ls : List ℕ} {us rest : List Statement} {acts : Acts} → Leads ls us rest acts → ReadsBody ls us rest (code_listed acts)
listed {rest = rest} h = h.follow rest stop blocks.ReadsBody.empty

one_more : {ls : List ℕ} {us ts rest : List Statement} {n l : ℕ} {f : Form} {a : Act} {acts : Acts} → is_open ls l ≡ false → Leads ls us (at n l f ∷ ts) acts → ReadsAct ls n f ts rest a → Leads ls us rest (acts ++ (n, a) ∷ [])
one_more {ls = ls} {us = us} {n = n} {a = a} {acts = acts} none h q = record { follow = λ r tail p. subst (λ k. ReadsBody ls us r k) (sym (onto_last acts n a tail)) (h.follow r (step n a tail) (blocks.ReadsBody.more none q p)) }

skipped : {ls : List ℕ} {us rest : List Statement} {n l : ℕ} {acts : Acts} → is_open ls l ≡ false → Leads ls us (at n l go_on ∷ rest) acts → Leads ls us rest acts
skipped none h = record { follow = λ r tail p. h.follow r tail (blocks.ReadsBody.skipped none p) }

pub at_start : (total : List Statement) → Holds total (record { blocks = []; acts = [] }) total
at_start total = record { is_body = at_bottom; items = total; begun = from_start; leads = no_acts }

-- the statements of a unit without an open block
pub whole_body : {total rest : List Statement} {acts : Acts} → Holds total (record { blocks = []; acts = acts }) rest → ReadsBody [] total rest (code_listed acts)
whole_body {total = total} {rest = rest} {acts = acts} h = from h.begun (listed h.leads)
  where
    from : {us : List Statement} → Begun total [] us → ReadsBody [] us rest (code_listed acts) → ReadsBody [] total rest (code_listed acts)
    from from_start q = q

module _ (total : List Statement) where
  holds_more : {bs : List Block} {us ts rest : List Statement} {n l : ℕ} {f : Form} {a : Act} {acts : Acts} → IsBody bs → Begun total bs us → is_open (labels bs) l ≡ false → Leads (labels bs) us (at n l f ∷ ts) acts → ReadsAct (labels bs) n f ts rest a → Holds total (record { blocks = bs; acts = acts ++ (n, a) ∷ [] }) rest
  holds_more {us = us} b g none h q = record { is_body = b; items = us; begun = g; leads = one_more none h q }

  -- an IF is whole, and so are those whose ELSE IF it is
  if_whole : {bs : List Block} {us vs rest : List Statement} {n : ℕ} {c : Test} {before : Acts} {first other : Code} → Begun total (block n before (of_if c) ∷ bs) us → ReadsBody (0 ∷ labels bs) us vs first → ReadsElse (labels bs) vs rest other → Holds total (close_while is_chain bs (before ++ (n, choose c first other) ∷ [])) rest
  if_whole {rest = rest} (behind_if b g none h) q e =
      subst (λ (nest : Nest). Holds total nest rest) (sym (close_while-other is_chain _ _ (no_chain b))) (holds_more b g none h (blocks.ReadsAct.branch q e))
  if_whole (behind_chain g none r) q e = if_whole g r (blocks.ReadsElse.chained none q e)

  else_whole : {bs : List Block} {us rest : List Statement} {n m l : ℕ} {c : Test} {before : Acts} {first other : Code} → Begun total (block n before (of_else c first) ∷ bs) us → is_open (labels bs) l ≡ false → ReadsBody (0 ∷ labels bs) us (at m l end_if ∷ rest) other → Holds total (close_while is_chain bs (before ++ (n, choose c first other) ∷ [])) rest
  else_whole (behind_else g before r) none q = if_whole g r (blocks.ReadsElse.part before q none)

  do_whole : {bs : List Block} {us rest : List Statement} {n m l : ℕ} {s : Mark} {r : Range} {before : Acts} {body : Code} → Begun total (block n before (of_loop None r s) ∷ bs) us → is_open (labels bs) l ≡ false → ReadsBody (0 ∷ labels bs) us (at m l end_do ∷ rest) body → Holds total (record { blocks = bs; acts = before ++ (n, loop_of r body s) ∷ [] }) rest
  do_whole (of_do b g before h) none q = holds_more b g before h (blocks.ReadsAct.unlabelled q none)

  while_whole : {bs : List Block} {us rest : List Statement} {n m l : ℕ} {c : Test} {before : Acts} {body : Code} → Begun total (block n before (of_while c) ∷ bs) us → is_open (labels bs) l ≡ false → ReadsBody (0 ∷ labels bs) us (at m l end_do ∷ rest) body → Holds total (record { blocks = bs; acts = before ++ (n, during c body) ∷ [] }) rest
  while_whole (behind_while b g before h) none q = holds_more b g before h (blocks.ReadsAct.repeated q none)

  same_label : (l : ℕ) (bs : List Block) → IsBody bs → innermost_is (is_labelled l) bs ≡ true → (l ≢ 0) × (innermost (labels bs) ≡ l)
  same_label l bs b h =
      let e = sym (innermost_labelled l b) ∙ h in
      (eqb-false l 0 (not_true (eqb l 0) (both _ _ e).0), eqb-true (innermost (labels bs)) l (both _ _ e).1)

  other_label : (l : ℕ) (bs : List Block) → IsBody bs → l ≢ 0 → innermost_is (is_labelled l) bs ≡ false → innermost (labels bs) ≢ l
  other_label l bs b some h same =
      let e : (not (l == 0) && innermost (labels bs) == l) ≡ true = rw (ne_eqb l 0 some, eq-eqb (innermost (labels bs)) l same) refl in
      let no_label : innermost_is (is_labelled l) bs ≡ true = innermost_labelled l b ∙ e in
      absurd cc

  -- the loops of a label are whole
  label_whole : {bs : List Block} {us rest : List Statement} {m l : ℕ} {acts : Acts} → innermost_is (is_labelled l) bs ≡ true → Begun total bs us → Leads (labels bs) us (at m l go_on ∷ rest) acts → Holds total (close_while (is_labelled l) bs acts) rest
  label_whole same from_start h = absurd cc
  label_whole same (behind_while b g none f) h = absurd cc
  label_whole same (behind_if b g none f) h = absurd cc
  label_whole same (behind_else g none f) h = absurd cc
  label_whole same (behind_chain g none f) h = absurd cc
  label_whole same (of_do {k = None} b g none f) h = absurd cc
  label_whole {us = us} {rest = rest} {m = m} {l = l} {acts = acts} same (of_do {bs = bs} {us = vs} {n = n} {l = j} {s = s} {k = Some k} {r = r} {before = before} b g none f) h =
      let some : l ≢ 0 = eqb-false l 0 (not_true (eqb l 0) (both _ _ same).0) in
      let e : k ≡ l = eqb-true k l (both (not (eqb l 0)) (eqb k l) same).1 in
      let body : ReadsBody (l ∷ labels bs) us (at m l go_on ∷ rest) (code_listed acts) = subst (λ i. ReadsBody (i ∷ labels bs) us (at m l go_on ∷ rest) (code_listed acts)) e (listed h) in
      let opens : Leads (labels bs) vs (at n j (opens_do (Some l) r s) ∷ us) before = subst (λ i. Leads (labels bs) vs (at n j (opens_do (Some i) r s) ∷ us) before) e f in
      let xs : Acts = before ++ (n, loop_of r (code_listed acts) s) ∷ [] in
      let done : Holds total (close_while (is_labelled l) bs xs) rest =
      elim (innermost_is (is_labelled l) bs) as (λ t. innermost_is (is_labelled l) bs ≡ t → Holds total (close_while (is_labelled l) bs xs) rest) [
        | true ↦ λ t. label_whole t g (one_more none opens (blocks.ReadsAct.shared some (same_label l bs b t).1 body))
        | false ↦ λ t. subst (λ (nest : Nest). Holds total nest rest) (sym (close_while-other (is_labelled l) bs xs t)) (holds_more b g none opens (blocks.ReadsAct.labelled some (other_label l bs b some t) body))
      ] refl in
      rw same done

  -- what a closing statement needs of the innermost block, in each part that it may be
  ends_do : (part : Part) (n : ℕ) (before : Acts) (bs : List Block) (acts : Acts) (m l : ℕ) (rest : List Statement) → has_no_label part ≡ true → is_open (labels bs) l ≡ false → Holds total (record { blocks = block n before part ∷ bs; acts = acts }) (at m l end_do ∷ rest) → Holds total (acted (record { blocks = block n before part ∷ bs; acts = acts }) m l end_do) rest
  ends_do (of_loop None r s) n before bs acts m l rest x none h = do_whole h.begun none (listed h.leads)
  ends_do (of_loop (Some k) r s) n before bs acts m l rest x none h = absurd cc
  ends_do (of_while c) n before bs acts m l rest x none h = while_whole h.begun none (listed h.leads)
  ends_do (of_if c) n before bs acts m l rest x none h = absurd cc
  ends_do (of_else c first) n before bs acts m l rest x none h = absurd cc
  ends_do (of_chain c first) n before bs acts m l rest x none h = absurd cc

  turns : (part : Part) (n : ℕ) (before : Acts) (bs : List Block) (acts : Acts) (m l : ℕ) (rest : List Statement) → is_first part ≡ true → is_open (labels bs) l ≡ false → Holds total (record { blocks = block n before part ∷ bs; acts = acts }) (at m l otherwise ∷ rest) → Holds total (acted (record { blocks = block n before part ∷ bs; acts = acts }) m l otherwise) rest
  turns (of_if c) n before bs acts m l rest x none h = record { is_body = in_else; items = rest; begun = behind_else h.begun none (listed h.leads); leads = no_acts }
  turns (of_while d) n before bs acts m l rest x none h = absurd cc
  turns (of_loop k r s) n before bs acts m l rest x none h = absurd cc
  turns (of_else c first) n before bs acts m l rest x none h = absurd cc
  turns (of_chain c first) n before bs acts m l rest x none h = absurd cc

  chains : (d : Test) (part : Part) (n : ℕ) (before : Acts) (bs : List Block) (acts : Acts) (m l : ℕ) (rest : List Statement) → is_first part ≡ true → is_open (labels bs) l ≡ false → Holds total (record { blocks = block n before part ∷ bs; acts = acts }) (at m l (otherwise_if d) ∷ rest) → Holds total (acted (record { blocks = block n before part ∷ bs; acts = acts }) m l (otherwise_if d)) rest
  chains d (of_if c) n before bs acts m l rest x none h = record { is_body = in_if; items = rest; begun = behind_chain h.begun none (listed h.leads); leads = no_acts }
  chains d (of_while c) n before bs acts m l rest x none h = absurd cc
  chains d (of_loop k r s) n before bs acts m l rest x none h = absurd cc
  chains d (of_else c first) n before bs acts m l rest x none h = absurd cc
  chains d (of_chain c first) n before bs acts m l rest x none h = absurd cc

  ends_if : (part : Part) (n : ℕ) (before : Acts) (bs : List Block) (acts : Acts) (m l : ℕ) (rest : List Statement) → is_if part ≡ true → is_open (labels bs) l ≡ false → Holds total (record { blocks = block n before part ∷ bs; acts = acts }) (at m l end_if ∷ rest) → Holds total (acted (record { blocks = block n before part ∷ bs; acts = acts }) m l end_if) rest
  ends_if (of_if c) n before bs acts m l rest x none h = if_whole h.begun (listed h.leads) (blocks.ReadsElse.nothing none)
  ends_if (of_else c first) n before bs acts m l rest x none h = else_whole h.begun none (listed h.leads)
  ends_if (of_while c) n before bs acts m l rest x none h = absurd cc
  ends_if (of_loop k r s) n before bs acts m l rest x none h = absurd cc
  ends_if (of_chain c first) n before bs acts m l rest x none h = absurd cc

  -- a statement that isn't a CONTINUE and breaks no loop has no open label
  no_label : (kind : Kind) (l : ℕ) (bs : List Block) → is_continue kind ≡ false → breaks_loop kind l bs ≡ false → is_open (labels bs) l ≡ false
  no_label kind l bs x h = is_open_some bs l ∙ and_true (some_is (is_labelled l) bs) (rw x at ((or_parts (leaves_loop kind bs) _ h).1))

  -- the label behind the innermost block
  inner_label : (b : Block) (bs : List Block) (l : ℕ) → is_open (labels (b ∷ bs)) l ≡ false → is_open (labels bs) l ≡ false
  inner_label b bs l h = is_open_some bs l ∙ (or_parts (is_labelled l b.part) (some_is (is_labelled l) bs) (sym (is_open_some (b ∷ bs) l) ∙ h)).1

  -- a CONTINUE that breaks no loop
  continues : (bs : List Block) (acts : Acts) (m l : ℕ) (rest : List Statement) → breaks_loop Continue l bs ≡ false → Holds total (record { blocks = bs; acts = acts }) (at m l go_on ∷ rest) → Holds total (close_while (is_labelled l) bs acts) rest
  continues bs acts m l rest x h =
      elim (innermost_is (is_labelled l) bs) as (λ t. innermost_is (is_labelled l) bs ≡ t → Holds total (close_while (is_labelled l) bs acts) rest) [
        | true ↦ λ t. label_whole t h.begun h.leads
        | false ↦ λ t.
            let shut : is_open (labels bs) l ≡ false = is_open_some bs l ∙ and_true (some_is (is_labelled l) bs) (rw t at (or_parts (leaves_loop Continue bs) (some_is (is_labelled l) bs && not (innermost_is (is_labelled l) bs)) x).1) in
            subst (λ (nest : Nest). Holds total nest rest) (sym (close_while-other (is_labelled l) bs acts t)) (record { is_body = h.is_body; items = h.items; begun = h.begun; leads = skipped shut h.leads })
      ] refl

  -- an executable statement that stands rightly is read
  pub steps : (f : Form) (bs : List Block) (acts : Acts) (n l : ℕ) (rest : List Statement) → is_executable f ≡ true → suits (kind_of f) bs ≡ true → breaks_loop (kind_of f) l bs ≡ false → Holds total (record { blocks = bs; acts = acts }) (at n l f ∷ rest) → Holds total (acted (record { blocks = bs; acts = acts }) n l f) rest
  steps (simple a) bs acts n l rest x y z h = holds_more h.is_body h.begun (no_label Assign l bs refl z) h.leads blocks.ReadsAct.simply
  steps (logical c a) bs acts n l rest x y z h = holds_more h.is_body h.begun (no_label LogicalIf l bs refl z) h.leads blocks.ReadsAct.guarded
  steps (opens_do k r s) bs acts n l rest x y z h = record { is_body = in_loop; items = rest; begun = of_do h.is_body h.begun (no_label Do l bs refl z) h.leads; leads = no_acts }
  steps (opens_while c) bs acts n l rest x y z h = record { is_body = in_while; items = rest; begun = behind_while h.is_body h.begun (no_label DoWhile l bs refl z) h.leads; leads = no_acts }
  steps (opens_if c) bs acts n l rest x y z h = record { is_body = in_if; items = rest; begun = behind_if h.is_body h.begun (no_label BlockIf l bs refl z) h.leads; leads = no_acts }
  steps go_on bs acts n l rest x y z h = continues bs acts n l rest z h
  steps end_do [] acts n l rest x y z h = absurd cc
  steps end_do (b ∷ bs) acts n l rest x y z h = ends_do b.part b.line b.before bs acts n l rest y (inner_label b bs l (no_label EndDo l (b ∷ bs) refl z)) h
  steps otherwise [] acts n l rest x y z h = absurd cc
  steps otherwise (b ∷ bs) acts n l rest x y z h = turns b.part b.line b.before bs acts n l rest y (inner_label b bs l (no_label Else l (b ∷ bs) refl z)) h
  steps (otherwise_if d) [] acts n l rest x y z h = absurd cc
  steps (otherwise_if d) (b ∷ bs) acts n l rest x y z h = chains d b.part b.line b.before bs acts n l rest y (inner_label b bs l (no_label ElseIf l (b ∷ bs) refl z)) h
  steps end_if [] acts n l rest x y z h = absurd cc
  steps end_if (b ∷ bs) acts n l rest x y z h = ends_if b.part b.line b.before bs acts n l rest y (inner_label b bs l (no_label EndIf l (b ∷ bs) refl z)) h
  steps (subroutine w ds) bs acts n l rest x y z h = absurd cc
  steps implicit_none bs acts n l rest x y z h = absurd cc
  steps (integers is) bs acts n l rest x y z h = absurd cc
  steps (common b is) bs acts n l rest x y z h = absurd cc
  steps leaves bs acts n l rest x y z h = absurd cc
  steps ends bs acts n l rest x y z h = absurd cc
