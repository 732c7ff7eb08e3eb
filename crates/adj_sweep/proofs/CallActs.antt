-- The sweeps of a call, from what was written of it.
use Rattle.std.proofs.Common.{◌≡◌, ℕ, suc, Bool, true, false, List, refl, sym, ap, ◌∙◌}
use Rattle.adj_tree.specs.Code.{Var, call, Code}
use Rattle.adj_tree.specs.View.{terms_of, code_of}
use Rattle.adj_tree.specs.declared.expr.Exprs.{Exprs}
use Rattle.def_meaning.specs.Append.{◌+++◌, one}
use Rattle.def_meaning.specs.Rename.{rename}
use Rattle.def_meaning.proofs.Appends.{append_assoc}
use Rattle.def_meaning.proofs.RenamedLists.{rename-append}
use Rattle.def_names.specs.Numbers.{Vars}
use Rattle.def_sweep.specs.Marked.{code_if}
use Rattle.def_sweep.specs.Plan.{Plan, Callee, Schedules, is_emitted, names_of, save_group, snapshot_group}
use Rattle.def_sweep.specs.Rows.{pushes, pops, with_shadows, adjoint_call}
use Rattle.def_sweep.proofs.UnsplitRows.{unsplit_forward, unsplit_backward}
use Rattle.adj_sweep.specs.declared.actuals.Actual.{Actual}
use Rattle.adj_sweep.specs.declared.actuals.Group.TheVariants.{Save, Snapshot}
use Rattle.adj_sweep.specs.declared.sweeps.Sweeps.{Sweeps}
use Rattle.adj_sweep.specs.declared.callees.Callee as known
use Rattle.adj_sweep.specs.Actuals.{paired, is_in, chosen, all_with_shadows}
use Rattle.adj_sweep.specs.Callees.{Knows}
use Rattle.adj_sweep.specs.Swept.{in_order, SweepsAct}
use Rattle.adj_sweep_assignment.proofs.Plain.{IsPlain, terms_kept}
use Rattle.adj_sweep.proofs.Turned.{joined}
use Rattle.adj_sweep.proofs.Groups.{save_chosen, snapshot_chosen, shadows_paired, pushes_plain, pops_plain}
use Rattle.adj_sweep.proofs.Acts.{written, if_true}
use Rattle.adj_sweep.proofs.SplitRows.{split_forward, split_backward}

module _ (sc : Schedules) (r : Var → Var) (plainly : IsPlain r) (p : Plan) (d line : ℕ) (name : List ℕ) (args : Exprs) (old new : Sweeps) (k : known.Callee) (read : Vars) (h : Knows k (p.callees name) read) where
  abbrev g : Callee
  g = p.callees name

  abbrev given : List (List ℕ)
  given = names_of (terms_of args)

  abbrev actuals : List Actual
  actuals = paired k.dummies.items given

  saved : chosen (is_in (p.marks.saved old.number) Save) actuals ≡ save_group p.marks old.number g given
  saved = ap (λ ds. chosen (is_in (p.marks.saved old.number) Save) (paired ds given)) h.dummies ∙ save_chosen g read (p.marks.saved old.number) g.dummies given

  snapshot : chosen (is_in (p.marks.saved old.number) Snapshot) actuals ≡ snapshot_group g given
  snapshot = ap (λ ds. chosen (is_in (p.marks.saved old.number) Snapshot) (paired ds given)) h.dummies ∙ snapshot_chosen g read (p.marks.saved old.number) g.dummies given

  shadows : all_with_shadows actuals ≡ with_shadows g.shadowed g.dummies given
  shadows = ap (λ ds. all_with_shadows (paired ds given)) h.dummies ∙ shadows_paired g read g.dummies given

  kept_named : (b : Bool) → rename r (code_if b (one line (call name (terms_of args)))) ≡ code_if b (one line (call name (terms_of args)))
  kept_named true = λ i. one line (call name (terms_kept r plainly args i))
  kept_named false = refl

  pushed_named : (b : Bool) (xs : List (List ℕ)) → rename r (code_if b (pushes p line xs)) ≡ code_if b (pushes p line xs)
  pushed_named true xs = pushes_plain r plainly p line xs
  pushed_named false xs = refl

  -- the snapshot is popped and the adjoint called
  adjoint_named : (b : Bool) → code_if b (pops p line (chosen (is_in (p.marks.saved old.number) Snapshot) actuals) +++ rename r (one line (call k.adjoint (all_with_shadows actuals)))) ≡ rename r (code_if b (pops p line (snapshot_group g given) +++ one line (adjoint_call g given)))
  adjoint_named true =
      (λ i. pops p line (snapshot i) +++ rename r (one line (call (h.adjoint i) (shadows i))))
      ∙ ap (λ z. z +++ rename r (one line (adjoint_call g given))) (sym (pops_plain r plainly p line (snapshot_group g given)))
      ∙ sym (rename-append r (pops p line (snapshot_group g given)) (one line (adjoint_call g given)))
  adjoint_named false = refl

  -- both sweeps of a call that isn't split
  pub call_written : is_emitted p.marks old.number ≡ true → p.marks.split old.number ≡ false → new.number ≡ suc old.number → (s1 s2 t : Code) → s1 ≡ in_order (code_of old.forward) +++ pushes p line (chosen (is_in (p.marks.saved old.number) Save) actuals) → s2 ≡ s1 +++ code_if (p.marks.adjointed old.number) (pushes p line (chosen (is_in (p.marks.saved old.number) Snapshot) actuals)) → in_order (code_of new.forward) ≡ s2 +++ code_if (p.marks.kept old.number) (one line (call name (terms_of args))) → t ≡ pops p line (chosen (is_in (p.marks.saved old.number) Save) actuals) +++ code_of old.backward → code_of new.backward ≡ code_if (p.marks.adjointed old.number) (pops p line (chosen (is_in (p.marks.saved old.number) Snapshot) actuals) +++ rename r (one line (call k.adjoint (all_with_shadows actuals)))) +++ t → SweepsAct sc r p d line (call name (terms_of args)) old new
  call_written e u n s1 s2 t h1 h2 h3 h4 h5 =
      let i = old.number in
      let o = in_order (code_of old.forward) in
      let save = pushes p line (save_group p.marks i g given) in
      let snap = code_if (p.marks.adjointed i) (pushes p line (snapshot_group g given)) in
      let kept = code_if (p.marks.kept i) (one line (call name (terms_of args))) in
      let back = code_if (p.marks.adjointed i) (pops p line (snapshot_group g given) +++ one line (adjoint_call g given)) in
      let restored = pops p line (save_group p.marks i g given) in
      let first : s1 ≡ o +++ rename r save = h1 ∙ ap (λ z. o +++ pushes p line z) saved ∙ ap (λ z. o +++ z) (sym (pushes_plain r plainly p line (save_group p.marks i g given))) in
      let second : s2 ≡ s1 +++ rename r snap = h2 ∙ ap (λ z. s1 +++ code_if (p.marks.adjointed i) (pushes p line z)) snapshot ∙ ap (λ z. s1 +++ z) (sym (pushed_named (p.marks.adjointed i) (snapshot_group g given))) in
      let third : in_order (code_of new.forward) ≡ s2 +++ rename r kept = h3 ∙ ap (λ z. s2 +++ z) (sym (kept_named (p.marks.kept i))) in
      let tail : t ≡ rename r restored +++ code_of old.backward = h4 ∙ ap (λ z. pops p line z +++ code_of old.backward) saved ∙ ap (λ z. z +++ code_of old.backward) (sym (pops_plain r plainly p line (save_group p.marks i g given))) in
      written sc r p d line (call name (terms_of args)) old new (save +++ (snap +++ kept)) (back +++ restored)
      (unsplit_forward sc p i d line name (terms_of args) u ∙ if_true _ _ e) (unsplit_backward sc p i d line name (terms_of args) u ∙ if_true _ _ e) n
      (third ∙ ap (λ z. z +++ rename r kept) (second ∙ ap (λ z. z +++ rename r snap) first)
      ∙ append_assoc (o +++ rename r save) (rename r snap) (rename r kept) ∙ append_assoc o (rename r save) (rename r snap +++ rename r kept)
      ∙ ap (λ z. o +++ (rename r save +++ z)) (sym (rename-append r snap kept)) ∙ ap (λ z. o +++ z) (sym (rename-append r save (snap +++ kept))))
      (joined r back restored (code_of new.backward) t (code_of old.backward) (h5 ∙ ap (λ z. z +++ t) (adjoint_named (p.marks.adjointed i))) tail)

  -- those of a split call: the forward and the backward unit are called
  pub split_written : is_emitted p.marks old.number ≡ true → p.marks.split old.number ≡ true → new.number ≡ suc old.number → in_order (code_of new.forward) ≡ in_order (code_of old.forward) +++ one line (call k.forth (terms_of args)) → code_of new.backward ≡ rename r (one line (call k.back (all_with_shadows actuals))) +++ code_of old.backward → SweepsAct sc r p d line (call name (terms_of args)) old new
  split_written e u n f b =
      let i = old.number in
      let x = one line (call g.forth (terms_of args)) in
      let y = one line (call g.back (with_shadows g.shadowed g.dummies given)) in
      written sc r p d line (call name (terms_of args)) old new x y
      (split_forward sc p i d line name (terms_of args) u ∙ if_true _ _ e) (split_backward sc p i d line name (terms_of args) u ∙ if_true _ _ e) n
      (f ∙ (λ j. in_order (code_of old.forward) +++ one line (call (h.forth j) (sym (terms_kept r plainly args) j))))
      (b ∙ (λ j. rename r (one line (call (h.back j) (shadows j))) +++ code_of old.backward))
