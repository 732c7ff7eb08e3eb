-- What the analyses find meets the laws of an assignment.
use Rattle.std.proofs.Common.{◌≡◌, ◌⊎◌, inl, inr, ℕ, true, false, refl, sym, ◌∙◌}
use Rattle.std.specs.Prelude.{◌||◌, ◌&&◌, Contains}
use Rattle.std.proofs.lemmas.Bool.{or_cases}
use Rattle.adj_tree.specs.Code.{Var, Terms, none, more, Term, assign}
use Rattle.def_meaning.specs.Read.{reads_term, reads_terms}
use Rattle.def_meaning.proofs.Booleans.{or_first, or_second}
use Rattle.def_names.specs.Numbers.{Vars}
use Rattle.def_names.specs.Numbering.{point_before, point_after}
use Rattle.def_sweep.specs.Marks.{active_at}
use Rattle.def_sweep.specs.Facts.{In, without, vars_if, joined, in_terms, whole, Facts}
use Rattle.adj_reach.specs.Reached.{begins, leads}
use Rattle.def_flow.specs.Parts.{Part}
use Rattle.def_flow.specs.Ways.{Way, way}
use Rattle.def_flow.specs.Standing.{Place, Standing}
use Rattle.def_sweep.specs.Occurrences.{adjoint_reads, reads_at}
use Rattle.def_flow.specs.Problem.{Problem, statements_of, TakesPart}
use Rattle.def_flow.specs.Activity as activity
use Rattle.def_flow.specs.Live as live
use Rattle.def_flow.specs.Held as held
use Rattle.def_flow.specs.Analysed.{IsHeld}
use Rattle.law_flow.specs.Laws.{facts_of, AtAssignment}
use Rattle.def_flow.proofs.Sets.{both, left_in, left_out, and_false}
use Rattle.law_flow.proofs.Active.{deed_of, is_way, target_varies, target_serves, adjoints_at}
use Rattle.law_flow.proofs.Closed.{at_kept}

module _ (k : Problem) (a : activity.Activity) (l : live.Liveness) (saved kept_held : ℕ → Vars) (isa : activity.IsActivity k a) (isl : live.IsLive k a l) (ish : IsHeld k a l kept_held) (iss : held.IsSaved k a l saved) (g : Part) (part : TakesPart k g)
    (i : ℕ) (at : Place) (x : Var) (subs : Terms) (e : Term) (c : Contains (statements_of g) (record { number = i; place = at; act = assign x subs e })) where
  abbrev w : Facts
  w = facts_of k a l saved kept_held g.number

  abbrev s : Standing
  s = record { number = i; place = at; act = assign x subs e }

  abbrev here : Way
  here = way (point_before i) (point_after i) (deed_of i x subs)

  replaced_here : (subs : Terms) (v : Var) → held.replaced_on l.kept (deed_of i x subs) v ≡ vars_if (l.kept i) (whole x subs) v
  replaced_here none v = refl
  replaced_here (more j js) v = sym (and_false (l.kept i))

  -- the reads are needed before it
  subscripts_needed : (v : Var) → In v (in_terms subs) → (l.kept i || a.adjointed i) ≡ true → In v (l.needed (point_before i))
  subscripts_needed v h o = go (or_cases (l.kept i) (a.adjointed i) o)
    where
      go : (l.kept i ≡ true) ⊎ (a.adjointed i ≡ true) → In v (l.needed (point_before i))
      go (inl r) = at_kept k a l saved kept_held isa isl ish iss g part s c r v (or_second (reads_term v e) (reads_terms v subs) h)
      go (inr r) = (isl.exact (live.needed (point_before i) v)).1 (begins (live.reads part c refl r (or_second (adjoint_reads (active_at (activity.activity_marks a g.number) i) e v) (in_terms subs v) h)))

  reads_needed : (v : Var) → In v (reads_at w.marks i subs e) → In v (l.needed (point_before i))
  reads_needed v h = go (or_cases (a.adjointed i && adjoint_reads (active_at w.marks i) e v) ((l.kept i || a.adjointed i) && in_terms subs v) h)
    where
      go : ((a.adjointed i && adjoint_reads (active_at w.marks i) e v) ≡ true) ⊎ (((l.kept i || a.adjointed i) && in_terms subs v) ≡ true) → In v (l.needed (point_before i))
      go (inl r) = let b = both (a.adjointed i) (adjoint_reads (active_at w.marks i) e v) r in
          (isl.exact (live.needed (point_before i) v)).1 (begins (live.reads part c refl b.0 (or_first (adjoint_reads (active_at (activity.activity_marks a g.number) i) e v) (in_terms subs v) b.1)))
      go (inr r) = let b = both (l.kept i || a.adjointed i) (in_terms subs v) r in subscripts_needed v b.1 b.0

  -- and held after it
  reads_held : (v : Var) → In v (without (reads_at w.marks i subs e) (vars_if (l.kept i) (whole x subs))) → In v (kept_held (point_after i))
  reads_held v h =
      let r : In v (reads_at w.marks i subs e) = left_in (reads_at w.marks i subs e) (vars_if (l.kept i) (whole x subs)) v h in
      let o : held.replaced_on l.kept here.deed v ≡ false = replaced_here subs v ∙ left_out (reads_at w.marks i subs e) (vars_if (l.kept i) (whole x subs)) v h in
      (ish.exact (point_after i) v).1 (begins (held.read part (is_way k a isa g part i at x subs e c) refl (held.assignment part c refl r) o))

  saved_here : l.kept i ≡ true → In x (joined (kept_held (point_before i)) (reads_at w.marks i subs e)) → In x (saved i)
  saved_here h r = (iss.exact i x).1 (record { may = held.assignment part c refl h; held = go (or_cases (kept_held (point_before i) x) (reads_at w.marks i subs e x) r) })
    where
      go : In x (kept_held (point_before i)) ⊎ In x (reads_at w.marks i subs e) → held.Held k a l (point_before i, x) ⊎ held.AdjointReads k a l i x
      go (inl f) = inl ((ish.exact (point_before i) x).0 f)
      go (inr f) = inr (held.assignment part c refl f)

  pub at_assignment : AtAssignment w i x subs e
  at_assignment = record {
    needs = reads_needed;
    holds = reads_held;
    keeps = λ h. (isl.exact (live.kept i)).1 (leads ((isl.exact (live.needed (point_after i) x)).0 h) (live.assigned part c refl));
    saves = saved_here;
    varies = target_varies k a isa g part i at x subs e c;
    serves = target_serves k a isa g part i at x subs e c;
    adjoints = adjoints_at k a isa g part i at x subs e c;
  }
