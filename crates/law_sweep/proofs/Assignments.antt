-- An assignment as a statement: its derivative and its sweeps, to a scalar or to an element.
use Rattle.std.proofs.Common.{◌≡◌, ◌<◌, ℕ, Bool, true, false, List, [], ◌∷◌, refl, sym, ap, ◌∙◌, subst, if◌then◌else◌}
use Rattle.std.specs.Prelude.{ℤ, Ok, ◌==◌, ◌&&◌, ◌||◌}
use Rattle.adj_tree.specs.Code.{Var, plain, shadow, helper, name_eq, var_eq, Term, Terms, none, more, assign, runtime, push_word, pop_word, Code, stop}
use Rattle.adj_tree.proofs.Names.{nat_refl, name_refl, name_same}
use Rattle.adj_word.specs.Pairing.{pairing, put, stands_in, IsApart}
use Rattle.def_meaning.specs.Append.{◌+++◌, one}
use Rattle.def_meaning.specs.Store.{Shape, size_of, Store, set}
use Rattle.def_meaning.specs.Value.{Setting, value, target}
use Rattle.def_meaning.specs.Run.{Calls}
use Rattle.def_meaning.specs.Read.{reads_terms}
use Rattle.law_meaning.specs.Leads.{Leads}
use Rattle.law_meaning.proofs.Leadings.{leads_stop, leads_step, leads_append, leads_assign}
use Rattle.def_names.specs.Numbers.{Vars}
use Rattle.def_sweep.specs.Marks.{Marks, active_at}
use Rattle.def_names.specs.Numbering.{point_before, point_after}
use Rattle.def_sweep.specs.Marked.{code_if}
use Rattle.def_sweep.specs.Facts.{In, Within, joined, vars_if, in_term, in_terms, whole, Facts}
use Rattle.def_meaning.specs.Apart.{has_name}
use Rattle.law_sweep.specs.Pairs.{Key, key_eq, Words, shadows, with_tangents, on_words}
use Rattle.law_sweep.specs.Scenes.{Course, scene}
use Rattle.def_names.proofs.Variables.{or_left, or_right, and_true}
use Rattle.law_sweep.proofs.KeyVariables.{key_same}
use Rattle.law_sweep.proofs.Turned.{SameDepth, Turns}
use Rattle.def_sweep.specs.Occurrences.{adjoint_reads, reads_at}
use Rattle.def_sweep.specs.AdjointOf.{adjoint_where}
use Rattle.law_sweep.specs.Laws.{AssignmentLaws}
use Rattle.law_sweep.specs.Runs.{SameOn, SameOff}
use Rattle.law_sweep.proofs.Runs.{comes_stop, comes_leads, same_within, same_then}
use Rattle.law_sweep.proofs.Sweeps.{IsCell, Returns, Way, Sweeps}
use Rattle.law_sweep.proofs.Terms.{num, cell_in, IsDefined, value_words}
use Rattle.law_sweep.proofs.TermTangents.{changed, assigned_change}
use Rattle.law_sweep.proofs.TermUses.{AreText, IsOver, over_text}
use Rattle.law_sweep.proofs.TurnedOf.{HasTarget, target_is, turned}
use Rattle.law_sweep.proofs.AgreementsOf.{num_on, defined_on, target_on, usable_on, tan_on}

clash : {A : Type 0} (b : Bool) → b ≡ true → b ≡ false → A
clash b h n = absurd (let p : true ≡ false = sym h ∙ n in cc)

module _ (q : Calls ℤ) (sh : Var → Shape) (level : ℕ) (xs : List Key) (apart : IsApart key_eq xs) (vars : List (List ℕ)) (cells : (x : List ℕ) (j : ℕ) → has_name x vars ≡ true → j < size_of (sh (plain x)) → stands_in key_eq (x, j) xs ≡ true) (w : Facts) (shapes : (x : List ℕ) → w.marks.shadowed (plain x) ≡ true → sh (shadow x) ≡ sh (plain x)) (i : ℕ) (x : List ℕ) (subs : Terms) (e : Term) (laws : AssignmentLaws w i (plain x) subs e) (over : IsOver vars e) (st : AreText subs) (not_own : reads_terms (plain x) subs ≡ false)
    (u : Store ℤ) (def : IsDefined sh e u) (tg : HasTarget sh (plain x) subs u) (in_list : stands_in key_eq (x, cell_in sh (plain x) subs u) xs ≡ true) (scalar_cell : (k : Key) → IsCell sh k → whole (plain x) subs (plain k.0) ≡ true → k ≡ (x, cell_in sh (plain x) subs u)) where
  abbrev m : Marks
  m = w.marks

  abbrev nw : Setting ℤ
  nw = on_words sh level

  abbrev needed : Vars
  needed = w.needed (point_before i)

  abbrev needed_after : Vars
  needed_after = w.needed (point_after i)

  abbrev held : Vars
  held = w.held (point_before i)

  abbrev held_after : Vars
  held_after = w.held (point_after i)

  abbrev reads : Vars
  reads = reads_at m i subs e

  abbrev c : ℕ
  c = cell_in sh (plain x) subs u

  abbrev at : Key
  at = (x, c)

  abbrev v : ℤ
  v = num sh e u

  abbrev u' : Store ℤ
  u' = set u (plain x) c v

  abbrev wrote : Vars
  wrote = λ z. var_eq z (plain x)

  -- another cell keeps its value
  not_whole : (k : Key) → IsCell sh k → key_eq k at ≡ false → whole (plain x) subs (plain k.0) ≡ false
  not_whole k o n = go (whole (plain x) subs (plain k.0)) refl
    where
      go : (b : Bool) → whole (plain x) subs (plain k.0) ≡ b → b ≡ false
      go true e = clash (key_eq k at) (ap (λ j. key_eq j at) (scalar_cell k o e) ∙ rw (name_refl x) (nat_refl c)) n
      go false e = refl

  -- ---- forward

  uses_term : m.kept i ≡ true → Within (in_term e) needed
  uses_term k = λ z h. laws.needs_uses k z (or_left _ _ h)

  uses_subs : m.kept i ≡ true → Within (in_terms subs) needed
  uses_subs k = λ z h. laws.needs_uses k z (or_right (in_term e z) _ h)

  needs_other : (k : Key) → IsCell sh k → key_eq k at ≡ false → In (plain k.0) needed_after → In (plain k.0) needed
  needs_other k o n h = laws.values.needs (plain k.0) (rw (h, not_whole k o n) refl)

  -- where it is kept, the target gets the value that it has in the program
  agrees_kept : (f : Store ℤ) → SameOn sh needed u f → SameOn sh needed_after u' (set f (plain x) c v)
  agrees_kept f s = record { at = λ y j l h. go (y, j) l h (key_eq (y, j) at) refl }
    where
      go : (k : Key) → IsCell sh k → In (plain k.0) needed_after → (b : Bool) → key_eq k at ≡ b → (if b then v else f (plain k.0) k.1) ≡ (if b then v else u (plain k.0) k.1)
      go k l h true is = refl
      go k l h false is = s.at k.0 k.1 l (needs_other k l is h)

  -- where it isn't, its target isn't needed
  agrees_left : (f : Store ℤ) → m.kept i ≡ false → SameOn sh needed u f → SameOn sh needed_after u' f
  agrees_left f k s = record { at = λ y j l h. go (y, j) l h (key_eq (y, j) at) refl }
    where
      go : (y : Key) → IsCell sh y → In (plain y.0) needed_after → (b : Bool) → key_eq y at ≡ b → f (plain y.0) y.1 ≡ (if b then v else u (plain y.0) y.1)
      go y l h true is = clash (m.kept i) (laws.keeps (ap (λ (z : Key). needed_after (plain z.0)) (sym (key_same y at is)) ∙ h)) k
      go y l h false is = s.at y.0 y.1 l (needs_other y l is h)

  value_again : (f : Store ℤ) → m.kept i ≡ true → SameOn sh needed u f → value nw e f ≡ Ok v
  value_again f k s =
      value_words sh level e f (defined_on sh needed u f s e (over_text vars e over) def (uses_term k)) ∙ ap Ok (num_on sh needed u f s e (over_text vars e over) def (uses_term k))

  target_again : (f : Store ℤ) → m.kept i ≡ true → SameOn sh needed u f → target nw (plain x) subs f ≡ Ok c
  target_again f k s = let t = target_on sh needed u f s (plain x) subs st tg (uses_subs k) in target_is sh level (plain x) (plain x) subs f refl t.0 ∙ ap Ok t.1

  -- ---- backward: what is held before, and what the adjoint reads

  holds_on : (z : Var) → In z (joined held reads) → (m.kept i && whole (plain x) subs z) ≡ false → In z held_after
  holds_on z h n = go (held z) refl h
    where
      go : (b : Bool) → held z ≡ b → (b || reads z) ≡ true → In z held_after
      go true a h = laws.values.holds z (rw (a, n) refl)
      go false a h = laws.holds_reads z (rw (h, n) refl)

  and_none : (a b : Bool) → b ≡ false → (a && b) ≡ false
  and_none true b e = e
  and_none false b e = refl

  -- it isn't kept
  back_left : (f g : Store ℤ) → m.kept i ≡ false → SameOn sh held_after f g → SameOn sh (joined held reads) f g
  back_left f g k s = record { at = λ y j l h. s.at y j l (holds_on (plain y) h (rw k refl)) }

  -- its target isn't saved, and so neither held before nor read
  back_unsaved : (f g : Store ℤ) → m.kept i ≡ true → m.saved i (plain x) ≡ false → SameOn sh held_after (set f (plain x) c v) g → SameOn sh (joined held reads) f g
  back_unsaved f g k n s = record { at = λ y j l h. go (y, j) l h (key_eq (y, j) at) refl (s.at y j l) }
    where
      go : (y : Key) → IsCell sh y → In (plain y.0) (joined held reads) → (b : Bool) → key_eq y at ≡ b → (In (plain y.0) held_after → g (plain y.0) y.1 ≡ (if b then v else f (plain y.0) y.1)) → g (plain y.0) y.1 ≡ f (plain y.0) y.1
      go y l h true is same = clash (m.saved i (plain x)) (laws.saves k (ap (λ (z : Key). joined held reads (plain z.0)) (sym (key_same y at is)) ∙ h)) n
      go y l h false is same = same (holds_on (plain y.0) h (and_none (m.kept i) _ (not_whole y l is)))

  -- its target's old value comes back from the tape
  back_saved : (f g : Store ℤ) → m.kept i ≡ true → SameOn sh held_after (set f (plain x) c v) g → SameOn sh (joined held reads) f (set g (plain x) c (f (plain x) c))
  back_saved f g k s = record { at = λ y j l h. go (y, j) l h (key_eq (y, j) at) refl (s.at y j l) }
    where
      go : (y : Key) → IsCell sh y → In (plain y.0) (joined held reads) → (b : Bool) → key_eq y at ≡ b → (In (plain y.0) held_after → g (plain y.0) y.1 ≡ (if b then v else f (plain y.0) y.1)) → (if b then f (plain x) c else g (plain y.0) y.1) ≡ f (plain y.0) y.1
      go y l h true is same = ap (λ (z : Key). f (plain z.0) z.1) (sym (key_same y at is))
      go y l h false is same = same (holds_on (plain y.0) h (and_none (m.kept i) _ (not_whole y l is)))

  -- the variables of the target's subscripts are held, and the assignment leaves them
  subs_same : (f g : Store ℤ) → m.kept i ≡ true → SameOn sh needed u f → SameOn sh held_after (set f (plain x) c v) g → SameOn sh (in_terms subs) u g
  subs_same f g k s h = record { at = λ y j l o. go y j l o (name_eq y x) refl }
    where
      not_target : (z : Var) → In z (in_terms subs) → (m.kept i && whole (plain x) subs z) ≡ false
      not_target z o = and_none (m.kept i) _ (go2 subs o not_own)
        where
          go2 : (ss : Terms) → reads_terms z ss ≡ true → reads_terms (plain x) ss ≡ false → whole (plain x) ss z ≡ false
          go2 none o n = cc
          go2 (more a as_) o n = refl

      go : (y : List ℕ) (j : ℕ) → j < size_of (sh (plain y)) → In (plain y) (in_terms subs) → (b : Bool) → name_eq y x ≡ b → g (plain y) j ≡ u (plain y) j
      go y j l o true n = clash (reads_terms (plain x) subs) (ap (λ z. reads_terms (plain z) subs) (sym (name_same y x n)) ∙ o) not_own
      go y j l o false n =
          let read : In (plain y) reads = or_right (vars_if (m.adjointed i) (adjoint_reads (active_at m i) e) (plain y)) _ (rw (k, o) refl) in
          let later : In (plain y) held_after = laws.holds_reads (plain y) (rw (read, not_target (plain y) o) refl) in
          let other : set f (plain x) c v (plain y) j ≡ f (plain y) j = rw n refl in
          h.at y j l later ∙ other ∙ s.at y j l (uses_subs k (plain y) o)

  pop_target : (f g : Store ℤ) → m.kept i ≡ true → SameOn sh needed u f → SameOn sh held_after (set f (plain x) c v) g → target nw (plain x) subs g ≡ Ok c
  pop_target f g k s h = let t = target_on sh (in_terms subs) u g (subs_same f g k s h) (plain x) subs st tg (λ z o. o) in target_is sh level (plain x) (plain x) subs g refl t.0 ∙ ap Ok t.1

  -- ---- backward: the adjoint

  reads_term_in : m.adjointed i ≡ true → Within (adjoint_reads (active_at m i) e) reads
  reads_term_in a = λ z h. or_left (m.adjointed i && adjoint_reads (active_at m i) e z) _ (rw (a, h) refl)

  some_true : (k a b : Bool) → a ≡ true → b ≡ true → ((k || a) && b) ≡ true
  some_true true a b h o = o
  some_true false a b h o = rw (h, o) refl

  reads_subs_in : m.adjointed i ≡ true → Within (in_terms subs) reads
  reads_subs_in a = λ z h. or_right (vars_if (m.adjointed i) (adjoint_reads (active_at m i) e) z) _ (some_true (m.kept i) (m.adjointed i) (in_terms subs z) a h)

  -- an adjointed assignment's target has a shadow
  has_shadow : m.adjointed i ≡ true → m.shadowed (plain x) ≡ true
  has_shadow a = (and_true (m.shadowed (plain x)) _ (sym laws.adjoints ∙ a)).0

  -- from a store with the values that it reads, the adjoint turns the shadows by the values u of the program
  adjoint_turns : (base : Course) (d line : ℕ) (g : Store ℤ) (t : List ℤ) → SameOn sh reads u g → Turns q sh level base xs d (code_if (m.adjointed i) (adjoint_where (active_at m i) x subs e line)) g t (assigned_change m i at sh e u)
  adjoint_turns base d line g t s = go (m.adjointed i) refl
    where
      go : (b : Bool) → m.adjointed i ≡ b → Turns q sh level base xs d (code_if b (adjoint_where (active_at m i) x subs e line)) g t (λ y. if b then changed (active_at m i) at sh e u y else y)
      go true a =
          let on = active_at m i in
          let g_target = target_on sh reads u g s (plain x) subs st tg (reads_subs_in a) in
          let cell_is : (x, cell_in sh (plain x) subs g) ≡ at = λ k. (x, g_target.1 k) in
          let r = turned on q sh level base xs vars apart cells (λ y o. shapes y (and_true (m.varied (point_before i) (plain y)) (m.shadowed (plain y)) o).1) d x subs e line g t (shapes x (has_shadow a)) st g_target.0
          (subst (λ k. stands_in key_eq k xs ≡ true) (sym cell_is) in_list) over (usable_on sh reads u g s on vars e over (reads_term_in a) def) in
          record {
            after = r.after;
            runs = r.runs;
            plains = r.plains;
            pairs = λ y. r.pairs y ∙ (λ k. pairing xs (shadows g) (put key_eq y (cell_is k) (tan_on sh reads u g s on vars e y over def (reads_term_in a) k)));
            depth = r.depth;
          }
      go false a = record {
        after = g;
        runs = leads_stop q nw (scene base g t);
        plains = record { at = λ y j. refl };
        pairs = λ y. refl;
        depth = record { at = λ r j c lt le. refl };
      }

  -- ---- both sweeps

  -- after the value was popped or not, from g to g1
  returned : (d line : ℕ) (pop : Code) (b : Course) (f g g1 : Store ℤ) (t t' : List ℤ) → SameOn sh needed u f → Leads q nw pop (scene b g t) (scene b g1 t') → SameOn sh (joined held reads) f g1 → SameOff wrote g g1 → shadows g1 ≡ shadows g → SameDepth d g g1 → Returns q sh level xs d (pop +++ code_if (m.adjointed i) (adjoint_where (active_at m i) x subs e line)) held wrote b f g t t' (assigned_change m i at sh e u) []
  returned d line pop b f g g1 t t' s l s1 off same depth =
      let from_program : SameOn sh reads u g1 = same_then sh reads u f g1 (same_within sh needed reads u f laws.needs_reads s) (same_within sh (joined held reads) reads f g1 (λ z h. or_right _ _ h) s1) in
      let a = adjoint_turns b d line g1 t' from_program in
      record {
        after = a.after;
        reversals = [];
        reversed = tt;
        runs = comes_leads q nw (pop +++ code_if (m.adjointed i) (adjoint_where (active_at m i) x subs e line)) b g a.after t t'
            (leads_append q nw pop (code_if (m.adjointed i) (adjoint_where (active_at m i) x subs e line)) (scene b g t) (scene b g1 t') (scene b a.after t') l a.runs);
        same = record { at = λ y j lt h. a.plains.at y j ∙ s1.at y j lt (or_left _ _ h) };
        off = record { at = λ y j o. a.plains.at y j ∙ off.at y j o };
        pairs = λ y. a.pairs y ∙ ap (λ z. pairing xs z (assigned_change m i at sh e u y)) same;
        depth = record { at = λ r j c lt le. a.depth.at r j c lt le ∙ depth.at r j c lt le };
      }

  set_wrote : (f : Store ℤ) (z : ℤ) → SameOff wrote f (set f (plain x) c z)
  set_wrote f z = record { at = λ y j o. rw o refl }

  pub sweeps_assign : (d line : ℕ) → Sweeps q sh level xs d (code_if (m.kept i) (code_if (m.saved i (plain x)) (one line (runtime (push_word (plain x) subs))) +++ one line (assign (plain x) subs e))) (code_if (m.kept i && m.saved i (plain x)) (one line (runtime (pop_word (plain x) subs))) +++ code_if (m.adjointed i) (adjoint_where (active_at m i) x subs e line)) needed needed_after held held_after wrote u u' (assigned_change m i at sh e u) []
  sweeps_assign d line = record { way = λ b f t s. go b f t s (m.kept i) refl (m.saved i (plain x)) refl }
    where
      go : (b : Course) (f : Store ℤ) (t : List ℤ) → SameOn sh needed u f → (k : Bool) → m.kept i ≡ k → (v : Bool) → m.saved i (plain x) ≡ v → Way q sh level xs d (code_if k (code_if v (one line (runtime (push_word (plain x) subs))) +++ one line (assign (plain x) subs e))) (code_if (k && v) (one line (runtime (pop_word (plain x) subs))) +++ code_if (m.adjointed i) (adjoint_where (active_at m i) x subs e line)) needed_after held held_after wrote b u' f t (assigned_change m i at sh e u) []
      go b f t s false k z n = record {
        to = f;
        trail = [];
        runs = comes_stop q nw b f t;
        same = agrees_left f k s;
        off = record { at = λ y j o. refl };
        shadows = λ y j. refl;
        depth = record { at = λ r j c lt le. refl };
        returns = λ b1 g r. returned d line stop b1 f g g t t s (leads_stop q nw (scene b1 g t)) (back_left f g k r) (record { at = λ y j o. refl }) refl (record { at = λ r j c lt le. refl });
      }
      go b f t s true k false n =
          let f1 = set f (plain x) c v in
          record {
            to = f1;
            trail = [];
            runs = comes_leads q nw (one line (assign (plain x) subs e)) b f f1 t t (leads_assign q nw line (plain x) subs e stop (scene b f t) (scene b f1 t) v c (value_again f k s) (target_again f k s) (leads_stop q nw (scene b f1 t)));
            same = agrees_kept f s;
            off = set_wrote f v;
            shadows = λ y j. refl;
            depth = record { at = λ r j c lt le. refl };
            returns = λ b1 g r. returned d line stop b1 f g g t t s (leads_stop q nw (scene b1 g t)) (back_unsaved f g k n r) (record { at = λ y j o. refl }) refl (record { at = λ r j c lt le. refl });
          }
      go b f t s true k true n =
          let f1 = set f (plain x) c v in
          let old = f (plain x) c in
          record {
            to = f1;
            trail = old ∷ [];
            runs = comes_leads q nw _ b f f1 t (old ∷ t)
                (leads_step q nw line (runtime (push_word (plain x) subs)) (one line (assign (plain x) subs e)) (scene b f t) (scene b f (old ∷ t)) (scene b f1 (old ∷ t)) (λ j. rw (target_again f k s) refl)
                (leads_assign q nw line (plain x) subs e stop (scene b f (old ∷ t)) (scene b f1 (old ∷ t)) v c (value_again f k s) (target_again f k s) (leads_stop q nw (scene b f1 (old ∷ t)))));
            same = agrees_kept f s;
            off = set_wrote f v;
            shadows = λ y j. refl;
            depth = record { at = λ r j c lt le. refl };
            returns = λ b1 g r.
                let g1 = set g (plain x) c old in
                returned d line (one line (runtime (pop_word (plain x) subs))) b1 f g g1 (old ∷ t) t s
                (leads_step q nw line (runtime (pop_word (plain x) subs)) stop (scene b1 g (old ∷ t)) (scene b1 g1 t) (scene b1 g1 t) (λ j. rw (pop_target f g k s r) refl) (leads_stop q nw (scene b1 g1 t)))
                (back_saved f g k r) (set_wrote g old) refl (record { at = λ r j c lt le. refl });
          }

  -- ---- the dual run

  pub set_both : (y : Words) (z : ℤ) → (let p : ℤ × ℤ = (v, z) in set (with_tangents u y) (plain x) c p ≡ with_tangents (set u (plain x) c v) (put key_eq y at z))
  set_both y z = λ k o j. each o j k
    where
      each : (o : Var) (j : ℕ) → (let p : ℤ × ℤ = (v, z) in set (with_tangents u y) (plain x) c p o j ≡ with_tangents (set u (plain x) c v) (put key_eq y at z) o j)
      each (plain o) j = go (name_eq o x && (j == c))
        where
          go : (b : Bool) → (let p : ℤ × ℤ = (v, z) in let o1 : ℤ × ℤ = (u (plain o) j, y (o, j)) in let r : ℤ × ℤ = ((if b then v else u (plain o) j), (if b then z else y (o, j))) in (if b then p else o1) ≡ r)
          go true = refl
          go false = refl
      each (shadow o) j = refl
      each (helper r o) j = refl
