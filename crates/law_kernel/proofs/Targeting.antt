-- The subscripts of a target, where those that mention its array become locals.
use Rattle.std.proofs.Common.{◌≡◌, ℕ, suc, ◌+◌, ◌*◌, ◌<◌, ◌≤◌, ◌⊎◌, inl, inr, Bool, true, false, ◌∷◌, refl, sym, ap, ◌∙◌, arith, subst, mul-add}
use Rattle.std.specs.Prelude.{Result, Ok, Err, if◌then◌else◌}
use Rattle.adj_tree.specs.Code.{Var, Term, var, Terms, none, more, assign, Code, stop}
use Rattle.def_meaning.specs.Append.{◌+++◌, one}
use Rattle.def_meaning.specs.Trap.{Trap, then_ok}
use Rattle.def_meaning.specs.Store.{Store, set}
use Rattle.def_meaning.specs.Value.{Setting, value, values}
use Rattle.def_meaning.specs.Scene.{Scene}
use Rattle.def_meaning.specs.Run.{Calls}
use Rattle.def_meaning.specs.Read.{reads_term, reads_terms}
use Rattle.def_meaning.proofs.Booleans.{or_first, or_second}
use Rattle.law_meaning.proofs.Leadings.{with_store}
use Rattle.law_meaning.proofs.Agreements.{StoresAgree, value_alike}
use Rattle.def_kernel.specs.Lowered.{count_of, locals_in, reduced, before, set_local, mentions, locals_in_target, apart_from, before_target}
use Rattle.law_kernel.specs.Apart.{ShowWords, AreLocals, CellsOf, TermInside, TermsInside}
use Rattle.law_meaning.proofs.Straights.{Stops, stops_first, stops_after, stops_value}
use Rattle.law_meaning.proofs.Bounded.{Goes, leads_of, goes_stop, goes_append, goes_more, goes_assign}
use Rattle.law_kernel.proofs.Changing.{SameOrNone, same_or_none, same_then, Range, Changes, changes_none, changes_both, changes_more, set_changes, set_holds}
use Rattle.law_kernel.proofs.Reducing.{value_within, Prefixed, comes, stops, prefixed}

-- the first is inside
pub first_inside : (inside : Var → Bool) (e : Term) (es : Terms) → TermsInside inside (more e es) → TermInside inside e
first_inside inside e es h x r = h x (or_first (reads_term x e) (reads_terms x es) r)

-- and so are the others
pub rest_inside : (inside : Var → Bool) (e : Term) (es : Terms) → TermsInside inside (more e es) → TermsInside inside es
rest_inside inside e es h x r = h x (or_second (reads_term x e) (reads_terms x es) r)

-- a list of values from its first and the others
pub values_of : {C : Type 0} (n : Setting C) (e e' : Term) (es es' : Terms) (s t : Store C) → SameOrNone (value n e s) (value n e' t) → SameOrNone (values n es s) (values n es' t) → SameOrNone (values n (more e es) s) (values n (more e' es') t)
values_of n e e' es es' s t v w =
    same_then (value n e s) (value n e' t) _ _ v (λ u. same_then (values n es s) (values n es' t) _ _ w (λ us. same_or_none (Ok (n.numbers.shown u ∷ us)) _ refl))

module _ {C : Type 0} (q : Calls C) (n : Setting C) (inside : Var → Bool) (local : ℕ → Var) (apart : AreLocals inside local) (shows : ShowWords n.numbers) (base : Scene C) (line : ℕ) where
  abbrev at : Store C → Scene C
  at t = with_store base t

  abbrev Agree : Store C → Store C → Type 0
  Agree s t = StoresAgree (CellsOf n inside) s t

  abbrev Before : Term → ℕ → Store C → Store C → Type 0
  Before e j s t = Prefixed q n inside local apart shows base line e j s t

  -- agreement is kept where locals change
  pub agree_after : (may : ℕ → Type 0) (s t t1 : Store C) → Agree s t → Changes inside local may t t1 → Agree s t1
  agree_after may s t t1 a c x i h = a x i h ∙ sym (c.within x i h.0)

  -- ---- a local that gets the value of an expression

  -- the local j, and m others from the k-th on
  abbrev pub OneAnd : ℕ → ℕ → ℕ → ℕ → Type 0
  OneAnd j k m i = (i ≡ j) ⊎ Range k m i

  -- a local was set to the value of an expression, or this has none
  pub data Local (j m : ℕ) (e : Term) (s t : Store C) : Type 0 where
    is_set : (t1 : Store C) → Goes q n (set_local local line j m e) (at t) (at t1) (3 * locals_in e + 1) → Changes inside local (OneAnd j m (locals_in e)) t t1 → (u : C) → value n e s ≡ Ok u → t1 (local j) 0 ≡ u → Local j m e s t
    is_not : (k : Trap) → value n e s ≡ Err k → Stops q n (set_local local line j m e) (at t) line → Local j m e s t

  -- one of both comes
  pub sets_local : (j m : ℕ) (e : Term) (s t : Store C) → TermInside inside e → Agree s t → Local j m e s t
  sets_local j m e s t h g = go (prefixed q n inside local apart shows base line e m s t h g)
    where
      with : (t1 : Store C) → Goes q n (before local line m e) (at t) (at t1) (3 * locals_in e) → Changes inside local (Range m (locals_in e)) t t1 → (v w : Result C Trap) → value n e s ≡ v → value n (reduced local m e) t1 ≡ w → SameOrNone v w → Local j m e s t
      with t1 l c (Ok u) (Ok u1) ev ew same =
          is_set (set t1 (local j) 0 u1)
          (goes_append q n (before local line m e) (one line (assign (local j) none (reduced local m e))) (at t) (at t1) (at (set t1 (local j) 0 u1)) (3 * locals_in e) 1 l
          (goes_assign q n line (local j) none (reduced local m e) stop (at t1) (at (set t1 (local j) 0 u1)) u1 0 0 ew refl (goes_stop q n (at (set t1 (local j) 0 u1)))))
          (changes_both inside local (OneAnd j m (locals_in e)) (Range m (locals_in e)) (Range j 1) t t1 (set t1 (local j) 0 u1) c (set_changes inside local apart t1 j u1) (λ k r. inr r) (λ k r. inl (omega (arith, r.0, r.1))))
          u ev (set_holds inside local apart t1 j u1 ∙ sym same)
      with t1 l c (Ok u) (Err k1) ev ew same = absurd same
      with t1 l c (Err k) (Ok u1) ev ew same = absurd same
      with t1 l c (Err k) (Err k1) ev ew same =
          is_not k ev
          (stops_after q n (before local line m e) (one line (assign (local j) none (reduced local m e))) (at t) (at t1) line (leads_of q n (before local line m e) (at t) (at t1) (3 * locals_in e) l)
          (stops_value q n line (local j) none (reduced local m e) stop (at t1) k1 ew))

      go : Before e m s t → Local j m e s t
      go (comes t1 l c v) = with t1 l c (value n e s) (value n (reduced local m e) t1) refl refl v
      go (stops k e1 x) = is_not k e1 (stops_first q n (before local line m e) (one line (assign (local j) none (reduced local m e))) (at t) line x)

  -- ---- the subscripts of a target

  module _ (x : Var) where
    -- the locals of the subscripts, and those in them
    abbrev Locals : ℕ → ℕ → Terms → ℕ → Type 0
    Locals j m es k = Range j (mentions x es) k ⊎ Range m (locals_in_target x es) k

    abbrev most : Terms → ℕ
    most es = 3 * locals_in_target x es + mentions x es

    -- the subscripts were evaluated apart, or one has no value
    pub data Target (j m : ℕ) (es : Terms) (s t : Store C) : Type 0 where
      targets : (t1 : Store C) → Goes q n (before_target local line x j m es) (at t) (at t1) (most es) → Changes inside local (Locals j m es) t t1 → SameOrNone (values n es s) (values n (apart_from local x j es) t1) → Target j m es s t
      no_target : (k : Trap) → values n es s ≡ Err k → Stops q n (before_target local line x j m es) (at t) line → Target j m es s t

    -- the subscripts keep their values where the locals do
    pub target_held : (es : Terms) (j : ℕ) (t t' : Store C) → TermsInside inside es → ((x : Var) (i : ℕ) → inside x ≡ true → t' x i ≡ t x i) → ((k : ℕ) → Range j (mentions x es) k → t' (local k) 0 ≡ t (local k) 0) → values n (apart_from local x j es) t' ≡ values n (apart_from local x j es) t
    target_held none j t t' h same held = refl
    target_held (more e es) j t t' h same held = go (λ i k. target_held es i t t' (rest_inside inside e es h) same k) (reads_term x e) (λ k r. held k r)
      where
        go : ((i : ℕ) → ((k : ℕ) → Range i (mentions x es) k → t' (local k) 0 ≡ t (local k) 0) → values n (apart_from local x i es) t' ≡ values n (apart_from local x i es) t) → (b : Bool) → ((k : ℕ) → Range j (count_of b + mentions x es) k → t' (local k) 0 ≡ t (local k) 0) →
            values n (if b then more (var (local j)) (apart_from local x (suc j) es) else more e (apart_from local x j es)) t' ≡ values n (if b then more (var (local j)) (apart_from local x (suc j) es) else more e (apart_from local x j es)) t
        go ih true held =
            λ i. then_ok (ih (suc j) (λ k r. held k (omega (arith, r.0), omega (arith, r.1))) i) (λ us. Ok (n.numbers.shown (held j (omega arith, omega arith) i) ∷ us))
        go ih false held =
            λ i. then_ok (value_within n inside local e t t' (first_inside inside e es h) same i) (λ u. then_ok (ih j (λ k r. held k (omega (arith, r.0), omega (arith, r.1))) i) (λ us. Ok (n.numbers.shown u ∷ us)))

    module _ (e : Term) (es : Terms) (j m : ℕ) (s : Store C) (he : TermInside inside e) (hes : TermsInside inside es) where
      -- what is said of the whole by whether the first subscript mentions the array
      abbrev code_by : Bool → Code
      code_by b = if b then set_local local line j m e +++ before_target local line x (suc j) (m + locals_in e) es else before_target local line x j m es

      abbrev count_by : Bool → ℕ
      count_by b = (if b then locals_in e else 0) + locals_in_target x es

      abbrev subs_by : Bool → Terms
      subs_by b = if b then more (var (local j)) (apart_from local x (suc j) es) else more e (apart_from local x j es)

      pub data TargetBy (b : Bool) (t : Store C) : Type 0 where
        targets_by : (t1 : Store C) → Goes q n (code_by b) (at t) (at t1) (3 * count_by b + (count_of b + mentions x es)) → Changes inside local (λ k. Range j (count_of b + mentions x es) k ⊎ Range m (count_by b) k) t t1 → SameOrNone (values n (more e es) s) (values n (subs_by b) t1) → TargetBy b t
        no_target_by : (k : Trap) → values n (more e es) s ≡ Err k → Stops q n (code_by b) (at t) line → TargetBy b t

      -- a list of values has none where one has none
      first_none : (k : Trap) → value n e s ≡ Err k → values n (more e es) s ≡ Err k
      first_none k f = ap (λ z. then_ok z (λ u. then_ok (values n es s) (λ us. Ok (n.numbers.shown u ∷ us)))) f

      no_others : (b : Bool) (t : Store C) (v : Result C Trap) → value n e s ≡ v → (k : Trap) → values n es s ≡ Err k → Stops q n (code_by b) (at t) line → TargetBy b t
      no_others b t (Ok u) f k g x1 = no_target_by k ((λ i. then_ok (f i) (λ u. then_ok (g i) (λ us. Ok (n.numbers.shown u ∷ us))))) x1
      no_others b t (Err k1) f k g x1 = no_target_by k1 (first_none k1 f) x1

      kept_as_is : (t : Store C) → Agree s t → Target j m es s t → TargetBy false t
      kept_as_is t g (targets t1 l c v) =
          targets_by t1
          (goes_more q n _ (at t) (at t1) (most es) (3 * (0 + locals_in_target x es) + (0 + mentions x es)) (omega arith) l)
          (changes_more inside local _ (Locals j m es) t t1 c (λ k r. again k r))
          (values_of n e e es (apart_from local x j es) s t1 (as_is t1 (agree_after (Locals j m es) s t t1 g c)) v)
        where
          again : (k : ℕ) → Locals j m es k → Range j (0 + mentions x es) k ⊎ Range m (0 + locals_in_target x es) k
          again k (inl r) = inl (r.0, omega (arith, r.1))
          again k (inr r) = inr (r.0, omega (arith, r.1))

          as_is : (t1 : Store C) → Agree s t1 → SameOrNone (value n e s) (value n e t1)
          as_is t1 g1 = same_or_none (value n e s) (value n e t1) (value_alike n (CellsOf n inside) s t1 g1 e (λ y r i l. (he y r, l)))
      kept_as_is t g (no_target k f y) = no_others false t (value n e s) refl k f y

      set_apart : (t : Store C) → Agree s t → Local j m e s t → ((t1 : Store C) → Agree s t1 → Target (suc j) (m + locals_in e) es s t1) → j < m → TargetBy true t
      set_apart t g (is_not k f y) next lt = no_target_by k (first_none k f) (stops_first q n (set_local local line j m e) _ (at t) line y)
      set_apart t g (is_set t1 l c u f h) next lt = go (next t1 (agree_after (OneAnd j m (locals_in e)) s t t1 g c))
        where
          go : Target (suc j) (m + locals_in e) es s t1 → TargetBy true t
          go (no_target k f1 y) =
              no_others true t (value n e s) refl k f1
              (stops_after q n (set_local local line j m e) _ (at t) (at t1) line (leads_of q n (set_local local line j m e) (at t) (at t1) (3 * locals_in e + 1) l) y)
          go (targets t2 l2 c2 v) =
              targets_by t2
              (goes_more q n _ (at t) (at t2) (3 * locals_in e + 1 + most es) (3 * (locals_in e + locals_in_target x es) + (1 + mentions x es)) (omega (arith, mul-add 3 (locals_in e) (locals_in_target x es)))
              (goes_append q n (set_local local line j m e) _ (at t) (at t1) (at t2) (3 * locals_in e + 1) (most es) l l2))
              (changes_both inside local _ (OneAnd j m (locals_in e)) (Locals (suc j) (m + locals_in e) es) t t1 t2 c c2 (λ k r. head k r) (λ k r. tail k r))
              (values_of n e (var (local j)) es (apart_from local x (suc j) es) s t2
              (subst (λ z. SameOrNone z (Ok (t2 (local j) 0))) (sym f) (sym (kept ∙ h)))
              v)
            where
              head : (k : ℕ) → OneAnd j m (locals_in e) k → Range j (1 + mentions x es) k ⊎ Range m (locals_in e + locals_in_target x es) k
              head k (inl r) = inl (omega (arith, r), omega (arith, r))
              head k (inr r) = inr (r.0, omega (arith, r.1))

              tail : (k : ℕ) → Locals (suc j) (m + locals_in e) es k → Range j (1 + mentions x es) k ⊎ Range m (locals_in e + locals_in_target x es) k
              tail k (inl r) = inl (omega (arith, r.0), omega (arith, r.1))
              tail k (inr r) = inr (omega (arith, r.0), omega (arith, r.1))

              not_later : Locals (suc j) (m + locals_in e) es j → ⊥
              not_later (inl r) = absurd (omega (arith, r.0))
              not_later (inr r) = absurd (omega (arith, r.0, lt))

              kept : t2 (local j) 0 ≡ t1 (local j) 0
              kept = c2.others j 0 not_later

    -- the statements before lead to a store in which the subscripts have the values of those of the source, or they trap
    pub targeted : (es : Terms) (j m : ℕ) (s t : Store C) → j + mentions x es ≤ m → TermsInside inside es → Agree s t → Target j m es s t
    targeted none j m s t le h g = targets t (goes_stop q n (at t)) (changes_none inside local (Locals j m none) t) refl
    targeted (more e es) j m s t le h g = done (go (λ i k t1 l g1. targeted es i k s t1 l (rest_inside inside e es h) g1) (reads_term x e) refl)
      where
        go : ((i k : ℕ) (t1 : Store C) → i + mentions x es ≤ k → Agree s t1 → Target i k es s t1) → (b : Bool) → reads_term x e ≡ b → TargetBy e es j m s (first_inside inside e es h) (rest_inside inside e es h) b t
        go ih true r =
            let count : mentions x (more e es) ≡ 1 + mentions x es = ap (λ z. count_of z + mentions x es) r in
            set_apart e es j m s (first_inside inside e es h) (rest_inside inside e es h) t g (sets_local j m e s t (first_inside inside e es h) g)
            (λ t1 g1. ih (suc j) (m + locals_in e) t1 (omega (arith, le, count)) g1) (omega (arith, le, count))
        go ih false r =
            let count : mentions x (more e es) ≡ 0 + mentions x es = ap (λ z. count_of z + mentions x es) r in
            kept_as_is e es j m s (first_inside inside e es h) (rest_inside inside e es h) t g (ih j m t (omega (arith, le, count)) g)

        done : TargetBy e es j m s (first_inside inside e es h) (rest_inside inside e es h) (reads_term x e) t → Target j m (more e es) s t
        done (targets_by t1 l c v) = targets t1 l c v
        done (no_target_by k f y) = no_target k f y
