-- An assignment, and the statements that it becomes.
use Rattle.std.proofs.Common.{◌≡◌, ℕ, zero, suc, ◌+◌, ◌*◌, ◌≤◌, Bool, true, false, refl, sym, ap, ◌∙◌, arith, subst, mul-add, mul-one}
use Rattle.std.specs.Prelude.{Result, Ok, Err, if◌then◌else◌}
use Rattle.adj_tree.specs.Code.{Var, Term, var, Terms, none, more, assign, Code, stop}
use Rattle.def_meaning.specs.Append.{◌+++◌, one}
use Rattle.def_meaning.specs.Trap.{Trap, then_ok}
use Rattle.def_meaning.specs.Store.{Store, set}
use Rattle.def_meaning.specs.Value.{Setting, value, values, target, cell_at}
use Rattle.def_meaning.specs.Scene.{Scene, Stand, stand, IsMore, Done, Trapped, with_value, counted}
use Rattle.def_meaning.specs.Run.{Calls, act, run}
use Rattle.def_meaning.specs.Read.{reads_term}
use Rattle.law_meaning.specs.Agree.{AgreeOn}
use Rattle.def_meaning.proofs.Appends.{append_assoc}
use Rattle.law_meaning.proofs.Leadings.{with_store}
use Rattle.law_meaning.proofs.Longer.{CallsAlike}
use Rattle.law_meaning.proofs.Agreements.{StoresAgree, set_alike}
use Rattle.law_meaning.specs.Follows.{Runs, Follows, both_more, both_done, both_trap}
use Rattle.def_kernel.specs.Lowered.{locals_in, reduced, before, mentions, locals_in_target, apart_from, before_target, lowered_assign}
use Rattle.law_kernel.specs.Apart.{ShowWords, AreLocals, CellsOf, TermInside, TermsInside}
use Rattle.law_meaning.proofs.Straights.{Stops, stops_first, stops_after, stops_value, stops_target, nothing_left, leads_early}
use Rattle.law_meaning.proofs.Bounded.{Goes, leads_of, goes_stop, goes_append, goes_more, goes_assign}
use Rattle.law_kernel.proofs.Changing.{SameOrNone, same_or_none, same_then, same_trans, Range}
use Rattle.law_kernel.proofs.Reducing.{Prefixed, comes, stops, prefixed}
use Rattle.law_kernel.proofs.Targeting.{Target, targets, no_target, targeted, target_held, agree_after}

-- ---- a statement that becomes straight code

module _ {C : Type 0} (q : Calls C) (n : Setting C) (alike : CallsAlike q q) (R : Scene C → Scene C → Type 0) (w : ℕ) where
  -- what is empty goes on with no statement
  at_zero : (c : Code) (t : Scene C) → IsMore (run q n c t 0) → (j : ℕ) → j ≤ 0 → IsMore (run q n c t j)
  at_zero c t empty j l = let e : 0 ≡ j = omega arith in subst (λ z. IsMore (run q n c t z)) e empty

  -- the statement is done where the code leads to its end
  pub once : (stands : Stand) (c : Code) (s1 t t1 : Scene C) (m : ℕ) → m ≤ w → IsMore (run q n c t 0) → Goes q n c t t1 m → R s1 t1 → (k : ℕ) → Follows R w 0 (λ j. counted stands j (λ i. Done s1 i)) (run q n c t) k
  once stands c s1 t t1 m le empty g r zero = both_more tt (λ j l. at_zero c t empty j l)
  once stands c s1 t t1 m le empty g r (suc k) =
      both_done (record {
        first = s1;
        spent = 1;
        left = k;
        is = omega arith;
        done = refl;
        second = t1;
        cost = g.cost;
        least = positive g.cost (g.by 0);
        most = omega (arith, g.bound, le, mul-one w);
        early = leads_early q n alike c t t1 (record { cost = g.cost; by = g.by });
        by = g.by;
        related = r;
      })
    where
      positive : (cost : ℕ) → run q n c t (cost + 0) ≡ Done t1 0 → 1 ≤ cost
      positive zero h = absurd (subst IsMore h empty)
      positive (suc cost) h = omega arith

  -- it traps where the code does
  pub never : (stands there : Stand) (c : Code) (t : Scene C) (line : ℕ) (kind : Trap) → IsMore (run q n c t 0) → Stops q n c t line → (k : ℕ) → Follows R w 0 (λ j. counted stands j (λ i. Trapped kind line there)) (run q n c t) k
  never stands there c t line kind empty x zero = both_more tt (λ j l. at_zero c t empty j l)
  never stands there c t line kind empty x (suc k) = both_trap (record { kind = kind; line = line; stands = there; done = refl; other = x.kind; stands_there = x.stands; cost = x.cost; by = x.by })

-- the cell of a target is the same where its subscripts' values are
target_same : {C : Type 0} (n : Setting C) (x : Var) (local : ℕ → Var) (subs : Terms) (s t : Store C) → SameOrNone (values n subs s) (values n (apart_from local x 0 subs) t) → SameOrNone (target n x subs s) (target n x (apart_from local x 0 subs) t)
target_same n x local none s t h = refl
target_same n x local (more e es) s t h = go (reads_term x e) h
  where
    go : (b : Bool) → SameOrNone (values n (more e es) s) (values n (if b then more (var (local 0)) (apart_from local x 1 es) else more e (apart_from local x 0 es)) t) →
        SameOrNone (target n x (more e es) s) (target n x (if b then more (var (local 0)) (apart_from local x 1 es) else more e (apart_from local x 0 es)) t)
    go true h = same_then (values n (more e es) s) _ (cell_at n x) (cell_at n x) h (λ is. same_or_none (cell_at n x is) _ refl)
    go false h = same_then (values n (more e es) s) _ (cell_at n x) (cell_at n x) h (λ is. same_or_none (cell_at n x is) _ refl)

-- where no cell is there since values are missing
no_cell : {C : Type 0} (n : Setting C) (x : Var) (subs : Terms) (s : Store C) (k : Trap) → values n subs s ≡ Err k → target n x subs s ≡ Err k
no_cell n x none s k h = absurd cc
no_cell n x (more e es) s k h = ap (λ z. then_ok z (cell_at n x)) h

module _ {C : Type 0} (q q' : Calls C) (n : Setting C) (alike : CallsAlike q' q') (inside : Var → Bool) (local : ℕ → Var) (apart : AreLocals inside local) (shows : ShowWords n.numbers) (w : ℕ) where
  abbrev Related : Scene C → Scene C → Type 0
  Related = AgreeOn (CellsOf n inside)

  module _ (line : ℕ) (x : Var) (subs : Terms) (e : Term) (few : 3 * (mentions x subs + locals_in_target x subs + locals_in e) + 1 ≤ w) (hx : inside x ≡ true) (hsubs : TermsInside inside subs) (he : TermInside inside e) (s t : Scene C) (a : Related s t) where
    abbrev m : ℕ
    m = mentions x subs

    abbrev k0 : ℕ
    k0 = m + locals_in_target x subs

    abbrev first : Code
    first = before_target local line x 0 m subs

    abbrev second : Code
    second = before local line k0 e

    abbrev last : Code
    last = one line (assign x (apart_from local x 0 subs) (reduced local k0 e))

    abbrev source : Runs (Scene C)
    source j = counted (stand n s) j (λ i. act q n (assign x subs e) line s i)

    abbrev kernel : Runs (Scene C)
    kernel = run q' n (first +++ (second +++ last)) t

    empty : IsMore (run q' n (first +++ (second +++ last)) t 0)
    empty = subst (λ c. IsMore (run q' n c t 0)) (append_assoc first second last) (nothing_left q' n (first +++ second) line (assign x (apart_from local x 0 subs) (reduced local k0 e)) stop t)

    -- it has no value
    without_value : (kind : Trap) → value n e s.store ≡ Err kind → Stops q' n (first +++ (second +++ last)) t line → (k : ℕ) → Follows Related w 0 source kernel k
    without_value kind h y k =
        subst (λ (o : Runs (Scene C)). Follows Related w 0 o kernel k) (λ i j. counted (stand n s) j (λ z. with_value (sym h i) line (stand n s) (λ c. with_value (target n x subs s.store) line (stand n s) (λ i1. Done (with_store s (set s.store x i1 c)) z))))
        (never q' n alike Related w (stand n s) (stand n s) (first +++ (second +++ last)) t line kind empty y k)

    -- its target has no cell
    without_cell : (u : C) (kind : Trap) → value n e s.store ≡ Ok u → target n x subs s.store ≡ Err kind → Stops q' n (first +++ (second +++ last)) t line → (k : ℕ) → Follows Related w 0 source kernel k
    without_cell u kind h h' y k =
        subst (λ (o : Runs (Scene C)). Follows Related w 0 o kernel k)
        ((λ i j. counted (stand n s) j (λ z. with_value (sym h' i) line (stand n s) (λ i1. Done (with_store s (set s.store x i1 u)) z)))
        ∙ (λ i j. counted (stand n s) j (λ z. with_value (sym h i) line (stand n s) (λ c. with_value (target n x subs s.store) line (stand n s) (λ i1. Done (with_store s (set s.store x i1 c)) z)))))
        (never q' n alike Related w (stand n s) (stand n s) (first +++ (second +++ last)) t line kind empty y k)

    -- either of both
    without : (v : Result C Trap) → value n e s.store ≡ v → (kind : Trap) → target n x subs s.store ≡ Err kind → Stops q' n (first +++ (second +++ last)) t line → (k : ℕ) → Follows Related w 0 source kernel k
    without (Ok u) h kind h' y k = without_cell u kind h h' y k
    without (Err kind1) h kind h' y k = without_value kind1 h y k

    -- it is done
    with_both : (u : C) (i : ℕ) → value n e s.store ≡ Ok u → target n x subs s.store ≡ Ok i → (t1 : Store C) → Goes q' n (first +++ (second +++ last)) t (with_store t (set t1 x i u)) w → StoresAgree (CellsOf n inside) s.store t1 → (k : ℕ) → Follows Related w 0 source kernel k
    with_both u i h h' t1 g b k =
        subst (λ (o : Runs (Scene C)). Follows Related w 0 o kernel k)
        ((λ z j. counted (stand n s) j (λ l. with_value (sym h' z) line (stand n s) (λ i1. Done (with_store s (set s.store x i1 u)) l)))
        ∙ (λ z j. counted (stand n s) j (λ l. with_value (sym h z) line (stand n s) (λ c. with_value (target n x subs s.store) line (stand n s) (λ i1. Done (with_store s (set s.store x i1 c)) l)))))
        (once q' n alike Related w (stand n s) (first +++ (second +++ last)) (with_store s (set s.store x i u)) t (with_store t (set t1 x i u)) w (omega arith) empty g
        (record { store = set_alike (CellsOf n inside) s.store t1 x i u b; tape = a.tape; opened = a.opened; events = a.events }) k)

    -- after the statements before it
    prepared : (t1 : Store C) → Goes q' n (first +++ second) t (with_store t t1) (3 * locals_in_target x subs + m + 3 * locals_in e) → StoresAgree (CellsOf n inside) s.store t1 →
        (v v1 : Result C Trap) (c c1 : Result ℕ Trap) → value n e s.store ≡ v → value n (reduced local k0 e) t1 ≡ v1 → target n x subs s.store ≡ c → target n x (apart_from local x 0 subs) t1 ≡ c1 → SameOrNone v v1 → SameOrNone c c1 → (k : ℕ) → Follows Related w 0 source kernel k
    prepared t1 g b (Ok u) (Ok u1) (Ok i) (Ok i1) ev ev1 ec ec1 same same1 k =
        with_both u i ev ec t1
        (subst (λ z. Goes q' n z t (with_store t (set t1 x i u)) w) (append_assoc first second last)
        (goes_more q' n _ t (with_store t (set t1 x i u)) (3 * locals_in_target x subs + m + 3 * locals_in e + 1) w (omega (arith, few, mul-add 3 (m + locals_in_target x subs) (locals_in e), mul-add 3 m (locals_in_target x subs)))
        (goes_append q' n (first +++ second) last t (with_store t t1) (with_store t (set t1 x i u)) (3 * locals_in_target x subs + m + 3 * locals_in e) 1 g
        (goes_assign q' n line x (apart_from local x 0 subs) (reduced local k0 e) stop (with_store t t1) (with_store t (set t1 x i u)) u i 0 (ev1 ∙ ap Ok (sym same)) (ec1 ∙ ap Ok (sym same1)) (goes_stop q' n (with_store t (set t1 x i u)))))))
        b k
    prepared t1 g b (Ok u) (Ok u1) (Ok i) (Err k1) ev ev1 ec ec1 same same1 k = absurd same1
    prepared t1 g b (Ok u) (Ok u1) (Err k1) (Ok i1) ev ev1 ec ec1 same same1 k = absurd same1
    prepared t1 g b (Ok u) (Ok u1) (Err kind) (Err k1) ev ev1 ec ec1 same same1 k =
        without_cell u kind ev ec
        (subst (λ z. Stops q' n z t line) (append_assoc first second last)
        (stops_after q' n (first +++ second) last t (with_store t t1) line (leads_of q' n (first +++ second) t (with_store t t1) (3 * locals_in_target x subs + m + 3 * locals_in e) g)
        (stops_target q' n line x (apart_from local x 0 subs) (reduced local k0 e) stop (with_store t t1) u1 k1 ev1 ec1))) k
    prepared t1 g b (Ok u) (Err k1) c c1 ev ev1 ec ec1 same same1 k = absurd same
    prepared t1 g b (Err k1) (Ok u1) c c1 ev ev1 ec ec1 same same1 k = absurd same
    prepared t1 g b (Err kind) (Err k1) c c1 ev ev1 ec ec1 same same1 k =
        without_value kind ev
        (subst (λ z. Stops q' n z t line) (append_assoc first second last)
        (stops_after q' n (first +++ second) last t (with_store t t1) line (leads_of q' n (first +++ second) t (with_store t t1) (3 * locals_in_target x subs + m + 3 * locals_in e) g)
        (stops_value q' n line x (apart_from local x 0 subs) (reduced local k0 e) stop (with_store t t1) k1 ev1))) k

    -- the subscripts' locals are set, and then those of the right side
    after_target : (t1 : Store C) → Goes q' n first t (with_store t t1) (3 * locals_in_target x subs + m) → StoresAgree (CellsOf n inside) s.store t1 → SameOrNone (values n subs s.store) (values n (apart_from local x 0 subs) t1) → Prefixed q' n inside local apart shows t line e k0 s.store t1 → (k : ℕ) → Follows Related w 0 source kernel k
    after_target t1 g b v (stops kind h y) k =
        without_value kind h (stops_after q' n first (second +++ last) t (with_store t t1) line (leads_of q' n first t (with_store t t1) (3 * locals_in_target x subs + m) g) (stops_first q' n second last (with_store t t1) line y)) k
    after_target t1 g b v (comes t2 g2 c r) k =
        prepared t2
        (goes_append q' n first second t (with_store t t1) (with_store t t2) (3 * locals_in_target x subs + m) (3 * locals_in e) g g2)
        (agree_after q' n inside local apart shows t line (Range k0 (locals_in e)) s.store t1 t2 b c)
        (value n e s.store) (value n (reduced local k0 e) t2) (target n x subs s.store) (target n x (apart_from local x 0 subs) t2) refl refl refl refl r
        (target_same n x local subs s.store t2
        (same_trans (values n subs s.store) (values n (apart_from local x 0 subs) t1) (values n (apart_from local x 0 subs) t2) v
        (sym (target_held q' n inside local apart shows t line x subs 0 t1 t2 hsubs c.within (λ i z. c.others i 0 (λ o. absurd (omega (arith, z.1, o.0))))))))
        k

    before_all_else : Target q' n inside local apart shows t line x 0 m subs s.store t.store → (k : ℕ) → Follows Related w 0 source kernel k
    before_all_else (no_target kind h y) k = without (value n e s.store) refl kind (no_cell n x subs s.store kind h) (stops_first q' n first (second +++ last) t line y) k
    before_all_else (targets t1 g c v) k =
        let b = agree_after q' n inside local apart shows t line _ s.store t.store t1 a.store c in
        after_target t1 g b v (prefixed q' n inside local apart shows t line e k0 s.store t1 he b) k

    -- the statements that an assignment becomes follow it
    pub assign_follows : (k : ℕ) → Follows Related w 0 source (run q' n (lowered_assign local line x subs e) t) k
    assign_follows k = before_all_else (targeted q' n inside local apart shows t line x subs 0 m s.store t.store (omega arith) hsubs a.store) k
