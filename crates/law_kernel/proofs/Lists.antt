-- Lists of statements, and what they become, each statement at its price.
use Rattle.std.proofs.Common.{◌≡◌, ℕ, suc, ◌+◌, ◌*◌, ◌≤◌, Bool, true, List, ◌∷◌, refl, sym, ap, ◌∙◌, arith, subst}
use Rattle.std.specs.Prelude.{ℤ, Option, Some, None, if◌then◌else◌}
use Rattle.adj_tree.specs.Code.{Var, Term, Terms, Mark, unmarked, with_count, count_from, Act, assign, choose, loop, during, call, runtime, Code, stop, step}
use Rattle.adj_word.specs.Word.{wrap, add}
use Rattle.def_meaning.specs.Append.{◌+++◌, one}
use Rattle.def_meaning.specs.Value.{Setting, value, target, holds}
use Rattle.def_meaning.specs.Event.{Marked}
use Rattle.def_meaning.specs.Scene.{Scene, stand, Outcome, Done, then_do, counted}
use Rattle.def_meaning.specs.Run.{Calls, act, run, most_tests, trips, turns, stepped, with_turn, from_1_to_64, in_force, after_loop}
use Rattle.def_meaning.specs.LeastSet.{Dummies}
use Rattle.law_meaning.specs.Agree.{AgreeOn}
use Rattle.law_meaning.specs.Follows.{Follows}
use Rattle.def_meaning.specs.Padded.{own_nodes, padded_act, padded}
use Rattle.def_meaning.proofs.Appends.{run_append, counted_then}
use Rattle.law_meaning.proofs.Longer.{CallsAlike}
use Rattle.def_meaning.proofs.Cells.{size_positive}
use Rattle.def_meaning.proofs.Variables.{var_refl}
use Rattle.law_meaning.proofs.Agreements.{set_alike, value_alike, holds_alike}
use Rattle.law_meaning.proofs.Inversions.{count_done, value_done}
use Rattle.law_meaning.proofs.Following.{follows_done, follows_if, follows_then, follows_statement}
use Rattle.law_meaning.proofs.Padding.{waiting_more, waiting_past}
use Rattle.law_meaning.proofs.PaddedPrograms.{padded_append}
use Rattle.def_kernel.specs.Lowered.{locals_in, mentions, locals_in_target, lowered_assign, lowered_call, lowered_act, lowered}
use Rattle.def_kernel.specs.Weights.{weight, total_cost, ActWeighsAtMost, WeighsAtMost}
use Rattle.law_kernel.specs.Apart.{ShowWords, AreLocals, CellsOf, TermInside, TermsInside, MarkInside, ActInside, CodeInside, EachCall', EachCall}
use Rattle.law_kernel.proofs.Assigning.{assign_follows}
use Rattle.law_kernel.proofs.Together.{then_nothing, follows_same, follows_value, turns_follow, tests_follow}
use Rattle.law_kernel.proofs.Weighing.{list_cheap, assign_light, call_light}
use Rattle.law_kernel.proofs.FlatLists.{flat_assign, follows_flat}

module _ {C : Type 0} (n : Setting C) (inside : Var → Bool) (w : ℕ) (few : 1 ≤ w) where
  abbrev Related : Scene C → Scene C → Type 0
  Related = AgreeOn (CellsOf n inside)

  -- a loop's variable is set
  with_turn_related : (x : Var) (z : ℤ) (s t : Scene C) → Related s t → Related (with_turn n x z s) (with_turn n x z t)
  with_turn_related x z s t a = record { store = set_alike (CellsOf n inside) s.store t.store x 0 (n.numbers.of_word z) a.store; tape = a.tape; opened = a.opened; events = a.events }

  stepped_related : (x : Var) (c : ℤ) → inside x ≡ true → (s t : Scene C) → Related s t → Related (stepped n x c s) (stepped n x c t)
  stepped_related x c h s t a =
      subst (λ z. Related (stepped n x c s) (with_turn n x (add (n.numbers.shown z) c) t)) (a.store x 0 (h, size_positive (n.shape x))) (with_turn_related x (add (n.numbers.shown (s.store x 0)) c) s t a)

  -- the snapshots in force are the same
  force_same : (m : Mark) → MarkInside inside m → (s t : Scene C) → Related s t → in_force n m s.store ≡ in_force n m t.store
  force_same unmarked h s t a = refl
  force_same (with_count k) h s t a = refl
  force_same (count_from x) h s t a = ap (λ z. Some (from_1_to_64 (n.numbers.shown z))) (a.store x 0 (h x (var_refl x), size_positive (n.shape x)))

  told_related : (line m : ℕ) (force : Option ℕ) (s t : Scene C) → Related s t → Related (after_loop line m force s) (after_loop line m force t)
  told_related line m None s t a = a
  told_related line m (Some snapshots) s t a = record { store = a.store; tape = a.tape; opened = a.opened; events = λ i. Marked line m snapshots ∷ a.events i }

-- what is left is the same
done_left : {A : Type 0} (a b : A) (i j : ℕ) → (let o : Outcome A = Done a i in o ≡ Done b j) → i ≡ j
done_left a b i j h = cc

module _ {C : Type 0} (extra : Act → ℕ) (cheap : (a : Act) → extra a ≤ own_nodes a) (q q' : Calls C) (n : Setting C) (alike : CallsAlike q' q') (inside : Var → Bool) (local : ℕ → Var) (apart : AreLocals inside local) (shows : ShowWords n.numbers) (handed : Dummies) (P : List ℕ → Terms → Type 0) (w most : ℕ)
    (calls : (name : List ℕ) (args : Terms) (line : ℕ) → P name args → TermsInside inside args → total_cost extra (lowered_call local line (handed name) name args) ≤ w → (s t : Scene C) → AgreeOn (CellsOf n inside) s t → (k : ℕ) → k ≤ most →
    Follows (AgreeOn (CellsOf n inside)) w 0 (λ i. counted (stand n s) i (λ j. q n name args line s j)) (run q' n (padded extra (lowered_call local line (handed name) name args)) t) k)
    (m : ℕ) (few : 9 * m ≤ w) where
  abbrev Alike : Scene C → Scene C → Type 0
  Alike = AgreeOn (CellsOf n inside)

  -- a value is the same
  same_value : (e : Term) (s t : Scene C) → TermInside inside e → Alike s t → value n e s.store ≡ value n e t.store
  same_value e s t h a = value_alike n (CellsOf n inside) s.store t.store a.store e (λ x r i l. (h x r, l))

  -- a list of one statement that takes no others
  alone : (line : ℕ) (a b : Act) (s t : Scene C) (k : ℕ) → weight b ≤ m → ((j : ℕ) → k ≡ suc j → Follows Alike w 0 (act q n a line s) (act q' n (padded_act extra b) line t) j) → Follows Alike w 0 (λ i. counted (stand n s) i (act q n a line s)) (run q' n (padded extra (one line b)) t) k
  alone line a b s t k le h =
      let on : Code = step line (padded_act extra b) stop in
      follows_statement w 0 Alike (act q n a line s) (λ j. then_do (act q' n (padded_act extra b) line t j) (run q' n stop)) (run q' n (padded extra (one line b)) t) (extra b)
      (waiting_more q' n (extra b) line on t) (stand n s) (stand n t) (waiting_past q' n (extra b) line on t) (let l = cheap b in omega (arith, l, le, few)) k
      (λ j e. follows_same Alike w 0 (act q n a line s) (act q n a line s) (act q' n (padded_act extra b) line t) (λ i. then_do (act q' n (padded_act extra b) line t i) (run q' n stop)) j (λ i. refl) (λ i. then_nothing (act q' n (padded_act extra b) line t i)) (h j e))

  -- an assignment that is done counts one statement
  assign_counts : (line : ℕ) (x : Var) (subs : Terms) (e : Term) (s : Scene C) (k : ℕ) (a : Scene C) (l : ℕ) → counted (stand n s) k (act q n (assign x subs e) line s) ≡ Done a l → suc l ≤ k
  assign_counts line x subs e s k a l h =
      let c = count_done (stand n s) k (act q n (assign x subs e) line s) a l h in
      let v = value_done (value n e s.store) line (stand n s) _ a l c.goes in
      let i = value_done (target n x subs s.store) line (stand n s) _ a l v.goes in
      let z : c.left ≡ l = done_left _ a c.left l i.goes in
      omega (arith, c.is, z)

  mutual
    -- the statements that a statement becomes follow it
    acts_follow : (line : ℕ) (a : Act) → ActInside inside a → EachCall' P a → ActWeighsAtMost m a → (s t : Scene C) → Alike s t → (k : ℕ) → k ≤ most → Follows Alike w 0 (λ i. counted (stand n s) i (act q n a line s)) (run q' n (padded extra (lowered_act local handed line a)) t) k
    acts_follow line (assign x subs e) h p f s t a k le =
        let few1 : ℕ = 3 * (mentions x subs + locals_in_target x subs + locals_in e) + 1 in
        follows_flat extra q' n Alike few1 w (λ i. counted (stand n s) i (act q n (assign x subs e) line s)) (lowered_assign local line x subs e) (flat_assign local line x subs e) (omega (arith, f, few, assign_light local line x subs e, list_cheap extra cheap (lowered_assign local line x subs e))) t k
        (λ b l d. assign_counts line x subs e s k b l d)
        (assign_follows q q' n alike inside local apart shows few1 line x subs e (omega arith) h.0 h.1.0 h.1.1 s t a k)
    acts_follow line (choose c b d) h p f s t a k le =
        alone line (choose c b d) (choose c (lowered local handed b) (lowered local handed d)) s t k (omega (arith, f.0))
        (λ j e. follows_value Alike w 0 (holds n c s.store) (holds n c t.store) line (stand n s) (stand n t) (λ o i. if o then run q n b s i else run q n d s i) (λ o i. if o then run q' n (padded extra (lowered local handed b)) t i else run q' n (padded extra (lowered local handed d)) t i) j
        (holds_alike n (CellsOf n inside) s.store t.store a.store c (λ x r i l. (h.0 x r, l)))
        (λ o. follows_if w 0 Alike o (run q n b s) (run q n d s) (run q' n (padded extra (lowered local handed b)) t) (run q' n (padded extra (lowered local handed d)) t) j
        (lists_follow b h.1.0 p.0 f.1.0 s t a j (omega (arith, e, le)))
        (lists_follow d h.1.1 p.1 f.1.1 s t a j (omega (arith, e, le)))))
    acts_follow line (loop x first last by body mark) h p f s t a k le =
        alone line (loop x first last by body mark) (loop x first last by (lowered local handed body) mark) s t k (omega (arith, f.0))
        (λ j e. follows_value Alike w 0 _ _ line (stand n s) (stand n t) _ _ j (same_value first s t h.1.0.1.0 a)
        (λ u. follows_value Alike w 0 _ _ line (stand n s) (stand n t) _ _ j (same_value last s t h.1.0.1.1.0 a)
        (λ v. follows_value Alike w 0 _ _ line (stand n s) (stand n t) _ _ j (same_value by s t h.1.0.1.1.1 a)
        (λ c. follows_value Alike w 0 _ _ line (stand n s) (stand n t) _ _ j (refl {a = trips mark (n.numbers.shown u) (n.numbers.shown v) (n.numbers.shown c)})
        (λ m.
        let after = stepped n x (n.numbers.shown c) in
        let start = with_turn n x (wrap (n.numbers.shown u)) s in
        let start' = with_turn n x (wrap (n.numbers.shown u)) t in
        follows_then w 0 0 Alike Alike (turns n m (run q n body) after start) (turns n m (run q' n (padded extra (lowered local handed body))) after start') (λ s1 i. Done (after_loop line m (in_force n mark s.store) s1) i) (λ s1 i. Done (after_loop line m (in_force n mark t.store) s1) i) j
        (turns_follow n n Alike w 0 (omega (arith, f.0, few)) most m (run q n body) (run q' n (padded extra (lowered local handed body))) after after (λ s1 t1 a1 i l. lists_follow body h.1.1 p f.1 s1 t1 a1 i l) (stepped_related n inside w (omega (arith, f.0, few)) x (n.numbers.shown c) h.0)
        start start' (with_turn_related n inside w (omega (arith, f.0, few)) x (wrap (n.numbers.shown u)) s t a) j (omega (arith, e, le)))
        (λ s1 t1 i l r.
        follows_done w 0 Alike (after_loop line m (in_force n mark s.store) s1) (after_loop line m (in_force n mark t.store) t1) i
        (subst (λ z. Alike (after_loop line m (in_force n mark s.store) s1) (after_loop line m z t1)) (force_same n inside w (omega (arith, f.0, few)) mark h.1.0.0 s t a)
        (told_related n inside w (omega (arith, f.0, few)) line m (in_force n mark s.store) s1 t1 r))))))))
    acts_follow line (during c body) h p f s t a k le =
        alone line (during c body) (during c (lowered local handed body)) s t k (omega (arith, f.0))
        (λ j e. tests_follow n n Alike w (omega (arith, f.0, few)) most most_tests (λ s1. holds n c s1.store) (λ t1. holds n c t1.store) line (run q n body) (run q' n (padded extra (lowered local handed body)))
        (λ s1 t1 r. holds_alike n (CellsOf n inside) s1.store t1.store r.store c (λ x z i l. (h.0 x z, l)))
        (λ s1 t1 a1 i l. lists_follow body h.1 p f.1 s1 t1 a1 i l) s t a j (omega (arith, e, le)))
    acts_follow line (call name args) h p f s t a k le = calls name args line p h (omega (arith, f, few, call_light local line (handed name) name args, list_cheap extra cheap (lowered_call local line (handed name) name args))) s t a k le
    acts_follow line (runtime r) h p f s t a k le = absurd p

    -- the list that a list becomes follows it
    pub lists_follow : (c : Code) → CodeInside inside c → EachCall P c → WeighsAtMost m c → (s t : Scene C) → Alike s t → (k : ℕ) → k ≤ most → Follows Alike w 0 (run q n c s) (run q' n (padded extra (lowered local handed c)) t) k
    lists_follow stop h p f s t a k le = follows_done w 0 Alike s t k a
    lists_follow (step line b rest) h p f s t a k le =
        let c = padded extra (lowered_act local handed line b) in let d = padded extra (lowered local handed rest) in
        follows_same Alike w 0 (λ i. then_do (counted (stand n s) i (act q n b line s)) (run q n rest)) (run q n (step line b rest) s)
        (λ i. then_do (run q' n c t i) (run q' n d)) (run q' n (padded extra (lowered_act local handed line b +++ lowered local handed rest)) t) k
        (λ i. sym (counted_then (stand n s) i (act q n b line s) (run q n rest)))
        (λ i. ap (λ z. run q' n z t i) (padded_append extra (lowered_act local handed line b) (lowered local handed rest)) ∙ run_append q' n c d t i)
        (follows_then w 0 0 Alike Alike (λ i. counted (stand n s) i (act q n b line s)) (run q' n c t) (run q n rest) (run q' n d) k
        (acts_follow line b h.0 p.0 f.0 s t a k le)
        (λ s1 t1 i l r. lists_follow rest h.1 p.1 f.1 s1 t1 r i (omega (arith, l, le))))
