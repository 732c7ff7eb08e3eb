-- The statements that come before and after one are assignments and IFs of such; what is known of them holds of them padded.
use Rattle.std.proofs.Common.{◌≡◌, ℕ, zero, suc, ◌+◌, ◌-◌, ◌*◌, ◌<◌, ◌≤◌, ◌⊎◌, inl, inr, Bool, true, false, List, ◌∷◌, sym, ap, ◌∙◌, arith, subst, mul-add, mul-one}
use Rattle.std.proofs.lemmas.Bool.{cases_lt}
use Rattle.std.specs.Prelude.{if◌then◌else◌}
use Rattle.adj_tree.specs.Code.{Var, plus, minus, times, quot, modulo, greater, lesser, Term, lit, var, elem, neg, bin, pow, power_of, abs, Terms, none, more, Act, assign, Code}
use Rattle.def_meaning.specs.Append.{◌+++◌, one}
use Rattle.def_meaning.specs.Read.{reads_term}
use Rattle.def_meaning.specs.Trap.{Trap}
use Rattle.def_meaning.specs.Value.{Setting}
use Rattle.def_meaning.specs.Scene.{Scene, Stand, IsMore, Outcome, Done, Trapped, Full}
use Rattle.def_meaning.specs.Run.{Calls, run}
use Rattle.law_meaning.proofs.Verdicts.{Ending, finished, stopped, filled, with_left}
use Rattle.law_meaning.specs.Follows.{Runs, Follows, both_more, both_done, both_trap, both_full}
use Rattle.def_kernel.specs.Lowered.{locals_in, reduced, before, set_local, mentions, locals_in_target, apart_from, before_target, lowered_assign, before_all, Passing, stays, put_back, by_value, passing, locals_passing, first_flag, other_flags, before_held, passed, before_passing, after_passing, before_passing_all, after_passing_all}
use Rattle.def_meaning.specs.Padded.{padded}
use Rattle.def_kernel.specs.Weights.{total_cost}
use Rattle.law_meaning.proofs.Straights.{Stops}
use Rattle.law_meaning.proofs.Bounded.{Goes}
use Rattle.law_kernel.proofs.Flattening.{IsFlat, flat_append, Comes, flat_run}

-- ---- which lists are flat

module _ (local : ℕ → Var) where
  flat_three : (line j : ℕ) (a b : Term) (c : Code) → IsFlat (before local line j a) → IsFlat (before local line (j + locals_in a) b) → IsFlat c → IsFlat (before local line j a +++ (before local line (j + locals_in a) b +++ c))
  flat_three line j a b c f g h = flat_append (before local line j a) (before local line (j + locals_in a) b +++ c) f (flat_append (before local line (j + locals_in a) b) c g h)

  -- what is set before an expression is flat
  pub flat_before : (line j : ℕ) (e : Term) → IsFlat (before local line j e)
  flat_before line j (lit z) = tt
  flat_before line j (var x) = tt
  flat_before line j (elem x subs) = tt
  flat_before line j (neg a) = flat_before line j a
  flat_before line j (bin plus a b) = flat_append (before local line j a) (before local line (j + locals_in a) b) (flat_before line j a) (flat_before line (j + locals_in a) b)
  flat_before line j (bin minus a b) = flat_append (before local line j a) (before local line (j + locals_in a) b) (flat_before line j a) (flat_before line (j + locals_in a) b)
  flat_before line j (bin times a b) = flat_append (before local line j a) (before local line (j + locals_in a) b) (flat_before line j a) (flat_before line (j + locals_in a) b)
  flat_before line j (bin quot a b) = tt
  flat_before line j (bin modulo a b) = tt
  flat_before line j (bin greater a b) = flat_three line j a b _ (flat_before line j a) (flat_before line (j + locals_in a) b) (tt, (tt, (((tt, tt), tt), tt)))
  flat_before line j (bin lesser a b) = flat_three line j a b _ (flat_before line j a) (flat_before line (j + locals_in a) b) (tt, (tt, (((tt, tt), tt), tt)))
  flat_before line j (pow a zero) = tt
  flat_before line j (pow a (suc k)) = flat_before line j a
  flat_before line j (power_of a b) = flat_before line j a
  flat_before line j (abs a) = flat_append (before local line j a) _ (flat_before line j a) (tt, (((tt, tt), tt), tt))

  -- a local that is set
  flat_set : (line j m : ℕ) (e : Term) → IsFlat (set_local local line j m e)
  flat_set line j m e = flat_append (before local line m e) (one line (assign (local j) none (reduced local m e))) (flat_before line m e) (tt, tt)

  -- what is set before a target
  flat_target : (line : ℕ) (x : Var) (j m : ℕ) (subs : Terms) → IsFlat (before_target local line x j m subs)
  flat_target line x j m none = tt
  flat_target line x j m (more e es) = go (flat_target line x (suc j) (m + locals_in e) es) (flat_target line x j m es) (reads_term x e)
    where
      go : IsFlat (before_target local line x (suc j) (m + locals_in e) es) → IsFlat (before_target local line x j m es) → (b : Bool) → IsFlat (if b then set_local local line j m e +++ before_target local line x (suc j) (m + locals_in e) es else before_target local line x j m es)
      go f g true = flat_append (set_local local line j m e) (before_target local line x (suc j) (m + locals_in e) es) (flat_set line j m e) f
      go f g false = g

  -- an assignment
  pub flat_assign : (line : ℕ) (x : Var) (subs : Terms) (e : Term) → IsFlat (lowered_assign local line x subs e)
  flat_assign line x subs e =
      let m = mentions x subs in let k = m + locals_in_target x subs in
      let last = one line (assign x (apart_from local x 0 subs) (reduced local k e)) in
      flat_append (before_target local line x 0 m subs) (before local line k e +++ last) (flat_target line x 0 m subs) (flat_append (before local line k e) last (flat_before line k e) (tt, tt))

  -- what is set before actuals
  pub flat_before_all : (line j : ℕ) (es : Terms) → IsFlat (before_all local line j es)
  flat_before_all line j none = tt
  flat_before_all line j (more e es) = flat_append (before local line j e) (before_all local line (j + locals_in e) es) (flat_before line j e) (flat_before_all line (j + locals_in e) es)

  -- subscripts that are held
  flat_held : (line j : ℕ) (es : Terms) → IsFlat (before_held local line j es)
  flat_held line j none = tt
  flat_held line j (more e es) = flat_append (set_local local line j (suc j) e) (before_held local line (suc (j + locals_in e)) es) (flat_set line j (suc j) e) (flat_held line (suc (j + locals_in e)) es)

  -- what is set for one passing
  flat_passing : (line j : ℕ) (p : Passing) → IsFlat (before_passing local line j p)
  flat_passing line j (stays x) = tt
  flat_passing line j (put_back x subs) = flat_append (before_held local line j subs) _ (flat_held line j subs) (tt, tt)
  flat_passing line j (by_value e) = (tt, tt)

  -- what puts it back
  flat_after : (line j : ℕ) (p : Passing) → IsFlat (after_passing local line j p)
  flat_after line j (stays x) = tt
  flat_after line j (put_back x subs) = (tt, tt)
  flat_after line j (by_value e) = tt

  -- the same of all
  pub flat_passing_all : (line j : ℕ) (ws : List Bool) (earlier : List Var) (es : Terms) → IsFlat (before_passing_all local line j ws earlier es)
  flat_passing_all line j ws earlier none = tt
  flat_passing_all line j ws earlier (more e es) =
      let p = passing (first_flag ws) earlier e in
      let later : List Var = passed local j p ∷ earlier in
      flat_append (before_passing local line j p) (before_passing_all local line (j + locals_passing p) (other_flags ws) later es) (flat_passing line j p) (flat_passing_all line (j + locals_passing p) (other_flags ws) later es)

  -- what puts all back
  pub flat_after_all : (line j : ℕ) (ws : List Bool) (earlier : List Var) (es : Terms) → IsFlat (after_passing_all local line j ws earlier es)
  flat_after_all line j ws earlier none = tt
  flat_after_all line j ws earlier (more e es) =
      let p = passing (first_flag ws) earlier e in
      let later : List Var = passed local j p ∷ earlier in
      flat_append (after_passing local line j p) (after_passing_all local line (j + locals_passing p) (other_flags ws) later es) (flat_after line j p) (flat_after_all line (j + locals_passing p) (other_flags ws) later es)

-- ---- what is known of flat lists

-- an end that is that of a run that is done, or trapped, or full
end_done : {A : Type 0} (e : Ending A) (a : A) (i j : ℕ) → with_left e i ≡ Done a j → e ≡ finished a
end_done (finished b) a i j h = let z : b ≡ a = cc in ap (λ y. let x : Ending _ = finished y in x) z
end_done (stopped t line w) a i j h = absurd cc
end_done (filled w) a i j h = absurd cc

end_trapped : {A : Type 0} (e : Ending A) (t : Trap) (line : ℕ) (v : Stand) (i : ℕ) → with_left e i ≡ Trapped t line v → e ≡ stopped t line v
end_trapped (finished b) t line v i h = absurd cc
end_trapped (stopped t1 line1 v1) t line v i h = let y : t1 ≡ t = cc in let z : line1 ≡ line = cc in let x : v1 ≡ v = cc in λ k. stopped (y k) (z k) (x k)
end_trapped (filled w) t line v i h = absurd cc

end_full : {A : Type 0} (e : Ending A) (v : Stand) (i : ℕ) → with_left e i ≡ Full v → e ≡ filled v
end_full (finished b) v i h = absurd cc
end_full (stopped t line w) v i h = absurd cc
end_full (filled w) v i h = let x : w ≡ v = cc in λ k. filled (x k)

end_more : {A : Type 0} (e : Ending A) (i : ℕ) → IsMore (with_left e i) → ⊥
end_more (finished b) i h = h
end_more (stopped t line w) i h = h
end_more (filled w) i h = h

-- what a run comes to with some statements, it comes to with more
same_end : {A : Type 0} (o p : Runs A) (m : ℕ) (c : Comes o p m) (cost : ℕ) (e : ℕ → Outcome A) → ((j : ℕ) → o (cost + j) ≡ e j) → with_left c.ending cost ≡ e c.cost
same_end o p m c cost e h = let z : c.cost + cost ≡ cost + c.cost = omega arith in sym (c.by cost) ∙ ap o z ∙ h c.cost

module _ {C : Type 0} (extra : Act → ℕ) (q : Calls C) (n : Setting C) where
  -- a flat list that leads somewhere leads there padded, at its cost
  pub goes_flat : (c : Code) → IsFlat c → (s s1 : Scene C) (m : ℕ) → Goes q n c s s1 m → Goes q n (padded extra c) s s1 (total_cost extra c)
  goes_flat c f s s1 m g =
      let r = flat_run extra q n c f s in
      let e : r.ending ≡ finished s1 = end_done r.ending s1 g.cost r.cost (same_end (run q n c s) (run q n (padded extra c) s) (total_cost extra c) r g.cost (λ j. Done s1 j) g.by) in
      record { cost = r.dearer; bound = r.most; by = λ j. r.past j ∙ ap (λ z. with_left z j) e }

  -- and one that traps traps padded
  pub stops_flat : (c : Code) → IsFlat c → (s : Scene C) (line : ℕ) → Stops q n c s line → Stops q n (padded extra c) s line
  stops_flat c f s line y =
      let r = flat_run extra q n c f s in
      let e : r.ending ≡ stopped y.kind line y.stands = end_trapped r.ending y.kind line y.stands y.cost (same_end (run q n c s) (run q n (padded extra c) s) (total_cost extra c) r y.cost (λ j. Trapped y.kind line y.stands) y.by) in
      record { kind = y.kind; stands = y.stands; cost = r.dearer; by = λ j. r.past j ∙ ap (λ z. with_left z j) e }

  -- a flat list that follows one counted statement follows it padded, at its weight
  pub follows_flat : (R : Scene C → Scene C → Type 0) (w w1 : ℕ) (o : Runs (Scene C)) (c : Code) → IsFlat c → total_cost extra c ≤ w1 → (t : Scene C) (k : ℕ) → ((a : Scene C) (l : ℕ) → o k ≡ Done a l → suc l ≤ k) → Follows R w 0 o (run q n c t) k → Follows R w1 0 o (run q n (padded extra c) t) k
  follows_flat R w w1 o c f le t k counts h = go h
    where
      r : Comes (run q n c t) (run q n (padded extra c) t) (total_cost extra c)
      r = flat_run extra q n c f t

      more_in : (k < r.cost) ⊎ (r.cost ≤ k) → IsMore (run q n c t k) → (j : ℕ) → j ≤ k → IsMore (run q n (padded extra c) t j)
      more_in (inl lt) e j l = r.early j (omega (arith, r.least, lt, l))
      more_in (inr ge) e j l = let z : k ≡ r.cost + (k - r.cost) = omega (arith, ge) in absurd (end_more r.ending (k - r.cost) (subst IsMore (ap (run q n c t) z ∙ r.by (k - r.cost)) e))

      not_before : (cost : ℕ) → ((j : ℕ) → j < cost → IsMore (run q n c t j)) → (r.cost < cost) ⊎ (cost ≤ r.cost) → cost ≤ r.cost
      not_before cost e (inr z) = z
      not_before cost e (inl z) = let y : r.cost ≡ r.cost + 0 = omega arith in absurd (end_more r.ending 0 (subst IsMore (ap (run q n c t) y ∙ r.by 0) (e r.cost z)))

      bound : (spent : ℕ) → 1 ≤ spent → w1 ≤ w1 * spent
      bound zero l = absurd (omega (arith, l))
      bound (suc m) l = omega (arith, mul-add w1 1 m, mul-one w1)

      go : Follows R w 0 o (run q n c t) k → Follows R w1 0 o (run q n (padded extra c) t) k
      go (both_more e m) = both_more e (more_in (cases_lt k r.cost) (m k (omega arith)))
      go (both_done d) =
          let e : r.ending ≡ finished d.second = end_done r.ending d.second d.cost r.cost (same_end (run q n c t) (run q n (padded extra c) t) (total_cost extra c) r d.cost (λ j. Done d.second j) d.by) in
          both_done (record {
            first = d.first;
            spent = d.spent;
            left = d.left;
            is = d.is;
            done = d.done;
            second = d.second;
            cost = r.dearer;
            least = omega (arith, d.least, r.least, not_before d.cost d.early (cases_lt r.cost d.cost));
            most = omega (arith, r.most, le, bound d.spent (omega (arith, d.is, counts d.first d.left d.done)));
            early = r.early;
            by = λ j. r.past j ∙ ap (λ z. with_left z j) e;
            related = d.related;
          })
      go (both_trap d) =
          let e : r.ending ≡ stopped d.other d.line d.stands_there = end_trapped r.ending d.other d.line d.stands_there d.cost (same_end (run q n c t) (run q n (padded extra c) t) (total_cost extra c) r d.cost (λ j. Trapped d.other d.line d.stands_there) d.by) in
          both_trap (record { kind = d.kind; line = d.line; stands = d.stands; done = d.done; other = d.other; stands_there = d.stands_there; cost = r.dearer; by = λ j. r.past j ∙ ap (λ z. with_left z j) e })
      go (both_full d) =
          let e : r.ending ≡ filled d.stands_there = end_full r.ending d.stands_there d.cost (same_end (run q n c t) (run q n (padded extra c) t) (total_cost extra c) r d.cost (λ j. Full d.stands_there) d.by) in
          both_full (record { stands = d.stands; done = d.done; stands_there = d.stands_there; cost = r.dearer; by = λ j. r.past j ∙ ap (λ z. with_left z j) e })
