-- Runs that follow others are put together.
use Rattle.std.proofs.Common.{◌≡◌, ℕ, zero, suc, ◌+◌, ◌-◌, ◌<◌, ◌≤◌, ◌⊎◌, inl, inr, Bool, true, false, refl, sym, ap, ◌∙◌, subst, arith, mul-add, mul-one}
use Rattle.std.proofs.lemmas.Bool.{cases_lt}
use Rattle.std.specs.Prelude.{if◌then◌else◌}
use Rattle.def_meaning.specs.Trap.{Trap}
use Rattle.def_meaning.specs.Scene.{Stand, IsMore, Outcome, Done, Trapped, then_do, counted}
use Rattle.law_meaning.specs.Follows.{Runs, Follows, both_more, both_done, both_trap, both_full, BothDone}
use Rattle.law_meaning.proofs.Verdicts.{more_then}

module _ {A B : Type 0} (w slack : ℕ) where
  -- nothing is done
  pub follows_done : (R : A → B → Type 0) (a : A) (b : B) (k : ℕ) → R a b → Follows R w slack (λ j. Done a j) (λ j. Done b j) k
  follows_done R a b k r = both_done (record {
    first = a;
    spent = 0;
    left = k;
    is = omega arith;
    done = refl;
    second = b;
    cost = 0;
    least = omega arith;
    most = omega arith;
    early = λ j lt. absurd (omega arith);
    by = λ j. let e : 0 + j ≡ j = omega arith in ap (λ z. let o : Outcome B = Done b z in o) e;
    related = r;
  })

  -- both trap at once
  pub follows_trap : (R : A → B → Type 0) (t t' : Trap) (line : ℕ) (u v : Stand) (k : ℕ) → Follows R w slack (λ j. Trapped t line u) (λ j. Trapped t' line v) k
  follows_trap R t t' line u v k = both_trap (record { kind = t; line = line; stands = u; done = refl; other = t'; stands_there = v; cost = 0; by = λ j. refl })

  -- one statement is counted in both
  pub follows_counted : (R : A → B → Type 0) (u v : Stand) (o : Runs A) (p : Runs B) (k : ℕ) → 1 ≤ w → ((j : ℕ) → k ≡ suc j → Follows R w slack o p j) → Follows R w slack (λ j. counted u j o) (λ j. counted v j p) k
  follows_counted R u v o p zero le h = both_more tt (λ j l. let e : 0 ≡ j = omega arith in subst (λ z. IsMore (counted v z p)) e tt)
  follows_counted R u v o p (suc k) le h = go (h k refl)
    where
      below : ((j : ℕ) → j ≤ k → IsMore (p j)) → (j : ℕ) → j ≤ suc k → IsMore (counted v j p)
      below m zero l = tt
      below m (suc j) l = m j (omega arith)

      early : (cost : ℕ) → ((j : ℕ) → j < cost → IsMore (p j)) → (j : ℕ) → j < suc cost → IsMore (counted v j p)
      early cost m zero lt = tt
      early cost m (suc j) lt = m j (omega arith)

      go : Follows R w slack o p k → Follows R w slack (λ j. counted u j o) (λ j. counted v j p) (suc k)
      go (both_more e m) = both_more e (below m)
      go (both_done d) = both_done (record {
        first = d.first;
        spent = suc d.spent;
        left = d.left;
        is = omega (arith, d.is);
        done = d.done;
        second = d.second;
        cost = suc d.cost;
        least = omega (arith, d.least);
        most = omega (arith, mul-add w d.spent 1, mul-one w, le, d.most);
        early = early d.cost d.early;
        by = λ j. let e : suc d.cost + j ≡ suc (d.cost + j) = omega arith in ap (λ z. counted v z p) e ∙ d.by j;
        related = d.related;
      })
      go (both_trap d) = both_trap (record { kind = d.kind; line = d.line; stands = d.stands; done = d.done; other = d.other; stands_there = d.stands_there; cost = suc d.cost; by = λ j. let e : suc d.cost + j ≡ suc (d.cost + j) = omega arith in ap (λ z. counted v z p) e ∙ d.by j })
      go (both_full d) = both_full (record { stands = d.stands; stands_there = d.stands_there; done = d.done; cost = suc d.cost; by = λ j. let e : suc d.cost + j ≡ suc (d.cost + j) = omega arith in ap (λ z. counted v z p) e ∙ d.by j })

  -- one of two branches
  pub follows_if : (R : A → B → Type 0) (b : Bool) (o o1 : Runs A) (p p1 : Runs B) (k : ℕ) → Follows R w slack o p k → Follows R w slack o1 p1 k → Follows R w slack (λ j. if b then o j else o1 j) (λ j. if b then p j else p1 j) k
  follows_if R true o o1 p p1 k f g = f
  follows_if R false o o1 p p1 k f g = g

-- ---- one run after another

module _ {A B A1 B1 : Type 0} (w slack more_slack : ℕ) (R : A → B → Type 0) (Q : A1 → B1 → Type 0) (o : Runs A) (p : Runs B) (f : A → Runs A1) (g : B → Runs B1) where
  abbrev all : Runs A1
  all j = then_do (o j) f

  abbrev all' : Runs B1
  all' j = then_do (p j) g

  -- both came to a result, and went on
  after_done : (k : ℕ) (d : BothDone R w slack o p k) → Follows Q w more_slack (f d.first) (g d.second) d.left → Follows Q w (slack + more_slack) all all' k
  after_done k d = go
    where
      past : (j : ℕ) → all' (d.cost + j) ≡ g d.second j
      past j = ap (λ z. then_do z g) (d.by j)

      now : all k ≡ f d.first d.left
      now = ap (λ z. then_do z f) d.done

      more_in : (j : ℕ) → (j < d.cost) ⊎ (d.cost ≤ j) → (d.cost ≤ j → IsMore (g d.second (j - d.cost))) → IsMore (all' j)
      more_in j (inl lt) h = more_then (p j) g (d.early j lt)
      more_in j (inr le) h = let e1 : j ≡ d.cost + (j - d.cost) = omega arith in subst IsMore (sym (ap all' e1 ∙ past (j - d.cost))) (h le)

      go : Follows Q w more_slack (f d.first) (g d.second) d.left → Follows Q w (slack + more_slack) all all' k
      go (both_more e m) = both_more (subst IsMore (sym now) e) (λ j le. more_in j (cases_lt j d.cost) (λ ge. m (j - d.cost) (omega (arith, d.is, d.least))))
      go (both_done e) = both_done (record {
        first = e.first;
        spent = d.spent + e.spent;
        left = e.left;
        is = omega (arith, d.is, e.is);
        done = now ∙ e.done;
        second = e.second;
        cost = d.cost + e.cost;
        least = omega (arith, d.least, e.least);
        most = omega (arith, d.most, e.most, mul-add w d.spent e.spent);
        early = λ j lt. more_in j (cases_lt j d.cost) (λ ge. e.early (j - d.cost) (omega arith));
        by = λ j. let e1 : d.cost + e.cost + j ≡ d.cost + (e.cost + j) = omega arith in ap all' e1 ∙ past (e.cost + j) ∙ e.by j;
        related = e.related;
      })
      go (both_trap e) = both_trap (record {
        kind = e.kind;
        line = e.line;
        stands = e.stands;
        done = now ∙ e.done;
        other = e.other;
        stands_there = e.stands_there;
        cost = d.cost + e.cost;
        by = λ j. let e1 : d.cost + e.cost + j ≡ d.cost + (e.cost + j) = omega arith in ap all' e1 ∙ past (e.cost + j) ∙ e.by j;
      })
      go (both_full e) = both_full (record {
        stands = e.stands;
        stands_there = e.stands_there;
        done = now ∙ e.done;
        cost = d.cost + e.cost;
        by = λ j. let e1 : d.cost + e.cost + j ≡ d.cost + (e.cost + j) = omega arith in ap all' e1 ∙ past (e.cost + j) ∙ e.by j;
      })

  pub follows_then : (k : ℕ) → Follows R w slack o p k → ((a : A) (b : B) (i : ℕ) → i ≤ k → R a b → Follows Q w more_slack (f a) (g b) i) → Follows Q w (slack + more_slack) all all' k
  follows_then k (both_more e m) h = both_more (more_then (o k) f e) (λ j le. more_then (p j) g (m j le))
  follows_then k (both_done d) h = after_done k d (h d.first d.second d.left (omega (arith, d.is)) d.related)
  follows_then k (both_trap d) h = both_trap (record { kind = d.kind; line = d.line; stands = d.stands; stands_there = d.stands_there; done = ap (λ z. then_do z f) d.done; other = d.other; cost = d.cost; by = λ j. ap (λ z. then_do z g) (d.by j) })
  follows_then k (both_full d) h = both_full (record { stands = d.stands; stands_there = d.stands_there; done = ap (λ z. then_do z f) d.done; cost = d.cost; by = λ j. ap (λ z. then_do z g) (d.by j) })

-- ---- a statement that becomes some straight code and then one that is counted

module _ {A B : Type 0} (w slack : ℕ) (R : A → B → Type 0) (o : Runs A) (r p : Runs B) (c : ℕ) (early : (j : ℕ) → j < c → IsMore (p j)) (u v : Stand) (past : (j : ℕ) → p (c + j) ≡ counted v j r) (few : c + 1 + slack ≤ w) where
  more_in : (j : ℕ) → (j < c) ⊎ (c ≤ j) → ((i : ℕ) → suc (c + i) ≡ j → IsMore (r i)) → IsMore (p j)
  more_in j (inl lt) h = early j lt
  more_in j (inr le) h = go (j - c) (omega arith)
    where
      go : (i : ℕ) → c + i ≡ j → IsMore (p j)
      go zero e = subst IsMore (sym (ap p (sym e) ∙ past 0)) tt
      go (suc i) e = subst IsMore (sym (ap p (sym e) ∙ past (suc i))) (h i (omega (arith, e)))

  further : (j : ℕ) → p (c + suc j) ≡ r j
  further j = past (suc j)

  pub follows_statement : (k : ℕ) → ((j : ℕ) → k ≡ suc j → Follows R w slack o r j) → Follows R w 0 (λ j. counted u j o) p k
  follows_statement zero h = both_more tt (λ j l. more_in j (cases_lt j c) (λ i e. absurd (omega (arith, l, e))))
  follows_statement (suc k) h = go (h k refl)
    where
      go : Follows R w slack o r k → Follows R w 0 (λ j. counted u j o) p (suc k)
      go (both_more e m) = both_more e (λ j l. more_in j (cases_lt j c) (λ i f. m i (omega (arith, l, f))))
      go (both_done d) = both_done (record {
        first = d.first;
        spent = suc d.spent;
        left = d.left;
        is = omega (arith, d.is);
        done = d.done;
        second = d.second;
        cost = suc (c + d.cost);
        least = omega (arith, d.least);
        most = omega (arith, mul-add w d.spent 1, mul-one w, few, d.most);
        early = λ j lt. more_in j (cases_lt j c) (λ i f. d.early i (omega (arith, lt, f)));
        by = λ j. let e : suc (c + d.cost) + j ≡ c + suc (d.cost + j) = omega arith in ap p e ∙ further (d.cost + j) ∙ d.by j;
        related = d.related;
      })
      go (both_trap d) = both_trap (record { kind = d.kind; line = d.line; stands = d.stands; done = d.done; other = d.other; stands_there = d.stands_there; cost = suc (c + d.cost); by = λ j. let e : suc (c + d.cost) + j ≡ c + suc (d.cost + j) = omega arith in ap p e ∙ further (d.cost + j) ∙ d.by j })
      go (both_full d) = both_full (record { stands = d.stands; stands_there = d.stands_there; done = d.done; cost = suc (c + d.cost); by = λ j. let e : suc (c + d.cost) + j ≡ c + suc (d.cost + j) = omega arith in ap p e ∙ further (d.cost + j) ∙ d.by j })

-- ---- what is known besides

module _ {A B : Type 0} (w slack : ℕ) (R Q : A → B → Type 0) (o : Runs A) (p : Runs B) where
  -- what is known of the first result, wherever it is done
  pub follows_known : (k : ℕ) → Follows R w slack o p k → ((a : A) (b : B) (left : ℕ) → o k ≡ Done a left → R a b → Q a b) → Follows Q w slack o p k
  follows_known k (both_more e m) h = both_more e m
  follows_known k (both_done d) h = both_done (record {
    first = d.first;
    spent = d.spent;
    left = d.left;
    is = d.is;
    done = d.done;
    second = d.second;
    cost = d.cost;
    least = d.least;
    most = d.most;
    early = d.early;
    by = d.by;
    related = h d.first d.second d.left d.done d.related;
  })
  follows_known k (both_trap d) h = both_trap d
  follows_known k (both_full d) h = both_full d

module _ {A B : Type 0} (w slack : ℕ) (R : A → B → Type 0) (v : Stand) (o : Runs A) (p : Runs B) where
  -- a statement more is counted in the second alone
  pub follows_extra : (k : ℕ) → Follows R w slack o p k → Follows R w (slack + 1) o (λ j. counted v j p) k
  follows_extra k (both_more e m) = both_more e (below m)
    where
      below : ((j : ℕ) → j ≤ k → IsMore (p j)) → (j : ℕ) → j ≤ k → IsMore (counted v j p)
      below m zero l = tt
      below m (suc j) l = m j (omega arith)
  follows_extra k (both_done d) = both_done (record {
    first = d.first;
    spent = d.spent;
    left = d.left;
    is = d.is;
    done = d.done;
    second = d.second;
    cost = suc d.cost;
    least = omega (arith, d.least);
    most = omega (arith, d.most);
    early = early;
    by = λ j. let e : suc d.cost + j ≡ suc (d.cost + j) = omega arith in ap (λ z. counted v z p) e ∙ d.by j;
    related = d.related;
  })
    where
      early : (j : ℕ) → j < suc d.cost → IsMore (counted v j p)
      early zero lt = tt
      early (suc j) lt = d.early j (omega arith)
  follows_extra k (both_trap d) = both_trap (record { kind = d.kind; line = d.line; stands = d.stands; done = d.done; other = d.other; stands_there = d.stands_there; cost = suc d.cost; by = λ j. let e : suc d.cost + j ≡ suc (d.cost + j) = omega arith in ap (λ z. counted v z p) e ∙ d.by j })
  follows_extra k (both_full d) = both_full (record { stands = d.stands; stands_there = d.stands_there; done = d.done; cost = suc d.cost; by = λ j. let e : suc d.cost + j ≡ suc (d.cost + j) = omega arith in ap (λ z. counted v z p) e ∙ d.by j })
