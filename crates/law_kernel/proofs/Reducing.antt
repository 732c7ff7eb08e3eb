-- An expression and the one that it is reduced to: after the statements before it, this has the value of that.
use Rattle.std.proofs.Common.{◌≡◌, ℕ, zero, suc, ◌+◌, ◌*◌, Bool, true, false, refl, sym, ap, ◌∙◌, arith, subst, mul-add}
use Rattle.std.specs.Prelude.{pos, int_lt, Result, Ok, Err, if◌then◌else◌}
use Rattle.adj_tree.specs.Code.{Var, Op, plus, minus, times, quot, modulo, greater, lesser, Term, lit, var, elem, neg, bin, pow, power_of, abs, none, is_less, Test, compare, assign, choose, Code, stop, step}
use Rattle.def_meaning.specs.Append.{◌+++◌, one}
use Rattle.def_meaning.specs.Trap.{Trap, then_ok}
use Rattle.def_meaning.specs.Numbers.{operation, absolute}
use Rattle.def_meaning.specs.Store.{Store, set}
use Rattle.def_meaning.specs.Value.{Setting, exponent_of, value, holds}
use Rattle.def_meaning.specs.Scene.{Scene}
use Rattle.def_meaning.specs.Run.{Calls}
use Rattle.def_meaning.specs.Read.{reads_term}
use Rattle.def_meaning.proofs.Appends.{append_assoc}
use Rattle.def_meaning.proofs.Booleans.{or_first, or_second}
use Rattle.law_meaning.proofs.Leadings.{with_store}
use Rattle.law_meaning.proofs.Agreements.{StoresAgree, value_alike}
use Rattle.def_kernel.specs.Lowered.{locals_in, reduced, before, picked, turned_up}
use Rattle.law_kernel.specs.Apart.{ShowWords, AreLocals, CellsOf, TermInside}
use Rattle.law_meaning.proofs.Straights.{Stops, stops_first, stops_after, stops_value}
use Rattle.law_meaning.proofs.Bounded.{Goes, leads_of, goes_stop, goes_append, goes_more, goes_assign, goes_choose}
use Rattle.law_kernel.proofs.Changing.{SameOrNone, same_or_none, same_then, same_trans, Range, Changes, changes_none, changes_both, set_changes, set_holds}

-- the parts of an operation are inside
pub inside_first : (inside : Var → Bool) (op : Op) (a b : Term) → TermInside inside (bin op a b) → TermInside inside a
inside_first inside op a b h x e = h x (or_first (reads_term x a) (reads_term x b) e)

-- and so is the second
pub inside_second : (inside : Var → Bool) (op : Op) (a b : Term) → TermInside inside (bin op a b) → TermInside inside b
inside_second inside op a b h x e = h x (or_second (reads_term x a) (reads_term x b) e)

-- the base of a power is inside
pub power_first : (inside : Var → Bool) (a b : Term) → TermInside inside (power_of a b) → TermInside inside a
power_first inside a b h x e = h x (or_first (reads_term x a) (reads_term x b) e)

-- and its exponent
pub power_second : (inside : Var → Bool) (a b : Term) → TermInside inside (power_of a b) → TermInside inside b
power_second inside a b h x e = h x (or_second (reads_term x a) (reads_term x b) e)

module _ {C : Type 0} (n : Setting C) (inside : Var → Bool) (local : ℕ → Var) where
  -- what is inside keeps its value
  pub value_within : (e : Term) (t t' : Store C) → TermInside inside e → ((x : Var) (i : ℕ) → inside x ≡ true → t' x i ≡ t x i) → value n e t' ≡ value n e t
  value_within e t t' h same = value_alike n (λ x i. inside x ≡ true) t' t (λ x i a. same x i a) e (λ x r i l. h x r)

  -- a reduced expression keeps its value where its locals do
  pub value_held : (e : Term) (j : ℕ) (t t' : Store C) → TermInside inside e → ((x : Var) (i : ℕ) → inside x ≡ true → t' x i ≡ t x i) → ((k : ℕ) → Range j (locals_in e) k → t' (local k) 0 ≡ t (local k) 0) → value n (reduced local j e) t' ≡ value n (reduced local j e) t
  value_held (lit z) j t t' h same held = refl
  value_held (var x) j t t' h same held = value_within (var x) t t' h same
  value_held (elem x subs) j t t' h same held = value_within (elem x subs) t t' h same
  value_held (neg a) j t t' h same held = ap (λ z. then_ok z (λ u. Ok (n.numbers.negation u))) (value_held a j t t' h same held)
  value_held (bin plus a b) j t t' h same held =
      λ i. then_ok (value_held a j t t' (inside_first inside plus a b h) same (λ k r. held k (omega (arith, r.0), omega (arith, r.1))) i)
      (λ u. then_ok (value_held b (j + locals_in a) t t' (inside_second inside plus a b h) same (λ k r. held k (omega (arith, r.0), omega (arith, r.1))) i) (λ v. operation n.numbers plus u v))
  value_held (bin minus a b) j t t' h same held =
      λ i. then_ok (value_held a j t t' (inside_first inside minus a b h) same (λ k r. held k (omega (arith, r.0), omega (arith, r.1))) i)
      (λ u. then_ok (value_held b (j + locals_in a) t t' (inside_second inside minus a b h) same (λ k r. held k (omega (arith, r.0), omega (arith, r.1))) i) (λ v. operation n.numbers minus u v))
  value_held (bin times a b) j t t' h same held =
      λ i. then_ok (value_held a j t t' (inside_first inside times a b h) same (λ k r. held k (omega (arith, r.0), omega (arith, r.1))) i)
      (λ u. then_ok (value_held b (j + locals_in a) t t' (inside_second inside times a b h) same (λ k r. held k (omega (arith, r.0), omega (arith, r.1))) i) (λ v. operation n.numbers times u v))
  value_held (bin quot a b) j t t' h same held = value_within (bin quot a b) t t' h same
  value_held (bin modulo a b) j t t' h same held = value_within (bin modulo a b) t t' h same
  value_held (bin greater a b) j t t' h same held = ap Ok (held (j + locals_in a + locals_in b) (omega arith, omega arith))
  value_held (bin lesser a b) j t t' h same held = ap Ok (held (j + locals_in a + locals_in b) (omega arith, omega arith))
  value_held (pow a zero) j t t' h same held = value_within (pow a zero) t t' h same
  value_held (pow a (suc k)) j t t' h same held = ap (λ z. then_ok z (λ u. Ok (n.numbers.raised_to u (suc k)))) (value_held a j t t' h same held)
  value_held (power_of a b) j t t' h same held =
      λ i. then_ok (value_held a j t t' (power_first inside a b h) same held i)
      (λ u. then_ok (value_within b t t' (power_second inside a b h) same i) (λ v. then_ok (exponent_of (n.numbers.shown v)) (λ k. Ok (n.numbers.raised_to u k))))
  value_held (abs a) j t t' h same held = ap Ok (held (j + locals_in a) (omega arith, omega arith))

module _ {C : Type 0} (q : Calls C) (n : Setting C) (inside : Var → Bool) (local : ℕ → Var) (apart : AreLocals inside local) (shows : ShowWords n.numbers) (base : Scene C) (line : ℕ) where
  abbrev at : Store C → Scene C
  at t = with_store base t

  -- the stores agree on the variables inside
  abbrev Agree : Store C → Store C → Type 0
  Agree s t = StoresAgree (CellsOf n inside) s t

  -- agreement is kept where locals change
  agree_changed : (may : ℕ → Type 0) (s t t1 : Store C) → Agree s t → Changes inside local may t t1 → Agree s t1
  agree_changed may s t t1 a c x i h = a x i h ∙ sym (c.within x i h.0)

  -- what is inside has the same value in both stores
  same_inside : (e : Term) (s t : Store C) → TermInside inside e → Agree s t → SameOrNone (value n e s) (value n e t)
  same_inside e s t h a = same_or_none (value n e s) (value n e t) (value_alike n (CellsOf n inside) s t a e (λ x r i l. (h x r, l)))

  -- the statements before lead to a store in which the reduced expression has the value of the expression, or they trap where this has none
  pub data Prefixed (e : Term) (j : ℕ) (s t : Store C) : Type 0 where
    comes : (t1 : Store C) → Goes q n (before local line j e) (at t) (at t1) (3 * locals_in e) → Changes inside local (Range j (locals_in e)) t t1 → SameOrNone (value n e s) (value n (reduced local j e) t1) → Prefixed e j s t
    stops : (k : Trap) → value n e s ≡ Err k → Stops q n (before local line j e) (at t) line → Prefixed e j s t

  -- the same of two expressions, one after the other
  pub data Both (a b : Term) (j : ℕ) (s t : Store C) : Type 0 where
    come : (t1 : Store C) → Goes q n (before local line j a +++ before local line (j + locals_in a) b) (at t) (at t1) (3 * (locals_in a + locals_in b)) → Changes inside local (Range j (locals_in a + locals_in b)) t t1 → SameOrNone (value n a s) (value n (reduced local j a) t1) → SameOrNone (value n b s) (value n (reduced local (j + locals_in a) b) t1) → Both a b j s t
    stop_first : (k : Trap) → value n a s ≡ Err k → Stops q n (before local line j a +++ before local line (j + locals_in a) b) (at t) line → Both a b j s t
    stop_second : (k : Trap) → value n b s ≡ Err k → Stops q n (before local line j a +++ before local line (j + locals_in a) b) (at t) line → Both a b j s t

  -- one expression, and then the other
  both : (a b : Term) (j : ℕ) (s t : Store C) → TermInside inside a → Agree s t → Prefixed a j s t → ((t1 : Store C) → Agree s t1 → Prefixed b (j + locals_in a) s t1) → Both a b j s t
  both a b j s t h g (stops k e x) next = stop_first k e (stops_first q n (before local line j a) (before local line (j + locals_in a) b) (at t) line x)
  both a b j s t h g (comes t1 l c v) next = go (next t1 (agree_changed (Range j (locals_in a)) s t t1 g c))
    where
      go : Prefixed b (j + locals_in a) s t1 → Both a b j s t
      go (stops k e x) = stop_second k e (stops_after q n (before local line j a) (before local line (j + locals_in a) b) (at t) (at t1) line (leads_of q n (before local line j a) (at t) (at t1) (3 * locals_in a) l) x)
      go (comes t2 m d w) =
          come t2
          (goes_more q n _ (at t) (at t2) (3 * locals_in a + 3 * locals_in b) (3 * (locals_in a + locals_in b)) (omega (arith, mul-add 3 (locals_in a) (locals_in b)))
          (goes_append q n (before local line j a) (before local line (j + locals_in a) b) (at t) (at t1) (at t2) (3 * locals_in a) (3 * locals_in b) l m))
          (changes_both inside local (Range j (locals_in a + locals_in b)) (Range j (locals_in a)) (Range (j + locals_in a) (locals_in b)) t t1 t2 c d
          (λ k r. (omega (arith, r.0), omega (arith, r.1))) (λ k r. (omega (arith, r.0), omega (arith, r.1))))
          (same_trans (value n a s) (value n (reduced local j a) t1) (value n (reduced local j a) t2) v
          (sym (value_held n inside local a j t1 t2 h d.within (λ k r. d.others k 0 (λ m. absurd (omega (arith, r.1, m.0)))))))
          w

  -- an operation that keeps its form
  joined : (op : Op) (a b : Term) (j : ℕ) (s : Store C) (t1 : Store C) → SameOrNone (value n a s) (value n (reduced local j a) t1) → SameOrNone (value n b s) (value n (reduced local (j + locals_in a) b) t1) → SameOrNone (value n (bin op a b) s) (value n (bin op (reduced local j a) (reduced local (j + locals_in a) b)) t1)
  joined op a b j s t1 v w =
      same_then (value n a s) (value n (reduced local j a) t1) _ _ v (λ u. same_then (value n b s) (value n (reduced local (j + locals_in a) b) t1) _ _ w (λ x. same_or_none (operation n.numbers op u x) _ refl))

  -- an operation has no value where an operand has none
  first_none : (op : Op) (a b : Term) (s : Store C) (k : Trap) → value n a s ≡ Err k → value n (bin op a b) s ≡ Err k
  first_none op a b s k e = ap (λ z. then_ok z (λ u. then_ok (value n b s) (λ v. operation n.numbers op u v))) e

  -- a trap of some kind
  pub record None {A : Type 0} (r : Result A Trap) : Type 0 where
    pub kind : Trap
    pub is : r ≡ Err kind

  second_none : (op : Op) (a b : Term) (s : Store C) (k : Trap) → value n b s ≡ Err k → None (value n (bin op a b) s)
  second_none op a b s k e = go (value n a s) refl
    where
      go : (r : Result C Trap) → value n a s ≡ r → None (value n (bin op a b) s)
      go (Ok u) f = record { kind = k; is = ap (λ z. then_ok z (λ u. then_ok (value n b s) (λ v. operation n.numbers op u v))) f ∙ ap (λ z. then_ok z (λ v. operation n.numbers op u v)) e }
      go (Err k1) f = record { kind = k1; is = first_none op a b s k1 f }

  -- ---- one of two values

  abbrev first_set : Store C → ℕ → C → Store C
  first_set t i u = set t (local i) 0 u

  abbrev both_set : Store C → ℕ → C → C → Store C
  both_set t i u v = set (set t (local i) 0 u) (local (suc i)) 0 v

  both_changes : (t : Store C) (i : ℕ) (u v : C) → Changes inside local (Range i 2) t (both_set t i u v)
  both_changes t i u v =
      changes_both inside local (Range i 2) (Range i 1) (Range (suc i) 1) t (first_set t i u) (both_set t i u v) (set_changes inside local apart t i u) (set_changes inside local apart (first_set t i u) (suc i) v)
      (λ k r. (r.0, omega (arith, r.1))) (λ k r. (omega (arith, r.0), omega (arith, r.1)))

  first_holds : (t : Store C) (i : ℕ) (u v : C) → both_set t i u v (local i) 0 ≡ u
  first_holds t i u v = (set_changes inside local apart (first_set t i u) (suc i) v).others i 0 (λ r. absurd (omega (arith, r.0))) ∙ set_holds inside local apart t i u

  second_holds : (t : Store C) (i : ℕ) (u v : C) → both_set t i u v (local (suc i)) 0 ≡ v
  second_holds t i u v = set_holds inside local apart (first_set t i u) (suc i) v

  -- a local got a value
  pub record Gets (c : Code) (most i m : ℕ) (t : Store C) (u : C) : Type 0 where
    pub after : Store C
    pub goes : Goes q n c (at t) (at after) most
    pub changes : Changes inside local (Range i m) t after
    pub holds : after (local i) 0 ≡ u

  -- a local may be set again
  maybe_set : (i : ℕ) (e : Term) (t : Store C) (p : Bool) (w : C) → value n e t ≡ Ok w → Gets (if p then one line (assign (local i) none e) else stop) 1 i 1 t (if p then w else t (local i) 0)
  maybe_set i e t true w h = record {
    after = set t (local i) 0 w;
    goes = goes_assign q n line (local i) none e stop (at t) (at (set t (local i) 0 w)) w 0 0 h refl (goes_stop q n (at (set t (local i) 0 w)));
    changes = set_changes inside local apart t i w;
    holds = set_holds inside local apart t i w;
  }
  maybe_set i e t false w h = record {
    after = t;
    goes = goes_more q n stop (at t) (at t) 0 1 (omega arith) (goes_stop q n (at t));
    changes = changes_none inside local (Range i 1) t;
    holds = refl;
  }

  -- MAX and MIN: the local gets the second value where the test holds
  picks : (test : Test) (i : ℕ) (a b : Term) (t : Store C) (u v : C) (p : Bool) → value n a t ≡ Ok u → value n b (first_set t i u) ≡ Ok v → holds n test (both_set t i u v) ≡ Ok p → Gets (picked local line test i a b) 4 i 2 t (if p then v else u)
  picks test i a b t u v p ea eb et =
      let t2 = both_set t i u v in
      let g = maybe_set i (var (local (suc i))) t2 p v (ap Ok (second_holds t i u v)) in
      record {
        after = g.after;
        goes =
            goes_assign q n line (local i) none a _ (at t) (at g.after) u 0 3 ea refl
            (goes_assign q n line (local (suc i)) none b _ (at (first_set t i u)) (at g.after) v 0 2 eb refl
            (goes_choose q n line test (one line (assign (local i) none (var (local (suc i))))) stop stop (at t2) (at g.after) (at g.after) p 1 0 et g.goes (goes_stop q n (at g.after))));
        changes = changes_both inside local (Range i 2) (Range i 2) (Range i 1) t t2 g.after (both_changes t i u v) g.changes (λ k r. r) (λ k r. (r.0, omega (arith, r.1)));
        holds = g.holds ∙ ap (λ z. if p then v else z) (first_holds t i u v);
      }

  -- ABS: the local gets its sign turned where it is below 0
  turns : (i : ℕ) (a : Term) (t : Store C) (u : C) → value n a t ≡ Ok u → Gets (turned_up local line i a) 3 i 1 t (absolute n.numbers u)
  turns i a t u e =
      let t1 = first_set t i u in
      let p = int_lt (n.numbers.shown u) (pos 0) in
      let w = n.numbers.negation u in
      let is : t1 (local i) 0 ≡ u = set_holds inside local apart t i u in
      let g = maybe_set i (neg (var (local i))) t1 p w (ap (λ z. Ok (n.numbers.negation z)) is) in
      let test : holds n (compare is_less (var (local i)) (lit (pos 0))) t1 ≡ Ok p = λ k. Ok (int_lt (n.numbers.shown (is k)) (shows.shows (pos 0) k)) in
      record {
        after = g.after;
        goes =
            goes_assign q n line (local i) none a _ (at t) (at g.after) u 0 2 e refl
            (goes_choose q n line (compare is_less (var (local i)) (lit (pos 0))) (one line (assign (local i) none (neg (var (local i))))) stop stop (at t1) (at g.after) (at g.after) p 1 0 test g.goes (goes_stop q n (at g.after)));
        changes = changes_both inside local (Range i 1) (Range i 1) (Range i 1) t t1 g.after (set_changes inside local apart t i u) g.changes (λ k r. r) (λ k r. r);
        holds = g.holds ∙ ap (λ z. if p then w else z) is;
      }

  -- ---- every expression

  -- one that is as it was
  as_it_was : (e : Term) (s t : Store C) → TermInside inside e → Agree s t → SameOrNone (value n e s) (value n e t)
  as_it_was e s t h g = same_inside e s t h g

  -- an operation that keeps its form, over its operands
  kept_form : (op : Op) (a b : Term) (j : ℕ) (s t : Store C) → Both a b j s t →
      ((t1 : Store C) → Goes q n (before local line j a +++ before local line (j + locals_in a) b) (at t) (at t1) (3 * (locals_in a + locals_in b)) → Changes inside local (Range j (locals_in a + locals_in b)) t t1 →
      SameOrNone (value n (bin op a b) s) (value n (bin op (reduced local j a) (reduced local (j + locals_in a) b)) t1) → Prefixed (bin op a b) j s t) →
      ((k : Trap) → value n (bin op a b) s ≡ Err k → Stops q n (before local line j a +++ before local line (j + locals_in a) b) (at t) line → Prefixed (bin op a b) j s t) → Prefixed (bin op a b) j s t
  kept_form op a b j s t (come t1 g c v w) f h = f t1 g c (joined op a b j s t1 v w)
  kept_form op a b j s t (stop_first k e x) f h = h k (first_none op a b s k e) x
  kept_form op a b j s t (stop_second k e x) f h = let m = second_none op a b s k e in h m.kind m.is x

  -- MAX or MIN, whose test and choice are known
  module _ (op : Op) (a b : Term) (j : ℕ) (test : Test) (p : C → C → Bool)
      (chooses : (u v : C) → operation n.numbers op u v ≡ Ok (if p u v then v else u))
      (tests : (t : Store C) (u v : C) → holds n test (both_set t (j + locals_in a + locals_in b) u v) ≡ Ok (p u v))
      (ha : TermInside inside a) (hb : TermInside inside b) where
    abbrev i : ℕ
    i = j + locals_in a + locals_in b

    abbrev ra : Term
    ra = reduced local j a

    abbrev rb : Term
    rb = reduced local (j + locals_in a) b

    abbrev operands : Code
    operands = before local line j a +++ before local line (j + locals_in a) b

    abbrev choice : Code
    choice = picked local line test i ra rb

    -- the statements lead to a store in which the local has the value, or they trap
    pub data Chosen (s t : Store C) : Type 0 where
      chosen : (t1 : Store C) → Goes q n (operands +++ choice) (at t) (at t1) (3 * (locals_in a + locals_in b + 2)) → Changes inside local (Range j (locals_in a + locals_in b + 2)) t t1 → (u : C) → value n (bin op a b) s ≡ Ok u → t1 (local i) 0 ≡ u → Chosen s t
      unchosen : (k : Trap) → value n (bin op a b) s ≡ Err k → Stops q n (operands +++ choice) (at t) line → Chosen s t

    -- the second operand keeps its value where the first local is set
    rb_held : (t1 : Store C) (u : C) → value n rb (first_set t1 i u) ≡ value n rb t1
    rb_held t1 u =
        let c = set_changes inside local apart t1 i u in
        value_held n inside local b (j + locals_in a) t1 (first_set t1 i u) hb c.within (λ k r. c.others k 0 (λ m. absurd (omega (arith, r.1, m.0))))

    with_values : (s t t1 : Store C) → Goes q n operands (at t) (at t1) (3 * (locals_in a + locals_in b)) → Changes inside local (Range j (locals_in a + locals_in b)) t t1 → (u u1 v v1 : Result C Trap) → value n a s ≡ u → value n ra t1 ≡ u1 → value n b s ≡ v → value n rb t1 ≡ v1 → SameOrNone u u1 → SameOrNone v v1 → Chosen s t
    with_values s t t1 g c (Ok u) (Ok u1) (Ok v) (Ok v1) eu eu1 ev ev1 same same1 =
        let ea : value n ra t1 ≡ Ok u = eu1 ∙ ap Ok (sym same) in
        let eb : value n rb (first_set t1 i u) ≡ Ok v = rb_held t1 u ∙ ev1 ∙ ap Ok (sym same1) in
        let k = picks test i ra rb t1 u v (p u v) ea eb (tests t1 u v) in
        chosen k.after
        (goes_more q n (operands +++ choice) (at t) (at k.after) (3 * (locals_in a + locals_in b) + 4) (3 * (locals_in a + locals_in b + 2)) (omega (arith, mul-add 3 (locals_in a + locals_in b) 2))
        (goes_append q n operands choice (at t) (at t1) (at k.after) (3 * (locals_in a + locals_in b)) 4 g k.goes))
        (changes_both inside local (Range j (locals_in a + locals_in b + 2)) (Range j (locals_in a + locals_in b)) (Range i 2) t t1 k.after c k.changes
        (λ x r. (omega (arith, r.0), omega (arith, r.1))) (λ x r. (omega (arith, r.0), omega (arith, r.1))))
        (if p u v then v else u)
        ((λ z. then_ok (eu z) (λ x. then_ok (ev z) (λ y. operation n.numbers op x y))) ∙ chooses u v)
        k.holds
    with_values s t t1 g c (Ok u) (Ok u1) (Err k) (Err k1) eu eu1 ev ev1 same same1 =
        let ea : value n ra t1 ≡ Ok u1 = eu1 in
        let eb : value n rb (first_set t1 i u1) ≡ Err k1 = rb_held t1 u1 ∙ ev1 in
        unchosen k (λ z. then_ok (eu z) (λ x. then_ok (ev z) (λ y. operation n.numbers op x y)))
        (stops_after q n operands choice (at t) (at t1) line (leads_of q n operands (at t) (at t1) (3 * (locals_in a + locals_in b)) g)
        (after_assign t1 u1 ea (stops_value q n line (local (suc i)) none rb _ (at (first_set t1 i u1)) k1 eb)))
      where
        -- the first local is set, and then it traps
        after_assign : (t1 : Store C) (u1 : C) → value n ra t1 ≡ Ok u1 →
            Stops q n (step line (assign (local (suc i)) none rb) (one line (choose test (one line (assign (local i) none (var (local (suc i))))) stop))) (at (first_set t1 i u1)) line → Stops q n choice (at t1) line
        after_assign t1 u1 ea x =
            let d = step line (assign (local (suc i)) none rb) (one line (choose test (one line (assign (local i) none (var (local (suc i))))) stop)) in
            stops_after q n (one line (assign (local i) none ra)) d (at t1) (at (first_set t1 i u1)) line
            (leads_of q n (one line (assign (local i) none ra)) (at t1) (at (first_set t1 i u1)) 1
            (goes_assign q n line (local i) none ra stop (at t1) (at (first_set t1 i u1)) u1 0 0 ea refl (goes_stop q n (at (first_set t1 i u1))))) x
    with_values s t t1 g c (Ok u) (Ok u1) (Ok v) (Err k1) eu eu1 ev ev1 same same1 = absurd same1
    with_values s t t1 g c (Ok u) (Ok u1) (Err k) (Ok v1) eu eu1 ev ev1 same same1 = absurd same1
    with_values s t t1 g c (Ok u) (Err k1) v v1 eu eu1 ev ev1 same same1 = absurd same
    with_values s t t1 g c (Err k) (Ok u1) v v1 eu eu1 ev ev1 same same1 = absurd same
    with_values s t t1 g c (Err k) (Err k1) v v1 eu eu1 ev ev1 same same1 =
        unchosen k (first_none op a b s k eu)
        (stops_after q n operands choice (at t) (at t1) line (leads_of q n operands (at t) (at t1) (3 * (locals_in a + locals_in b)) g) (stops_value q n line (local i) none ra _ (at t1) k1 eu1))

    choosing : (s t : Store C) → Both a b j s t → Chosen s t
    choosing s t (come t1 g c v w) = with_values s t t1 g c (value n a s) (value n ra t1) (value n b s) (value n rb t1) refl refl refl refl v w
    choosing s t (stop_first k e x) = unchosen k (first_none op a b s k e) (stops_first q n operands choice (at t) line x)
    choosing s t (stop_second k e x) = let m = second_none op a b s k e in unchosen m.kind m.is (stops_first q n operands choice (at t) line x)

  -- what is known of MAX or MIN, where the statements before are grouped otherwise
  regrouped : (op : Op) (a b : Term) (j : ℕ) (test : Test) (p : C → C → Bool)
      (chooses : (u v : C) → operation n.numbers op u v ≡ Ok (if p u v then v else u))
      (tests : (t : Store C) (u v : C) → holds n test (both_set t (j + locals_in a + locals_in b) u v) ≡ Ok (p u v))
      (ha : TermInside inside a) (hb : TermInside inside b) (s t : Store C) →
      before local line j (bin op a b) ≡ before local line j a +++ (before local line (j + locals_in a) b +++ picked local line test (j + locals_in a + locals_in b) (reduced local j a) (reduced local (j + locals_in a) b)) →
      locals_in (bin op a b) ≡ locals_in a + locals_in b + 2 → reduced local j (bin op a b) ≡ var (local (j + locals_in a + locals_in b)) →
      Chosen op a b j test p chooses tests ha hb s t → Prefixed (bin op a b) j s t
  regrouped op a b j test p chooses tests ha hb s t code count form = go
    where
      same : (before local line j a +++ before local line (j + locals_in a) b) +++ picked local line test (j + locals_in a + locals_in b) (reduced local j a) (reduced local (j + locals_in a) b) ≡ before local line j (bin op a b)
      same = append_assoc (before local line j a) (before local line (j + locals_in a) b) _ ∙ sym code

      go : Chosen op a b j test p chooses tests ha hb s t → Prefixed (bin op a b) j s t
      go (chosen t1 g c u e h) =
          comes t1
          (subst (λ m. Goes q n (before local line j (bin op a b)) (at t) (at t1) (3 * m)) (sym count) (subst (λ z. Goes q n z (at t) (at t1) (3 * (locals_in a + locals_in b + 2))) same g))
          (subst (λ m. Changes inside local (Range j m) t t1) (sym count) c)
          (subst (λ z. SameOrNone z (value n (reduced local j (bin op a b)) t1)) (sym e)
          (subst (λ z. SameOrNone (Ok u) (value n z t1)) (sym form) (sym h)))
      go (unchosen k e x) = stops k e (subst (λ z. Stops q n z (at t) line) same x)

  -- the same of what is made of one operand's value
  pub data SameOne (a : Term) (j : ℕ) (s t : Store C) (f : C → Result C Trap) : Type 0 where
    one_comes : (t1 : Store C) → Goes q n (before local line j a) (at t) (at t1) (3 * locals_in a) → Changes inside local (Range j (locals_in a)) t t1 → SameOrNone (then_ok (value n a s) f) (then_ok (value n (reduced local j a) t1) f) → SameOne a j s t f
    one_stops : (k : Trap) → then_ok (value n a s) f ≡ Err k → Stops q n (before local line j a) (at t) line → SameOne a j s t f

  over_one : (a : Term) (j : ℕ) (s t : Store C) (f : C → Result C Trap) → Prefixed a j s t → SameOne a j s t f
  over_one a j s t f (comes t1 g c v) = one_comes t1 g c (same_then (value n a s) (value n (reduced local j a) t1) f f v (λ u. same_or_none (f u) (f u) refl))
  over_one a j s t f (stops k e x) = one_stops k (ap (λ z. then_ok z f) e) x

  negated : (a : Term) (j : ℕ) (s t : Store C) → SameOne a j s t (λ u. Ok (n.numbers.negation u)) → Prefixed (neg a) j s t
  negated a j s t (one_comes t1 g c v) = comes t1 g c v
  negated a j s t (one_stops k e x) = stops k e x

  raised : (a : Term) (m j : ℕ) (s t : Store C) → SameOne a j s t (λ u. Ok (n.numbers.raised_to u (suc m))) → Prefixed (pow a (suc m)) j s t
  raised a m j s t (one_comes t1 g c v) = comes t1 g c v
  raised a m j s t (one_stops k e x) = stops k e x

  -- a power, where the exponent is as it was
  module _ (a b : Term) (j : ℕ) (s : Store C) (hb : TermInside inside b) where
    powered : (t : Store C) → Agree s t → Prefixed a j s t → Prefixed (power_of a b) j s t
    powered t g (comes t1 l c v) =
        comes t1 l c
        (same_then (value n a s) (value n (reduced local j a) t1) _ _ v (λ u.
        same_then (value n b s) (value n b t1) _ _ (same_inside b s t1 hb (agree_changed (Range j (locals_in a)) s t t1 g c)) (λ x. same_or_none (then_ok (exponent_of (n.numbers.shown x)) (λ k. Ok (n.numbers.raised_to u k))) _ refl)))
    powered t g (stops k e x) = stops k (ap (λ z. then_ok z (λ u. then_ok (value n b s) (λ v. then_ok (exponent_of (n.numbers.shown v)) (λ k. Ok (n.numbers.raised_to u k))))) e) x

  -- ABS
  module _ (a : Term) (j : ℕ) where
    abbrev turning : Code
    turning = turned_up local line (j + locals_in a) (reduced local j a)

    with_value_of : (s t t1 : Store C) → Goes q n (before local line j a) (at t) (at t1) (3 * locals_in a) → Changes inside local (Range j (locals_in a)) t t1 → (u u1 : Result C Trap) → value n a s ≡ u → value n (reduced local j a) t1 ≡ u1 → SameOrNone u u1 → Prefixed (abs a) j s t
    with_value_of s t t1 g c (Ok u) (Ok u1) eu eu1 same =
        let k = turns (j + locals_in a) (reduced local j a) t1 u (eu1 ∙ ap Ok (sym same)) in
        comes k.after
        (goes_more q n (before local line j a +++ turning) (at t) (at k.after) (3 * locals_in a + 3) (3 * (locals_in a + 1)) (omega (arith, mul-add 3 (locals_in a) 1))
        (goes_append q n (before local line j a) turning (at t) (at t1) (at k.after) (3 * locals_in a) 3 g k.goes))
        (changes_both inside local (Range j (locals_in a + 1)) (Range j (locals_in a)) (Range (j + locals_in a) 1) t t1 k.after c k.changes
        (λ x r. (omega (arith, r.0), omega (arith, r.1))) (λ x r. (omega (arith, r.0), omega (arith, r.1))))
        (subst (λ z. SameOrNone (then_ok z (λ x. Ok (absolute n.numbers x))) (Ok (k.after (local (j + locals_in a)) 0))) (sym eu) (sym k.holds))
    with_value_of s t t1 g c (Ok u) (Err k1) eu eu1 same = absurd same
    with_value_of s t t1 g c (Err k) (Ok u1) eu eu1 same = absurd same
    with_value_of s t t1 g c (Err k) (Err k1) eu eu1 same =
        stops k (ap (λ z. then_ok z (λ x. Ok (absolute n.numbers x))) eu)
        (stops_after q n (before local line j a) turning (at t) (at t1) line (leads_of q n (before local line j a) (at t) (at t1) (3 * locals_in a) g) (stops_value q n line (local (j + locals_in a)) none (reduced local j a) _ (at t1) k1 eu1))

    turned : (s t : Store C) → Prefixed a j s t → Prefixed (abs a) j s t
    turned s t (comes t1 g c v) = with_value_of s t t1 g c (value n a s) (value n (reduced local j a) t1) refl refl v
    turned s t (stops k e x) = stops k (ap (λ z. then_ok z (λ u. Ok (absolute n.numbers u))) e) (stops_first q n (before local line j a) turning (at t) line x)

  -- after the statements before it, the reduced expression has the value of the expression; or they trap where this has none
  pub prefixed : (e : Term) (j : ℕ) (s t : Store C) → TermInside inside e → Agree s t → Prefixed e j s t
  prefixed (lit z) j s t h g = comes t (goes_stop q n (at t)) (changes_none inside local (Range j 0) t) refl
  prefixed (var x) j s t h g = comes t (goes_stop q n (at t)) (changes_none inside local (Range j 0) t) (as_it_was (var x) s t h g)
  prefixed (elem x subs) j s t h g = comes t (goes_stop q n (at t)) (changes_none inside local (Range j 0) t) (as_it_was (elem x subs) s t h g)
  prefixed (neg a) j s t h g = negated a j s t (over_one a j s t (λ u. Ok (n.numbers.negation u)) (prefixed a j s t h g))
  prefixed (bin plus a b) j s t h g =
      kept_form plus a b j s t
      (both a b j s t (inside_first inside plus a b h) g (prefixed a j s t (inside_first inside plus a b h) g) (λ t1 g1. prefixed b (j + locals_in a) s t1 (inside_second inside plus a b h) g1))
      (λ t1 l c v. comes t1 l c v) (λ k e x. stops k e x)
  prefixed (bin minus a b) j s t h g =
      kept_form minus a b j s t
      (both a b j s t (inside_first inside minus a b h) g (prefixed a j s t (inside_first inside minus a b h) g) (λ t1 g1. prefixed b (j + locals_in a) s t1 (inside_second inside minus a b h) g1))
      (λ t1 l c v. comes t1 l c v) (λ k e x. stops k e x)
  prefixed (bin times a b) j s t h g =
      kept_form times a b j s t
      (both a b j s t (inside_first inside times a b h) g (prefixed a j s t (inside_first inside times a b h) g) (λ t1 g1. prefixed b (j + locals_in a) s t1 (inside_second inside times a b h) g1))
      (λ t1 l c v. comes t1 l c v) (λ k e x. stops k e x)
  prefixed (bin quot a b) j s t h g = comes t (goes_stop q n (at t)) (changes_none inside local (Range j 0) t) (as_it_was (bin quot a b) s t h g)
  prefixed (bin modulo a b) j s t h g = comes t (goes_stop q n (at t)) (changes_none inside local (Range j 0) t) (as_it_was (bin modulo a b) s t h g)
  prefixed (bin greater a b) j s t h g =
      let i = j + locals_in a + locals_in b in
      let test = compare is_less (var (local i)) (var (local (suc i))) in
      let p : C → C → Bool = λ u v. int_lt (n.numbers.shown u) (n.numbers.shown v) in
      let ha = inside_first inside greater a b h in
      let hb = inside_second inside greater a b h in
      let tests : (t : Store C) (u v : C) → holds n test (both_set t i u v) ≡ Ok (p u v) = λ t u v k. Ok (int_lt (n.numbers.shown (first_holds t i u v k)) (n.numbers.shown (second_holds t i u v k))) in
      regrouped greater a b j test p (λ u v. refl) tests ha hb s t refl refl refl
      (choosing greater a b j test p (λ u v. refl) tests ha hb s t
      (both a b j s t ha g (prefixed a j s t ha g) (λ t1 g1. prefixed b (j + locals_in a) s t1 hb g1)))
  prefixed (bin lesser a b) j s t h g =
      let i = j + locals_in a + locals_in b in
      let test = compare is_less (var (local (suc i))) (var (local i)) in
      let p : C → C → Bool = λ u v. int_lt (n.numbers.shown v) (n.numbers.shown u) in
      let ha = inside_first inside lesser a b h in
      let hb = inside_second inside lesser a b h in
      let tests : (t : Store C) (u v : C) → holds n test (both_set t i u v) ≡ Ok (p u v) = λ t u v k. Ok (int_lt (n.numbers.shown (second_holds t i u v k)) (n.numbers.shown (first_holds t i u v k))) in
      regrouped lesser a b j test p (λ u v. refl) tests ha hb s t refl refl refl
      (choosing lesser a b j test p (λ u v. refl) tests ha hb s t
      (both a b j s t ha g (prefixed a j s t ha g) (λ t1 g1. prefixed b (j + locals_in a) s t1 hb g1)))
  prefixed (pow a zero) j s t h g = comes t (goes_stop q n (at t)) (changes_none inside local (Range j 0) t) (as_it_was (pow a zero) s t h g)
  prefixed (pow a (suc m)) j s t h g = raised a m j s t (over_one a j s t (λ u. Ok (n.numbers.raised_to u (suc m))) (prefixed a j s t h g))
  prefixed (power_of a b) j s t h g = powered a b j s (power_second inside a b h) t g (prefixed a j s t (power_first inside a b h) g)
  prefixed (abs a) j s t h g = turned a j s t (prefixed a j s t h g)
