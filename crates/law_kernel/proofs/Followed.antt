-- Runs from inputs whose calls go as deep as they have statements: where the one follows the other by depth, it means the same.
use Rattle.std.proofs.Common.{◌≡◌, ℕ, ◌+◌, ◌-◌, ◌*◌, ◌≤◌, refl, sym, ap, ◌∙◌, subst, arith, mul_assoc, mul-le-mul_left}
use Rattle.std.specs.Prelude.{List, Option}
use Rattle.adj_tree.specs.Code.{Procedure}
use Rattle.def_meaning.specs.Trap.{Trap}
use Rattle.def_meaning.specs.Numbers.{Numbers}
use Rattle.def_meaning.specs.Units.{Slot, run_unit}
use Rattle.def_meaning.specs.Scene.{Stand, IsMore, Outcome, Done, Trapped, More, Full, then_do}
use Rattle.law_meaning.specs.Follows.{Runs, Follows, both_more, both_done, both_trap, both_full, BothDone, BothTrap}
use Rattle.law_meaning.proofs.Verdicts.{Ending, finished, stopped, filled, with_left, Verdict, goes_on, settled}
use Rattle.law_meaning.proofs.Costs.{spent, ends_alike}
use Rattle.law_meaning.proofs.Inversions.{Halves, then_done}
use Rattle.law_kernel.specs.Means.{Traps, TrapsAt, DoneToo, WasDone, MeansAlike, MeansTheSame}

-- ---- runs with more statements

-- a run that doesn't go on is the same with deeper calls
same_at : {B : Type 0} (f g : Runs B) (k : ℕ) → Verdict f g k → (IsMore (f k) → ⊥) → g k ≡ f k
same_at f g k (goes_on m) h = absurd (h (m k (omega arith)))
same_at f g k (settled s) h = ap g s.is ∙ s.later s.rest ∙ sym (s.same s.rest) ∙ ap f (sym s.is)

-- a trap stays a trap
trap_stays : {B : Type 0} (f : Runs B) (k m : ℕ) (t : Trap) (line : ℕ) (v : Stand) → Verdict f f k → f k ≡ Trapped t line v → f (k + m) ≡ Trapped t line v
trap_stays f k m t line v (goes_on n) h = absurd (subst IsMore h (n k (omega arith)))
trap_stays f k m t line v (settled s) h = go s.ending refl
  where
    came : (e : Ending _) → s.ending ≡ e → with_left e s.rest ≡ Trapped t line v
    came e is = sym (ap f s.is ∙ s.same s.rest ∙ ap (λ z. with_left z s.rest) is) ∙ h

    more : k + m ≡ s.cost + (s.rest + m)
    more = omega (arith, s.is)

    go : (e : Ending _) → s.ending ≡ e → f (k + m) ≡ Trapped t line v
    go (finished c) is = absurd (let e = came (finished c) is in cc)
    go (stopped t1 l1 v1) is = ap f more ∙ s.same (s.rest + m) ∙ ap (λ z. with_left z (s.rest + m)) is ∙ came (stopped t1 l1 v1) is
    go (filled v1) is = absurd (let e = came (filled v1) is in cc)

-- what is done stays done
done_stays : {B : Type 0} (f : Runs B) (k i m : ℕ) (b : B) → Verdict f f k → f k ≡ Done b i → f (k + m) ≡ Done b (i + m)
done_stays f k i m b v h =
    let w = spent f f b k i v h in
    let e : k + m ≡ w.cost + (i + m) = omega (arith, w.is) in
    ap f e ∙ w.later (i + m)

-- a run that ended is the same with more statements
abbrev pub StaysEnded : {A : Type 0} → Runs A → Type 0
StaysEnded f = (k m : ℕ) → k ≤ m → (IsMore (f k) → ⊥) → f m ≡ f k

-- a whole run with k statements: calls go k deep, and the end tells what was used
abbrev pub whole_run : {A O : Type 0} → (ℕ → Runs A) → (A → O) → Runs O
whole_run f out k = then_do (f k k) (λ a left. Done (out a) (k - left))

module _ {A B O : Type 0} (R : A → B → Type 0) (Q : O → O → Type 0) (w : ℕ) (f : ℕ → Runs A) (g : ℕ → Runs B) (first : A → O) (second : B → O)
    (deep : ℕ → ℕ) (as_deep : (k : ℕ) → k ≤ deep k) (verdict : (d e : ℕ) → d ≤ e → (k : ℕ) → Verdict (g d) (g e) k) (first_ended : StaysEnded (whole_run f first)) (second_ended : StaysEnded (whole_run g second))
    (follows : (k : ℕ) → Follows R w 0 (f k) (g (deep k)) k) (related : (a : A) (b : B) → R a b → Q (first a) (second b)) where
  -- ---- forth

  -- the second is done where the first is
  done_at : (k : ℕ) (d : BothDone R w 0 (f k) (g (deep k)) k) → whole_run g second (d.cost + deep k) ≡ Done (second d.second) d.cost
  done_at k d =
      let s = spent (g (deep k)) (g (d.cost + deep k)) d.second (d.cost + 0) 0 (verdict (deep k) (d.cost + deep k) (omega arith) (d.cost + 0)) (d.by 0) in
      let e : d.cost + deep k ≡ s.cost + deep k = omega (arith, s.is) in
      let left : d.cost + deep k - deep k ≡ d.cost = omega arith in
      ap (λ z. then_do z (λ b i. Done (second b) (d.cost + deep k - i))) (ap (g (d.cost + deep k)) e ∙ s.later (deep k)) ∙ ap (Done (second d.second)) left

  -- and traps where the first does
  trap_at : (k : ℕ) (d : BothTrap (f k) (g (deep k)) k) → whole_run g second (d.cost + deep k) ≡ Trapped d.other d.line d.stands_there
  trap_at k d =
      ap (λ z. then_do z (λ b i. Done (second b) (d.cost + deep k - i)))
      (same_at (g (deep k)) (g (d.cost + deep k)) (d.cost + deep k) (verdict (deep k) (d.cost + deep k) (omega arith) (d.cost + deep k)) (λ e. subst IsMore (d.by (deep k)) e) ∙ d.by (deep k))

  done_forth : (k used : ℕ) (o : O) → whole_run f first k ≡ Done o used → DoneToo Q (whole_run g second) o w used
  done_forth k used o h = go (follows k)
    where
      p : Halves (f k k) (λ a left. Done (first a) (k - left)) o used
      p = then_done (f k k) (λ a left. Done (first a) (k - left)) o used h

      go : Follows R w 0 (f k) (g (deep k)) k → DoneToo Q (whole_run g second) o w used
      go (both_more e m) = absurd (subst IsMore p.first e)
      go (both_trap d) = absurd (let z : Trapped d.kind d.line d.stands ≡ Done p.scene p.left = sym d.done ∙ p.first in cc)
      go (both_full d) = absurd (let z : Full d.stands ≡ Done p.scene p.left = sym d.done ∙ p.first in cc)
      go (both_done d) =
          let z : Done d.first d.left ≡ Done p.scene p.left = sym d.done ∙ p.first in
          let same : d.first ≡ p.scene = cc in
          let left : d.left ≡ p.left = cc in
          let y : Done (first p.scene) (k - p.left) ≡ Done o used = p.second in
          let outs : first p.scene ≡ o = cc in
          let spends : k - p.left ≡ used = cc in
          let spent_is : d.spent ≡ used = omega (arith, d.is, left, spends) in
          let at = done_at k d in
          record {
            other = second d.second;
            ends = record { used = d.cost; enough = d.cost + deep k; runs = λ m le. second_ended (d.cost + deep k) m le (λ e. subst IsMore at e) ∙ at };
            least = omega (arith, d.least, spent_is);
            most = let l : w * d.spent ≡ w * used = ap (λ v. w * v) spent_is in omega (arith, d.most, l);
            related = subst (λ v. Q v (second d.second)) (ap first same ∙ outs) (related d.first d.second d.related);
          }

  traps_forth : (k line : ℕ) (kind : Trap) (stands : Stand) → whole_run f first k ≡ Trapped kind line stands → Traps (whole_run g second) line
  traps_forth k line kind stands h = by_run (f k k) refl h (follows k)
    where
      by_run : (o : Outcome A) → f k k ≡ o → then_do o (λ a left. Done (first a) (k - left)) ≡ Trapped kind line stands → Follows R w 0 (f k) (g (deep k)) k → Traps (whole_run g second) line
      by_run (Done s left) e r h = absurd cc
      by_run (More v) e r h = absurd cc
      by_run (Full v) e r h = absurd cc
      by_run (Trapped t l v) e r (both_more e1 m) = absurd (subst IsMore e e1)
      by_run (Trapped t l v) e r (both_done d) = absurd (let z : Done d.first d.left ≡ Trapped t l v = sym d.done ∙ e in cc)
      by_run (Trapped t l v) e r (both_full d) = absurd (let z : Full d.stands ≡ Trapped t l v = sym d.done ∙ e in cc)
      by_run (Trapped t l v) e r (both_trap d) =
          let z : Trapped d.kind d.line d.stands ≡ Trapped t l v = sym d.done ∙ e in
          let l1 : d.line ≡ l = cc in
          let l2 : l ≡ line = cc in
          let at = trap_at k d in
          record {
            kind = d.other;
            stands = d.stands_there;
            enough = d.cost + deep k;
            runs = λ m le. second_ended (d.cost + deep k) m le (λ e. subst IsMore at e) ∙ at ∙ ap (λ z. Trapped d.other z d.stands_there) (l1 ∙ l2);
          }

  -- ---- and back

  self : (k j : ℕ) → Verdict (g (deep k)) (g (deep k)) j
  self k j = verdict (deep k) (deep k) (omega arith) j

  -- an end with calls k deep is one with deeper calls
  deeper : (k : ℕ) (o : Outcome B) → g k k ≡ o → (IsMore o → ⊥) → g (deep k) k ≡ o
  deeper k o h ends = same_at (g k) (g (deep k)) k (verdict k (deep k) (as_deep k) k) (λ e. ends (subst IsMore h e)) ∙ h

  done_back : (k used : ℕ) (o : O) → whole_run g second k ≡ Done o used → WasDone Q (whole_run f first) o
  done_back k used o h = go (follows k)
    where
      p : Halves (g k k) (λ b left. Done (second b) (k - left)) o used
      p = then_done (g k k) (λ b left. Done (second b) (k - left)) o used h

      there : g (deep k) k ≡ Done p.scene p.left
      there = deeper k (Done p.scene p.left) p.first (λ e. e)

      stays : (m : ℕ) → g (deep k) (k + m) ≡ Done p.scene (p.left + m)
      stays m = done_stays (g (deep k)) k p.left m p.scene (self k k) there

      go : Follows R w 0 (f k) (g (deep k)) k → WasDone Q (whole_run f first) o
      go (both_more e m) = absurd (subst IsMore there (m k (omega arith)))
      go (both_trap d) = absurd (let e : d.cost + k ≡ k + d.cost = omega arith in let z : Trapped d.other d.line d.stands_there ≡ Done p.scene (p.left + d.cost) = sym (d.by k) ∙ ap (g (deep k)) e ∙ stays d.cost in cc)
      go (both_full d) = absurd (let e : d.cost + k ≡ k + d.cost = omega arith in let z : Full d.stands_there ≡ Done p.scene (p.left + d.cost) = sym (d.by k) ∙ ap (g (deep k)) e ∙ stays d.cost in cc)
      go (both_done d) =
          let e : d.cost + k ≡ k + d.cost = omega arith in
          let z : Done d.second k ≡ Done p.scene (p.left + d.cost) = sym (d.by k) ∙ ap (g (deep k)) e ∙ stays d.cost in
          let same : d.second ≡ p.scene = cc in
          let y : Done (second p.scene) (k - p.left) ≡ Done o used = p.second in
          let outs : second p.scene ≡ o = cc in
          let is : whole_run f first k ≡ Done (first d.first) (k - d.left) = ap (λ o. then_do o (λ a left. Done (first a) (k - left))) d.done in
          record {
            first = first d.first;
            ends = record { used = k - d.left; enough = k; runs = λ m le. first_ended k m le (λ e. subst IsMore is e) ∙ is };
            related = subst (Q (first d.first)) (ap second same ∙ outs) (related d.first d.second d.related);
          }

  traps_back : (k line : ℕ) (kind : Trap) (stands : Stand) → whole_run g second k ≡ Trapped kind line stands → TrapsAt (whole_run f first) k line
  traps_back k line kind stands h = by_run (g k k) refl h (follows k)
    where
      by_run : (o : Outcome B) → g k k ≡ o → then_do o (λ b left. Done (second b) (k - left)) ≡ Trapped kind line stands → Follows R w 0 (f k) (g (deep k)) k → TrapsAt (whole_run f first) k line
      by_run (Done s left) e r h = absurd cc
      by_run (More v) e r h = absurd cc
      by_run (Full v) e r h = absurd cc
      by_run (Trapped t l v) e0 r (both_more e1 m) = absurd (subst IsMore (deeper k (Trapped t l v) e0 (λ e. e)) (m k (omega arith)))
      by_run (Trapped t l v) e0 r (both_done d) =
          absurd (let e1 : d.cost + k ≡ k + d.cost = omega arith in let z : Done d.second k ≡ Trapped t l v = sym (d.by k) ∙ ap (g (deep k)) e1 ∙ trap_stays (g (deep k)) k d.cost t l v (self k k) (deeper k (Trapped t l v) e0 (λ e. e)) in cc)
      by_run (Trapped t l v) e0 r (both_full d) =
          absurd (let e1 : d.cost + k ≡ k + d.cost = omega arith in let z : Full d.stands_there ≡ Trapped t l v = sym (d.by k) ∙ ap (g (deep k)) e1 ∙ trap_stays (g (deep k)) k d.cost t l v (self k k) (deeper k (Trapped t l v) e0 (λ e. e)) in cc)
      by_run (Trapped t l v) e0 r (both_trap d) =
          let e1 : d.cost + k ≡ k + d.cost = omega arith in
          let z : Trapped d.other d.line d.stands_there ≡ Trapped t l v = sym (d.by k) ∙ ap (g (deep k)) e1 ∙ trap_stays (g (deep k)) k d.cost t l v (self k k) (deeper k (Trapped t l v) e0 (λ e. e)) in
          let l1 : d.line ≡ l = cc in
          let l2 : l ≡ line = cc in
          record { kind = d.kind; stands = d.stands; is = ap (λ o. then_do o (λ a left. Done (first a) (k - left))) d.done ∙ ap (λ z. Trapped d.kind z d.stands) (l1 ∙ l2) }

  -- so the second means what the first means
  pub means_followed : MeansAlike Q (whole_run f first) (whole_run g second) w
  means_followed = record { done = done_forth; traps = traps_forth; done_back = done_back; traps_back = traps_back }

-- one after another
pub means_then : {A : Type 0} (Q : A → A → Type 0) (f g h : Runs A) (w v : ℕ) → MeansAlike Q f g w → MeansTheSame g h v → MeansAlike Q f h (v * w)
means_then Q f g h w v a b = record {
  done = λ k used o e.
      let x = a.done k used o e in
      let y = b.done x.ends.enough x.ends.used x.other (x.ends.runs x.ends.enough (omega arith)) in
      record {
        other = y.other;
        ends = y.ends;
        least = omega (arith, x.least, y.least);
        most = omega (arith, y.most, mul-le-mul_left v x.most, mul_assoc v w used);
        related = subst (Q o) y.related x.related;
      };
  traps = λ k line kind stands e. let x = a.traps k line kind stands e in b.traps x.enough line x.kind x.stands (x.runs x.enough (omega arith));
  done_back = λ k used o e.
      let y = b.done_back k used o e in
      let x = a.done_back y.ends.enough y.ends.used y.first (y.ends.runs y.ends.enough (omega arith)) in
      record { first = x.first; ends = x.ends; related = subst (Q x.first) y.related x.related };
  traps_back = λ k line kind stands e. let y = b.traps_back k line kind stands e in a.traps_back k line y.kind y.stands y.is;
}

-- a unit's run that ended is the same with more statements
pub stays_ended : {C : Type 0} (n : Numbers C) (units : List Procedure) (u : Procedure) (input : List (Slot C)) (tape : List C) (room : Option ℕ) → StaysEnded (run_unit n units u input tape room)
stays_ended n units u input tape room k m le h = let e : m ≡ k + (m - k) = omega (arith, le) in ap (run_unit n units u input tape room) e ∙ ends_alike n units u input tape room k (m - k) h
