-- A term that isn't active has neither temporaries nor parts.
use Rattle.std.proofs.Common.{◌≡◌, ℕ, zero, suc, Bool, true, false, ◌+◌, refl, sym, ap, ◌∙◌}
use Rattle.std.specs.Prelude.{◌||◌, ◌&&◌, pos}
use Rattle.adj_tree.specs.Code.{plus, minus, times, quot, modulo, greater, lesser, Term, lit, var, elem, neg, bin, pow, power_of, abs, Code, stop}
use Rattle.def_meaning.specs.Append.{◌+++◌}
use Rattle.def_names.specs.Numbers.{Vars}
use Rattle.def_names.proofs.Variables.{or_false}
use Rattle.def_sweep.specs.Marked.{is_compound, count_of, own_or, own_code}
use Rattle.def_sweep.specs.Occurrences.{is_active_where}
use Rattle.def_sweep.specs.AdjointOf.{has_own_where, temps_in_where, shrunk_where, temps_where}
use Rattle.def_tangent.specs.TangentOf.{parts_in_where, tangent_term, sum_of, difference_of, power_factor, parts_where, own_part}

pub record IsPassive (on : Vars) (t : Term) : Type 0 where
  pub temps : temps_in_where on t ≡ 0
  pub code : (j line : ℕ) → temps_where on t j line ≡ stop
  pub parts : (k j line : ℕ) → parts_where on t k j line ≡ stop

never : (a : Bool) → (a && false) ≡ false
never true = refl
never false = refl

none_own : (on : Vars) (a b : Term) → is_active_where on b ≡ false → has_own_where on a b ≡ false
none_own on a b h = ap (λ z. is_compound a && z) h ∙ never (is_compound a)

nothing : (c d : Code) → c ≡ stop → d ≡ stop → c +++ d ≡ stop
nothing c d h g = λ i. h i +++ g i

no_own : (b : Bool) (line j : ℕ) (e : Term) → b ≡ false → own_code b line j e ≡ stop
no_own b line j e h = ap (λ z. own_code z line j e) h

no_part : (b : Bool) (line m : ℕ) (e : Term) → b ≡ false → own_part b line m e ≡ stop
no_part b line m e h = ap (λ z. own_part z line m e) h

module _ (on : Vars) where
  pub passive : (t : Term) → is_active_where on t ≡ false → IsPassive on t
  passive (lit z) h = record { temps = refl; code = λ j line. refl; parts = λ k j line. refl }
  passive (var x) h = record { temps = refl; code = λ j line. refl; parts = λ k j line. refl }
  passive (elem x subs) h = record { temps = refl; code = λ j line. refl; parts = λ k j line. refl }
  passive (abs a) h = record { temps = refl; code = λ j line. refl; parts = λ k j line. refl }
  passive (neg a) h =
      let p = passive a h in
      record {
        temps = p.temps;
        code = p.code;
        parts = λ k j line.
            let e = neg (tangent_term on a k) in
            nothing (parts_where on a k j line) (own_part (is_active_where on a) line (k + parts_in_where on a) e) (p.parts k j line) (no_part (is_active_where on a) line (k + parts_in_where on a) e h);
      }
  passive (bin plus a b) h =
      let o = or_false (is_active_where on a) (is_active_where on b) h in
      let p = passive a o.0 in
      let q = passive b o.1 in
      record {
        temps = λ i. p.temps i + q.temps i;
        code = λ j line. nothing (temps_where on a j line) (temps_where on b (j + temps_in_where on a) line) (p.code j line) (q.code (j + temps_in_where on a) line);
        parts = λ k j line.
            let m = k + parts_in_where on a in
            let n = j + temps_in_where on a in
            let e = sum_of (is_active_where on a) (is_active_where on b) (tangent_term on a k) (tangent_term on b m) in
            let last = own_part (is_active_where on a || is_active_where on b) line (m + parts_in_where on b) e in
            nothing (parts_where on a k j line) (parts_where on b m n line +++ last) (p.parts k j line) (nothing (parts_where on b m n line) last (q.parts m n line) (no_part (is_active_where on a || is_active_where on b) line (m + parts_in_where on b) e h));
      }
  passive (bin minus a b) h =
      let o = or_false (is_active_where on a) (is_active_where on b) h in
      let p = passive a o.0 in
      let q = passive b o.1 in
      record {
        temps = λ i. p.temps i + q.temps i;
        code = λ j line. nothing (temps_where on a j line) (temps_where on b (j + temps_in_where on a) line) (p.code j line) (q.code (j + temps_in_where on a) line);
        parts = λ k j line.
            let m = k + parts_in_where on a in
            let n = j + temps_in_where on a in
            let e = difference_of (is_active_where on a) (is_active_where on b) (tangent_term on a k) (tangent_term on b m) in
            let last = own_part (is_active_where on a || is_active_where on b) line (m + parts_in_where on b) e in
            nothing (parts_where on a k j line) (parts_where on b m n line +++ last) (p.parts k j line) (nothing (parts_where on b m n line) last (q.parts m n line) (no_part (is_active_where on a || is_active_where on b) line (m + parts_in_where on b) e h));
      }
  passive (bin times a b) h =
      let o = or_false (is_active_where on a) (is_active_where on b) h in
      let p = passive a o.0 in
      let q = passive b o.1 in
      let f = none_own on a b o.1 in
      let g = none_own on b a o.0 in
      record {
        temps = λ i. p.temps i + count_of (f i) + (q.temps i + count_of (g i));
        code = λ j line.
            let n = j + temps_in_where on a + count_of (has_own_where on a b) in
            let own = own_code (has_own_where on a b) line (j + temps_in_where on a) (shrunk_where on a j) in
            let last = own_code (has_own_where on b a) line (n + temps_in_where on b) (shrunk_where on b n) in
            nothing (temps_where on a j line) (own +++ (temps_where on b n line +++ last)) (p.code j line)
            (nothing own (temps_where on b n line +++ last) (no_own (has_own_where on a b) line (j + temps_in_where on a) (shrunk_where on a j) f)
            (nothing (temps_where on b n line) last (q.code n line) (no_own (has_own_where on b a) line (n + temps_in_where on b) (shrunk_where on b n) g)));
        parts = λ k j line.
            let m = k + parts_in_where on a in
            let n = j + temps_in_where on a + count_of (has_own_where on a b) in
            let x = bin times (tangent_term on a k) (own_or (has_own_where on b a) (n + temps_in_where on b) b) in
            let y = bin times (own_or (has_own_where on a b) (j + temps_in_where on a) a) (tangent_term on b m) in
            let e = sum_of (is_active_where on a) (is_active_where on b) x y in
            let last = own_part (is_active_where on a || is_active_where on b) line (m + parts_in_where on b) e in
            nothing (parts_where on a k j line) (parts_where on b m n line +++ last) (p.parts k j line) (nothing (parts_where on b m n line) last (q.parts m n line) (no_part (is_active_where on a || is_active_where on b) line (m + parts_in_where on b) e h));
      }
  passive (bin quot a b) h = record { temps = refl; code = λ j line. refl; parts = λ k j line. refl }
  passive (bin modulo a b) h = record { temps = refl; code = λ j line. refl; parts = λ k j line. refl }
  passive (bin greater a b) h = record { temps = refl; code = λ j line. refl; parts = λ k j line. refl }
  passive (bin lesser a b) h = record { temps = refl; code = λ j line. refl; parts = λ k j line. refl }
  passive (pow a zero) h = record { temps = refl; code = λ j line. refl; parts = λ k j line. refl }
  passive (pow a (suc zero)) h =
      let p = passive a h in
      record {
        temps = p.temps;
        code = p.code;
        parts = λ k j line. nothing (parts_where on a k j line) (own_part (is_active_where on a) line (k + parts_in_where on a) (tangent_term on a k)) (p.parts k j line) (no_part (is_active_where on a) line (k + parts_in_where on a) (tangent_term on a k) h);
      }
  passive (pow a (suc (suc n))) h =
      let p = passive a h in
      let f = none_own on a a h in
      record {
        temps = λ i. p.temps i + count_of (f i);
        code = λ j line. nothing (temps_where on a j line) (own_code (has_own_where on a a) line (j + temps_in_where on a) (shrunk_where on a j)) (p.code j line) (no_own (has_own_where on a a) line (j + temps_in_where on a) (shrunk_where on a j) f);
        parts = λ k j line.
            let e = bin times (bin times (lit (pos (suc (suc n)))) (pow (own_or (has_own_where on a a) (j + temps_in_where on a) a) (suc n))) (tangent_term on a k) in
            nothing (parts_where on a k j line) (own_part (is_active_where on a) line (k + parts_in_where on a) e) (p.parts k j line) (no_part (is_active_where on a) line (k + parts_in_where on a) e h);
      }
  passive (power_of a b) h =
      let p = passive a h in
      let f = none_own on a a h in
      let g = none_own on b a h in
      record {
        temps = λ i. p.temps i + count_of (f i) + count_of (g i);
        code = λ j line.
            let own = own_code (has_own_where on a a) line (j + temps_in_where on a) (shrunk_where on a j) in
            let last = own_code (has_own_where on b a) line (j + temps_in_where on a + count_of (has_own_where on a a)) b in
            nothing (temps_where on a j line) (own +++ last) (p.code j line)
            (nothing own last (no_own (has_own_where on a a) line (j + temps_in_where on a) (shrunk_where on a j) f) (no_own (has_own_where on b a) line (j + temps_in_where on a + count_of (has_own_where on a a)) b g));
        parts = λ k j line.
            let e = bin times (power_factor (own_or (has_own_where on a a) (j + temps_in_where on a) a) (own_or (has_own_where on b a) (j + temps_in_where on a + count_of (has_own_where on a a)) b)) (tangent_term on a k) in
            nothing (parts_where on a k j line) (own_part (is_active_where on a) line (k + parts_in_where on a) e) (p.parts k j line) (no_part (is_active_where on a) line (k + parts_in_where on a) e h);
      }
