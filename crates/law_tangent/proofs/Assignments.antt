-- An assignment and what stands before it: the scene that held the dual run's before them holds it after them.
use Rattle.std.proofs.Common.{◌≡◌, ℕ, zero, suc, Bool, true, false, List, refl, sym, ap, ◌∙◌, if◌then◌else◌}
use Rattle.std.specs.Prelude.{ℤ, pos, Ok, ◌==◌, ◌&&◌}
use Rattle.adj_tree.specs.Code.{Var, plain, shadow, name_eq, plus, minus, times, quot, modulo, greater, lesser, Term, lit, var, elem, neg, bin, pow, power_of, abs, Terms, assign, Code, stop}
use Rattle.def_meaning.specs.Append.{◌+++◌, one}
use Rattle.def_meaning.specs.Store.{Shape, Store, set}
use Rattle.def_meaning.specs.Value.{value}
use Rattle.def_meaning.specs.Run.{Calls}
use Rattle.law_meaning.specs.Leads.{Leads}
use Rattle.law_meaning.proofs.Leadings.{leads_stop, leads_append, leads_assign}
use Rattle.def_names.specs.Numbers.{Vars}
use Rattle.def_sweep.specs.Marked.{code_if}
use Rattle.law_sweep.specs.Pairs.{Words, SamePlain, on_words}
use Rattle.law_sweep.specs.Scenes.{Course, scene}
use Rattle.def_sweep.specs.Occurrences.{is_active_where}
use Rattle.def_sweep.specs.AdjointOf.{temps_where}
use Rattle.law_sweep.proofs.Terms.{cell_in, tan, IsDefined}
use Rattle.law_sweep.proofs.TermUses.{IsOver, AreText, over_treated, defined_same, IsUsable}
use Rattle.law_sweep.proofs.TempsOf.{temps_made}
use Rattle.law_sweep.proofs.TurnedOf.{HasTarget, target_is, target_same}
use Rattle.def_tangent.specs.TangentOf.{tangent_term, parts_where, before_assignment}
use Rattle.law_tangent.specs.Bears.{AreWords, OnlyOn, HasTangents}
use Rattle.law_tangent.proofs.Tangents.{tan-inactive}
use Rattle.law_tangent.proofs.Parts.{parts_made}

-- the values that are used are defined where the term is
usable_of : (sh : Var → Shape) (on : Vars) (vars : List (List ℕ)) (e : Term) (s : Store ℤ) → IsOver vars e → IsDefined sh e s → IsUsable sh on e s
usable_of sh on vars (lit z) s o d = tt
usable_of sh on vars (var x) s o d = tt
usable_of sh on vars (elem x subs) s o d = λ a. d
usable_of sh on vars (neg a) s o d = usable_of sh on vars a s o d
usable_of sh on vars (bin plus a b) s o d = (usable_of sh on vars a s o.1.0 d.1.0, usable_of sh on vars b s o.1.1 d.1.1)
usable_of sh on vars (bin minus a b) s o d = (usable_of sh on vars a s o.1.0 d.1.0, usable_of sh on vars b s o.1.1 d.1.1)
usable_of sh on vars (bin times a b) s o d = ((λ w. d.1.1, λ w. d.1.0), (usable_of sh on vars a s o.1.0 d.1.0, usable_of sh on vars b s o.1.1 d.1.1))
usable_of sh on vars (bin quot a b) s o d = tt
usable_of sh on vars (bin modulo a b) s o d = tt
usable_of sh on vars (bin greater a b) s o d = tt
usable_of sh on vars (bin lesser a b) s o d = tt
usable_of sh on vars (pow a zero) s o d = tt
usable_of sh on vars (pow a (suc zero)) s o d = usable_of sh on vars a s o d
usable_of sh on vars (pow a (suc (suc k))) s o d = (λ w. d, usable_of sh on vars a s o d)
usable_of sh on vars (power_of a b) s o d = (λ w. d, usable_of sh on vars a s o.0 d.1.0)
usable_of sh on vars (abs a) s o d = tt

-- what stands before an assignment that carries a tangent
pub record Prepares (q : Calls ℤ) (sh : Var → Shape) (level : ℕ) (base : Course) (code : Code) (x : List ℕ) (c : ℕ) (z : ℤ) (s : Store ℤ) (t : List ℤ) : Type 0 where
  pub after : Store ℤ
  pub runs : Leads q (on_words sh level) code (scene base s t) (scene base after t)
  pub plains : SamePlain s after
  -- the target's tangent is set, and no other
  pub shadows : (y : List ℕ) (j : ℕ) → after (shadow y) j ≡ (if name_eq y x && (j == c) then z else s (shadow y) j)

module _ (on : Vars) (q : Calls ℤ) (sh : Var → Shape) (level : ℕ) (base : Course) (vars : List (List ℕ)) (u : Store ℤ) (y : Words) (are : AreWords y) (only : OnlyOn sh on y) (shapes : (x : List ℕ) → on (plain x) ≡ true → sh (shadow x) ≡ sh (plain x)) where
  pub prepares : (x : List ℕ) (subs : Terms) (e : Term) (line : ℕ) (s : Store ℤ) (t : List ℤ) → on (plain x) ≡ true → AreText subs → HasTarget sh (plain x) subs u → IsOver vars e → IsDefined sh e u → SamePlain u s → HasTangents on y s → Prepares q sh level base (before_assignment on x subs e line) x (cell_in sh (plain x) subs u) (tan sh e u y) s t
  prepares x subs e line s t there st tg o d p h = go (is_active_where on e) refl
    where
      c : ℕ
      c = cell_in sh (plain x) subs u

      z : ℤ
      z = tan sh e u y

      -- the target's tangent
      last : (b : Bool) (s1 : Store ℤ) → SamePlain u s1 → value (on_words sh level) (if b then tangent_term on e 1 else lit (pos 0)) s1 ≡ Ok z → Leads q (on_words sh level) (one line (assign (shadow x) subs (if b then tangent_term on e 1 else lit (pos 0)))) (scene base s1 t) (scene base (set s1 (shadow x) c z) t)
      last b s1 p1 v =
          let g = target_same sh (plain x) subs u s1 st p1 tg in
          leads_assign q (on_words sh level) line (shadow x) subs (if b then tangent_term on e 1 else lit (pos 0)) stop (scene base s1 t) (scene base (set s1 (shadow x) c z) t) z c v
          (target_is sh level (plain x) (shadow x) subs s1 (shapes x there) g.0 ∙ ap Ok g.1)
          (leads_stop q (on_words sh level) (scene base (set s1 (shadow x) c z) t))

      go : (b : Bool) → is_active_where on e ≡ b → Prepares q sh level base (code_if b (temps_where on e 1 line +++ parts_where on e 1 1 line) +++ one line (assign (shadow x) subs (if b then tangent_term on e 1 else lit (pos 0)))) x c z s t
      go false a = record {
        after = set s (shadow x) c z;
        runs = last false s p (ap Ok (sym (tan-inactive sh on u y only e (over_treated vars e o) d a)));
        plains = record { at = λ w i. refl };
        shadows = λ w j. refl;
      }
      go true a =
          let m = temps_made on q sh level base vars e 1 line s t o (usable_of sh on vars e s o (defined_same sh vars e u s o p d)) in
          let r1 : SamePlain u m.after = record { at = λ w i. m.same.plains.at w i ∙ p.at w i } in
          let h1 : HasTangents on y m.after = λ w i n. m.shadows w i ∙ h w i n in
          let g = parts_made on q sh level base vars u y are only shapes e 1 1 line m.after t o d (r1, h1) m.holds in
          let s2 = g.after in
          record {
            after = set s2 (shadow x) c z;
            runs = leads_append q (on_words sh level) _ _ (scene base s t) (scene base s2 t) (scene base (set s2 (shadow x) c z) t)
                (leads_append q (on_words sh level) (temps_where on e 1 line) (parts_where on e 1 1 line) (scene base s t) (scene base m.after t) (scene base s2 t) m.runs g.runs)
                (last true s2 g.holds.0.0 (g.holds.1 a));
            plains = record { at = λ w i. g.same.plains.at w i ∙ m.same.plains.at w i };
            shadows = λ w j. ap (λ v. if name_eq w x && (j == c) then z else v) (g.same.shadows w j ∙ m.shadows w j);
          }
