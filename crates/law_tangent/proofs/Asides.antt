-- What stands before statements is beside the text.
use Rattle.std.proofs.Common.{ℕ, zero, suc, ◌+◌, Bool, true, false, List, refl, if◌then◌else◌}
use Rattle.std.specs.Prelude.{pos}
use Rattle.adj_tree.specs.Code.{shadow, plus, minus, times, quot, modulo, greater, lesser, Term, lit, var, elem, neg, bin, pow, power_of, abs, Terms, assign}
use Rattle.def_meaning.specs.Append.{◌+++◌, one}
use Rattle.def_names.specs.Numbers.{Vars}
use Rattle.def_sweep.specs.Marked.{code_if, own_code, count_of}
use Rattle.def_sweep.specs.Occurrences.{is_active_where}
use Rattle.def_sweep.specs.AdjointOf.{has_own_where, temps_in_where, shrunk_where, temps_where}
use Rattle.def_tangent.specs.TangentOf.{tangent_term, own_part, parts_where, before_assignment}
use Rattle.law_tangent.proofs.Straight.{AreAside, aside_append}

-- the assignment of a temporary, and that of a part's helper
aside_own : (b : Bool) (line j : ℕ) (e : Term) → AreAside line (own_code b line j e)
aside_own true line j e = (refl, (tt, tt))
aside_own false line j e = tt

aside_part : (b : Bool) (line j : ℕ) (e : Term) → AreAside line (own_part b line j e)
aside_part true line j e = (refl, (tt, tt))
aside_part false line j e = tt

module _ (on : Vars) (line : ℕ) where
  aside_temps : (e : Term) (j : ℕ) → AreAside line (temps_where on e j line)
  aside_temps (lit z) j = tt
  aside_temps (var x) j = tt
  aside_temps (elem x subs) j = tt
  aside_temps (neg a) j = aside_temps a j
  aside_temps (bin plus a b) j = aside_append line _ _ (aside_temps a j) (aside_temps b (j + temps_in_where on a))
  aside_temps (bin minus a b) j = aside_append line _ _ (aside_temps a j) (aside_temps b (j + temps_in_where on a))
  aside_temps (bin times a b) j =
      aside_append line _ _ (aside_temps a j)
      (aside_append line _ _ (aside_own (has_own_where on a b) line (j + temps_in_where on a) (shrunk_where on a j))
      (aside_append line _ _ (aside_temps b (j + temps_in_where on a + count_of (has_own_where on a b)))
      (aside_own (has_own_where on b a) line (j + temps_in_where on a + count_of (has_own_where on a b) + temps_in_where on b) (shrunk_where on b (j + temps_in_where on a + count_of (has_own_where on a b))))))
  aside_temps (bin quot a b) j = tt
  aside_temps (bin modulo a b) j = tt
  aside_temps (bin greater a b) j = tt
  aside_temps (bin lesser a b) j = tt
  aside_temps (pow a zero) j = tt
  aside_temps (pow a (suc zero)) j = aside_temps a j
  aside_temps (pow a (suc (suc k))) j = aside_append line _ _ (aside_temps a j) (aside_own (has_own_where on a a) line (j + temps_in_where on a) (shrunk_where on a j))
  aside_temps (power_of a b) j =
      aside_append line _ _ (aside_temps a j)
      (aside_append line _ _ (aside_own (has_own_where on a a) line (j + temps_in_where on a) (shrunk_where on a j)) (aside_own (has_own_where on b a) line (j + temps_in_where on a + count_of (has_own_where on a a)) b))
  aside_temps (abs a) j = tt

  aside_parts : (e : Term) (k j : ℕ) → AreAside line (parts_where on e k j line)
  aside_parts (lit z) k j = tt
  aside_parts (var x) k j = tt
  aside_parts (elem x subs) k j = tt
  aside_parts (neg a) k j = aside_append line _ _ (aside_parts a k j) (aside_part (is_active_where on a) line _ _)
  aside_parts (bin plus a b) k j = aside_append line _ _ (aside_parts a k j) (aside_append line _ _ (aside_parts b _ _) (aside_part _ line _ _))
  aside_parts (bin minus a b) k j = aside_append line _ _ (aside_parts a k j) (aside_append line _ _ (aside_parts b _ _) (aside_part _ line _ _))
  aside_parts (bin times a b) k j = aside_append line _ _ (aside_parts a k j) (aside_append line _ _ (aside_parts b _ _) (aside_part _ line _ _))
  aside_parts (bin quot a b) k j = tt
  aside_parts (bin modulo a b) k j = tt
  aside_parts (bin greater a b) k j = tt
  aside_parts (bin lesser a b) k j = tt
  aside_parts (pow a zero) k j = tt
  aside_parts (pow a (suc zero)) k j = aside_append line _ _ (aside_parts a k j) (aside_part (is_active_where on a) line _ _)
  aside_parts (pow a (suc (suc n))) k j = aside_append line _ _ (aside_parts a k j) (aside_part (is_active_where on a) line _ _)
  aside_parts (power_of a b) k j = aside_append line _ _ (aside_parts a k j) (aside_part (is_active_where on a) line _ _)
  aside_parts (abs a) k j = tt

  pub aside_before : (x : List ℕ) (subs : Terms) (e : Term) → AreAside line (before_assignment on x subs e line)
  aside_before x subs e = go (is_active_where on e)
    where
      go : (b : Bool) → AreAside line (code_if b (temps_where on e 1 line +++ parts_where on e 1 1 line) +++ one line (assign (shadow x) subs (if b then tangent_term on e 1 else lit (pos 0))))
      go true = aside_append line _ _ (aside_append line _ _ (aside_temps e 1) (aside_parts e 1 1)) (refl, (tt, tt))
      go false = (refl, (tt, tt))
