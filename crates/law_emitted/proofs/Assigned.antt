-- The adjoint of an assignment assigns to shadows, work variables and temporaries alone.
use Rattle.std.proofs.Common.{ℕ, zero, suc, ◌+◌, Bool, true, false, List}
use Rattle.adj_tree.specs.Code.{Var, plain, shadow, helper, work, temp, plus, minus, times, quot, modulo, greater, lesser, Term, lit, var, elem, neg, bin, pow, power_of, abs, Terms, none, Act, assign, Code, stop, step}
use Rattle.def_meaning.specs.Append.{◌+++◌, one}
use Rattle.def_names.specs.Numbers.{Vars}
use Rattle.def_sweep.specs.Marked.{code_if, count_of, own_code, place}
use Rattle.def_sweep.specs.Occurrences.{is_active_where}
use Rattle.def_sweep.specs.AdjointOf.{has_own_where, temps_in_where, shrunk_where, temps_where, back_where, adjoint_where}

-- a shadow, a work variable or a temporary
abbrev pub IsMade : Var → Type 0
IsMade (shadow x) = Unit {0}
IsMade (helper work k) = Unit {0}
IsMade (helper temp k) = Unit {0}
IsMade _ = ⊥

-- an assignment to one
abbrev pub IsMaking : Act → Type 0
IsMaking (assign x s e) = IsMade x
IsMaking _ = ⊥

-- nothing else
abbrev pub AreMaking : Code → Type 0
AreMaking stop = Unit {0}
AreMaking (step line a rest) = IsMaking a × AreMaking rest

making_append : (c d : Code) → AreMaking c → AreMaking d → AreMaking (c +++ d)
making_append stop d h g = g
making_append (step line a c) d h g = (h.0, making_append c d h.1 g)

making_if : (b : Bool) (c : Code) → AreMaking c → AreMaking (code_if b c)
making_if true c h = h
making_if false c h = tt

making_own : (t : Bool) (line j : ℕ) (e : Term) → AreMaking (own_code t line j e)
making_own true line j e = (tt, tt)
making_own false line j e = tt

module _ (on : Vars) where
  making_temps : (e : Term) (j line : ℕ) → AreMaking (temps_where on e j line)
  making_temps (lit z) j line = tt
  making_temps (var x) j line = tt
  making_temps (elem x subs) j line = tt
  making_temps (neg a) j line = making_temps a j line
  making_temps (bin plus a b) j line = making_append (temps_where on a j line) _ (making_temps a j line) (making_temps b (j + temps_in_where on a) line)
  making_temps (bin minus a b) j line = making_append (temps_where on a j line) _ (making_temps a j line) (making_temps b (j + temps_in_where on a) line)
  making_temps (bin times a b) j line =
      let m = j + temps_in_where on a + count_of (has_own_where on a b) in
      making_append (temps_where on a j line) _ (making_temps a j line)
      (making_append (own_code (has_own_where on a b) line (j + temps_in_where on a) (shrunk_where on a j)) _ (making_own (has_own_where on a b) line (j + temps_in_where on a) (shrunk_where on a j))
      (making_append (temps_where on b m line) _ (making_temps b m line) (making_own (has_own_where on b a) line (m + temps_in_where on b) (shrunk_where on b m))))
  making_temps (bin quot a b) j line = tt
  making_temps (bin modulo a b) j line = tt
  making_temps (bin greater a b) j line = tt
  making_temps (bin lesser a b) j line = tt
  making_temps (pow a zero) j line = tt
  making_temps (pow a (suc zero)) j line = making_temps a j line
  making_temps (pow a (suc (suc k))) j line = making_append (temps_where on a j line) _ (making_temps a j line) (making_own (has_own_where on a a) line (j + temps_in_where on a) (shrunk_where on a j))
  making_temps (power_of a b) j line =
      making_append (temps_where on a j line) _ (making_temps a j line)
      (making_append (own_code (has_own_where on a a) line (j + temps_in_where on a) (shrunk_where on a j)) _ (making_own (has_own_where on a a) line (j + temps_in_where on a) (shrunk_where on a j)) (making_own (has_own_where on b a) line (j + temps_in_where on a + count_of (has_own_where on a a)) b))
  making_temps (abs a) j line = tt

  -- the next work variable, and more
  making_more : (t : Bool) (line k : ℕ) (v : Term) (c : Code) → AreMaking c → AreMaking (code_if t (step line (assign (helper work k) none v) c))
  making_more t line k v c h = making_if t (step line (assign (helper work k) none v) c) (tt, h)

  making_back : (e : Term) (k j line : ℕ) → AreMaking (back_where on e k j line)
  making_back (lit z) k j line = tt
  making_back (var (plain x)) k j line = (tt, tt)
  making_back (var (shadow x)) k j line = tt
  making_back (var (helper r i)) k j line = tt
  making_back (elem (plain x) subs) k j line = (tt, tt)
  making_back (elem (shadow x) subs) k j line = tt
  making_back (elem (helper r i) subs) k j line = tt
  making_back (neg a) k j line = making_more (is_active_where on a) line (suc k) _ (back_where on a (suc k) j line) (making_back a (suc k) j line)
  making_back (bin plus a b) k j line =
      making_append (code_if (is_active_where on a) (back_where on a k j line)) _ (making_if (is_active_where on a) (back_where on a k j line) (making_back a k j line)) (making_if (is_active_where on b) (back_where on b k (j + temps_in_where on a) line) (making_back b k (j + temps_in_where on a) line))
  making_back (bin minus a b) k j line =
      making_append (code_if (is_active_where on a) (back_where on a k j line)) _ (making_if (is_active_where on a) (back_where on a k j line) (making_back a k j line)) (making_more (is_active_where on b) line (suc k) _ (back_where on b (suc k) (j + temps_in_where on a) line) (making_back b (suc k) (j + temps_in_where on a) line))
  making_back (bin times a b) k j line =
      let m = j + temps_in_where on a + count_of (has_own_where on a b) in
      making_append (code_if (is_active_where on a) _) _ (making_more (is_active_where on a) line (suc k) _ (back_where on a (suc k) j line) (making_back a (suc k) j line)) (making_more (is_active_where on b) line (suc k) _ (back_where on b (suc k) m line) (making_back b (suc k) m line))
  making_back (bin quot a b) k j line = tt
  making_back (bin modulo a b) k j line = tt
  making_back (bin greater a b) k j line = tt
  making_back (bin lesser a b) k j line = tt
  making_back (pow a zero) k j line = tt
  making_back (pow a (suc zero)) k j line = making_if (is_active_where on a) (back_where on a k j line) (making_back a k j line)
  making_back (pow a (suc (suc i))) k j line = making_more (is_active_where on a) line (suc k) _ (back_where on a (suc k) j line) (making_back a (suc k) j line)
  making_back (power_of a b) k j line = making_more (is_active_where on a) line (suc k) _ (back_where on a (suc k) j line) (making_back a (suc k) j line)
  making_back (abs a) k j line = tt

  pub making_adjoint : (t : List ℕ) (subs : Terms) (e : Term) (line : ℕ) → AreMaking (adjoint_where on t subs e line)
  making_adjoint t subs e line =
      making_append (code_if (is_active_where on e) _) _
      (making_if (is_active_where on e) (temps_where on e 1 line +++ one line (assign (helper work 1) none (place (shadow t) subs))) (making_append (temps_where on e 1 line) _ (making_temps e 1 line) (tt, tt)))
      (tt, making_if (is_active_where on e) (back_where on e 1 1 line) (making_back e 1 1 line))
