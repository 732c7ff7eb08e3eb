-- Terms in which nothing is taken apart, and the values of operands.
use Rattle.std.proofs.Common.{◌≡◌, ℕ, zero, suc, Bool, true, false, refl}
use Rattle.adj_tree.specs.Code.{plus, minus, times, quot, modulo, greater, lesser, Term, lit, var, elem, neg, bin, pow, power_of, abs, stop}
use Rattle.def_names.specs.Numbers.{Vars}
use Rattle.def_sweep.specs.Marked.{own_or}
use Rattle.def_sweep.specs.Occurrences.{is_active_where}
use Rattle.def_sweep.specs.AdjointOf.{has_own_where, temps_in_where, shrunk_where, temps_where}

-- a term that has no derivative whatever its variables are
abbrev pub is_idle : Term → Bool
is_idle (lit z) = true
is_idle (abs a) = true
is_idle (bin quot a b) = true
is_idle (bin modulo a b) = true
is_idle (bin greater a b) = true
is_idle (bin lesser a b) = true
is_idle (pow a zero) = true
is_idle _ = false

pub record IsIdle (on : Vars) (t : Term) : Type 0 where
  pub passive : is_active_where on t ≡ false
  pub temps : temps_in_where on t ≡ 0
  pub shrunk : (j : ℕ) → shrunk_where on t j ≡ t
  pub code : (j line : ℕ) → temps_where on t j line ≡ stop

-- it isn't active, and none of its operands has a temporary
pub idle : (on : Vars) (t : Term) → is_idle t ≡ true → IsIdle on t
idle on (lit z) h = record { passive = refl; temps = refl; shrunk = λ j. refl; code = λ j line. refl }
idle on (abs a) h = record { passive = refl; temps = refl; shrunk = λ j. refl; code = λ j line. refl }
idle on (bin quot a b) h = record { passive = refl; temps = refl; shrunk = λ j. refl; code = λ j line. refl }
idle on (bin modulo a b) h = record { passive = refl; temps = refl; shrunk = λ j. refl; code = λ j line. refl }
idle on (bin greater a b) h = record { passive = refl; temps = refl; shrunk = λ j. refl; code = λ j line. refl }
idle on (bin lesser a b) h = record { passive = refl; temps = refl; shrunk = λ j. refl; code = λ j line. refl }
idle on (bin plus a b) h = cc
idle on (bin minus a b) h = cc
idle on (bin times a b) h = cc
idle on (pow a zero) h = record { passive = refl; temps = refl; shrunk = λ j. refl; code = λ j line. refl }
idle on (pow a (suc k)) h = cc
idle on (var x) h = cc
idle on (elem x subs) h = cc
idle on (neg a) h = cc
idle on (power_of a b) h = cc

-- a temporary stands for either term
temporary : (own : Bool) (j : ℕ) (s t : Term) → own ≡ true → own_or own j s ≡ own_or own j t
temporary true j s t h = refl
temporary false j s t h = cc

-- the value of an operand beside an active one is its temporary, or it has no operands of its own
pub value_whole : (on : Vars) (a b : Term) (j m : ℕ) → is_active_where on a ≡ true → own_or (has_own_where on b a) j (shrunk_where on b m) ≡ own_or (has_own_where on b a) j b
value_whole on a (lit z) j m h = refl
value_whole on a (var x) j m h = refl
value_whole on a (elem x subs) j m h = refl
value_whole on a (neg b) j m h = temporary (is_active_where on a) j (shrunk_where on (neg b) m) (neg b) h
value_whole on a (bin op b c) j m h = temporary (is_active_where on a) j (shrunk_where on (bin op b c) m) (bin op b c) h
value_whole on a (pow b k) j m h = temporary (is_active_where on a) j (shrunk_where on (pow b k) m) (pow b k) h
value_whole on a (power_of b c) j m h = temporary (is_active_where on a) j (shrunk_where on (power_of b c) m) (power_of b c) h
value_whole on a (abs b) j m h = temporary (is_active_where on a) j (shrunk_where on (abs b) m) (abs b) h
