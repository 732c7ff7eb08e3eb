-- The helpers that a tangent declares are those that it uses, and each stands once.
use Rattle.std.proofs.Common.{◌≡◌, ℕ, ◌≤◌, Bool, true, List, refl, ap, ◌∙◌, arith}
use Rattle.std.specs.Prelude.{◌==◌, not}
use Rattle.adj_tree.specs.Code.{Var, helper, role_code, work, temp, Code}
use Rattle.def_names.specs.Numbers.{Vars}
use Rattle.def_sweep.specs.Declared.{helpers_from}
use Rattle.def_names.proofs.Variables.{or_left, or_right}
use Rattle.def_tangent.specs.Program.{parts_used, temps_used, helpers_used}
use Rattle.law_emitted.proofs.Tables.{among, among-append, AreHelpers, helpers_append, from_helpers, has_from}
use Rattle.law_emitted.proofs.Apart.{VarsApart, roles_from, roles_apart, from_apart}

module _ (on : Vars) (c : Code) where
  abbrev works : List Var
  works = helpers_from work 1 (parts_used on c)

  abbrev temps : List Var
  temps = helpers_from temp 1 (temps_used on c)

  pub are_helpers : AreHelpers (helpers_used on c)
  are_helpers = helpers_append works temps (from_helpers work 1 (parts_used on c)) (from_helpers temp 1 (temps_used on c))

  abbrev is_work : ℕ → Bool
  is_work k = k == role_code work

  pub stand_once : VarsApart (helpers_used on c)
  stand_once =
      roles_apart is_work (λ k. not (is_work k)) (λ k e. ap not e) works temps (roles_from is_work work 1 (parts_used on c) refl) (roles_from (λ k. not (is_work k)) temp 1 (temps_used on c) refl)
      (from_apart work 1 (parts_used on c)) (from_apart temp 1 (temps_used on c))

  pub work_among : (k : ℕ) → 1 ≤ k → k ≤ parts_used on c → among (helper work k) (helpers_used on c) ≡ true
  work_among k low high = among-append (helper work k) works temps ∙ or_left (among (helper work k) works) (among (helper work k) temps) (has_from work k 1 (parts_used on c) low (omega arith))

  pub temp_among : (k : ℕ) → 1 ≤ k → k ≤ temps_used on c → among (helper temp k) (helpers_used on c) ≡ true
  temp_among k low high = among-append (helper temp k) works temps ∙ or_right (among (helper temp k) works) (among (helper temp k) temps) (has_from temp k 1 (temps_used on c) low (omega arith))
