-- The text of a unit in kernel form: it assigns to variables of the unit, and the actuals of its CALLs are distinct names.
use Rattle.std.proofs.Common.{◌≡◌, ℕ, List, subst}
use Rattle.adj_tree.specs.Code.{Act, assign, choose, loop, during, call, runtime, Code, stop, step}
use Rattle.def_text.specs.Written.{IsWrittenAct, IsWrittenCode}
use Rattle.def_kernel.specs.Form.{IsKernelAct, IsKernelCode, AreDistinctNames}
use Rattle.def_meaning.specs.Apart.{AreApart}
use Rattle.def_sweep.specs.Plan.{actuals_named}
use Rattle.law_kernel.proofs.Holding.{HoldsIn, Holds}
use Rattle.law_emitted.proofs.Texts.{place_variable, actuals_given, actuals_apart}
use Rattle.law_emitted.proofs.Writing.{IsPlain}
use Rattle.law_emitted.proofs.HandedBack.{variable_plain}

abbrev pub IsText : Act → Type 0
IsText (assign x subs e) = IsPlain x
IsText (choose c a b) = Unit {0}
IsText (loop x a b c body m) = IsPlain x
IsText (during c body) = Unit {0}
IsText (call name args) = (given : List (List ℕ)) × ((args ≡ actuals_named given) × AreApart given)
IsText (runtime r) = ⊥

-- each statement of a list is so
abbrev pub AreText : Code → Type 0
AreText c = Holds (λ line a. IsText a) c

text_act : (a : Act) → IsWrittenAct a → IsKernelAct a → IsText a
text_act (assign x subs e) w k = variable_plain x (place_variable x subs w.0)
text_act (choose c a b) w k = tt
text_act (loop x a b c body m) w k = variable_plain x w.0
text_act (during c body) w k = tt
text_act (call name args) w k = let given = actuals_given args k w.1 in (given.0, (given.1, actuals_apart given.0 (subst AreDistinctNames given.1 k)))
text_act (runtime r) w k = absurd k

mutual
  text_inner : (a : Act) → IsWrittenAct a → IsKernelAct a → HoldsIn (λ line b. IsText b) a
  text_inner (assign x subs e) w k = tt
  text_inner (choose c a b) w k = (text_code a w.1 k.0, text_code b w.2 k.1)
  text_inner (loop x a b c body m) w k = text_code body w.4 k.1
  text_inner (during c body) w k = text_code body w.1 k
  text_inner (call name args) w k = tt
  text_inner (runtime r) w k = tt

  pub text_code : (c : Code) → IsWrittenCode c → IsKernelCode c → AreText c
  text_code stop w k = tt
  text_code (step line a rest) w k = (text_act a w.0 k.0, (text_inner a w.0 k.0, text_code rest w.1 k.1))
