-- The actuals of the CALLs in tangents are distinct variables.
use Rattle.std.proofs.Common.{◌≡◌, ℕ, Bool, true, false, List, [], ◌∷◌, sym, ap, ◌∙◌, if◌then◌else◌}
use Rattle.std.specs.Prelude.{pos}
use Rattle.adj_tree.specs.Code.{plain, shadow, lit, Terms, none, zero_array, Act, assign, choose, loop, during, call, runtime, Code, stop, step}
use Rattle.def_meaning.specs.Append.{◌+++◌, one}
use Rattle.def_names.specs.Numbers.{Vars}
use Rattle.def_sweep.specs.Bindings.{bindings, actuals_in}
use Rattle.def_sweep.specs.Plan.{names_of}
use Rattle.def_tangent.specs.Forward.{Plan, takes_some, before_act, tangent_act, tangents}
use Rattle.def_tangent.specs.Program.{cleared}
use Rattle.law_kernel.proofs.Holding.{HoldsIn, holds_join}
use Rattle.law_sweep.proofs.CallDuals.{shadows_bound}
use Rattle.law_tangent.proofs.Straight.{AreAside}
use Rattle.law_emitted.proofs.Actuals.{terms_of, given_vars, given_terms, given_apart, named_back}
use Rattle.law_emitted.proofs.PlainTexts.{IsText, AreText}
use Rattle.law_emitted.proofs.DistinctActuals.{IsDistinct, AreDistinct, text_act}
use Rattle.law_tangent_carried.proofs.Before.{before_aside}

aside_distinct : (line : ℕ) (c : Code) → AreAside line c → AreDistinct c
aside_distinct line stop h = tt
aside_distinct line (step l (assign x subs e) c) h = (tt, (tt, aside_distinct line c h.1.1))
aside_distinct line (step l (choose q a b) c) h = absurd h.1.0
aside_distinct line (step l (loop x a b s body m) c) h = absurd h.1.0
aside_distinct line (step l (during q body) c) h = absurd h.1.0
aside_distinct line (step l (call name args) c) h = absurd h.1.0
aside_distinct line (step l (runtime r) c) h = absurd h.1.0

module _ (p : Plan) where
  -- of a CALL, and of what stands in its place
  call_distinct : (name : List ℕ) (args : Terms) → IsText (call name args) → IsDistinct (tangent_act p (call name args)) × HoldsIn (λ line b. IsDistinct b) (tangent_act p (call name args))
  call_distinct name args h = go (takes_some (p.callees name).carried (p.callees name).dummies)
    where
      bound : actuals_in (bindings (p.callees name).carried (p.callees name).dummies (names_of args)) ≡ terms_of (given_vars (p.callees name).carried (p.callees name).dummies h.0)
      bound = ap (λ xs. actuals_in (bindings (p.callees name).carried (p.callees name).dummies xs)) (ap names_of h.1.0 ∙ named_back h.0) ∙ sym (shadows_bound (p.callees name).carried (p.callees name).dummies h.0) ∙ given_terms (p.callees name).carried (p.callees name).dummies h.0

      go : (b : Bool) → (let a = if b then call (p.callees name).tangent (actuals_in (bindings (p.callees name).carried (p.callees name).dummies (names_of args))) else call name args in IsDistinct a × HoldsIn (λ line b. IsDistinct b) a)
      go true = ((given_vars (p.callees name).carried (p.callees name).dummies h.0, (bound, given_apart (p.callees name).carried (p.callees name).dummies h.0 h.1.1)), tt)
      go false = (text_act 0 (call name args) h, tt)

  mutual
    tangent_inner : (a : Act) → IsText a → HoldsIn (λ line b. IsText b) a → IsDistinct (tangent_act p a) × HoldsIn (λ line b. IsDistinct b) (tangent_act p a)
    tangent_inner (assign x subs e) t h = (tt, tt)
    tangent_inner (choose c a b) t h = (tt, (tangent_distinct a h.0, tangent_distinct b h.1))
    tangent_inner (loop x a b c body m) t h = (tt, tangent_distinct body h)
    tangent_inner (during c body) t h = (tt, tangent_distinct body h)
    tangent_inner (call name args) t h = call_distinct name args t
    tangent_inner (runtime r) t h = absurd t

    pub tangent_distinct : (c : Code) → AreText c → AreDistinct (tangents p c)
    tangent_distinct stop h = tt
    tangent_distinct (step line a rest) h =
        holds_join (λ l b. IsDistinct b) (before_act p line a) (step line (tangent_act p a) (tangents p rest)) (aside_distinct line (before_act p line a) (before_aside p line a))
        (let here = tangent_inner a h.0 h.1.0 in (here.0, (here.1, tangent_distinct rest h.1.1)))

-- tangents that are cleared
pub cleared_distinct : (arrays : Vars) (line : ℕ) (xs : List (List ℕ)) → AreDistinct (cleared arrays line xs)
cleared_distinct arrays line [] = tt
cleared_distinct arrays line (x ∷ xs) = go (arrays (plain x)) (cleared_distinct arrays line xs)
  where
    go : (b : Bool) → AreDistinct (cleared arrays line xs) → AreDistinct ((if b then one line (runtime (zero_array (shadow x))) else one line (assign (shadow x) none (lit (pos 0)))) +++ cleared arrays line xs)
    go true ih = (tt, (tt, ih))
    go false ih = (tt, (tt, ih))
