-- What stands before a statement in a tangent is beside the text.
use Rattle.std.proofs.Common.{ℕ, Bool, true, false, refl}
use Rattle.std.specs.Prelude.{pos}
use Rattle.adj_tree.specs.Code.{plain, shadow, helper, lit, none, Act, assign, choose, loop, during, call, runtime}
use Rattle.def_meaning.specs.Append.{one}
use Rattle.def_sweep.specs.Marked.{code_if}
use Rattle.def_tangent.specs.TangentOf.{before_assignment}
use Rattle.def_tangent.specs.Forward.{Plan, before_act}
use Rattle.law_tangent.proofs.Straight.{AreAside}
use Rattle.law_tangent.proofs.Asides.{aside_before}

pub before_aside : (p : Plan) (line : ℕ) (a : Act) → AreAside line (before_act p line a)
before_aside p line (assign (plain x) subs e) = go (p.carried (plain x))
  where
    go : (b : Bool) → AreAside line (code_if b (before_assignment p.carried x subs e line))
    go true = aside_before p.carried line x subs e
    go false = tt
before_aside p line (assign (shadow x) subs e) = tt
before_aside p line (assign (helper r k) subs e) = tt
before_aside p line (choose c a b) = tt
before_aside p line (loop (plain x) first last by body m) = go (p.carried (plain x))
  where
    go : (b : Bool) → AreAside line (code_if b (one line (assign (shadow x) none (lit (pos 0)))))
    go true = (refl, (tt, tt))
    go false = tt
before_aside p line (loop (shadow x) first last by body m) = tt
before_aside p line (loop (helper r k) first last by body m) = tt
before_aside p line (during c body) = tt
before_aside p line (call name args) = tt
before_aside p line (runtime r) = tt
