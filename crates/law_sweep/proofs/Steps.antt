-- Steps of straight code: each leads from a scene to the next.
use Rattle.std.proofs.Common.{◌≡◌, ℕ, List, ap}
use Rattle.std.specs.Prelude.{ℤ, Ok}
use Rattle.adj_tree.specs.Code.{Var, Term, none, assign, Code, step}
use Rattle.def_meaning.specs.Store.{Shape, Store, set}
use Rattle.def_meaning.specs.Value.{value}
use Rattle.def_meaning.specs.Scene.{Scene, stand, Done, with_value}
use Rattle.def_meaning.specs.Run.{Calls}
use Rattle.law_meaning.specs.Leads.{Leads}
use Rattle.law_meaning.proofs.Leadings.{leads_step}
use Rattle.law_sweep.specs.Pairs.{on_words}
use Rattle.law_sweep.specs.Scenes.{Course, scene}

module _ (q : Calls ℤ) (sh : Var → Shape) (level : ℕ) (base : Course) where
  -- an assignment to a scalar, and the rest
  pub assigns : (line : ℕ) (x : Var) (e : Term) (c : Code) (s : Store ℤ) (t : List ℤ) (v : ℤ) (s2 : Scene ℤ) → value (on_words sh level) e s ≡ Ok v → Leads q (on_words sh level) c (scene base (set s x 0 v) t) s2 → Leads q (on_words sh level) (step line (assign x none e) c) (scene base s t) s2
  assigns line x e c s t v s2 is b =
      leads_step q (on_words sh level) line (assign x none e) c (scene base s t) (scene base (set s x 0 v) t) s2
      (λ k. ap (λ o. with_value o line (stand (on_words sh level) (scene base s t)) (λ w. Done (scene base (set s x 0 w) t) k)) is) b
