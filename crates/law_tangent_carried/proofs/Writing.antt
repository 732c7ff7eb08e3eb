-- What the tangent of a list may write of the text's variables: those that the list may write. So no loop writes its variable.
use Rattle.std.proofs.Common.{◌≡◌, ℕ, Bool, true, false, List, [], ◌∷◌, refl, sym, ap, ◌∙◌, subst, if◌then◌else◌}
use Rattle.std.specs.Prelude.{◌||◌, pos}
use Rattle.adj_tree.specs.Code.{Var, plain, shadow, helper, var_eq, lit, none, zero_array, Act, assign, choose, loop, during, call, runtime, Code, stop, step}
use Rattle.def_meaning.specs.Append.{◌+++◌, one}
use Rattle.def_meaning.specs.LeastSet.{Dummies}
use Rattle.def_meaning.specs.Written.{is_handed_back, act_writes, writes}
use Rattle.def_meaning.proofs.Booleans.{or_more}
use Rattle.def_names.specs.Numbers.{Vars}
use Rattle.def_names.proofs.Variables.{not_true}
use Rattle.def_sweep.specs.Bindings.{bindings, actuals_in}
use Rattle.def_sweep.specs.Plan.{names_of, actuals_named}
use Rattle.def_tangent.specs.Forward.{Plan, takes_some, before_act, tangent_act, tangents}
use Rattle.def_tangent.specs.Program.{cleared}
use Rattle.law_meaning.specs.Common.{CallsInside', CallsInside}
use Rattle.law_kernel.proofs.Holding.{HoldsIn, holds_join}
use Rattle.law_kernel.proofs.Sparing.{Spares, AreSpared}
use Rattle.law_kernel.proofs.Writes.{writes_append}
use Rattle.law_tangent.proofs.Straight.{AreAside}
use Rattle.law_emitted.proofs.Writing.{IsPlain}
use Rattle.law_emitted.proofs.PlainTexts.{IsText, AreText}
use Rattle.law_tangent_carried.proofs.Before.{before_aside}

-- ---- what stands beside the text

-- it writes none of its variables
aside_writes : (f : Dummies) (x : List ℕ) (line : ℕ) (c : Code) → AreAside line c → writes f (plain x) c ≡ false
aside_writes f x line stop h = refl
aside_writes f x line (step l (assign (plain y) subs e) c) h = absurd h.1.0
aside_writes f x line (step l (assign (shadow y) subs e) c) h = aside_writes f x line c h.1.1
aside_writes f x line (step l (assign (helper r k) subs e) c) h = aside_writes f x line c h.1.1
aside_writes f x line (step l (choose q a b) c) h = absurd h.1.0
aside_writes f x line (step l (loop y a b s body m) c) h = absurd h.1.0
aside_writes f x line (step l (during q body) c) h = absurd h.1.0
aside_writes f x line (step l (call name args) c) h = absurd h.1.0
aside_writes f x line (step l (runtime r) c) h = absurd h.1.0

-- and has no loops
aside_spared : (f : Dummies) (line : ℕ) (c : Code) → AreAside line c → AreSpared f c
aside_spared f line stop h = tt
aside_spared f line (step l (assign x subs e) c) h = (tt, (tt, aside_spared f line c h.1.1))
aside_spared f line (step l (choose q a b) c) h = absurd h.1.0
aside_spared f line (step l (loop y a b s body m) c) h = absurd h.1.0
aside_spared f line (step l (during q body) c) h = absurd h.1.0
aside_spared f line (step l (call name args) c) h = absurd h.1.0
aside_spared f line (step l (runtime r) c) h = absurd h.1.0

-- nor do statements that clear tangents, and they have none
pub cleared_writes : (f : Dummies) (x : List ℕ) (arrays : Vars) (line : ℕ) (xs : List (List ℕ)) → writes f (plain x) (cleared arrays line xs) ≡ false
cleared_writes f x arrays line [] = refl
cleared_writes f x arrays line (y ∷ ys) = go (arrays (plain y)) (cleared_writes f x arrays line ys)
  where
    go : (b : Bool) → writes f (plain x) (cleared arrays line ys) ≡ false → writes f (plain x) ((if b then one line (runtime (zero_array (shadow y))) else one line (assign (shadow y) none (lit (pos 0)))) +++ cleared arrays line ys) ≡ false
    go true ih = ih
    go false ih = ih

pub cleared_spared : (f : Dummies) (arrays : Vars) (line : ℕ) (xs : List (List ℕ)) → AreSpared f (cleared arrays line xs)
cleared_spared f arrays line [] = tt
cleared_spared f arrays line (y ∷ ys) = go (arrays (plain y)) (cleared_spared f arrays line ys)
  where
    go : (b : Bool) → AreSpared f (cleared arrays line ys) → AreSpared f ((if b then one line (runtime (zero_array (shadow y))) else one line (assign (shadow y) none (lit (pos 0)))) +++ cleared arrays line ys)
    go true ih = (tt, (tt, ih))
    go false ih = (tt, (tt, ih))

-- what follows code that writes nothing of it is all that is written
pub behind_it : (f : Dummies) (x : List ℕ) (c d : Code) → writes f (plain x) c ≡ false → writes f (plain x) (c +++ d) ≡ true → writes f (plain x) d ≡ true
behind_it f x c d h e = ap (λ b. b || writes f (plain x) d) (sym h) ∙ sym (writes_append f (plain x) c d) ∙ e

-- ---- code that calls some units alone: f says which dummies are written in what is emitted, g which in the source

-- what a CALL of the tangent hands back of the text's variables, the CALL in whose place it stands hands back in the source
abbrev pub HandsNoMore : Dummies → Dummies → Plan → (List ℕ → Bool) → Type 0
HandsNoMore f g p inside = (name : List ℕ) → inside name ≡ true → (given : List (List ℕ)) (x : List ℕ) → act_writes f (plain x) (tangent_act p (call name (actuals_named given))) ≡ true → is_handed_back (plain x) (g name) (actuals_named given) ≡ true

module _ (f g : Dummies) (p : Plan) (inside : List ℕ → Bool) (less : HandsNoMore f g p inside) where
  mutual
    act_less : (x : List ℕ) (a : Act) → CallsInside' inside a → IsText a → HoldsIn (λ line b. IsText b) a → act_writes f (plain x) (tangent_act p a) ≡ true → act_writes g (plain x) a ≡ true
    act_less x (assign y subs e) k t h w = w
    act_less x (choose c a b) k t h w = or_more (writes f (plain x) (tangents p a)) (writes f (plain x) (tangents p b)) (writes g (plain x) a) (writes g (plain x) b) (tangent_writes x a k.0 h.0) (tangent_writes x b k.1 h.1) w
    act_less x (loop y a b c body m) k t h w = or_more (var_eq (plain x) y) (writes f (plain x) (tangents p body)) (var_eq (plain x) y) (writes g (plain x) body) (λ e. e) (tangent_writes x body k h) w
    act_less x (during c body) k t h w = tangent_writes x body k h w
    act_less x (call name args) k t h w = subst (λ es. act_writes f (plain x) (tangent_act p (call name es)) ≡ true → is_handed_back (plain x) (g name) es ≡ true) (sym t.1.0) (less name k t.0 x) w
    act_less x (runtime r) k t h w = absurd t

    pub tangent_writes : (x : List ℕ) (c : Code) → CallsInside inside c → AreText c → writes f (plain x) (tangents p c) ≡ true → writes g (plain x) c ≡ true
    tangent_writes x stop k h w = w
    tangent_writes x (step line a rest) k h w =
        or_more (act_writes f (plain x) (tangent_act p a)) (writes f (plain x) (tangents p rest)) (act_writes g (plain x) a) (writes g (plain x) rest) (act_less x a k.0 h.0 h.1.0) (tangent_writes x rest k.1 h.1.1)
        (behind_it f x (before_act p line a) (step line (tangent_act p a) (tangents p rest)) (aside_writes f x line (before_act p line a) (before_aside p line a)) w)

  -- a loop whose body doesn't write its variable
  spares_still : (x : Var) (body : Code) → CallsInside inside body → AreText body → IsPlain x → writes g x body ≡ false → writes f x (tangents p body) ≡ false
  spares_still (plain x) body k h t s = not_true (writes f (plain x) (tangents p body)) (λ w. let z : true ≡ false = sym (tangent_writes x body k h w) ∙ s in cc)
  spares_still (shadow x) body k h t s = absurd t
  spares_still (helper r i) body k h t s = absurd t

  mutual
    act_spared : (a : Act) → CallsInside' inside a → IsText a → HoldsIn (λ line b. IsText b) a → Spares g a → HoldsIn (λ line b. Spares g b) a → Spares f (tangent_act p a) × HoldsIn (λ line b. Spares f b) (tangent_act p a)
    act_spared (assign x subs e) k t h s i = (tt, tt)
    act_spared (choose c a b) k t h s i = (tt, (tangent_spared a k.0 h.0 i.0, tangent_spared b k.1 h.1 i.1))
    act_spared (loop x a b c body m) k t h s i = (spares_still x body k h t s, tangent_spared body k h i)
    act_spared (during c body) k t h s i = (tt, tangent_spared body k h i)
    act_spared (call name args) k t h s i = go (takes_some (p.callees name).carried (p.callees name).dummies)
      where
        go : (b : Bool) → (let a = if b then call (p.callees name).tangent (actuals_in (bindings (p.callees name).carried (p.callees name).dummies (names_of args))) else call name args in Spares f a × HoldsIn (λ line b. Spares f b) a)
        go true = (tt, tt)
        go false = (tt, tt)
    act_spared (runtime r) k t h s i = absurd t

    -- so are the loops of its tangent
    pub tangent_spared : (c : Code) → CallsInside inside c → AreText c → AreSpared g c → AreSpared f (tangents p c)
    tangent_spared stop k h s = tt
    tangent_spared (step line a rest) k h s =
        holds_join (λ l b. Spares f b) (before_act p line a) (step line (tangent_act p a) (tangents p rest)) (aside_spared f line (before_act p line a) (before_aside p line a))
        (let here = act_spared a k.0 h.0 h.1.0 s.0 s.1.0 in (here.0, (here.1, tangent_spared rest k.1 h.1.1 s.1.1)))
