-- Calls, actuals and flagged dummies as members of lists; and that variables stand where they are looked for.
use Rattle.std.proofs.Common.{◌≡◌, ◌⊎◌, inl, inr, ℕ, List, [], ◌∷◌, Bool, true, false, refl, sym, ap, ◌∙◌, subst}
use Rattle.std.specs.Prelude.{Contains, Option, Some, None, slice_get}
use Rattle.std.proofs.lemmas.List.Elements.{Contains-append_left, Contains-append_right}
use Rattle.adj_tree.specs.Code.{Var, Term, lit, var, elem, neg, bin, pow, power_of, abs, Terms, none, more, Act, assign, choose, loop, during, call, runtime}
use Rattle.def_flow.specs.Parts.{Part, parts, find_part}
use Rattle.def_flow.specs.Standing.{Place, outermost, part_of, turn_of, Standing}
use Rattle.def_names.specs.VariableLists.{vars_in, vars_in_terms}
use Rattle.def_flow.specs.Problem.{Problem, statements_of, CallsUnit, IsHead, flagged, name_of, with_actual, bound}
use Rattle.def_flow.specs.Activity.{Holds}
use Rattle.def_flow.specs.Rules.{list_of, with_args, called, at_actuals, holders, head_parts}
use Rattle.adj_reach.proofs.Members.{is_first, is_later, is_among, is_none, is_only, flat_has, flat_only}

-- ---- calls

pub called_has : (k : Problem) (f g : Part) (s : Standing) (args : Terms) → CallsUnit k f g s args → Contains (called (parts k.units) s.act) (g, args)
called_has k f g s args c =
    subst (λ a. Contains (called (parts k.units) a) (g, args)) (sym c.act) (subst (λ o. Contains (with_args args o) (g, args)) (sym c.finds) (is_first (g, args) (g, args) [] refl))

found_only : (args : Terms) (o : Option Part) (c : Part × Terms) → Contains (with_args args o) c → (o ≡ Some c.0) × (args ≡ c.1)
found_only args None c d = absurd (is_none c d)
found_only args (Some h) c d = let e : (h, args) ≡ c = is_only c (h, args) d in (ap (λ z. Some z.0) e, ap (λ z. z.1) e)

pub called_only : (k : Problem) (f : Part) (s : Standing) (c : Part × Terms) → Contains (statements_of f) s → Contains (called (parts k.units) s.act) c → CallsUnit k f c.0 s c.1
called_only k f s c m = go s.act refl
  where
    go : (a : Act) → s.act ≡ a → Contains (called (parts k.units) a) c → CallsUnit k f c.0 s c.1
    go (assign x subs e) h d = absurd (is_none c d)
    go (choose q a b) h d = absurd (is_none c d)
    go (loop x first last by body n) h d = absurd (is_none c d)
    go (during q body) h d = absurd (is_none c d)
    go (call name args) h d = let o = found_only args (find_part (parts k.units) name) c d in record { name = name; stands = m; act = h ∙ ap (λ z. call name z) o.1; finds = o.0 }
    go (runtime r) h d = absurd (is_none c d)

-- ---- actuals

pub actuals_have : {X : Type 0} (fn : Part → List ℕ → Var → List X) (g : Part) (args : Terms) (d : List ℕ) (a : Var) (x : X) → Contains (bound g.unit.dummies args) (d, a) → Contains (fn g d a) x → Contains (at_actuals fn (g, args)) x
actuals_have fn g args d a x c m = flat_has (λ b. fn g b.0 b.1) (bound g.unit.dummies args) (d, a) x c m

pub actuals_only : {X : Type 0} (fn : Part → List ℕ → Var → List X) (c : Part × Terms) (x : X) → Contains (at_actuals fn c) x → (b : List ℕ × Var) × Contains (bound c.0.unit.dummies c.1) b × Contains (fn c.0 b.0 b.1) x
actuals_only fn c x m = flat_only (λ b. fn c.0 b.0 b.1) (bound c.0.unit.dummies c.1) x m

-- an actual stands among them
name_stands : (e : Term) (a : Var) → name_of e ≡ Some a → Contains (vars_in e) a
name_stands (var y) a h = is_first a y [] cc
name_stands (lit z) a h = absurd cc
name_stands (elem y subs) a h = absurd cc
name_stands (neg e) a h = absurd cc
name_stands (bin op e f) a h = absurd cc
name_stands (pow e n) a h = absurd cc
name_stands (power_of e f) a h = absurd cc
name_stands (abs e) a h = absurd cc

pub bound_stands : (ds : List (List ℕ)) (args : Terms) (b : List ℕ × Var) → Contains (bound ds args) b → Contains ds b.0 × Contains (vars_in_terms args) b.1
bound_stands [] args b c = absurd (is_none b c)
bound_stands (d ∷ ds) none b c = absurd (is_none b c)
bound_stands (d ∷ ds) (more e es) b c = go (name_of e) refl c (bound_stands ds es b)
  where
    later : Contains ds b.0 × Contains (vars_in_terms es) b.1 → Contains (d ∷ ds) b.0 × Contains (vars_in_terms (more e es)) b.1
    later r = (is_later b.0 d ds r.0, Contains-append_right (vars_in e) (vars_in_terms es) b.1 r.1)

    go : (o : Option Var) → name_of e ≡ o → Contains (with_actual d o (bound ds es)) b → (Contains (bound ds es) b → Contains ds b.0 × Contains (vars_in_terms es) b.1) → Contains (d ∷ ds) b.0 × Contains (vars_in_terms (more e es)) b.1
    go None h m r = later (r m)
    go (Some y) h m r = first (is_among b (d, y) (bound ds es) m)
      where
        first : ((d, y) ≡ b) ⊎ Contains (bound ds es) b → Contains (d ∷ ds) b.0 × Contains (vars_in_terms (more e es)) b.1
        first (inl p) = (
          is_first b.0 d ds (ap (λ z. z.0) p),
          Contains-append_left (vars_in e) (vars_in_terms es) b.1 (name_stands e b.1 (h ∙ ap (λ z. Some z.1) p)),
        )
        first (inr q) = later (r q)

-- ---- holders

pub holders_have : (i : ℕ) (p : Place) → Holds i p → Contains (holders p) i
holders_have i outermost h = absurd h
holders_have i (part_of n) h = is_first i n [] (sym h)
holders_have i (turn_of n x) h = is_first i n [] (sym h)

pub holders_only : (i : ℕ) (p : Place) → Contains (holders p) i → Holds i p
holders_only i outermost c = absurd (is_none i c)
holders_only i (part_of n) c = sym (is_only i n c)
holders_only i (turn_of n x) c = sym (is_only i n c)

-- ---- the head

pub head_has : (k : Problem) (g : Part) → IsHead k g → Contains (head_parts k) g
head_has k g h = subst (λ o. Contains (list_of o) g) (sym h.is) (is_first g g [] refl)

pub head_only : (k : Problem) (g : Part) → Contains (head_parts k) g → IsHead k g
head_only k g c = record { is = go (slice_get (parts k.units) k.head) c }
  where
    go : (o : Option Part) → Contains (list_of o) g → o ≡ Some g
    go None d = absurd (is_none g d)
    go (Some h) d = ap (λ z. Some z) (is_only g h d)

-- a flagged dummy is a dummy
pub flagged_stands : (bs : List Bool) (ds : List (List ℕ)) (d : List ℕ) → Contains (flagged bs ds) d → Contains ds d
flagged_stands [] ds d c = absurd (is_none d c)
flagged_stands (b ∷ bs) [] d c = absurd (is_none d c)
flagged_stands (true ∷ bs) (e ∷ es) d c = go (is_among d e (flagged bs es) c) (flagged_stands bs es d)
  where
    go : (e ≡ d) ⊎ Contains (flagged bs es) d → (Contains (flagged bs es) d → Contains es d) → Contains (e ∷ es) d
    go (inl p) r = is_first d e es p
    go (inr q) r = is_later d e es (r q)
flagged_stands (false ∷ bs) (e ∷ es) d c = is_later d e es (flagged_stands bs es d c)
