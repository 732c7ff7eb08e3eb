-- The kernel of a written program is written.
use Rattle.std.proofs.Common.{◌≡◌, ℕ, zero, suc, ◌+◌, Bool, true, false, List, [], ◌∷◌, ◌++◌, All, map, sym, arith, subst}
use Rattle.std.proofs.lemmas.List.Elements.{All-nil, All-cons, All-head, All-tail, All-append}
use Rattle.std.specs.Prelude.{None, if◌then◌else◌}
use Rattle.adj_tree.specs.Code.{Var, plain, shadow, helper, plus, minus, times, quot, modulo, greater, lesser, Term, lit, var, elem, neg, bin, pow, power_of, abs, Terms, none, more, is_less, Test, compare, Act, assign, choose, loop, during, call, runtime, Code, stop, step, Procedure}
use Rattle.def_text.specs.Written.{IsName, IsVariable, IsIndexed, AreSubscripts, IsWrittenTerm, AreWrittenTerms, IsWrittenTest, IsPlace, IsWrittenAct, IsWrittenCode, IsWrittenExtent, IsWrittenDeclaration, IsWrittenProcedure, IsWritten}
use Rattle.def_text.specs.Statement.{runtime_call}
use Rattle.def_meaning.specs.Append.{◌+++◌}
use Rattle.def_meaning.specs.LeastSet.{Dummies}
use Rattle.def_meaning.specs.Read.{reads_term}
use Rattle.def_kernel.specs.Lowered.{locals_in, locals_in_all, length_of, first_flag, other_flags, picked, turned_up, reduced, before, set_local, mentions, locals_in_target, apart_from, before_target, lowered_assign, reduced_all, before_all, held, before_held, is_among, Passing, stays, put_back, by_value, passing, passing_name, passing_element, locals_passing, passed, before_passing, after_passing, all_passed, before_passing_all, after_passing_all, lowered_call, lowered_act, lowered}
use Rattle.def_meaning.specs.Written.{handed_back}
use Rattle.def_names.specs.Fresh.{fresh}
use Rattle.def_kernel.specs.Kernel.{wanted_local, local_names, taken_in, local_in, scalar_at, locals_count, lowered_unit, lowered_program, EachUnit}
use Rattle.law_kernel.specs.WrittenTheorem.{CallsUnits}
use Rattle.law_kernel.proofs.FreshWritten.{local-name}
use Rattle.law_kernel.specs.Apart.{EachCall', EachCall}
use Rattle.law_kernel.proofs.Sorts.{Sort, name, element, chosen, other, sort}

-- written lists, one after another
written_append : (c d : Code) → IsWrittenCode c → IsWrittenCode d → IsWrittenCode (c +++ d)
written_append stop d h g = g
written_append (step line a c) d h g = (h.0, written_append c d h.1 g)

module _ (local : ℕ → Var) (named : (k : ℕ) → IsVariable (local k)) where
  -- a reduced expression is written
  written_reduced : (e : Term) (j : ℕ) → IsWrittenTerm e → IsWrittenTerm (reduced local j e)
  written_reduced (lit z) j h = h
  written_reduced (var x) j h = h
  written_reduced (elem x subs) j h = h
  written_reduced (neg a) j h = written_reduced a j h
  written_reduced (bin plus a b) j h = (written_reduced a j h.0, written_reduced b (j + locals_in a) h.1)
  written_reduced (bin minus a b) j h = (written_reduced a j h.0, written_reduced b (j + locals_in a) h.1)
  written_reduced (bin times a b) j h = (written_reduced a j h.0, written_reduced b (j + locals_in a) h.1)
  written_reduced (bin quot a b) j h = h
  written_reduced (bin modulo a b) j h = h
  written_reduced (bin greater a b) j h = named (j + locals_in a + locals_in b)
  written_reduced (bin lesser a b) j h = named (j + locals_in a + locals_in b)
  written_reduced (pow a zero) j h = h
  written_reduced (pow a (suc k)) j h = (written_reduced a j h.0, h.1)
  written_reduced (power_of a b) j h = (written_reduced a j h.0, h.1, h.2)
  written_reduced (abs a) j h = named (j + locals_in a)

  written_picked : (line : ℕ) (t : Test) (i : ℕ) (a b : Term) → IsWrittenTest t → IsWrittenTerm a → IsWrittenTerm b → IsWrittenCode (picked local line t i a b)
  written_picked line t i a b w h g = ((named i, h), ((named (suc i), g), ((w, ((named i, named (suc i)), tt), tt), tt)))

  written_turned : (line i : ℕ) (a : Term) → IsWrittenTerm a → IsWrittenCode (turned_up local line i a)
  written_turned line i a h = ((named i, h), (((named i, omega arith), ((named i, named i), tt), tt), tt))

  -- and so is what is set before it
  written_before : (line j : ℕ) (e : Term) → IsWrittenTerm e → IsWrittenCode (before local line j e)
  written_before line j (lit z) h = tt
  written_before line j (var y) h = tt
  written_before line j (elem y subs) h = tt
  written_before line j (neg a) h = written_before line j a h
  written_before line j (bin plus a b) h = written_append (before local line j a) _ (written_before line j a h.0) (written_before line (j + locals_in a) b h.1)
  written_before line j (bin minus a b) h = written_append (before local line j a) _ (written_before line j a h.0) (written_before line (j + locals_in a) b h.1)
  written_before line j (bin times a b) h = written_append (before local line j a) _ (written_before line j a h.0) (written_before line (j + locals_in a) b h.1)
  written_before line j (bin quot a b) h = tt
  written_before line j (bin modulo a b) h = tt
  written_before line j (bin greater a b) h =
      let i = j + locals_in a + locals_in b in
      written_append (before local line j a) _ (written_before line j a h.0) (written_append (before local line (j + locals_in a) b) _ (written_before line (j + locals_in a) b h.1)
      (written_picked line (compare is_less (var (local i)) (var (local (suc i)))) i (reduced local j a) (reduced local (j + locals_in a) b) (named i, named (suc i)) (written_reduced a j h.0) (written_reduced b (j + locals_in a) h.1)))
  written_before line j (bin lesser a b) h =
      let i = j + locals_in a + locals_in b in
      written_append (before local line j a) _ (written_before line j a h.0) (written_append (before local line (j + locals_in a) b) _ (written_before line (j + locals_in a) b h.1)
      (written_picked line (compare is_less (var (local (suc i))) (var (local i))) i (reduced local j a) (reduced local (j + locals_in a) b) (named (suc i), named i) (written_reduced a j h.0) (written_reduced b (j + locals_in a) h.1)))
  written_before line j (pow a zero) h = tt
  written_before line j (pow a (suc k)) h = written_before line j a h.0
  written_before line j (power_of a b) h = written_before line j a h.0
  written_before line j (abs a) h = written_append (before local line j a) _ (written_before line j a h) (written_turned line (j + locals_in a) (reduced local j a) (written_reduced a j h))

  -- a local that is set
  written_set : (line j m : ℕ) (e : Term) → IsWrittenTerm e → IsWrittenCode (set_local local line j m e)
  written_set line j m e h = written_append (before local line m e) _ (written_before line m e h) ((named j, written_reduced e m h), tt)

  -- ---- targets

  written_target : (line : ℕ) (y : Var) (j m : ℕ) (es : Terms) → AreWrittenTerms es → IsWrittenCode (before_target local line y j m es)
  written_target line y j m none h = tt
  written_target line y j m (more e es) h = go (reads_term y e) (written_target line y (suc j) (m + locals_in e) es h.1) (written_target line y j m es h.1)
    where
      go : (b : Bool) → IsWrittenCode (before_target local line y (suc j) (m + locals_in e) es) → IsWrittenCode (before_target local line y j m es) → IsWrittenCode (if b then set_local local line j m e +++ before_target local line y (suc j) (m + locals_in e) es else before_target local line y j m es)
      go true f g = written_append (set_local local line j m e) _ (written_set line j m e h.0) f
      go false f g = g

  written_apart : (x : Var) (j : ℕ) (es : Terms) → AreWrittenTerms es → AreWrittenTerms (apart_from local x j es)
  written_apart x j none h = tt
  written_apart x j (more e es) h = go (reads_term x e) (written_apart x (suc j) es h.1) (written_apart x j es h.1)
    where
      go : (b : Bool) → AreWrittenTerms (apart_from local x (suc j) es) → AreWrittenTerms (apart_from local x j es) → AreWrittenTerms (if b then more (var (local j)) (apart_from local x (suc j) es) else more e (apart_from local x j es))
      go true f g = (named j, f)
      go false f g = (h.0, g)

  -- one or two subscripts stay one or two
  apart_subscripts : (x : Var) (j : ℕ) (es : Terms) → AreSubscripts es → AreSubscripts (apart_from local x j es)
  apart_subscripts x j none h = h
  apart_subscripts x j (more a none) h = go (reads_term x a)
    where
      go : (b : Bool) → AreSubscripts (if b then more (var (local j)) none else more a none)
      go true = tt
      go false = tt
  apart_subscripts x j (more a (more b none)) h = go (reads_term x a)
    where
      second : (i : ℕ) (e : Term) (c : Bool) → AreSubscripts (more e (if c then more (var (local i)) none else more b none))
      second i e true = tt
      second i e false = tt

      go : (c : Bool) → AreSubscripts (if c then more (var (local j)) (apart_from local x (suc j) (more b none)) else more a (apart_from local x j (more b none)))
      go true = second (suc j) (var (local j)) (reads_term x b)
      go false = second j a (reads_term x b)
  apart_subscripts x j (more a (more b (more c es))) h = absurd h

  -- a place by its parts
  place_of : (x : Var) (subs : Terms) → IsVariable x → AreSubscripts subs → AreWrittenTerms subs → IsPlace x subs
  place_of x none v a w = v
  place_of x (more e es) v a w = (v, a, w)

  written_place : (x : Var) (subs : Terms) → IsPlace x subs → IsPlace x (apart_from local x 0 subs)
  written_place x none h = h
  written_place x (more e es) h = place_of x (apart_from local x 0 (more e es)) h.0 (apart_subscripts x 0 (more e es) h.1) (written_apart x 0 (more e es) h.2)

  -- the subscripts of a place
  place_terms : (x : Var) (subs : Terms) → IsPlace x subs → AreWrittenTerms subs
  place_terms x none h = tt
  place_terms x (more e es) h = h.2

  -- an assignment
  written_assign : (line : ℕ) (x : Var) (subs : Terms) (e : Term) → IsPlace x subs → IsWrittenTerm e → IsWrittenCode (lowered_assign local line x subs e)
  written_assign line x subs e p h =
      let m = mentions x subs in let k = m + locals_in_target x subs in
      written_append (before_target local line x 0 m subs) _ (written_target line x 0 m subs (place_terms x subs p)) (written_append (before local line k e) _ (written_before line k e h) ((written_place x subs p, written_reduced e k h), tt))

  -- ---- calls

  written_all : (line j : ℕ) (es : Terms) → AreWrittenTerms es → IsWrittenCode (before_all local line j es)
  written_all line j none h = tt
  written_all line j (more e es) h = written_append (before local line j e) _ (written_before line j e h.0) (written_all line (j + locals_in e) es h.1)

  written_before_held : (line j : ℕ) (es : Terms) → AreWrittenTerms es → IsWrittenCode (before_held local line j es)
  written_before_held line j none h = tt
  written_before_held line j (more e es) h = written_append (set_local local line j (suc j) e) _ (written_set line j (suc j) e h.0) (written_before_held line (suc (j + locals_in e)) es h.1)

  written_held : (j : ℕ) (es : Terms) → AreWrittenTerms (held local j es)
  written_held j none = tt
  written_held j (more e es) = (named j, written_held (suc (j + locals_in e)) es)

  held_subscripts : (j : ℕ) (es : Terms) → AreSubscripts es → AreSubscripts (held local j es)
  held_subscripts j none h = h
  held_subscripts j (more a none) h = tt
  held_subscripts j (more a (more b none)) h = tt
  held_subscripts j (more a (more b (more c es))) h = absurd h

  -- what a passing is made of is written
  abbrev IsWrittenPassing : Passing → Type 0
  IsWrittenPassing (stays y) = IsVariable y
  IsWrittenPassing (put_back y subs) = IsIndexed y × (AreSubscripts subs × AreWrittenTerms subs)
  IsWrittenPassing (by_value e) = IsWrittenTerm e

  variable_of : (y : Var) → IsIndexed y → IsVariable y
  variable_of (plain x) h = h.0
  variable_of (shadow x) h = absurd h
  variable_of (helper r k) h = absurd h

  -- what is passed
  written_passing : (w : Bool) (earlier : List Var) (i : ℕ) (e : Term) → IsWrittenTerm e → IsWrittenPassing (passing w earlier (reduced local i e))
  written_passing w earlier i e h = go (sort Bool local i e)
    where
      by_name : (b : Bool) (y : Var) → IsVariable y → IsWrittenPassing (passing_name b y)
      by_name true y g = g
      by_name false y g = g

      by_element : (b : Bool) (y : Var) (subs : Terms) → IsWrittenTerm (elem y subs) → IsWrittenPassing (passing_element b y subs)
      by_element true y subs g = (g.0, (g.1, g.2))
      by_element false y subs g = g

      go : Sort Bool local i e → IsWrittenPassing (passing w earlier (reduced local i e))
      go (name y f) = subst (λ z. IsWrittenPassing (passing w earlier (reduced local i z))) (sym f) (by_name (is_among y earlier) y (subst IsWrittenTerm f h))
      go (element y subs f) = subst (λ z. IsWrittenPassing (passing w earlier (reduced local i z))) (sym f) (by_element w y subs (subst IsWrittenTerm f h))
      go (chosen l l1 l2 f is) = subst (λ z. IsWrittenPassing (passing w earlier z)) (sym f) (by_name (is_among (local l) earlier) (local l) (named l))
      go (other f is) = subst IsWrittenPassing (sym (f w earlier)) (written_reduced e i h)

  written_name : (j : ℕ) (p : Passing) → IsWrittenPassing p → IsVariable (passed local j p)
  written_name j (stays y) h = h
  written_name j (put_back y subs) h = named (j + (length_of subs + locals_in_all subs))
  written_name j (by_value e) h = named j

  written_first : (line j : ℕ) (p : Passing) → IsWrittenPassing p → IsWrittenCode (before_passing local line j p)
  written_first line j (stays y) h = tt
  written_first line j (put_back y subs) h =
      written_append (before_held local line j subs) _ (written_before_held line j subs h.1.1) ((named (j + (length_of subs + locals_in_all subs)), (h.0, held_subscripts j subs h.1.0, written_held j subs)), tt)
  written_first line j (by_value e) h = ((named j, h), tt)

  written_last : (line j : ℕ) (p : Passing) → IsWrittenPassing p → IsWrittenCode (after_passing local line j p)
  written_last line j (stays y) h = tt
  written_last line j (put_back y subs) h = ((place_of y (held local j subs) (variable_of y h.0) (held_subscripts j subs h.1.0) (written_held j subs), named (j + (length_of subs + locals_in_all subs))), tt)
  written_last line j (by_value e) h = tt

  module _ (line : ℕ) where
    written_firsts : (es : Terms) (ws : List Bool) (earlier : List Var) (i j : ℕ) → AreWrittenTerms es → IsWrittenCode (before_passing_all local line j ws earlier (reduced_all local i es))
    written_firsts none ws earlier i j h = tt
    written_firsts (more e es) ws earlier i j h =
        let p = passing (first_flag ws) earlier (reduced local i e) in
        written_append (before_passing local line j p) _ (written_first line j p (written_passing (first_flag ws) earlier i e h.0)) (written_firsts es (other_flags ws) (passed local j p ∷ earlier) (i + locals_in e) (j + locals_passing p) h.1)

    written_lasts : (es : Terms) (ws : List Bool) (earlier : List Var) (i j : ℕ) → AreWrittenTerms es → IsWrittenCode (after_passing_all local line j ws earlier (reduced_all local i es))
    written_lasts none ws earlier i j h = tt
    written_lasts (more e es) ws earlier i j h =
        let p = passing (first_flag ws) earlier (reduced local i e) in
        written_append (after_passing local line j p) _ (written_last line j p (written_passing (first_flag ws) earlier i e h.0)) (written_lasts es (other_flags ws) (passed local j p ∷ earlier) (i + locals_in e) (j + locals_passing p) h.1)

    written_names : (es : Terms) (ws : List Bool) (earlier : List Var) (i j : ℕ) → AreWrittenTerms es → AreWrittenTerms (all_passed local j ws earlier (reduced_all local i es))
    written_names none ws earlier i j h = tt
    written_names (more e es) ws earlier i j h =
        let p = passing (first_flag ws) earlier (reduced local i e) in
        (written_name j p (written_passing (first_flag ws) earlier i e h.0), written_names es (other_flags ws) (passed local j p ∷ earlier) (i + locals_in e) (j + locals_passing p) h.1)

    -- a CALL
    written_call : (ws : List Bool) (unit : List ℕ) (args : Terms) → IsName unit → ((es : Terms) → runtime_call unit es ≡ None) → AreWrittenTerms args → IsWrittenCode (lowered_call local line ws unit args)
    written_call ws unit args u r h =
        let j = locals_in_all args in let es = reduced_all local 0 args in
        written_append (before_all local line 0 args) _ (written_all line 0 args h)
        (written_append (before_passing_all local line j ws [] es) _ (written_firsts args ws [] 0 j h)
        ((u, written_names args ws [] 0 j h, r (all_passed local j ws [] es)), written_lasts args ws [] 0 j h))

  -- ---- lists

  module _ (handed : Dummies) where
    mutual
      written_act : (line : ℕ) (a : Act) → IsWrittenAct a → EachCall' (λ unit args. (es : Terms) → runtime_call unit es ≡ None) a → IsWrittenCode (lowered_act local handed line a)
      written_act line (assign x subs e) h p = written_assign line x subs e h.0 h.1
      written_act line (choose c a b) h p = ((h.0, written_code a h.1 p.0, written_code b h.2 p.1), tt)
      written_act line (loop x first last by body m) h p = ((h.0, h.1, h.2, h.3, written_code body h.4 p, h.5), tt)
      written_act line (during c body) h p = ((h.0, written_code body h.1 p), tt)
      written_act line (call unit args) h p = written_call line (handed unit) unit args h.0 p h.1
      written_act line (runtime r) h p = absurd p

      -- a written list whose CALLs are of units becomes a written list
      pub written_code : (c : Code) → IsWrittenCode c → EachCall (λ unit args. (es : Terms) → runtime_call unit es ≡ None) c → IsWrittenCode (lowered local handed c)
      written_code stop h p = tt
      written_code (step line a rest) h p = written_append (lowered_act local handed line a) (lowered local handed rest) (written_act line a h.0 p.0) (written_code rest h.1 p.1)

-- ---- units

-- the declarations of locals
locals_written : (line : ℕ) (taken : List (List ℕ)) (k : ℕ) → All IsWrittenDeclaration (map (scalar_at line) (local_names taken k))
locals_written line taken zero = All-nil IsWrittenDeclaration
locals_written line taken (suc k) = behind (local_names taken k) (locals_written line taken k)
  where
    last : List ℕ
    last = fresh (wanted_local k) (taken ++ local_names taken k)

    behind : (xs : List (List ℕ)) → All IsWrittenDeclaration (map (scalar_at line) xs) → All IsWrittenDeclaration (map (scalar_at line) (xs ++ (fresh (wanted_local k) (taken ++ local_names taken k) ∷ [])))
    behind [] h = All-cons IsWrittenDeclaration (scalar_at line last) [] (record { named = local-name taken k; few_extents = omega arith; extents = All-nil IsWrittenExtent }) (All-nil IsWrittenDeclaration)
    behind (x ∷ xs) h =
        All-cons IsWrittenDeclaration (scalar_at line x) (map (scalar_at line) (xs ++ (last ∷ []))) (All-head IsWrittenDeclaration (scalar_at line x) (map (scalar_at line) xs) h) (behind xs (All-tail IsWrittenDeclaration (scalar_at line x) (map (scalar_at line) xs) h))

-- a unit
pub unit_written : (units : List Procedure) (u : Procedure) → IsWrittenProcedure u → CallsUnits u → IsWrittenProcedure (lowered_unit units u)
unit_written units u h p = record {
  named = h.named;
  dummies = h.dummies;
  declarations = All-append IsWrittenDeclaration u.declarations (map (scalar_at u.line) (local_names (taken_in units u) (locals_count units u))) h.declarations (locals_written u.line (taken_in units u) (locals_count units u));
  body = written_code (local_in units u) (λ k. local-name (taken_in units u) k) (handed_back units) u.body h.body p;
}

-- the kernel of a written program is written
pub kernel_written : (units : List Procedure) → IsWritten units → EachUnit CallsUnits units → IsWritten (lowered_program units)
kernel_written units h p = each units h p
  where
    each : (us : List Procedure) → All IsWrittenProcedure us → EachUnit CallsUnits us → All IsWrittenProcedure (map (lowered_unit units) us)
    each [] h p = All-nil IsWrittenProcedure
    each (u ∷ us) h p = All-cons IsWrittenProcedure (lowered_unit units u) (map (lowered_unit units) us) (unit_written units u (All-head IsWrittenProcedure u us h) p.0) (each us (All-tail IsWrittenProcedure u us h) p.1)
