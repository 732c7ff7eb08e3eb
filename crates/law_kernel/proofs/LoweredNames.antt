-- The names in the statements that a statement becomes: those that stood in it, as they stood, and locals as scalars.
use Rattle.std.proofs.Common.{◌≡◌, ℕ, zero, suc, ◌+◌, ◌<◌, ◌≤◌, Bool, true, false, List, [], ◌∷◌, ◌++◌, refl, sym, ap, arith, subst}
use Rattle.std.specs.Prelude.{Some, pos, if◌then◌else◌}
use Rattle.adj_tree.specs.Code.{Var, plus, minus, times, quot, modulo, greater, lesser, Term, lit, var, elem, neg, bin, pow, power_of, abs, Terms, none, more, compare, is_less, Act, assign, choose, loop, during, call, runtime, Code, stop, step}
use Rattle.def_meaning.specs.Append.{◌+++◌, one}
use Rattle.def_meaning.specs.LeastSet.{Dummies}
use Rattle.def_meaning.specs.Read.{reads_term}
use Rattle.def_meaning.proofs.Booleans.{or_first}
use Rattle.def_meaning.proofs.Variables.{var_refl}
use Rattle.def_names.specs.Standing.{Standing, standing, scalar, whole, count_of, in_term, in_terms, in_place, in_actual, in_actuals, in_act}
use Rattle.def_kernel.specs.Lowered.{count_of as flag_count, locals_in, locals_in_all, length_of, first_flag, other_flags, reduced, before, picked, turned_up, set_local, mentions, locals_in_target, apart_from, before_target, lowered_assign, reduced_all, before_all, held, before_held, is_among, passing, passing_name, locals_passing, locals_passing_all, passed, before_passing, after_passing, all_passed, before_passing_all, after_passing_all, lowered_call, lowered_act, lowered, locals_of_act, locals_of}
use Rattle.law_kernel.specs.Apart.{EachCall', EachCall}
use Rattle.def_kernel.specs.Calls.{is_name_of, stands_whole}
use Rattle.law_kernel.proofs.Faultless.{Each, each_front, each_behind, each_join}
use Rattle.law_kernel.proofs.Holding.{HoldsIn, Holds, holds_join}
use Rattle.law_kernel.proofs.Repeated.{Once, Earlier, reduced_once, next_earlier}

module _ (local : ℕ → Var) (bound : ℕ) (R : Standing → Type 0) (scalar_local : (k : ℕ) → k < bound → Each R (scalar (local k))) (whole_local : (k : ℕ) → k < bound → Each R (whole (local k))) where
  -- it holds of each name of a statement
  abbrev pub Names : ℕ → Act → Type 0
  Names line a = Each R (in_act a)

  -- of each name in an expression
  abbrev OfTerm : Term → Type 0
  OfTerm e = Each R (in_term e)

  -- of two
  first_term : (a b : Term) → Each R (in_term a ++ in_term b) → OfTerm a
  first_term a b h = each_front R (in_term a) (in_term b) h

  -- the second
  second_term : (a b : Term) → Each R (in_term a ++ in_term b) → OfTerm b
  second_term a b h = each_behind R (in_term a) (in_term b) h

  -- both
  two_terms : (a b : Term) → OfTerm a → OfTerm b → Each R (in_term a ++ in_term b)
  two_terms a b h g = each_join R (in_term a) (in_term b) h g

  -- a scalar is assigned
  set_scalar : (line : ℕ) (x : Var) (e : Term) → Each R (scalar x) → OfTerm e → Holds Names (one line (assign x none e))
  set_scalar line x e h g = (each_join R (scalar x ++ []) (in_term e) (each_join R (scalar x) [] h tt) g, (tt, tt))

  -- ---- expressions

  -- a reduced expression
  reduced_term : (j : ℕ) (e : Term) → j + locals_in e ≤ bound → OfTerm e → OfTerm (reduced local j e)
  reduced_term j (lit z) le h = h
  reduced_term j (var x) le h = h
  reduced_term j (elem x subs) le h = h
  reduced_term j (neg a) le h = reduced_term j a le h
  reduced_term j (bin plus a b) le h = two_terms (reduced local j a) (reduced local (j + locals_in a) b) (reduced_term j a (omega (arith, le)) (first_term a b h)) (reduced_term (j + locals_in a) b (omega (arith, le)) (second_term a b h))
  reduced_term j (bin minus a b) le h = two_terms (reduced local j a) (reduced local (j + locals_in a) b) (reduced_term j a (omega (arith, le)) (first_term a b h)) (reduced_term (j + locals_in a) b (omega (arith, le)) (second_term a b h))
  reduced_term j (bin times a b) le h = two_terms (reduced local j a) (reduced local (j + locals_in a) b) (reduced_term j a (omega (arith, le)) (first_term a b h)) (reduced_term (j + locals_in a) b (omega (arith, le)) (second_term a b h))
  reduced_term j (bin quot a b) le h = h
  reduced_term j (bin modulo a b) le h = h
  reduced_term j (bin greater a b) le h = scalar_local (j + locals_in a + locals_in b) (omega (arith, le))
  reduced_term j (bin lesser a b) le h = scalar_local (j + locals_in a + locals_in b) (omega (arith, le))
  reduced_term j (pow a zero) le h = h
  reduced_term j (pow a (suc k)) le h = reduced_term j a le h
  reduced_term j (power_of a b) le h = two_terms (reduced local j a) b (reduced_term j a le (first_term a b h)) (second_term a b h)
  reduced_term j (abs a) le h = scalar_local (j + locals_in a) (omega (arith, le))

  -- two locals, and the first or second of them
  of_picked : (line : ℕ) (p q i : ℕ) (a b : Term) → p < bound → q < bound → suc i < bound → OfTerm a → OfTerm b → Holds Names (picked local line (compare is_less (var (local p)) (var (local q))) i a b)
  of_picked line p q i a b pl ql il h g =
      let first = scalar_local i (omega (arith, il)) in
      let second = scalar_local (suc i) il in
      ((set_scalar line (local i) a first h).0, (tt, ((set_scalar line (local (suc i)) b second g).0, (tt, (two_terms (var (local p)) (var (local q)) (scalar_local p pl) (scalar_local q ql), ((set_scalar line (local i) (var (local (suc i))) first second, tt), tt))))))

  -- a local that is turned up
  of_turned : (line i : ℕ) (a : Term) → i < bound → OfTerm a → Holds Names (turned_up local line i a)
  of_turned line i a il h =
      let own = scalar_local i il in
      ((set_scalar line (local i) a own h).0, (tt, (two_terms (var (local i)) (lit (pos 0)) own tt, ((set_scalar line (local i) (neg (var (local i))) own own, tt), tt))))

  -- what is set before an expression
  of_before : (line j : ℕ) (e : Term) → j + locals_in e ≤ bound → OfTerm e → Holds Names (before local line j e)
  of_before line j (lit z) le h = tt
  of_before line j (var x) le h = tt
  of_before line j (elem x subs) le h = tt
  of_before line j (neg a) le h = of_before line j a le h
  of_before line j (bin plus a b) le h = holds_join Names (before local line j a) _ (of_before line j a (omega (arith, le)) (first_term a b h)) (of_before line (j + locals_in a) b (omega (arith, le)) (second_term a b h))
  of_before line j (bin minus a b) le h = holds_join Names (before local line j a) _ (of_before line j a (omega (arith, le)) (first_term a b h)) (of_before line (j + locals_in a) b (omega (arith, le)) (second_term a b h))
  of_before line j (bin times a b) le h = holds_join Names (before local line j a) _ (of_before line j a (omega (arith, le)) (first_term a b h)) (of_before line (j + locals_in a) b (omega (arith, le)) (second_term a b h))
  of_before line j (bin quot a b) le h = tt
  of_before line j (bin modulo a b) le h = tt
  of_before line j (bin greater a b) le h =
      holds_join Names (before local line j a) _ (of_before line j a (omega (arith, le)) (first_term a b h))
      (holds_join Names (before local line (j + locals_in a) b) _ (of_before line (j + locals_in a) b (omega (arith, le)) (second_term a b h))
      (of_picked line (j + locals_in a + locals_in b) (suc (j + locals_in a + locals_in b)) (j + locals_in a + locals_in b) (reduced local j a) (reduced local (j + locals_in a) b) (omega (arith, le)) (omega (arith, le)) (omega (arith, le)) (reduced_term j a (omega (arith, le)) (first_term a b h)) (reduced_term (j + locals_in a) b (omega (arith, le)) (second_term a b h))))
  of_before line j (bin lesser a b) le h =
      holds_join Names (before local line j a) _ (of_before line j a (omega (arith, le)) (first_term a b h))
      (holds_join Names (before local line (j + locals_in a) b) _ (of_before line (j + locals_in a) b (omega (arith, le)) (second_term a b h))
      (of_picked line (suc (j + locals_in a + locals_in b)) (j + locals_in a + locals_in b) (j + locals_in a + locals_in b) (reduced local j a) (reduced local (j + locals_in a) b) (omega (arith, le)) (omega (arith, le)) (omega (arith, le)) (reduced_term j a (omega (arith, le)) (first_term a b h)) (reduced_term (j + locals_in a) b (omega (arith, le)) (second_term a b h))))
  of_before line j (pow a zero) le h = tt
  of_before line j (pow a (suc k)) le h = of_before line j a le h
  of_before line j (power_of a b) le h = of_before line j a le (first_term a b h)
  of_before line j (abs a) le h = holds_join Names (before local line j a) _ (of_before line j a (omega (arith, le)) h) (of_turned line (j + locals_in a) (reduced local j a) (omega (arith, le)) (reduced_term j a (omega (arith, le)) h))

  -- a local that is set
  of_set : (line j m : ℕ) (e : Term) → j < bound → m + locals_in e ≤ bound → OfTerm e → Holds Names (set_local local line j m e)
  of_set line j m e jl le h = holds_join Names (before local line m e) _ (of_before line m e le h) (set_scalar line (local j) (reduced local m e) (scalar_local j jl) (reduced_term m e le h))

  -- ---- assignments

  -- the first subscript
  first_sub : (e : Term) (es : Terms) → Each R (in_terms (more e es)) → OfTerm e
  first_sub e es h = each_front R (in_term e) (in_terms es) h

  -- the others
  other_subs : (e : Term) (es : Terms) → Each R (in_terms (more e es)) → Each R (in_terms es)
  other_subs e es h = each_behind R (in_term e) (in_terms es) h

  -- subscripts of a target that are locals
  of_apart : (x : Var) (j : ℕ) (es : Terms) → j + mentions x es ≤ bound → Each R (in_terms es) → Each R (in_terms (apart_from local x j es))
  of_apart x j none le h = tt
  of_apart x j (more e es) le h = go (reads_term x e) le (λ l. of_apart x (suc j) es l (other_subs e es h)) (λ l. of_apart x j es l (other_subs e es h))
    where
      go : (b : Bool) → j + (flag_count b + mentions x es) ≤ bound → (suc j + mentions x es ≤ bound → Each R (in_terms (apart_from local x (suc j) es))) → (j + mentions x es ≤ bound → Each R (in_terms (apart_from local x j es))) → Each R (in_terms (if b then more (var (local j)) (apart_from local x (suc j) es) else more e (apart_from local x j es)))
      go true l ih jh = each_join R (scalar (local j)) (in_terms (apart_from local x (suc j) es)) (scalar_local j (omega (arith, l))) (ih (omega (arith, l)))
      go false l ih jh = each_join R (in_term e) (in_terms (apart_from local x j es)) (first_sub e es h) (jh (omega (arith, l)))

  -- are as many
  as_many : (x : Var) (j : ℕ) (es : Terms) → count_of (apart_from local x j es) ≡ count_of es
  as_many x j none = refl
  as_many x j (more e es) = go (reads_term x e) (as_many x (suc j) es) (as_many x j es)
    where
      go : (b : Bool) → count_of (apart_from local x (suc j) es) ≡ count_of es → count_of (apart_from local x j es) ≡ count_of es → count_of (if b then more (var (local j)) (apart_from local x (suc j) es) else more e (apart_from local x j es)) ≡ suc (count_of es)
      go true ih jh = ap suc ih
      go false ih jh = ap suc jh

  -- what is set before a target
  of_target : (line : ℕ) (x : Var) (j m : ℕ) (es : Terms) → j + mentions x es ≤ bound → m + locals_in_target x es ≤ bound → Each R (in_terms es) → Holds Names (before_target local line x j m es)
  of_target line x j m none le lm h = tt
  of_target line x j m (more e es) le lm h = go (reads_term x e) le lm (λ l k. of_target line x (suc j) (m + locals_in e) es l k (other_subs e es h)) (λ l k. of_target line x j m es l k (other_subs e es h))
    where
      go : (b : Bool) → j + (flag_count b + mentions x es) ≤ bound → m + ((if b then locals_in e else 0) + locals_in_target x es) ≤ bound → (suc j + mentions x es ≤ bound → m + locals_in e + locals_in_target x es ≤ bound → Holds Names (before_target local line x (suc j) (m + locals_in e) es)) →
          (j + mentions x es ≤ bound → m + locals_in_target x es ≤ bound → Holds Names (before_target local line x j m es)) → Holds Names (if b then set_local local line j m e +++ before_target local line x (suc j) (m + locals_in e) es else before_target local line x j m es)
      go true l k ih jh = holds_join Names (set_local local line j m e) _ (of_set line j m e (omega (arith, l)) (omega (arith, k)) (first_sub e es h)) (ih (omega (arith, l)) (omega (arith, k)))
      go false l k ih jh = jh (omega (arith, l)) (omega (arith, k))

  -- a place with other subscripts, as many
  place_with : (x : Var) (subs others : Terms) → count_of others ≡ count_of subs → Each R (in_place x subs) → Each R (in_terms others) → Each R (in_place x others)
  place_with x subs others n h g = each_join R (standing (Some (count_of others)) x) (in_terms others) (subst (λ k. Each R (standing (Some k) x)) (sym n) (each_front R (standing (Some (count_of subs)) x) (in_terms subs) h)) g

  -- a lowered assignment
  of_assign : (line : ℕ) (x : Var) (subs : Terms) (e : Term) → mentions x subs + locals_in_target x subs + locals_in e ≤ bound → Each R (in_place x subs ++ in_term e) → Holds Names (lowered_assign local line x subs e)
  of_assign line x subs e le h =
      let target = each_front R (in_place x subs) (in_term e) h in
      let right = each_behind R (in_place x subs) (in_term e) h in
      let inside = each_behind R (standing (Some (count_of subs)) x) (in_terms subs) target in
      holds_join Names (before_target local line x 0 (mentions x subs) subs) _ (of_target line x 0 (mentions x subs) subs (omega (arith, le)) (omega (arith, le)) inside)
      (holds_join Names (before local line (mentions x subs + locals_in_target x subs) e) _ (of_before line (mentions x subs + locals_in_target x subs) e le right) (
        each_join R (in_place x (apart_from local x 0 subs)) (in_term (reduced local (mentions x subs + locals_in_target x subs) e)) (place_with x subs (apart_from local x 0 subs) (as_many x 0 subs) target (of_apart x 0 subs (omega (arith, le)) inside)) (reduced_term (mentions x subs + locals_in_target x subs) e le right),
        (tt, tt),
      ))

  -- ---- actuals

  -- an actual that becomes another expression
  reduced_actual : (j : ℕ) (e : Term) → j + locals_in e ≤ bound → Each R (in_actual e) → Each R (in_actual (reduced local j e))
  reduced_actual j (lit z) le h = h
  reduced_actual j (var x) le h = h
  reduced_actual j (elem x subs) le h = h
  reduced_actual j (neg a) le h = reduced_term j (neg a) le h
  reduced_actual j (bin plus a b) le h = reduced_term j (bin plus a b) le h
  reduced_actual j (bin minus a b) le h = reduced_term j (bin minus a b) le h
  reduced_actual j (bin times a b) le h = reduced_term j (bin times a b) le h
  reduced_actual j (bin quot a b) le h = h
  reduced_actual j (bin modulo a b) le h = h
  reduced_actual j (bin greater a b) le h = whole_local (j + locals_in a + locals_in b) (omega (arith, le))
  reduced_actual j (bin lesser a b) le h = whole_local (j + locals_in a + locals_in b) (omega (arith, le))
  reduced_actual j (pow a zero) le h = h
  reduced_actual j (pow a (suc k)) le h = reduced_term j (pow a (suc k)) le h
  reduced_actual j (power_of a b) le h = reduced_term j (power_of a b) le h
  reduced_actual j (abs a) le h = whole_local (j + locals_in a) (omega (arith, le))

  -- what is set before an actual
  before_actual : (line j : ℕ) (e : Term) → j + locals_in e ≤ bound → Each R (in_actual e) → Holds Names (before local line j e)
  before_actual line j (lit z) le h = tt
  before_actual line j (var x) le h = tt
  before_actual line j (elem x subs) le h = tt
  before_actual line j (neg a) le h = of_before line j (neg a) le h
  before_actual line j (bin op a b) le h = of_before line j (bin op a b) le h
  before_actual line j (pow a k) le h = of_before line j (pow a k) le h
  before_actual line j (power_of a b) le h = of_before line j (power_of a b) le h
  before_actual line j (abs a) le h = of_before line j (abs a) le h

  -- the first actual
  first_actual : (e : Term) (es : Terms) → Each R (in_actuals (more e es)) → Each R (in_actual e)
  first_actual e es h = each_front R (in_actual e) (in_actuals es) h

  -- the others
  other_actuals : (e : Term) (es : Terms) → Each R (in_actuals (more e es)) → Each R (in_actuals es)
  other_actuals e es h = each_behind R (in_actual e) (in_actuals es) h

  -- reduced actuals
  reduced_actuals : (j : ℕ) (es : Terms) → j + locals_in_all es ≤ bound → Each R (in_actuals es) → Each R (in_actuals (reduced_all local j es))
  reduced_actuals j none le h = tt
  reduced_actuals j (more e es) le h =
      each_join R (in_actual (reduced local j e)) (in_actuals (reduced_all local (j + locals_in e) es)) (reduced_actual j e (omega (arith, le)) (first_actual e es h)) (reduced_actuals (j + locals_in e) es (omega (arith, le)) (other_actuals e es h))

  -- what is set before them
  before_actuals : (line j : ℕ) (es : Terms) → j + locals_in_all es ≤ bound → Each R (in_actuals es) → Holds Names (before_all local line j es)
  before_actuals line j none le h = tt
  before_actuals line j (more e es) le h =
      holds_join Names (before local line j e) _ (before_actual line j e (omega (arith, le)) (first_actual e es h)) (before_actuals line (j + locals_in e) es (omega (arith, le)) (other_actuals e es h))

  -- ---- passing

  -- subscripts that are held in locals
  of_held : (j : ℕ) (es : Terms) → j + (length_of es + locals_in_all es) ≤ bound → Each R (in_terms (held local j es))
  of_held j none le = tt
  of_held j (more e es) le = each_join R (scalar (local j)) (in_terms (held local (suc (j + locals_in e)) es)) (scalar_local j (omega (arith, le))) (of_held (suc (j + locals_in e)) es (omega (arith, le)))

  -- are as many
  held_as_many : (j : ℕ) (es : Terms) → count_of (held local j es) ≡ count_of es
  held_as_many j none = refl
  held_as_many j (more e es) = ap suc (held_as_many (suc (j + locals_in e)) es)

  -- what is set for them
  before_held_stand : (line j : ℕ) (es : Terms) → j + (length_of es + locals_in_all es) ≤ bound → Each R (in_terms es) → Holds Names (before_held local line j es)
  before_held_stand line j none le h = tt
  before_held_stand line j (more e es) le h =
      holds_join Names (set_local local line j (suc j) e) _ (of_set line j (suc j) e (omega (arith, le)) (omega (arith, le)) (first_sub e es h)) (before_held_stand line (suc (j + locals_in e)) es (omega (arith, le)) (other_subs e es h))

  -- a scalar where it stands alone
  abbrev IsScalar : Var → Type 0
  IsScalar x = Each R (scalar x)

  -- what is set for one passing
  of_passing : (line j : ℕ) (w : Bool) (earlier : List Var) (e : Term) → j + locals_passing (passing w earlier e) ≤ bound → Each R (in_actual e) → ((x : Var) → is_among x earlier ≡ true → is_name_of x e ≡ true → IsScalar x) → Holds Names (before_passing local line j (passing w earlier e))
  of_passing line j w earlier (var x) le h f = go (is_among x earlier) refl le
    where
      go : (b : Bool) → is_among x earlier ≡ b → j + locals_passing (passing_name b x) ≤ bound → Holds Names (before_passing local line j (passing_name b x))
      go true a le = set_scalar line (local j) (var x) (scalar_local j (omega (arith, le))) (f x a (var_refl x))
      go false a le = tt
  of_passing line j true earlier (elem x subs) le h f =
      holds_join Names (before_held local line j subs) _ (before_held_stand line j subs (omega (arith, le)) (each_behind R (standing (Some (count_of subs)) x) (in_terms subs) h))
      (set_scalar line (local (j + (length_of subs + locals_in_all subs))) (elem x (held local j subs)) (scalar_local (j + (length_of subs + locals_in_all subs)) (omega (arith, le))) (place_with x subs (held local j subs) (held_as_many j subs) h (of_held j subs (omega (arith, le)))))
  of_passing line j false earlier (elem x subs) le h f = set_scalar line (local j) (elem x subs) (scalar_local j (omega (arith, le))) h
  of_passing line j w earlier (lit z) le h f = set_scalar line (local j) (lit z) (scalar_local j (omega (arith, le))) h
  of_passing line j w earlier (neg a) le h f = set_scalar line (local j) (neg a) (scalar_local j (omega (arith, le))) h
  of_passing line j w earlier (bin op a b) le h f = set_scalar line (local j) (bin op a b) (scalar_local j (omega (arith, le))) h
  of_passing line j w earlier (pow a k) le h f = set_scalar line (local j) (pow a k) (scalar_local j (omega (arith, le))) h
  of_passing line j w earlier (power_of a b) le h f = set_scalar line (local j) (power_of a b) (scalar_local j (omega (arith, le))) h
  of_passing line j w earlier (abs a) le h f = set_scalar line (local j) (abs a) (scalar_local j (omega (arith, le))) h

  -- what is put back
  of_after : (line j : ℕ) (w : Bool) (earlier : List Var) (e : Term) → j + locals_passing (passing w earlier e) ≤ bound → Each R (in_actual e) → Holds Names (after_passing local line j (passing w earlier e))
  of_after line j w earlier (var x) le h = go (is_among x earlier)
    where
      go : (b : Bool) → Holds Names (after_passing local line j (passing_name b x))
      go true = tt
      go false = tt
  of_after line j true earlier (elem x subs) le h = (
    each_join R (in_place x (held local j subs)) (scalar (local (j + (length_of subs + locals_in_all subs)))) (place_with x subs (held local j subs) (held_as_many j subs) h (of_held j subs (omega (arith, le)))) (scalar_local (j + (length_of subs + locals_in_all subs)) (omega (arith, le))),
    (tt, tt),
  )
  of_after line j false earlier (elem x subs) le h = tt
  of_after line j w earlier (lit z) le h = tt
  of_after line j w earlier (neg a) le h = tt
  of_after line j w earlier (bin op a b) le h = tt
  of_after line j w earlier (pow a k) le h = tt
  of_after line j w earlier (power_of a b) le h = tt
  of_after line j w earlier (abs a) le h = tt

  -- the name that an actual becomes
  of_name : (j : ℕ) (w : Bool) (earlier : List Var) (e : Term) → j + locals_passing (passing w earlier e) ≤ bound → Each R (in_actual e) → Each R (whole (passed local j (passing w earlier e)))
  of_name j w earlier (var x) le h = go (is_among x earlier) le
    where
      go : (b : Bool) → j + locals_passing (passing_name b x) ≤ bound → Each R (whole (passed local j (passing_name b x)))
      go true le = whole_local j (omega (arith, le))
      go false le = h
  of_name j true earlier (elem x subs) le h = whole_local (j + (length_of subs + locals_in_all subs)) (omega (arith, le))
  of_name j false earlier (elem x subs) le h = whole_local j (omega (arith, le))
  of_name j w earlier (lit z) le h = whole_local j (omega (arith, le))
  of_name j w earlier (neg a) le h = whole_local j (omega (arith, le))
  of_name j w earlier (bin op a b) le h = whole_local j (omega (arith, le))
  of_name j w earlier (pow a k) le h = whole_local j (omega (arith, le))
  of_name j w earlier (power_of a b) le h = whole_local j (omega (arith, le))
  of_name j w earlier (abs a) le h = whole_local j (omega (arith, le))

  -- what is set for all actuals
  of_passings : (line j : ℕ) (ws : List Bool) (earlier : List Var) (es : Terms) → j + locals_passing_all local j ws earlier es ≤ bound → Each R (in_actuals es) → Once IsScalar es → Earlier IsScalar earlier es → Holds Names (before_passing_all local line j ws earlier es)
  of_passings line j ws earlier none le h o f = tt
  of_passings line j ws earlier (more e es) le h o f =
      let p = passing (first_flag ws) earlier e in
      holds_join Names (before_passing local line j p) _ (of_passing line j (first_flag ws) earlier e (omega (arith, le)) (first_actual e es h) (λ x a n. f x a (or_first (is_name_of x e) (stands_whole x es) n)))
      (of_passings line (j + locals_passing p) (other_flags ws) (passed local j p ∷ earlier) es (omega (arith, le)) (other_actuals e es h) o.1 (next_earlier IsScalar local bound scalar_local (first_flag ws) earlier j e es (omega (arith, le)) o f))

  -- what is put back for all
  of_afters : (line j : ℕ) (ws : List Bool) (earlier : List Var) (es : Terms) → j + locals_passing_all local j ws earlier es ≤ bound → Each R (in_actuals es) → Holds Names (after_passing_all local line j ws earlier es)
  of_afters line j ws earlier none le h = tt
  of_afters line j ws earlier (more e es) le h =
      let p = passing (first_flag ws) earlier e in
      holds_join Names (after_passing local line j p) _ (of_after line j (first_flag ws) earlier e (omega (arith, le)) (first_actual e es h)) (of_afters line (j + locals_passing p) (other_flags ws) (passed local j p ∷ earlier) es (omega (arith, le)) (other_actuals e es h))

  -- all names of the call
  of_names : (j : ℕ) (ws : List Bool) (earlier : List Var) (es : Terms) → j + locals_passing_all local j ws earlier es ≤ bound → Each R (in_actuals es) → Each R (in_actuals (all_passed local j ws earlier es))
  of_names j ws earlier none le h = tt
  of_names j ws earlier (more e es) le h =
      let p = passing (first_flag ws) earlier e in
      each_join R (whole (passed local j p)) (in_actuals (all_passed local (j + locals_passing p) (other_flags ws) (passed local j p ∷ earlier) es)) (of_name j (first_flag ws) earlier e (omega (arith, le)) (first_actual e es h)) (of_names (j + locals_passing p) (other_flags ws) (passed local j p ∷ earlier) es (omega (arith, le)) (other_actuals e es h))

  -- a lowered call
  of_call : (line : ℕ) (ws : List Bool) (name : List ℕ) (args : Terms) → locals_in_all args + locals_passing_all local (locals_in_all args) ws [] (reduced_all local 0 args) ≤ bound → Each R (in_actuals args) → Once IsScalar args → Holds Names (lowered_call local line ws name args)
  of_call line ws name args le h o =
      let es = reduced_all local 0 args in
      let g = reduced_actuals 0 args (omega (arith, le)) h in
      holds_join Names (before_all local line 0 args) _ (before_actuals line 0 args (omega (arith, le)) h)
      (holds_join Names (before_passing_all local line (locals_in_all args) ws [] es) _ (of_passings line (locals_in_all args) ws [] es le g (reduced_once IsScalar local bound scalar_local 0 args (omega (arith, le)) o) (λ x a s. absurd cc))
      (of_names (locals_in_all args) ws [] es le g, (tt, of_afters line (locals_in_all args) ws [] es le g)))

  -- ---- statements

  module _ (handed : Dummies) where
    mutual
      lowered_names_in : (line : ℕ) (a : Act) → locals_of_act local handed a ≤ bound → Names line a → HoldsIn Names a → EachCall' (λ name args. Once IsScalar args) a → Holds Names (lowered_act local handed line a)
      lowered_names_in line (assign x subs e) le n h o = of_assign line x subs e le n
      lowered_names_in line (choose c a b) le n h o = (n, ((lowered_names a (omega (arith, le)) h.0 o.0, lowered_names b (omega (arith, le)) h.1 o.1), tt))
      lowered_names_in line (loop x first last by body m) le n h o = (n, (lowered_names body le h o, tt))
      lowered_names_in line (during c body) le n h o = (n, (lowered_names body le h o, tt))
      lowered_names_in line (call name args) le n h o = of_call line (handed name) name args le n o
      lowered_names_in line (runtime r) le n h o = absurd o

      -- it holds of each name in the lowered list
      pub lowered_names : (c : Code) → locals_of local handed c ≤ bound → Holds Names c → EachCall (λ name args. Once IsScalar args) c → Holds Names (lowered local handed c)
      lowered_names stop le h o = tt
      lowered_names (step line a rest) le h o = holds_join Names (lowered_act local handed line a) _ (lowered_names_in line a (omega (arith, le)) h.0 h.1.0 o.0) (lowered_names rest (omega (arith, le)) h.1.1 o.1)
