-- Calls of a set, by the numbers of their statements and by whether they are all that the turns of a marked loop do.
use Rattle.std.proofs.Common.{◌≡◌, ℕ, suc, Bool, true, false, List, [], ◌∷◌, refl, sym, ap, ◌∙◌}
use Rattle.std.specs.Prelude.{◌||◌, ◌&&◌, Option, Some, None}
use Rattle.adj_tree.specs.Code.{name_eq, Terms, Mark, unmarked, with_count, count_from, Act, assign, choose, loop, during, call, runtime, Code, stop, step, Procedure}
use Rattle.def_names.specs.Numbers.{next, behind}
use Rattle.def_sweep.specs.Plan.{found_or}
use Rattle.def_sweep.specs.Program.{calls_act, calls_in, calls_some}
use Rattle.adj_weave_units.specs.Calls.{only_called, turned}

-- whether a list has a call of the unit of a name that is in the set
abbrev mutual
  pub has_act : (ℕ → Bool → Bool) → List ℕ → ℕ → Act → Bool
  has_act f n i (assign x subs e) = false
  has_act f n i (choose c a b) = has_in f n (suc i) a || has_in f n (behind (suc i) a) b
  has_act f n i (loop x a b c body m) = found_or (turned m body) (has_in f n (suc i) body) (λ other. f (suc i) true && name_eq n other)
  has_act f n i (during c body) = has_in f n (suc i) body
  has_act f n i (call other args) = f i false && name_eq n other
  has_act f n i (runtime r) = false

  pub has_in : (ℕ → Bool → Bool) → List ℕ → ℕ → Code → Bool
  has_in f n i stop = false
  has_in f n i (step line a rest) = has_act f n i a || has_in f n (next i a) rest

-- whether one of the units, of those in a set, has one
abbrev pub has_some : (List ℕ → Bool) → (ℕ → Bool → Bool) → List ℕ → ℕ → List Procedure → Bool
has_some among f n i [] = false
has_some among f n i (u ∷ us) = (among u.name && has_in f n i u.body) || has_some among f n (behind i u.body) us

or_false : (a : Bool) → (a || false) ≡ a
or_false true = refl
or_false false = refl

-- ---- the turns of a marked loop

-- a body that is one call
pub record IsTurned (body : Code) (name : List ℕ) : Type 0 where
  pub line : ℕ
  pub args : Terms
  pub is : body ≡ step line (call name args) stop

only_called_is : (body : Code) (name : List ℕ) → only_called body ≡ Some name → IsTurned body name
only_called_is stop name e = absurd cc
only_called_is (step line (assign x subs a) rest) name e = absurd cc
only_called_is (step line (choose c a b) rest) name e = absurd cc
only_called_is (step line (loop x a b c body m) rest) name e = absurd cc
only_called_is (step line (during c body) rest) name e = absurd cc
only_called_is (step line (runtime r) rest) name e = absurd cc
only_called_is (step line (call other args) (step l a rest)) name e = absurd cc
only_called_is (step line (call other args) stop) name e =
    let same : other ≡ name = cc in
    record { line = line; args = args; is = ap (λ z. step line (call z args) stop) same }

pub turned_is : (m : Mark) (body : Code) (name : List ℕ) → turned m body ≡ Some name → IsTurned body name
turned_is unmarked body name e = absurd cc
turned_is (with_count n) body name e = only_called_is body name e
turned_is (count_from x) body name e = only_called_is body name e

-- one statement more comes behind it
pub turned_behind : (m : Mark) (body : Code) (name : List ℕ) (i : ℕ) → turned m body ≡ Some name → behind i body ≡ suc i
turned_behind m body name i e = ap (behind i) (turned_is m body name e).is

-- ---- by the numbers alone

module _ (f : ℕ → Bool) (n : List ℕ) where
  abbrev g : ℕ → Bool → Bool
  g i turns = f i

  loop_same : (i : ℕ) (body : Code) (m : Mark) (o : Option (List ℕ)) → turned m body ≡ o → has_in g n (suc i) body ≡ calls_in f n (suc i) body → found_or o (has_in g n (suc i) body) (λ other. f (suc i) && name_eq n other) ≡ calls_in f n (suc i) body
  loop_same i body m None e h = h
  loop_same i body m (Some other) e h = sym (or_false (f (suc i) && name_eq n other)) ∙ sym (ap (calls_in f n (suc i)) (turned_is m body other e).is)

  mutual
    act_same : (i : ℕ) (a : Act) → has_act g n i a ≡ calls_act f n i a
    act_same i (assign x subs e) = refl
    act_same i (choose c a b) = λ j. list_same (suc i) a j || list_same (behind (suc i) a) b j
    act_same i (loop x a b c body m) = loop_same i body m (turned m body) refl (list_same (suc i) body)
    act_same i (during c body) = list_same (suc i) body
    act_same i (call other args) = refl
    act_same i (runtime r) = refl

    list_same : (i : ℕ) (c : Code) → has_in g n i c ≡ calls_in f n i c
    list_same i stop = refl
    list_same i (step line a rest) = λ j. act_same i a j || list_same (next i a) rest j

  pub some_same : (among : List ℕ → Bool) (i : ℕ) (us : List Procedure) → has_some among g n i us ≡ calls_some among f n i us
  some_same among i [] = refl
  some_same among i (u ∷ us) = λ j. (among u.name && list_same i u.body j) || some_same among (behind i u.body) us j
