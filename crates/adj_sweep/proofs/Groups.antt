-- Groups of actuals, from the actuals beside what is known of their dummies.
use Rattle.std.proofs.Common.{◌≡◌, ℕ, suc, ◌+◌, Bool, true, false, List, [], ◌∷◌, ◌++◌, ◌<◌, Option, Some, None, map, length, get_or, drop, arith, refl, sym, ap, ◌∙◌, if◌then◌else◌}
use Rattle.std.specs.Prelude.{◌&&◌, ◌||◌, slice_get}
use Rattle.std.proofs.Math.Seq.{drop-cons}
use Rattle.adj_tree.specs.Code.{Var, plain, shadow, helper, lit, var, elem, neg, bin, pow, power_of, abs, Term, Terms, none, more, runtime, push_word, push_array, pop_word, pop_array, Code}
use Rattle.def_meaning.specs.Append.{◌+++◌, one}
use Rattle.def_meaning.specs.Rename.{rename}
use Rattle.def_meaning.proofs.Appends.{append_assoc}
use Rattle.def_meaning.proofs.RenamedLists.{rename-append}
use Rattle.def_names.specs.Numbers.{Vars, everything}
use Rattle.def_sweep.specs.Plan.{Callee, Plan, names_of, group}
use Rattle.def_sweep.specs.Rows.{push, pop, pushes, pops, with_shadows}
use Rattle.adj_sweep.specs.declared.callees.Dummy.{Dummy}
use Rattle.adj_sweep.specs.declared.actuals.Actual.{Actual}
use Rattle.adj_sweep.specs.declared.actuals.Group.TheVariants.{Save, Snapshot, Step}
use Rattle.adj_sweep.specs.Actuals.{paired, with_pair, is_in, chosen, all_with_shadows}
use Rattle.adj_sweep.specs.Callees.{seen}
use Rattle.adj_sweep_assignment.proofs.Plain.{IsPlain}

-- ---- names among actuals

-- those of the first, and then those of the others
pub names_more : (e : Term) (es : Terms) → names_of (more e es) ≡ names_of (more e none) ++ names_of es
names_more (var (plain a)) es = refl
names_more (var (shadow a)) es = refl
names_more (var (helper o k)) es = refl
names_more (lit z) es = refl
names_more (elem x subs) es = refl
names_more (neg a) es = refl
names_more (bin op a b) es = refl
names_more (pow a k) es = refl
names_more (power_of a b) es = refl
names_more (abs a) es = refl

-- ---- actuals beside their dummies

with_pair-more : (o : Option Dummy) (x : List ℕ) (a : Actual) (made : List Actual) → with_pair o x (a ∷ made) ≡ a ∷ with_pair o x made
with_pair-more None x a made = refl
with_pair-more (Some d) x a made = refl

-- one name more
pub paired_more : (ds : List Dummy) (xs : List (List ℕ)) (x : List ℕ) → with_pair (slice_get ds (length (paired ds xs))) x (paired ds xs) ≡ paired ds (xs ++ x ∷ [])
paired_more [] [] x = refl
paired_more [] (y ∷ xs) x = refl
paired_more (d ∷ ds) [] x = refl
paired_more (d ∷ ds) (y ∷ xs) x =
    with_pair-more (slice_get ds (length (paired ds xs))) x (record { name = y; dummy = d }) (paired ds xs) ∙ ap (λ z. record { name = y; dummy = d } ∷ z) (paired_more ds xs x)

-- ---- groups

and_true : (b : Bool) → (b && true) ≡ b
and_true true = refl
and_true false = refl

-- what is saved
pub save_chosen : (g : Callee) (read saved : Vars) (ds given : List (List ℕ)) → chosen (is_in saved Save) (paired (map (seen g read) ds) given) ≡ group g.written saved ds given
save_chosen g read saved [] [] = refl
save_chosen g read saved [] (a ∷ given) = refl
save_chosen g read saved (d ∷ ds) [] = refl
save_chosen g read saved (d ∷ ds) (a ∷ given) = ap (λ z. if g.written (plain d) && saved (plain a) then a ∷ z else z) (save_chosen g read saved ds given)

-- the snapshot
pub snapshot_chosen : (g : Callee) (read saved : Vars) (ds given : List (List ℕ)) → chosen (is_in saved Snapshot) (paired (map (seen g read) ds) given) ≡ group (λ d. g.written d && g.members d) everything ds given
snapshot_chosen g read saved [] [] = refl
snapshot_chosen g read saved [] (a ∷ given) = refl
snapshot_chosen g read saved (d ∷ ds) [] = refl
snapshot_chosen g read saved (d ∷ ds) (a ∷ given) =
    let b = g.written (plain d) && g.members (plain d) in
    ap (λ z. if b then a ∷ z else z) (snapshot_chosen g read saved ds given)
    ∙ ap (λ t. if t then a ∷ group (λ d. g.written d && g.members d) everything ds given else group (λ d. g.written d && g.members d) everything ds given) (sym (and_true b))

-- the snapshot of a step
pub step_chosen : (g : Callee) (read saved : Vars) (ds given : List (List ℕ)) → chosen (is_in saved Step) (paired (map (seen g read) ds) given) ≡ group (λ d. g.written d && (g.members d || read d)) everything ds given
step_chosen g read saved [] [] = refl
step_chosen g read saved [] (a ∷ given) = refl
step_chosen g read saved (d ∷ ds) [] = refl
step_chosen g read saved (d ∷ ds) (a ∷ given) =
    let b = g.written (plain d) && (g.members (plain d) || read (plain d)) in
    ap (λ z. if b then a ∷ z else z) (step_chosen g read saved ds given)
    ∙ ap (λ t. if t then a ∷ group (λ d. g.written d && (g.members d || read d)) everything ds given else group (λ d. g.written d && (g.members d || read d)) everything ds given) (sym (and_true b))

-- the actuals of an adjoint's call
pub shadows_paired : (g : Callee) (read : Vars) (ds given : List (List ℕ)) → all_with_shadows (paired (map (seen g read) ds) given) ≡ with_shadows g.shadowed ds given
shadows_paired g read [] [] = refl
shadows_paired g read [] (a ∷ given) = refl
shadows_paired g read (d ∷ ds) [] = refl
shadows_paired g read (d ∷ ds) (a ∷ given) = ap (λ z. if g.shadowed (plain d) then more (var (plain a)) (more (var (shadow a)) z) else more (var (plain a)) z) (shadows_paired g read ds given)

-- what is left begins with the one at hand
pub dropped : {A : Type 0} (all : List A) (i : ℕ) (a : A) → i < length all → a ≡ get_or all i a → drop i all ≡ a ∷ drop (i + 1) all
dropped all i a lt at =
    let more : suc i ≡ i + 1 = omega arith in
    drop-cons all i a lt ∙ ap (λ z. z ∷ drop (suc i) all) (sym at) ∙ ap (λ k. a ∷ drop k all) more

-- ---- pushes and pops, one by one

pub pushes_more : (p : Plan) (line : ℕ) (f : Actual → Bool) (a : Actual) (others : List Actual) → pushes p line (chosen f (a ∷ others)) ≡ pushes p line (chosen f (a ∷ [])) +++ pushes p line (chosen f others)
pushes_more p line f a others = go (f a)
  where
    go : (b : Bool) → pushes p line (if b then a.name ∷ chosen f others else chosen f others) ≡ pushes p line (if b then a.name ∷ [] else []) +++ pushes p line (chosen f others)
    go true = refl
    go false = refl

pub pops_more : (p : Plan) (line : ℕ) (f : Actual → Bool) (a : Actual) (others : List Actual) (rest : Code) → pops p line (chosen f (a ∷ others)) +++ rest ≡ pops p line (chosen f others) +++ (pops p line (chosen f (a ∷ [])) +++ rest)
pops_more p line f a others rest = go (f a)
  where
    go : (b : Bool) → pops p line (if b then a.name ∷ chosen f others else chosen f others) +++ rest ≡ pops p line (chosen f others) +++ (pops p line (if b then a.name ∷ [] else []) +++ rest)
    go true = append_assoc (pops p line (chosen f others)) (pop p line a.name) rest
    go false = refl

-- ---- they are of variables of the text

module _ (r : Var → Var) (plainly : IsPlain r) (p : Plan) (line : ℕ) where
  push_plain : (x : List ℕ) → rename r (push p line x) ≡ push p line x
  push_plain x = go (p.arrays (plain x))
    where
      go : (b : Bool) → rename r (one line (runtime (if b then push_array (plain x) else push_word (plain x) none))) ≡ one line (runtime (if b then push_array (plain x) else push_word (plain x) none))
      go true = λ i. one line (runtime (push_array (plainly x i)))
      go false = λ i. one line (runtime (push_word (plainly x i) none))

  pop_plain : (x : List ℕ) → rename r (pop p line x) ≡ pop p line x
  pop_plain x = go (p.arrays (plain x))
    where
      go : (b : Bool) → rename r (one line (runtime (if b then pop_array (plain x) else pop_word (plain x) none))) ≡ one line (runtime (if b then pop_array (plain x) else pop_word (plain x) none))
      go true = λ i. one line (runtime (pop_array (plainly x i)))
      go false = λ i. one line (runtime (pop_word (plainly x i) none))

  pub pushes_plain : (xs : List (List ℕ)) → rename r (pushes p line xs) ≡ pushes p line xs
  pushes_plain [] = refl
  pushes_plain (x ∷ xs) = rename-append r (push p line x) (pushes p line xs) ∙ (λ i. push_plain x i +++ pushes_plain xs i)

  pub pops_plain : (xs : List (List ℕ)) → rename r (pops p line xs) ≡ pops p line xs
  pops_plain [] = refl
  pops_plain (x ∷ xs) = rename-append r (pops p line xs) (pop p line x) ∙ (λ i. pops_plain xs i +++ pop_plain x i)
