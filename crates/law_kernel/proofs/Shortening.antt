-- Calls that lead from a unit to another do so by fewer calls than there are units; so chains are no longer than the units are many.
use Rattle.std.proofs.Common.{◌≡◌, ℕ, zero, suc, ◌<◌, ◌≤◌, ◌⊎◌, inl, inr, Bool, true, false, List, [], ◌∷◌, ◌++◌, map, length, refl, sym, ap, ◌∙◌, arith, if◌then◌else◌}
use Rattle.std.proofs.lemmas.Bool.{or_cases}
use Rattle.std.proofs.lemmas.List.{append_assoc}
use Rattle.std.specs.Prelude.{◌||◌, flat_map, Option, Some, None}
use Rattle.std.specs.List.{list_any}
use Rattle.adj_tree.specs.Code.{name_eq, Act, assign, choose, loop, during, call, runtime, Code, stop, step, Procedure}
use Rattle.adj_tree.proofs.Names.{name_refl, name_same}
use Rattle.def_meaning.specs.Written.{find_unit}
use Rattle.def_meaning.proofs.Booleans.{or_first, or_second}
use Rattle.def_names.specs.Statements.{At, inner, statements}
use Rattle.def_names.specs.Variables.{Name}
use Rattle.def_names.specs.Calls.{Call, call_in, calls, calls_found, leads}
use Rattle.law_kernel.proofs.Faultless.{either_way}

-- ---- the units that a list calls

abbrev mutual
  -- the names in the CALLs of a statement, in text order
  pub callees_in : Act → List Name
  callees_in (assign x subs e) = []
  callees_in (choose c a b) = callees a ++ callees b
  callees_in (loop x first last by body m) = callees body
  callees_in (during c body) = callees body
  callees_in (call name args) = name ∷ []
  callees_in (runtime r) = []

  -- and of a list
  pub callees : Code → List Name
  callees stop = []
  callees (step line a rest) = callees_in a ++ callees rest

-- one of two lists
pub any_join : (f : Name → Bool) (xs ys : List Name) → list_any f (xs ++ ys) ≡ (list_any f xs || list_any f ys)
any_join f [] ys = refl
any_join f (x ∷ xs) ys = ap (λ b. f x || b) (any_join f xs ys) ∙ sym (or_assoc (f x) (list_any f xs) (list_any f ys))
  where
    or_assoc : (a b c : Bool) → ((a || b) || c) ≡ (a || (b || c))
    or_assoc true b c = refl
    or_assoc false b c = refl

-- the names of some calls
abbrev call_names : List (At Call) → List Name
call_names cs = map (λ c. (c.1).0) cs

-- the names of two lists of calls
names_join : (cs ds : List (At Call)) → call_names (cs ++ ds) ≡ call_names cs ++ call_names ds
names_join [] ds = refl
names_join (c ∷ cs) ds = ap (λ z. (c.1).0 ∷ z) (names_join cs ds)

-- the calls among some statements
abbrev called_by : List (At Act) → List (At Call)
called_by ss = flat_map (λ s. map (λ c. (s.0, c)) (call_in s.1)) ss

-- and of two lists of statements
called_join : (ss ts : List (At Act)) → call_names (called_by (ss ++ ts)) ≡ call_names (called_by ss) ++ call_names (called_by ts)
called_join [] ts = refl
called_join (s ∷ ss) ts =
    names_join (map (λ c. (s.0, c)) (call_in s.1)) (called_by (ss ++ ts)) ∙ ap (λ z. call_names (map (λ c. (s.0, c)) (call_in s.1)) ++ z) (called_join ss ts)
    ∙ sym (append_assoc (call_names (map (λ c. (s.0, c)) (call_in s.1))) (call_names (called_by ss)) (call_names (called_by ts)))
    ∙ ap (λ z. z ++ call_names (called_by ts)) (sym (names_join (map (λ c. (s.0, c)) (call_in s.1)) (called_by ss)))

mutual
  called_act : (line : ℕ) (a : Act) → call_names (called_by ((line, a) ∷ inner a)) ≡ callees_in a
  called_act line (assign x subs e) = refl
  called_act line (choose c a b) = called_join (statements a) (statements b) ∙ ap (λ z. z ++ call_names (called_by (statements b))) (called_code a) ∙ ap (λ z. callees a ++ z) (called_code b)
  called_act line (loop x first last by body m) = called_code body
  called_act line (during c body) = called_code body
  called_act line (call name args) = refl
  called_act line (runtime r) = refl

  -- in a list
  called_code : (c : Code) → call_names (called_by (statements c)) ≡ callees c
  called_code stop = refl
  called_code (step line a rest) = called_join ((line, a) ∷ inner a) (statements rest) ∙ ap (λ z. z ++ call_names (called_by (statements rest))) (called_act line a) ∙ ap (λ z. callees_in a ++ z) (called_code rest)

-- the calls of a unit are of those
pub names_called : (u : Procedure) → call_names (calls u) ≡ callees u.body
names_called u = called_code u.body

-- what holds of a call by its name
any_named : (f : Name → Bool) (cs : List (At Call)) → list_any (λ (c : At Call). f (c.1).0) cs ≡ list_any f (call_names cs)
any_named f [] = refl
any_named f (c ∷ cs) = ap (λ b. f (c.1).0 || b) (any_named f cs)

-- whether calls lead on from a unit that is found
abbrev pub on_from : (Name → Bool) → Option Procedure → Bool
on_from f None = false
on_from f (Some u) = list_any f (callees u.body)

-- one call, and then others
pub leads_next : (ps : List Procedure) (k : ℕ) (from to : Name) → leads ps (suc k) from to ≡ (name_eq from to || on_from (λ c. leads ps k c to) (find_unit ps from))
leads_next ps k from to = ap (λ b. name_eq from to || b) (go (find_unit ps from))
  where
    go : (o : Option Procedure) → list_any (λ c. leads ps k (c.1).0 to) (calls_found o) ≡ on_from (λ c. leads ps k c to) o
    go None = refl
    go (Some u) = any_named (λ c. leads ps k c to) (calls u) ∙ ap (list_any (λ c. leads ps k c to)) (names_called u)

-- ---- one of some names

pub record Some_of (f : Name → Bool) (xs : List Name) : Type 0 where
  pub one : Name
  pub among : list_any (name_eq one) xs ≡ true
  pub is : f one ≡ true

-- where it holds of one of them, that one
pub some_of : (f : Name → Bool) (xs : List Name) → list_any f xs ≡ true → Some_of f xs
some_of f [] h = absurd cc
some_of f (x ∷ xs) h = go (or_cases (f x) (list_any f xs) h) (some_of f xs)
  where
    go : (f x ≡ true) ⊎ (list_any f xs ≡ true) → (list_any f xs ≡ true → Some_of f xs) → Some_of f (x ∷ xs)
    go (inl e) ih = record { one = x; among = or_first (name_eq x x) (list_any (name_eq x) xs) (name_refl x); is = e }
    go (inr e) ih = let r = ih e in record { one = r.one; among = or_second (name_eq r.one x) (list_any (name_eq r.one) xs) r.among; is = r.is }

-- and the other way
of_some : (f : Name → Bool) (xs : List Name) (x : Name) → list_any (name_eq x) xs ≡ true → f x ≡ true → list_any f xs ≡ true
of_some f [] x h e = absurd cc
of_some f (y ∷ ys) x h e = go (or_cases (name_eq x y) (list_any (name_eq x) ys) h) (λ k. of_some f ys x k e)
  where
    go : (name_eq x y ≡ true) ⊎ (list_any (name_eq x) ys ≡ true) → (list_any (name_eq x) ys ≡ true → list_any f ys ≡ true) → (f y || list_any f ys) ≡ true
    go (inl k) ih = or_first (f y) (list_any f ys) (ap f (sym (name_same x y k)) ∙ e)
    go (inr k) ih = or_second (f y) (list_any f ys) (ih k)

-- ---- a program without a unit

abbrev pub without : Name → List Procedure → List Procedure
without a [] = []
without a (u ∷ us) = if name_eq u.name a then without a us else u ∷ without a us

-- other units are found as before
pub found_without : (a x : Name) (us : List Procedure) → name_eq x a ≡ false → find_unit (without a us) x ≡ find_unit us x
found_without a x [] n = refl
found_without a x (u ∷ us) n = go (name_eq u.name a) refl (name_eq u.name x) refl (found_without a x us n)
  where
    go : (b : Bool) → name_eq u.name a ≡ b → (c : Bool) → name_eq u.name x ≡ c → find_unit (without a us) x ≡ find_unit us x → find_unit (if b then without a us else u ∷ without a us) x ≡ (if c then Some u else find_unit us x)
    go true e true f ih = absurd (let z : true ≡ false = sym e ∙ ap (λ y. name_eq y a) (name_same u.name x f) ∙ n in cc)
    go true e false f ih = ih
    go false e c f ih = ap (λ b. if b then Some u else find_unit (without a us) x) f ∙ ap (λ z. if c then Some u else z) ih

-- and that one isn't there
pub none_without : (a : Name) (us : List Procedure) → find_unit (without a us) a ≡ None
none_without a [] = refl
none_without a (u ∷ us) = go (name_eq u.name a) refl (none_without a us)
  where
    go : (b : Bool) → name_eq u.name a ≡ b → find_unit (without a us) a ≡ None → find_unit (if b then without a us else u ∷ without a us) a ≡ None
    go true e ih = ih
    go false e ih = ap (λ b. if b then Some u else find_unit (without a us) a) e ∙ ih

-- there aren't more units without it
no_more : (a : Name) (us : List Procedure) → length (without a us) ≤ length us
no_more a [] = omega arith
no_more a (u ∷ us) = go (name_eq u.name a) (no_more a us)
  where
    go : (b : Bool) → length (without a us) ≤ length us → length (if b then without a us else u ∷ without a us) ≤ suc (length us)
    go true l = omega (arith, l)
    go false l = omega (arith, l)

-- and fewer, where it was there
pub fewer : (a : Name) (us : List Procedure) (u : Procedure) → find_unit us a ≡ Some u → length (without a us) < length us
fewer a [] u h = absurd cc
fewer a (v ∷ us) u h = go (name_eq v.name a) h (no_more a us) (fewer a us u)
  where
    go : (b : Bool) → (if b then Some v else find_unit us a) ≡ Some u → length (without a us) ≤ length us → (find_unit us a ≡ Some u → length (without a us) < length us) → length (if b then without a us else v ∷ without a us) < suc (length us)
    go true h l ih = omega (arith, l)
    go false h l ih = let k = ih h in omega (arith, k)

-- ---- calls lead no farther without a unit

-- a unit that isn't there calls none
pub leads_none : (ps : List Procedure) (k : ℕ) (from to : Name) → find_unit ps from ≡ None → leads ps k from to ≡ name_eq from to
leads_none ps zero from to h = refl
leads_none ps (suc k) from to h = leads_next ps k from to ∙ ap (λ o. name_eq from to || on_from (λ c. leads ps k c to) o) h ∙ or_none (name_eq from to)
  where
    or_none : (b : Bool) → (b || false) ≡ b
    or_none true = refl
    or_none false = refl

-- what holds of more names
any_more : (f g : Name → Bool) (xs : List Name) → ((x : Name) → f x ≡ true → g x ≡ true) → list_any f xs ≡ true → list_any g xs ≡ true
any_more f g xs h k = let s = some_of f xs k in of_some g xs s.one s.among (h s.one s.is)

-- with more calls they lead as far
pub leads_longer : (ps : List Procedure) (j k : ℕ) (from to : Name) → j ≤ k → leads ps j from to ≡ true → leads ps k from to ≡ true
leads_longer ps zero zero from to l h = h
leads_longer ps zero (suc k) from to l h = leads_next ps k from to ∙ or_first (name_eq from to) (on_from (λ c. leads ps k c to) (find_unit ps from)) h
leads_longer ps (suc j) zero from to l h = absurd (omega (arith, l))
leads_longer ps (suc j) (suc k) from to l h =
    leads_next ps k from to
    ∙ either_way (λ e. or_first (name_eq from to) _ e) (λ e. or_second (name_eq from to) (on_from (λ c. leads ps k c to) (find_unit ps from)) (go (find_unit ps from) (λ c g. leads_longer ps j k c to (omega (arith, l)) g) e))
    (or_cases (name_eq from to) (on_from (λ c. leads ps j c to) (find_unit ps from)) (sym (leads_next ps j from to) ∙ h))
  where
    go : (o : Option Procedure) → ((c : Name) → leads ps j c to ≡ true → leads ps k c to ≡ true) → on_from (λ c. leads ps j c to) o ≡ true → on_from (λ c. leads ps k c to) o ≡ true
    go None f g = g
    go (Some u) f g = any_more (λ c. leads ps j c to) (λ c. leads ps k c to) (callees u.body) f g

-- and in a program with one unit more
pub leads_with : (a : Name) (ps : List Procedure) (k : ℕ) (from to : Name) → leads (without a ps) k from to ≡ true → leads ps k from to ≡ true
leads_with a ps zero from to h = h
leads_with a ps (suc k) from to h =
    leads_next ps k from to
    ∙ either_way (λ e. or_first (name_eq from to) _ e) (λ e. or_second (name_eq from to) _ (go (name_eq from a) refl (λ c g. leads_with a ps k c to g) e)) (or_cases (name_eq from to) (on_from (λ c. leads (without a ps) k c to) (find_unit (without a ps) from)) (sym (leads_next (without a ps) k from to) ∙ h))
  where
    step_on : (o : Option Procedure) → ((c : Name) → leads (without a ps) k c to ≡ true → leads ps k c to ≡ true) → on_from (λ c. leads (without a ps) k c to) o ≡ true → on_from (λ c. leads ps k c to) o ≡ true
    step_on None f g = g
    step_on (Some u) f g = any_more (λ c. leads (without a ps) k c to) (λ c. leads ps k c to) (callees u.body) f g

    go : (b : Bool) → name_eq from a ≡ b → ((c : Name) → leads (without a ps) k c to ≡ true → leads ps k c to ≡ true) → on_from (λ c. leads (without a ps) k c to) (find_unit (without a ps) from) ≡ true → on_from (λ c. leads ps k c to) (find_unit ps from) ≡ true
    go true e f g = absurd (let z : true ≡ false = sym g ∙ ap (on_from (λ c. leads (without a ps) k c to)) (ap (find_unit (without a ps)) (name_same from a e) ∙ none_without a ps) in cc)
    go false e f g = step_on (find_unit ps from) f (ap (on_from (λ c. leads (without a ps) k c to)) (sym (found_without a from ps e)) ∙ g)

-- ---- a way that meets no unit twice

-- calls that lead there do so without a unit, or from it on
enter : (ps : List Procedure) (a b : Name) (j : ℕ) (x : Name) → leads ps j x b ≡ true → (leads (without a ps) j x b ≡ true) ⊎ (leads ps j a b ≡ true)
enter ps a b zero x h = inl h
enter ps a b (suc j) x h = either_way (λ e. inl (leads_next (without a ps) j x b ∙ or_first (name_eq x b) _ e)) (λ e. go (name_eq x a) refl (find_unit ps x) refl e (enter ps a b j)) (or_cases (name_eq x b) (on_from (λ c. leads ps j c b) (find_unit ps x)) (sym (leads_next ps j x b) ∙ h))
  where
    go : (t : Bool) → name_eq x a ≡ t → (o : Option Procedure) → find_unit ps x ≡ o → on_from (λ c. leads ps j c b) o ≡ true → ((c : Name) → leads ps j c b ≡ true → (leads (without a ps) j c b ≡ true) ⊎ (leads ps j a b ≡ true)) → (leads (without a ps) (suc j) x b ≡ true) ⊎ (leads ps (suc j) a b ≡ true)
    go true e o f g ih = inr (ap (λ y. leads ps (suc j) y b) (sym (name_same x a e)) ∙ h)
    go false e None f g ih = absurd cc
    go false e (Some u) f g ih =
        let s = some_of (λ c. leads ps j c b) (callees u.body) g in
        either_way (λ l. inl (leads_next (without a ps) j x b ∙ or_second (name_eq x b) _ (ap (on_from (λ c. leads (without a ps) j c b)) (found_without a x ps e ∙ f) ∙ of_some (λ c. leads (without a ps) j c b) (callees u.body) s.one s.among l))) (λ r. inr (leads_longer ps j (suc j) a b (omega arith) r)) (ih s.one s.is)

-- a first call, from which others lead there without the unit
record First (ps : List Procedure) (a b : Name) : Type 0 where
  unit : Procedure
  found : find_unit ps a ≡ Some unit
  next : Name
  among : list_any (name_eq next) (callees unit.body) ≡ true
  steps : ℕ
  on : leads (without a ps) steps next b ≡ true

-- there is one, where calls lead to another unit
first_call : (ps : List Procedure) (a b : Name) → name_eq a b ≡ false → (k : ℕ) → leads ps k a b ≡ true → First ps a b
first_call ps a b n zero h = absurd (let z : true ≡ false = sym h ∙ n in cc)
first_call ps a b n (suc k) h = go (find_unit ps a) refl (sym (ap (λ t. t || on_from (λ c. leads ps k c b) (find_unit ps a)) n) ∙ sym (leads_next ps k a b) ∙ h) (first_call ps a b n k)
  where
    go : (o : Option Procedure) → find_unit ps a ≡ o → on_from (λ c. leads ps k c b) (find_unit ps a) ≡ true → (leads ps k a b ≡ true → First ps a b) → First ps a b
    go None f g ih = absurd (let z : false ≡ true = sym (ap (on_from (λ c. leads ps k c b)) f) ∙ g in cc)
    go (Some u) f g ih =
        let s = some_of (λ c. leads ps k c b) (callees u.body) (sym (ap (on_from (λ c. leads ps k c b)) f) ∙ g) in
        either_way (λ l. record { unit = u; found = f; next = s.one; among = s.among; steps = k; on = l }) ih (enter ps a b k s.one s.is)

-- so as many calls as there are units lead as far as any number
pub shorter : (n : ℕ) (ps : List Procedure) → length ps ≤ n → (k : ℕ) (a b : Name) → leads ps k a b ≡ true → leads ps n a b ≡ true
shorter zero [] l k a b h = sym (leads_none [] k a b refl) ∙ h
shorter zero (u ∷ us) l k a b h = absurd (omega (arith, l))
shorter (suc n) ps l k a b h = go (name_eq a b) refl (λ qs m c g. shorter n qs m g c b)
  where
    go : (t : Bool) → name_eq a b ≡ t → ((qs : List Procedure) → length qs ≤ n → (c : Name) → (j : ℕ) → leads qs j c b ≡ true → leads qs n c b ≡ true) → leads ps (suc n) a b ≡ true
    go true e ih = leads_longer ps 0 (suc n) a b (omega arith) e
    go false e ih =
        let f = first_call ps a b e k h in
        let less = fewer a ps f.unit f.found in
        leads_next ps n a b ∙ or_second (name_eq a b) _ (ap (on_from (λ c. leads ps n c b)) f.found ∙ of_some (λ c. leads ps n c b) (callees f.unit.body) f.next f.among (leads_with a ps n f.next b (ih (without a ps) (omega (arith, less, l)) f.next f.steps f.on)))
