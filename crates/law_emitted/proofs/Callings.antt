-- Where no call lies on a cycle, no unit that has an adjoint calls the head.
use Rattle.std.proofs.Common.{◌≡◌, ℕ, zero, suc, Bool, true, false, List, [], ◌∷◌, map, refl, sym, ap, ◌∙◌, subst, if◌then◌else◌}
use Rattle.std.specs.Prelude.{◌&&◌, ◌||◌, not, length, flat_map, Some}
use Rattle.std.specs.List.{list_any}
use Rattle.adj_tree.specs.Code.{name_eq, Act, assign, choose, loop, during, call, runtime, Code, stop, step, Procedure}
use Rattle.adj_tree.proofs.Names.{name_refl, name_same}
use Rattle.def_meaning.specs.Written.{find_unit}
use Rattle.def_names.specs.Statements.{At, inner, statements}
use Rattle.def_names.specs.Calls.{Call, call_in, calls, calls_found, calls_from, leads, calls_lead}
use Rattle.def_names.specs.Numbers.{next, behind}
use Rattle.def_meaning.specs.Apart.{has_name, AreApart}
use Rattle.def_sweep.specs.Declared.{unit_name, unit_at}
use Rattle.def_names.proofs.Variables.{and_true, or_false, or_left, or_right, has_apart, not_true}
use Rattle.def_meaning.proofs.Variables.{name_comm}
use Rattle.def_sweep.specs.Program.{calls_act, calls_in, calls_some, reached_after}
use Rattle.def_sweep.specs.Marking.{first_from}
use Rattle.law_sweep.proofs.Rounds.{either}
use Rattle.law_emitted.proofs.Lists.{Each, each_front, each_behind, each_more}

-- ---- lists of which none or some have a property

pub any_none : {A : Type 0} (p : A → Bool) (xs : List A) → list_any p xs ≡ false → Each (λ x. p x ≡ false) xs
any_none p [] h = tt
any_none p (x ∷ xs) h = let b = or_false (p x) (list_any p xs) h in (b.0, any_none p xs b.1)

any_more : {A : Type 0} (p q : A → Bool) → ((x : A) → p x ≡ true → q x ≡ true) → (xs : List A) → list_any p xs ≡ true → list_any q xs ≡ true
any_more p q f [] h = absurd cc
any_more p q f (x ∷ xs) h = either (p x) (list_any p xs) (q x || list_any q xs) h (λ e. or_left (q x) (list_any q xs) (f x e)) (λ e. or_right (q x) (list_any q xs) (any_more p q f xs e))

-- ---- what is called stands in the list of calls

pub each_flat : {A B : Type 0} (P : B → Type 0) (f : A → List B) (xs : List A) → Each P (flat_map f xs) → Each (λ x. Each P (f x)) xs
each_flat P f [] h = tt
each_flat P f (x ∷ xs) h = (each_front P (f x) (flat_map f xs) h, each_flat P f xs (each_behind P (f x) (flat_map f xs) h))

pub each_map : {A B : Type 0} (P : B → Type 0) (f : A → B) (xs : List A) → Each P (map f xs) → Each (λ x. P (f x)) xs
each_map P f [] h = tt
each_map P f (x ∷ xs) h = (h.0, each_map P f xs h.1)

-- all calls in a statement, those in it left aside, are of names with a property
abbrev CallsAll : (List ℕ → Bool) → At Act → Type 0
CallsAll p s = Each (λ (c : Call). p c.0 ≡ true) (call_in s.1)

mutual
  called' : (p : List ℕ → Bool) (f : ℕ → Bool) (n : List ℕ) (line i : ℕ) (a : Act) → CallsAll p (line, a) → Each (CallsAll p) (inner a) → calls_act f n i a ≡ true → p n ≡ true
  called' p f n line i (assign x subs e) h k c = absurd cc
  called' p f n line i (choose t a b) h k c =
      either (calls_in f n (suc i) a) (calls_in f n (behind (suc i) a) b) (p n) c
      (called p f n (suc i) a (each_front (CallsAll p) (statements a) (statements b) k)) (called p f n (behind (suc i) a) b (each_behind (CallsAll p) (statements a) (statements b) k))
  called' p f n line i (loop x first last by body m) h k c = called p f n (suc i) body k c
  called' p f n line i (during t body) h k c = called p f n (suc i) body k c
  called' p f n line i (call other args) h k c = ap p (name_same n other (and_true (f i) (name_eq n other) c).1) ∙ h.0
  called' p f n line i (runtime r) h k c = absurd cc

  called : (p : List ℕ → Bool) (f : ℕ → Bool) (n : List ℕ) (i : ℕ) (l : Code) → Each (CallsAll p) (statements l) → calls_in f n i l ≡ true → p n ≡ true
  called p f n i stop k c = absurd cc
  called p f n i (step line a rest) k c =
      either (calls_act f n i a) (calls_in f n (next i a) rest) (p n) c
      (called' p f n line i a k.0 (each_front (CallsAll p) (inner a) (statements rest) k.1)) (called p f n (next i a) rest (each_behind (CallsAll p) (inner a) (statements rest) k.1))

-- what holds of all that the calls of a unit name holds of what it calls
pub calls_all : (p : List ℕ → Bool) (f : ℕ → Bool) (n : List ℕ) (i : ℕ) (u : Procedure) → Each (λ (c : At Call). p (c.1).0 ≡ true) (calls u) → calls_in f n i u.body ≡ true → p n ≡ true
calls_all p f n i u h c =
    called p f n i u.body
    (each_more (λ s. Each (λ (c : At Call). p (c.1).0 ≡ true) (map (λ c. (s.0, c)) (call_in s.1))) (CallsAll p) (λ s e. each_map (λ (c : At Call). p (c.1).0 ≡ true) (λ c. (s.0, c)) (call_in s.1) e) (statements u.body)
    (each_flat (λ (c : At Call). p (c.1).0 ≡ true) (λ s. map (λ c. (s.0, c)) (call_in s.1)) (statements u.body) h)) c

not_both : (b : Bool) → b ≡ false → not b ≡ true
not_both true h = absurd cc
not_both false h = refl

-- so some call is of a name, where the unit calls it
some_call : (p : List ℕ → Bool) (f : ℕ → Bool) (n : List ℕ) (i : ℕ) (u : Procedure) → calls_in f n i u.body ≡ true → p n ≡ true → list_any (λ (c : At Call). p (c.1).0) (calls u) ≡ true
some_call p f n i u c h = go (list_any (λ (c : At Call). p (c.1).0) (calls u)) refl
  where
    go : (b : Bool) → list_any (λ (c : At Call). p (c.1).0) (calls u) ≡ b → b ≡ true
    go true e = refl
    go false e =
        absurd
        (let q : not (p n) ≡ true =
        calls_all (λ m. not (p m)) f n i u (each_more (λ (c : At Call). p (c.1).0 ≡ false) (λ c. not (p (c.1).0) ≡ true) (λ c k. not_both (p (c.1).0) k) (calls u) (any_none (λ (c : At Call). p (c.1).0) (calls u) e)) c in
        let r : not (p n) ≡ false = ap not h in
        cc)

-- ---- calls that lead from unit to unit

module _ (ps : List Procedure) where
  leads_self : (k : ℕ) (n : List ℕ) → leads ps k n n ≡ true
  leads_self zero n = name_refl n
  leads_self (suc k) n = or_left (name_eq n n) (list_any (λ c. leads ps k (c.1).0 n) (calls_from ps n)) (name_refl n)

  leads_more : (k : ℕ) (a b : List ℕ) → leads ps k a b ≡ true → leads ps (suc k) a b ≡ true
  leads_more zero a b h = or_left (name_eq a b) (list_any (λ c. leads ps zero (c.1).0 b) (calls_from ps a)) h
  leads_more (suc k) a b h =
      either (name_eq a b) (list_any (λ c. leads ps k (c.1).0 b) (calls_from ps a)) (leads ps (suc (suc k)) a b) h
      (λ e. or_left (name_eq a b) (list_any (λ c. leads ps (suc k) (c.1).0 b) (calls_from ps a)) e)
      (λ e. or_right (name_eq a b) (list_any (λ c. leads ps (suc k) (c.1).0 b) (calls_from ps a)) (any_more (λ c. leads ps k (c.1).0 b) (λ c. leads ps (suc k) (c.1).0 b) (λ c r. leads_more k (c.1).0 b r) (calls_from ps a) e))

  -- a call leads to what it names
  one_call : (f : ℕ → Bool) (i k : ℕ) (a b n : List ℕ) (v : Procedure) → find_unit ps b ≡ Some v → calls_in f n i v.body ≡ true → name_eq a b ≡ true → leads ps (suc k) a n ≡ true
  one_call f i k a b n v found c e =
      let here : calls_from ps a ≡ calls v = ap (calls_from ps) (name_same a b e) ∙ ap calls_found found in
      or_right (name_eq a n) (list_any (λ c. leads ps k (c.1).0 n) (calls_from ps a))
      (ap (list_any (λ (c : At Call). leads ps k (c.1).0 n)) here ∙ some_call (λ m. leads ps k m n) f n i v c (leads_self k n))

  -- and so does one at the end of a way
  leads_on : (f : ℕ → Bool) (i k : ℕ) (a b n : List ℕ) (v : Procedure) → find_unit ps b ≡ Some v → calls_in f n i v.body ≡ true → leads ps k a b ≡ true → leads ps (suc k) a n ≡ true
  leads_on f i zero a b n v found c h = one_call f i zero a b n v found c h
  leads_on f i (suc k) a b n v found c h =
      either (name_eq a b) (list_any (λ c. leads ps k (c.1).0 b) (calls_from ps a)) (leads ps (suc (suc k)) a n) h
      (λ e. one_call f i (suc k) a b n v found c e)
      (λ e. or_right (name_eq a n) (list_any (λ c. leads ps (suc k) (c.1).0 n) (calls_from ps a)) (any_more (λ c. leads ps k (c.1).0 b) (λ c. leads ps (suc k) (c.1).0 n) (λ d r. leads_on f i k (d.1).0 b n v found c r) (calls_from ps a) e))

-- ---- units that are found

-- the unit is found under its name, which is one of the units'
abbrev pub Found : List Procedure → Procedure → Type 0
Found us u = (find_unit us u.name ≡ Some u) × (has_name u.name (map unit_name us) ≡ true)

pub all_found : (us : List Procedure) → AreApart (map unit_name us) → Each (Found us) us
all_found [] a = tt
all_found (v ∷ us) a = (
  (ap (λ b. if b then Some v else find_unit us v.name) (name_refl v.name), or_left (name_eq v.name v.name) (has_name v.name (map unit_name us)) (name_refl v.name)),
  each_more (Found us) (Found (v ∷ us)) behind_it us (all_found us a.1),
)
  where
    behind_it : (w : Procedure) → Found us w → Found (v ∷ us) w
    behind_it w f =
        let e : name_eq v.name w.name ≡ false = name_comm w.name v.name (has_apart w.name v.name (map unit_name us) f.1 a.0) in
        (ap (λ b. if b then Some v else find_unit us w.name) e ∙ f.0, or_right (name_eq w.name v.name) (has_name w.name (map unit_name us)) f.1)

-- what holds of each unit holds of that of a number
pub each_at : (P : Procedure → Type 0) (k : ℕ) (us : List Procedure) (u : Procedure) → Each P us → unit_at k us ≡ u ∷ [] → P u
each_at P zero [] u h e = absurd cc
each_at P (suc k) [] u h e = absurd cc
each_at P zero (v ∷ us) u h e = let same : v ≡ u = cc in subst P same h.0
each_at P (suc k) (v ∷ us) u h e = each_at P k us u h.1 e

-- a unit of a set that calls a name
pub record Caller (ps : List Procedure) (among : List ℕ → Bool) (f : ℕ → Bool) (n : List ℕ) : Type 0 where
  pub unit : Procedure
  pub found : find_unit ps unit.name ≡ Some unit
  pub inside : among unit.name ≡ true
  pub number : ℕ
  pub calling : calls_in f n number unit.body ≡ true

pub caller_of : (ps : List Procedure) (among : List ℕ → Bool) (f : ℕ → Bool) (n : List ℕ) (i : ℕ) (us : List Procedure) → Each (Found ps) us → calls_some among f n i us ≡ true → Caller ps among f n
caller_of ps among f n i [] h c = absurd cc
caller_of ps among f n i (v ∷ us) h c = go (among v.name && calls_in f n i v.body) refl c (caller_of ps among f n (behind i v.body) us h.1)
  where
    go : (b : Bool) → (among v.name && calls_in f n i v.body) ≡ b → (b || calls_some among f n (behind i v.body) us) ≡ true → (calls_some among f n (behind i v.body) us ≡ true → Caller ps among f n) → Caller ps among f n
    go true e c ih = let p = and_true (among v.name) (calls_in f n i v.body) e in record { unit = v; found = h.0.0; inside = p.0; number = i; calling = p.1 }
    go false e c ih = ih c

-- ---- what is reached from the head

module _ (ps : List Procedure) (all : Each (Found ps) ps) (f : ℕ → Bool) (h : List ℕ) where
  abbrev after : ℕ → List ℕ → Bool
  after k = reached_after (name_eq h) f ps k

  -- calls lead there
  reached_leads : (k : ℕ) (n : List ℕ) → after (suc k) n ≡ true → leads ps k h n ≡ true
  reached_leads zero n r = either (name_eq h n) (calls_some (after zero) f n 0 ps) (name_eq h n) r (λ e. e) (λ c. absurd (let d = caller_of ps (after zero) f n 0 ps all c in let b : false ≡ true = d.inside in cc))
  reached_leads (suc k) n r =
      either (name_eq h n) (calls_some (after (suc k)) f n 0 ps) (leads ps (suc k) h n) r
      (λ e. or_left (name_eq h n) (list_any (λ c. leads ps k (c.1).0 n) (calls_from ps h)) e)
      (λ c. let d = caller_of ps (after (suc k)) f n 0 ps all c in leads_on ps f d.number k h d.unit.name n d.unit d.found d.calling (reached_leads k d.unit.name d.inside))

  within : (l : ℕ) (n : List ℕ) → after l n ≡ true → leads ps l h n ≡ true
  within zero n r = absurd cc
  within (suc k) n r = leads_more ps k h n (reached_leads k n r)

  -- so where no call leads back to its unit, none that is reached calls the head
  pub head_uncalled : ((u : Procedure) → find_unit ps u.name ≡ Some u → Each (λ (c : At Call). calls_lead ps (c.1).0 u.name ≡ false) (calls u)) → calls_some (after (length ps)) f h 0 ps ≡ false
  head_uncalled apart =
      not_true (calls_some (after (length ps)) f h 0 ps) (λ c.
      let d = caller_of ps (after (length ps)) f h 0 ps all c in
      let leading : leads ps (length ps) h d.unit.name ≡ true = within (length ps) d.unit.name d.inside in
      let none : not (leads ps (length ps) h d.unit.name) ≡ true =
      calls_all (λ m. not (leads ps (length ps) m d.unit.name)) f h d.number d.unit
      (each_more (λ (c : At Call). calls_lead ps (c.1).0 d.unit.name ≡ false) (λ c. not (leads ps (length ps) (c.1).0 d.unit.name) ≡ true) (λ c e. not_both (leads ps (length ps) (c.1).0 d.unit.name) e) (calls d.unit) (apart d.unit d.found))
      d.calling in
      let r : not (leads ps (length ps) h d.unit.name) ≡ false = ap not leading in
      cc)

-- ---- a unit of a set that calls

-- what the body of a unit that was found calls is called by one of the units
pub calls_found_some : (among : List ℕ → Bool) (f : ℕ → Bool) (n : List ℕ) (i : ℕ) (us : List Procedure) (name : List ℕ) (u : Procedure) → find_unit us name ≡ Some u → among u.name ≡ true → calls_in f n (first_from i us name) u.body ≡ true → calls_some among f n i us ≡ true
calls_found_some among f n i [] name u e a c = absurd cc
calls_found_some among f n i (v ∷ us) name u e a c = go (name_eq v.name name) e c (λ r k. calls_found_some among f n (behind i v.body) us name u r a k)
  where
    go : (b : Bool) → (if b then Some v else find_unit us name) ≡ Some u → calls_in f n (if b then i else first_from (behind i v.body) us name) u.body ≡ true → (find_unit us name ≡ Some u → calls_in f n (first_from (behind i v.body) us name) u.body ≡ true → calls_some among f n (behind i v.body) us ≡ true) → ((among v.name && calls_in f n i v.body) || calls_some among f n (behind i v.body) us) ≡ true
    go true e c ih =
        let same : u ≡ v = cc in
        let inside : among v.name ≡ true = ap (λ w. among w.name) (sym same) ∙ a in
        let calling : calls_in f n i v.body ≡ true = ap (λ w. calls_in f n i w.body) (sym same) ∙ c in
        or_left (among v.name && calls_in f n i v.body) (calls_some among f n (behind i v.body) us) (rw (inside, calling) refl)
    go false e c ih = or_right (among v.name && calls_in f n i v.body) (calls_some among f n (behind i v.body) us) (ih e c)

-- the roots are reached, where there is a unit
pub roots_reached : (roots : List ℕ → Bool) (f : ℕ → Bool) (ps : List Procedure) (name : List ℕ) (u : Procedure) → find_unit ps name ≡ Some u → (n : List ℕ) → roots n ≡ true → reached_after roots f ps (length ps) n ≡ true
roots_reached roots f [] name u e n h = absurd cc
roots_reached roots f (v ∷ ps) name u e n h = or_left (roots n) (calls_some (reached_after roots f (v ∷ ps) (length ps)) f n 0 (v ∷ ps)) h
