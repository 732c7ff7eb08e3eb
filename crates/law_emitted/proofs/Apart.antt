-- The variables that an adjoint unit declares, in order: they stand once, so their names are apart.
use Rattle.std.proofs.Common.{◌≡◌, ℕ, zero, suc, ◌<◌, Bool, true, false, List, [], ◌∷◌, ◌++◌, map, refl, sym, ap, ◌∙◌, arith, if◌then◌else◌}
use Rattle.std.specs.Prelude.{◌&&◌, ◌||◌, ◌==◌, not, Some, None}
use Rattle.std.proofs.lemmas.Bool.Decides.{nat_tests}
use Rattle.adj_tree.specs.Code.{Var, plain, shadow, helper, Role, role_code, work, temp, control, first, stride, count, turn, entry, entries, kind, lower, upper, slots, name_eq, var_eq, Act, Code}
use Rattle.adj_tree.proofs.Names.{nat_same}
use Rattle.def_meaning.specs.Apart.{has_name, AreApart}
use Rattle.def_names.specs.Reserved.{reserved}
use Rattle.def_sweep.specs.Naming.{Derived, own, named_for, unit_names_for}
use Rattle.def_names.specs.Numbers.{Vars}
use Rattle.def_sweep.specs.Marked.{names_in}
use Rattle.def_sweep.specs.Declared.{helpers_from}
use Rattle.def_names.proofs.Variables.{or_false, or_left, or_right}
use Rattle.def_sweep.specs.Plan.{Plan, Schedules, Step}
use Rattle.def_sweep.specs.Program.{helpers_among, works_used, temps_used, depth_used_with, tells_some_with, goes_back_with, reverses_by, any_step, has_slots, is_do, is_loop, loop_helpers_with, reversal_helpers, all_reversal_helpers, helpers_used_with, helpers_used, forth_slots, helpers_forth}
use Rattle.law_emitted.proofs.Lists.{Each}
use Rattle.law_emitted.proofs.Tables.{has_var, among, has_var-append, among-append, has_made, has_own, among_shadows, plain_no_shadow, AreHelpers, plain_no_helper, shadow_no_helper}

-- no variable stands twice
abbrev pub VarsApart : List Var → Type 0
VarsApart [] = Unit {0}
VarsApart (v ∷ vs) = (among v vs ≡ false) × VarsApart vs

-- a list none of whose variables stands in another, and that one behind it
pub vars_append : (vs ws : List Var) → VarsApart vs → VarsApart ws → Each (λ v. among v ws ≡ false) vs → VarsApart (vs ++ ws)
vars_append [] ws a b n = b
vars_append (v ∷ vs) ws a b n = (among-append v vs ws ∙ rw (a.0, n.0) refl, vars_append vs ws a.1 b n.1)

-- names that tell variables apart are apart
pub names_apart : (name : Var → List ℕ) → ((v w : Var) → name_eq (name v) (name w) ≡ var_eq v w) → (vs : List Var) → VarsApart vs → AreApart (map name vs)
names_apart name sep [] a = tt
names_apart name sep (v ∷ vs) a = (same vs ∙ a.0, names_apart name sep vs a.1)
  where
    same : (ws : List Var) → has_name (name v) (map name ws) ≡ among v ws
    same [] = refl
    same (w ∷ ws) = λ i. sep v w i || same ws i

-- ---- each variable followed by its shadow

abbrev pub interleaved : Vars → List (List ℕ) → List Var
interleaved a [] = []
interleaved a (x ∷ xs) = if a (plain x) then plain x ∷ shadow x ∷ interleaved a xs else plain x ∷ interleaved a xs

pub plain_there : (a : Vars) (x : List ℕ) (xs : List (List ℕ)) → among (plain x) (interleaved a xs) ≡ has_name x xs
plain_there a x [] = refl
plain_there a x (y ∷ xs) = go (a (plain y)) (plain_there a x xs)
  where
    go : (b : Bool) → among (plain x) (interleaved a xs) ≡ has_name x xs → among (plain x) (if b then plain y ∷ shadow y ∷ interleaved a xs else plain y ∷ interleaved a xs) ≡ (name_eq x y || has_name x xs)
    go true ih = ap (λ b. name_eq x y || b) ih
    go false ih = ap (λ b. name_eq x y || b) ih

pub shadow_there : (a : Vars) (x : List ℕ) (xs : List (List ℕ)) → among (shadow x) (interleaved a xs) ≡ has_name x (names_in a xs)
shadow_there a x [] = refl
shadow_there a x (y ∷ xs) = go (a (plain y)) (shadow_there a x xs)
  where
    go : (b : Bool) → among (shadow x) (interleaved a xs) ≡ has_name x (names_in a xs) → among (shadow x) (if b then plain y ∷ shadow y ∷ interleaved a xs else plain y ∷ interleaved a xs) ≡ has_name x (if b then y ∷ names_in a xs else names_in a xs)
    go true ih = ap (λ b. name_eq x y || b) ih
    go false ih = ih

-- they are no helpers
pub no_helpers : (a : Vars) (xs : List (List ℕ)) (hs : List Var) → AreHelpers hs → Each (λ v. among v hs ≡ false) (interleaved a xs)
no_helpers a [] hs h = tt
no_helpers a (x ∷ xs) hs h = go (a (plain x)) (no_helpers a xs hs h)
  where
    go : (b : Bool) → Each (λ v. among v hs ≡ false) (interleaved a xs) → Each (λ v. among v hs ≡ false) (if b then plain x ∷ shadow x ∷ interleaved a xs else plain x ∷ interleaved a xs)
    go true ih = (plain_no_helper x hs h, (shadow_no_helper x hs h, ih))
    go false ih = (plain_no_helper x hs h, ih)

-- a name that isn't in a list isn't among its marked ones
not_marked : (a : Vars) (x : List ℕ) (xs : List (List ℕ)) → has_name x xs ≡ false → has_name x (names_in a xs) ≡ false
not_marked a x [] h = refl
not_marked a x (y ∷ xs) h = let p = or_false (name_eq x y) (has_name x xs) h in go (a (plain y)) p.0 (not_marked a x xs p.1)
  where
    go : (b : Bool) → name_eq x y ≡ false → has_name x (names_in a xs) ≡ false → has_name x (if b then y ∷ names_in a xs else names_in a xs) ≡ false
    go true e ih = rw (e, ih) refl
    go false e ih = ih

pub interleaved_apart : (a : Vars) (xs : List (List ℕ)) → AreApart xs → VarsApart (interleaved a xs)
interleaved_apart a [] h = tt
interleaved_apart a (x ∷ xs) h = go (a (plain x)) (interleaved_apart a xs h.1)
  where
    go : (b : Bool) → VarsApart (interleaved a xs) → VarsApart (if b then plain x ∷ shadow x ∷ interleaved a xs else plain x ∷ interleaved a xs)
    go true ih = (plain_there a x xs ∙ h.0, (shadow_there a x xs ∙ not_marked a x xs h.0, ih))
    go false ih = (plain_there a x xs ∙ h.0, ih)

-- ---- helpers

-- each is a helper whose role has a property
abbrev pub OfRoles : (ℕ → Bool) → List Var → Type 0
OfRoles f [] = Unit {0}
OfRoles f (plain x ∷ vs) = ⊥
OfRoles f (shadow x ∷ vs) = ⊥
OfRoles f (helper r k ∷ vs) = (f (role_code r) ≡ true) × OfRoles f vs

-- a helper of another role isn't among them
other_role : (f : ℕ → Bool) (r : Role) (k : ℕ) (vs : List Var) → f (role_code r) ≡ false → OfRoles f vs → among (helper r k) vs ≡ false
other_role f r k [] n h = refl
other_role f r k (plain x ∷ vs) n h = absurd h
other_role f r k (shadow x ∷ vs) n h = absurd h
other_role f r k (helper q j ∷ vs) n h = go (role_code r == role_code q) refl (other_role f r k vs n h.1)
  where
    go : (b : Bool) → (role_code r == role_code q) ≡ b → among (helper r k) vs ≡ false → ((b && (k == j)) || among (helper r k) vs) ≡ false
    go true e ih = absurd (let p : true ≡ false = sym h.0 ∙ ap f (sym (nat_same (role_code r) (role_code q) e)) ∙ n in cc)
    go false e ih = ih

roles_append : (f : ℕ → Bool) (vs ws : List Var) → OfRoles f vs → OfRoles f ws → OfRoles f (vs ++ ws)
roles_append f [] ws h g = g
roles_append f (plain x ∷ vs) ws h g = absurd h
roles_append f (shadow x ∷ vs) ws h g = absurd h
roles_append f (helper r k ∷ vs) ws h g = (h.0, roles_append f vs ws h.1 g)

roles_among : (f g : ℕ → Bool) (r : Role) (k n : ℕ) → f (role_code r) ≡ true → OfRoles f (helpers_among g r k n)
roles_among f g r k zero h = tt
roles_among f g r k (suc n) h = go (g k) (roles_among f g r (suc k) n h)
  where
    go : (b : Bool) → OfRoles f (helpers_among g r (suc k) n) → OfRoles f (if b then helper r k ∷ helpers_among g r (suc k) n else helpers_among g r (suc k) n)
    go true ih = (h, ih)
    go false ih = ih

pub roles_from : (f : ℕ → Bool) (r : Role) (k n : ℕ) → f (role_code r) ≡ true → OfRoles f (helpers_from r k n)
roles_from f r k zero h = tt
roles_from f r k (suc n) h = (h, roles_from f r (suc k) n h)

-- lists of which the one has roles that the other hasn't are apart
pub roles_apart : (f g : ℕ → Bool) → ((k : ℕ) → f k ≡ true → g k ≡ false) → (vs ws : List Var) → OfRoles f vs → OfRoles g ws → VarsApart vs → VarsApart ws → VarsApart (vs ++ ws)
roles_apart f g o [] ws h k a b = b
roles_apart f g o (plain x ∷ vs) ws h k a b = absurd h
roles_apart f g o (shadow x ∷ vs) ws h k a b = absurd h
roles_apart f g o (helper r j ∷ vs) ws h k a b = (among-append (helper r j) vs ws ∙ rw (a.0, other_role g r j ws (o (role_code r) h.0) k) refl, roles_apart f g o vs ws h.1 k a.1 b)

-- numbers below those of a list aren't in it
below_among : (g : ℕ → Bool) (r : Role) (j k n : ℕ) → j < k → among (helper r j) (helpers_among g r k n) ≡ false
below_among g r j k zero lt = refl
below_among g r j k (suc n) lt = go (g k) (below_among g r j (suc k) n (omega arith))
  where
    other : (j == k) ≡ false
    other = grind (arith, nat_tests)

    go : (b : Bool) → among (helper r j) (helpers_among g r (suc k) n) ≡ false → among (helper r j) (if b then helper r k ∷ helpers_among g r (suc k) n else helpers_among g r (suc k) n) ≡ false
    go true ih = rw (other, ih) (none (role_code r == role_code r))
      where
        none : (b : Bool) → ((b && false) || false) ≡ false
        none true = refl
        none false = refl
    go false ih = ih

below_from : (r : Role) (j k n : ℕ) → j < k → among (helper r j) (helpers_from r k n) ≡ false
below_from r j k zero lt = refl
below_from r j k (suc n) lt = let other : (j == k) ≡ false = grind (arith, nat_tests) in rw (other, below_from r j (suc k) n (omega arith)) (none (role_code r == role_code r))
  where
    none : (b : Bool) → ((b && false) || false) ≡ false
    none true = refl
    none false = refl

among_apart : (g : ℕ → Bool) (r : Role) (k n : ℕ) → VarsApart (helpers_among g r k n)
among_apart g r k zero = tt
among_apart g r k (suc n) = go (g k) (among_apart g r (suc k) n)
  where
    go : (b : Bool) → VarsApart (helpers_among g r (suc k) n) → VarsApart (if b then helper r k ∷ helpers_among g r (suc k) n else helpers_among g r (suc k) n)
    go true ih = (below_among g r k (suc k) n (omega arith), ih)
    go false ih = ih

pub from_apart : (r : Role) (k n : ℕ) → VarsApart (helpers_from r k n)
from_apart r k zero = tt
from_apart r k (suc n) = (below_from r k (suc k) n (omega arith), from_apart r (suc k) n)

-- the helpers of a unit stand once
module _ (sc : Schedules) (p : Plan) (i : ℕ) (c : Code) where
  abbrev is_role : Role → ℕ → Bool
  is_role r k = k == role_code r

  abbrev other_than : Role → ℕ → Bool
  other_than r k = not (k == role_code r)

  -- those of one role and those of other roles
  of_role : (r : Role) (vs ws : List Var) → OfRoles (is_role r) vs → OfRoles (other_than r) ws → VarsApart vs → VarsApart ws → VarsApart (vs ++ ws)
  of_role r vs ws h k a b = roles_apart (is_role r) (other_than r) (λ n e. ap not e) vs ws h k a b

  abbrev loops : (Act → Bool) → Role → List Var
  loops sort r = loop_helpers_with sc sort r p i c

  loops_roles : (f : ℕ → Bool) (sort : Act → Bool) (r : Role) → f (role_code r) ≡ true → OfRoles f (loops sort r)
  loops_roles f sort r h = roles_among f (λ k. goes_back_with sc sort k p i 0 c) r 1 (depth_used_with sc p i 0 c) h

  loops_apart : (sort : Act → Bool) (r : Role) → VarsApart (loops sort r)
  loops_apart sort r = among_apart (λ k. goes_back_with sc sort k p i 0 c) r 1 (depth_used_with sc p i 0 c)

  -- ---- those of reversals

  acts_roles : (f : ℕ → Bool) (z : Schedules) (sort : Step → Bool) (r : Role) → f (role_code r) ≡ true → OfRoles f (reversal_helpers z sort r p i c)
  acts_roles f z sort r h = roles_among f (λ k. reverses_by z sort k p i 0 c) r 1 (depth_used_with z p i 0 c) h

  acts_apart : (z : Schedules) (sort : Step → Bool) (r : Role) → VarsApart (reversal_helpers z sort r p i c)
  acts_apart z sort r = among_apart (λ k. reverses_by z sort k p i 0 c) r 1 (depth_used_with z p i 0 c)

  -- a set of roles that has those of reversals
  abbrev HasActions : (ℕ → Bool) → Type 0
  HasActions f = (f (role_code entry) ≡ true) × ((f (role_code entries) ≡ true) × ((f (role_code kind) ≡ true) × ((f (role_code lower) ≡ true) × ((f (role_code upper) ≡ true) × (f (role_code slots) ≡ true)))))

  -- the lists of those behind the entry, from the last on
  abbrev from_upper : Schedules → List Var
  from_upper z = reversal_helpers z any_step upper p i c ++ reversal_helpers z has_slots slots p i c

  abbrev from_lower : Schedules → List Var
  from_lower z = reversal_helpers z any_step lower p i c ++ from_upper z

  abbrev from_kind : Schedules → List Var
  from_kind z = reversal_helpers z any_step kind p i c ++ from_lower z

  abbrev from_entries : Schedules → List Var
  from_entries z = reversal_helpers z any_step entries p i c ++ from_kind z

  upper_roles : (f : ℕ → Bool) (z : Schedules) → f (role_code upper) ≡ true → f (role_code slots) ≡ true → OfRoles f (from_upper z)
  upper_roles f z hu hs = roles_append f (reversal_helpers z any_step upper p i c) (reversal_helpers z has_slots slots p i c) (acts_roles f z any_step upper hu) (acts_roles f z has_slots slots hs)

  lower_roles : (f : ℕ → Bool) (z : Schedules) → f (role_code lower) ≡ true → f (role_code upper) ≡ true → f (role_code slots) ≡ true → OfRoles f (from_lower z)
  lower_roles f z hl hu hs = roles_append f (reversal_helpers z any_step lower p i c) (from_upper z) (acts_roles f z any_step lower hl) (upper_roles f z hu hs)

  kind_roles : (f : ℕ → Bool) (z : Schedules) → f (role_code kind) ≡ true → f (role_code lower) ≡ true → f (role_code upper) ≡ true → f (role_code slots) ≡ true → OfRoles f (from_kind z)
  kind_roles f z hk hl hu hs = roles_append f (reversal_helpers z any_step kind p i c) (from_lower z) (acts_roles f z any_step kind hk) (lower_roles f z hl hu hs)

  entries_roles : (f : ℕ → Bool) (z : Schedules) → f (role_code entries) ≡ true → f (role_code kind) ≡ true → f (role_code lower) ≡ true → f (role_code upper) ≡ true → f (role_code slots) ≡ true → OfRoles f (from_entries z)
  entries_roles f z hn hk hl hu hs = roles_append f (reversal_helpers z any_step entries p i c) (from_kind z) (acts_roles f z any_step entries hn) (kind_roles f z hk hl hu hs)

  actions_roles : (f : ℕ → Bool) (z : Schedules) → HasActions f → OfRoles f (all_reversal_helpers z p i c)
  actions_roles f None h = tt
  actions_roles f (Some reads) h =
      let z = Some reads in
      roles_append f (reversal_helpers z any_step entry p i c) (from_entries z) (acts_roles f z any_step entry h.0) (entries_roles f z h.1.0 h.1.1.0 h.1.1.1.0 h.1.1.1.1.0 h.1.1.1.1.1)

  actions_apart : (z : Schedules) → VarsApart (all_reversal_helpers z p i c)
  actions_apart None = tt
  actions_apart (Some reads) =
      let z = Some reads in
      of_role entry (reversal_helpers z any_step entry p i c) (from_entries z) (acts_roles (is_role entry) z any_step entry refl) (entries_roles (other_than entry) z refl refl refl refl refl) (acts_apart z any_step entry)
      (of_role entries (reversal_helpers z any_step entries p i c) (from_kind z) (acts_roles (is_role entries) z any_step entries refl) (kind_roles (other_than entries) z refl refl refl refl) (acts_apart z any_step entries)
      (of_role kind (reversal_helpers z any_step kind p i c) (from_lower z) (acts_roles (is_role kind) z any_step kind refl) (lower_roles (other_than kind) z refl refl refl) (acts_apart z any_step kind)
      (of_role lower (reversal_helpers z any_step lower p i c) (from_upper z) (acts_roles (is_role lower) z any_step lower refl) (upper_roles (other_than lower) z refl refl) (acts_apart z any_step lower)
      (of_role upper (reversal_helpers z any_step upper p i c) (reversal_helpers z has_slots slots p i c) (acts_roles (is_role upper) z any_step upper refl) (acts_roles (other_than upper) z has_slots slots refl) (acts_apart z any_step upper) (acts_apart z has_slots slots)))))

  -- ---- all of them

  abbrev works : List Var
  works = helpers_from work 1 (works_used p.marks i c)

  abbrev temps : List Var
  temps = helpers_from temp 1 (temps_used p.marks i c)

  works_roles : (f : ℕ → Bool) → f 0 ≡ true → OfRoles f works
  works_roles f h = roles_from f work 1 (works_used p.marks i c) h

  temps_roles : (f : ℕ → Bool) → f 1 ≡ true → OfRoles f temps
  temps_roles f h = roles_from f temp 1 (temps_used p.marks i c) h

  abbrev sixth : List Var
  sixth = works ++ temps

  abbrev fifth : List Var
  fifth = all_reversal_helpers sc p i c ++ sixth

  abbrev fourth : List Var
  fourth = loops is_loop turn ++ fifth

  abbrev third : List Var
  third = loops is_do stride ++ fourth

  abbrev second : List Var
  second = loops is_do first ++ third

  abbrev others : List Var
  others = loops is_loop count ++ second

  sixth_roles : (f : ℕ → Bool) → f 0 ≡ true → f 1 ≡ true → OfRoles f sixth
  sixth_roles f h0 h1 = roles_append f works temps (works_roles f h0) (temps_roles f h1)

  fifth_roles : (f : ℕ → Bool) → HasActions f → f 0 ≡ true → f 1 ≡ true → OfRoles f fifth
  fifth_roles f ha h0 h1 = roles_append f (all_reversal_helpers sc p i c) sixth (actions_roles f sc ha) (sixth_roles f h0 h1)

  fourth_roles : (f : ℕ → Bool) → HasActions f → f 0 ≡ true → f 1 ≡ true → f 6 ≡ true → OfRoles f fourth
  fourth_roles f ha h0 h1 h6 = roles_append f (loops is_loop turn) fifth (loops_roles f is_loop turn h6) (fifth_roles f ha h0 h1)

  third_roles : (f : ℕ → Bool) → HasActions f → f 0 ≡ true → f 1 ≡ true → f 6 ≡ true → f 4 ≡ true → OfRoles f third
  third_roles f ha h0 h1 h6 h4 = roles_append f (loops is_do stride) fourth (loops_roles f is_do stride h4) (fourth_roles f ha h0 h1 h6)

  second_roles : (f : ℕ → Bool) → HasActions f → f 0 ≡ true → f 1 ≡ true → f 6 ≡ true → f 4 ≡ true → f 3 ≡ true → OfRoles f second
  second_roles f ha h0 h1 h6 h4 h3 = roles_append f (loops is_do first) third (loops_roles f is_do first h3) (third_roles f ha h0 h1 h6 h4)

  others_roles : (f : ℕ → Bool) → HasActions f → f 0 ≡ true → f 1 ≡ true → f 6 ≡ true → f 4 ≡ true → f 3 ≡ true → f 5 ≡ true → OfRoles f others
  others_roles f ha h0 h1 h6 h4 h3 h5 = roles_append f (loops is_loop count) second (loops_roles f is_loop count h5) (second_roles f ha h0 h1 h6 h4 h3)

  -- the roles of reversals
  abbrev is_acting : ℕ → Bool
  is_acting k = (k == role_code entry) || ((k == role_code entries) || ((k == role_code kind) || ((k == role_code lower) || ((k == role_code upper) || (k == role_code slots)))))

  others_apart : VarsApart others
  others_apart =
      of_role count (loops is_loop count) second (loops_roles (is_role count) is_loop count refl) (second_roles (other_than count) (refl, (refl, (refl, (refl, (refl, refl))))) refl refl refl refl refl) (loops_apart is_loop count)
      (of_role first (loops is_do first) third (loops_roles (is_role first) is_do first refl) (third_roles (other_than first) (refl, (refl, (refl, (refl, (refl, refl))))) refl refl refl refl) (loops_apart is_do first)
      (of_role stride (loops is_do stride) fourth (loops_roles (is_role stride) is_do stride refl) (fourth_roles (other_than stride) (refl, (refl, (refl, (refl, (refl, refl))))) refl refl refl) (loops_apart is_do stride)
      (of_role turn (loops is_loop turn) fifth (loops_roles (is_role turn) is_loop turn refl) (fifth_roles (other_than turn) (refl, (refl, (refl, (refl, (refl, refl))))) refl refl) (loops_apart is_loop turn)
      (roles_apart is_acting (λ k. not (is_acting k)) (λ k e. ap not e) (all_reversal_helpers sc p i c) sixth (actions_roles is_acting sc (refl, (refl, (refl, (refl, (refl, refl)))))) (sixth_roles (λ k. not (is_acting k)) refl refl) (actions_apart sc)
      (of_role work works temps (works_roles (is_role work) refl) (temps_roles (other_than work) refl) (from_apart work 1 (works_used p.marks i c)) (from_apart temp 1 (temps_used p.marks i c)))))))

  pub used_apart_with : VarsApart (helpers_used_with sc p i c)
  used_apart_with = go (tells_some_with sc p i 0 c)
    where
      go : (b : Bool) → VarsApart ((if b then helper control 0 ∷ [] else []) ++ others)
      go true = of_role control (helper control 0 ∷ []) others (refl, tt) (others_roles (other_than control) (refl, (refl, (refl, (refl, (refl, refl))))) refl refl refl refl refl refl) (refl, tt) others_apart
      go false = others_apart

  -- ---- those of a forward unit

  slots_roles : (f : ℕ → Bool) (z : Schedules) → f (role_code slots) ≡ true → OfRoles f (forth_slots z p i c)
  slots_roles f None h = tt
  slots_roles f (Some reads) h = acts_roles f (Some reads) has_slots slots h

  slots_apart : (z : Schedules) → VarsApart (forth_slots z p i c)
  slots_apart None = tt
  slots_apart (Some reads) = acts_apart (Some reads) has_slots slots

  abbrev strides : List Var
  strides = loops is_do stride ++ forth_slots sc p i c

  strides_roles : (f : ℕ → Bool) → f (role_code stride) ≡ true → f (role_code slots) ≡ true → OfRoles f strides
  strides_roles f h k = roles_append f (loops is_do stride) (forth_slots sc p i c) (loops_roles f is_do stride h) (slots_roles f sc k)

  pub forth_apart : VarsApart (helpers_forth sc p i c)
  forth_apart =
      of_role count (loops is_loop count) (loops is_do first ++ strides) (loops_roles (is_role count) is_loop count refl) (roles_append (other_than count) (loops is_do first) strides (loops_roles (other_than count) is_do first refl) (strides_roles (other_than count) refl refl)) (loops_apart is_loop count)
      (of_role first (loops is_do first) strides (loops_roles (is_role first) is_do first refl) (strides_roles (other_than first) refl refl) (loops_apart is_do first)
      (of_role stride (loops is_do stride) (forth_slots sc p i c) (loops_roles (is_role stride) is_do stride refl) (slots_roles (other_than stride) sc refl) (loops_apart is_do stride) (slots_apart sc)))

-- where no loop is reversed by a schedule
pub used_apart : (p : Plan) (i : ℕ) (c : Code) → VarsApart (helpers_used p i c)
used_apart p i c = used_apart_with None p i c

-- ---- the variables that the table of a made unit has are those that it declares

pub no_shadow_own : (x : List ℕ) (xs : List (List ℕ)) → has_var (shadow x) (map own xs) ≡ false
no_shadow_own x [] = refl
no_shadow_own x (y ∷ xs) = no_shadow_own x xs

pub no_helper_own : (r : Role) (k : ℕ) (xs : List (List ℕ)) → has_var (helper r k) (map own xs) ≡ false
no_helper_own r k [] = refl
no_helper_own r k (y ∷ xs) = no_helper_own r k xs

no_helper_shadow : (r : Role) (k : ℕ) (xs : List (List ℕ)) → among (helper r k) (map shadow xs) ≡ false
no_helper_shadow r k [] = refl
no_helper_shadow r k (y ∷ xs) = no_helper_shadow r k xs

module _ (o : Derived) (vs units : List (List ℕ)) (a : Vars) (hs : List Var) (helpers : AreHelpers hs) where
  abbrev made : List Var
  made = map shadow (names_in a vs) ++ hs

  split : (v : Var) → has_var v (unit_names_for o vs units (map shadow (names_in a vs) ++ hs)) ≡ (has_var v (map own vs) || (among v (map shadow (names_in a vs)) || among v hs))
  split v =
      has_var-append v (map own vs) (named_for o (vs ++ (units ++ reserved)) made) ∙ ap (λ b. has_var v (map own vs) || b) (has_made o v (vs ++ (units ++ reserved)) made ∙ among-append v (map shadow (names_in a vs)) hs)

  -- of three of which two are false the third is what holds
  first_of : (b c d : Bool) → c ≡ false → d ≡ false → (b || (c || d)) ≡ true → b ≡ true
  first_of true c d e f h = refl
  first_of false true d e f h = absurd cc
  first_of false false true e f h = absurd cc
  first_of false false false e f h = h

  second_of : (b c d : Bool) → b ≡ false → d ≡ false → (b || (c || d)) ≡ true → c ≡ true
  second_of true c d e f h = absurd cc
  second_of false true d e f h = refl
  second_of false false true e f h = absurd cc
  second_of false false false e f h = h

  third_of : (b c d : Bool) → b ≡ false → c ≡ false → (b || (c || d)) ≡ true → d ≡ true
  third_of true c d e f h = absurd cc
  third_of false true d e f h = absurd cc
  third_of false false d e f h = h

  pub table_in : (v : Var) → has_var v (unit_names_for o vs units (map shadow (names_in a vs) ++ hs)) ≡ true → among v (interleaved a vs ++ hs) ≡ true
  table_in (plain x) h =
      let there : has_name x vs ≡ true = sym (has_own x vs) ∙ first_of (has_var (plain x) (map own vs)) (among (plain x) (map shadow (names_in a vs))) (among (plain x) hs) (plain_no_shadow x (names_in a vs)) (plain_no_helper x hs helpers) (sym (split (plain x)) ∙ h) in
      among-append (plain x) (interleaved a vs) hs ∙ or_left (among (plain x) (interleaved a vs)) (among (plain x) hs) (plain_there a x vs ∙ there)
  table_in (shadow x) h =
      let there : has_name x (names_in a vs) ≡ true = sym (among_shadows x (names_in a vs)) ∙ second_of (has_var (shadow x) (map own vs)) (among (shadow x) (map shadow (names_in a vs))) (among (shadow x) hs) (no_shadow_own x vs) (shadow_no_helper x hs helpers) (sym (split (shadow x)) ∙ h) in
      among-append (shadow x) (interleaved a vs) hs ∙ or_left (among (shadow x) (interleaved a vs)) (among (shadow x) hs) (shadow_there a x vs ∙ there)
  table_in (helper r k) h =
      among-append (helper r k) (interleaved a vs) hs
      ∙ or_right (among (helper r k) (interleaved a vs)) (among (helper r k) hs) (third_of (has_var (helper r k) (map own vs)) (among (helper r k) (map shadow (names_in a vs))) (among (helper r k) hs) (no_helper_own r k vs) (no_helper_shadow r k (names_in a vs)) (sym (split (helper r k)) ∙ h))
