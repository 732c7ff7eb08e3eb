-- The table of names of a made unit: which variables it has, and that their names are written and aren't reserved.
use Rattle.std.proofs.Common.{◌≡◌, ℕ, zero, suc, ◌+◌, ◌<◌, ◌≤◌, Bool, true, false, List, [], ◌∷◌, ◌++◌, map, refl, sym, ap, ◌∙◌, arith, codes, if◌then◌else◌}
use Rattle.std.specs.Prelude.{◌||◌, ◌==◌}
use Rattle.std.specs.List.{list_all}
use Rattle.std.proofs.lemmas.Bool.Decides.{nat_tests}
use Rattle.adj_tree.specs.Code.{Var, plain, shadow, helper, Role, role_code, work, temp, control, first, stride, count, turn, entry, entries, kind, lower, upper, slots, name_eq, var_eq}
use Rattle.adj_tree.proofs.Names.{nat_refl, nat_same, name_same}
use Rattle.def_text.specs.Char.{is_name_char}
use Rattle.def_text.specs.Written.{IsName, IsIndexed}
use Rattle.def_meaning.specs.Apart.{has_name}
use Rattle.def_names.specs.Fresh.{digits, fresh}
use Rattle.def_names.specs.Reserved.{reserved}
use Rattle.def_sweep.specs.Naming.{Derived, adjoint_text, tangent_text, mark_of, wanted_for, Named, own, named_for, unit_names_for, name_in, naming}
use Rattle.def_names.specs.Numbers.{Vars}
use Rattle.def_sweep.specs.Marked.{names_in}
use Rattle.def_sweep.specs.Declared.{helpers_from}
use Rattle.def_names.proofs.Fresh.{fresh-is_free}
use Rattle.def_names.proofs.NameLists.{has-append}
use Rattle.def_names.proofs.Variables.{or_assoc, or_false, or_left, or_right}
use Rattle.law_kernel.proofs.FreshWritten.{name-append, digits_chars, fresh-name}
use Rattle.def_sweep.specs.Program.{helpers_among}
use Rattle.law_sweep.proofs.Rounds.{either}
use Rattle.law_emitted.proofs.Lists.{Each}
use Rattle.law_emitted.proofs.Renamed.{no_intrinsic}

-- ---- which variables a table has

abbrev pub has_var : Var → List Named → Bool
has_var v [] = false
has_var v (p ∷ ps) = var_eq v p.variable || has_var v ps

abbrev pub among : Var → List Var → Bool
among v [] = false
among v (w ∷ ws) = var_eq v w || among v ws

pub has_var-append : (v : Var) (ps qs : List Named) → has_var v (ps ++ qs) ≡ (has_var v ps || has_var v qs)
has_var-append v [] qs = refl
has_var-append v (p ∷ ps) qs = ap (λ b. var_eq v p.variable || b) (has_var-append v ps qs) ∙ sym (or_assoc (var_eq v p.variable) (has_var v ps) (has_var v qs))

pub among-append : (v : Var) (vs ws : List Var) → among v (vs ++ ws) ≡ (among v vs || among v ws)
among-append v [] ws = refl
among-append v (w ∷ vs) ws = ap (λ b. var_eq v w || b) (among-append v vs ws) ∙ sym (or_assoc (var_eq v w) (among v vs) (among v ws))

pub has_made : (o : Derived) (v : Var) (taken : List (List ℕ)) (ws : List Var) → has_var v (named_for o taken ws) ≡ among v ws
has_made o v taken [] = refl
has_made o v taken (w ∷ ws) = ap (λ b. var_eq v w || b) (has_made o v (taken ++ (fresh (wanted_for o w) taken ∷ [])) ws)

pub has_own : (x : List ℕ) (xs : List (List ℕ)) → has_var (plain x) (map own xs) ≡ has_name x xs
has_own x [] = refl
has_own x (y ∷ xs) = ap (λ b. name_eq x y || b) (has_own x xs)

pub among_shadows : (x : List ℕ) (xs : List (List ℕ)) → among (shadow x) (map shadow xs) ≡ has_name x xs
among_shadows x [] = refl
among_shadows x (y ∷ xs) = ap (λ b. name_eq x y || b) (among_shadows x xs)

pub plain_no_shadow : (x : List ℕ) (xs : List (List ℕ)) → among (plain x) (map shadow xs) ≡ false
plain_no_shadow x [] = refl
plain_no_shadow x (y ∷ xs) = plain_no_shadow x xs

-- those of a set that are marked
pub in_set : (a : Vars) (x : List ℕ) (xs : List (List ℕ)) → has_name x xs ≡ true → a (plain x) ≡ true → has_name x (names_in a xs) ≡ true
in_set a x [] h g = h
in_set a x (y ∷ xs) h g = go (name_eq x y) refl (a (plain y)) refl h (λ k. in_set a x xs k g)
  where
    go : (b : Bool) → name_eq x y ≡ b → (c : Bool) → a (plain y) ≡ c → (b || has_name x xs) ≡ true → (has_name x xs ≡ true → has_name x (names_in a xs) ≡ true) → has_name x (if c then y ∷ names_in a xs else names_in a xs) ≡ true
    go b e true d h ih = either b (has_name x xs) (name_eq x y || has_name x (names_in a xs)) h (λ t. or_left (name_eq x y) (has_name x (names_in a xs)) (e ∙ t)) (λ t. or_right (name_eq x y) (has_name x (names_in a xs)) (ih t))
    go true e false d h ih =
        let same : x ≡ y = name_same x y e in
        absurd (let p : true ≡ false = sym g ∙ ap (λ z. a (plain z)) same ∙ d in cc)
    go false e false d h ih = ih h

-- ---- lists of helpers

-- no variable of the text and no shadow is among them
abbrev pub AreHelpers : List Var → Type 0
AreHelpers [] = Unit {0}
AreHelpers (plain x ∷ vs) = ⊥
AreHelpers (shadow x ∷ vs) = ⊥
AreHelpers (helper r k ∷ vs) = AreHelpers vs

pub helpers_append : (vs ws : List Var) → AreHelpers vs → AreHelpers ws → AreHelpers (vs ++ ws)
helpers_append [] ws h g = g
helpers_append (plain x ∷ vs) ws h g = absurd h
helpers_append (shadow x ∷ vs) ws h g = absurd h
helpers_append (helper r k ∷ vs) ws h g = helpers_append vs ws h g

pub plain_no_helper : (x : List ℕ) (vs : List Var) → AreHelpers vs → among (plain x) vs ≡ false
plain_no_helper x [] h = refl
plain_no_helper x (plain y ∷ vs) h = absurd h
plain_no_helper x (shadow y ∷ vs) h = absurd h
plain_no_helper x (helper r k ∷ vs) h = plain_no_helper x vs h

pub shadow_no_helper : (x : List ℕ) (vs : List Var) → AreHelpers vs → among (shadow x) vs ≡ false
shadow_no_helper x [] h = refl
shadow_no_helper x (plain y ∷ vs) h = absurd h
shadow_no_helper x (shadow y ∷ vs) h = absurd h
shadow_no_helper x (helper r k ∷ vs) h = shadow_no_helper x vs h

pub from_helpers : (r : Role) (k n : ℕ) → AreHelpers (helpers_from r k n)
from_helpers r k zero = tt
from_helpers r k (suc n) = from_helpers r (suc k) n

pub among_helpers : (f : ℕ → Bool) (r : Role) (k n : ℕ) → AreHelpers (helpers_among f r k n)
among_helpers f r k zero = tt
among_helpers f r k (suc n) = go (f k) (among_helpers f r (suc k) n)
  where
    go : (b : Bool) → AreHelpers (helpers_among f r (suc k) n) → AreHelpers (if b then helper r k ∷ helpers_among f r (suc k) n else helpers_among f r (suc k) n)
    go true ih = ih
    go false ih = ih

-- a helper is itself
same_helper : (r : Role) (i k : ℕ) → (i == k) ≡ true → var_eq (helper r i) (helper r k) ≡ true
same_helper r i k e = rw (nat_refl (role_code r), e) refl

-- a number that isn't k is behind it
past : (k i : ℕ) → k ≤ i → (i == k) ≡ false → suc k ≤ i
past k i le e = grind (arith, nat_tests)

-- the helpers from the k-th on have those of the next n numbers
pub has_from : (r : Role) (i k n : ℕ) → k ≤ i → i < k + n → among (helper r i) (helpers_from r k n) ≡ true
has_from r i k zero le lt = absurd (omega arith)
has_from r i k (suc n) le lt = go (i == k) refl (λ e. has_from r i (suc k) n (past k i le e) (omega arith))
  where
    go : (b : Bool) → (i == k) ≡ b → ((i == k) ≡ false → among (helper r i) (helpers_from r (suc k) n) ≡ true) → among (helper r i) (helpers_from r k (suc n)) ≡ true
    go true e ih = or_left (var_eq (helper r i) (helper r k)) (among (helper r i) (helpers_from r (suc k) n)) (same_helper r i k e)
    go false e ih = or_right (var_eq (helper r i) (helper r k)) (among (helper r i) (helpers_from r (suc k) n)) (ih e)

-- and those of a set have the ones of its numbers
pub has_among : (f : ℕ → Bool) (r : Role) (i k n : ℕ) → k ≤ i → i < k + n → f i ≡ true → among (helper r i) (helpers_among f r k n) ≡ true
has_among f r i k zero le lt h = absurd (omega arith)
has_among f r i k (suc n) le lt h = go (i == k) refl (λ e. has_among f r i (suc k) n (past k i le e) (omega arith) h)
  where
    behind : (c : Bool) → among (helper r i) (helpers_among f r (suc k) n) ≡ true → among (helper r i) (if c then helper r k ∷ helpers_among f r (suc k) n else helpers_among f r (suc k) n) ≡ true
    behind true ih = or_right (var_eq (helper r i) (helper r k)) (among (helper r i) (helpers_among f r (suc k) n)) ih
    behind false ih = ih

    go : (b : Bool) → (i == k) ≡ b → ((i == k) ≡ false → among (helper r i) (helpers_among f r (suc k) n) ≡ true) → among (helper r i) (if f k then helper r k ∷ helpers_among f r (suc k) n else helpers_among f r (suc k) n) ≡ true
    go true e ih =
        let marked : f k ≡ true = ap f (sym (nat_same i k e)) ∙ h in
        rw marked (or_left (var_eq (helper r i) (helper r k)) (among (helper r i) (helpers_among f r (suc k) n)) (same_helper r i k e))
    go false e ih = behind (f k) (ih e)

-- ---- names that are written and free

-- a name that is written and isn't reserved
abbrev pub IsFree : List ℕ → Type 0
IsFree x = IsName x × (has_name x reserved ≡ false)

abbrev AreFree : List Named → Type 0
AreFree [] = Unit {0}
AreFree (p ∷ ps) = IsFree p.name × AreFree ps

free_append : (ps qs : List Named) → AreFree ps → AreFree qs → AreFree (ps ++ qs)
free_append [] qs a b = b
free_append (p ∷ ps) qs a b = (a.0, free_append ps qs a.1 b)

-- a variable that a table has gets one of its names
name_free : (ps : List Named) (v : Var) → AreFree ps → has_var v ps ≡ true → IsFree (name_in ps v)
name_free [] v a h = absurd cc
name_free (p ∷ ps) v a h = go (var_eq v p.variable) h (name_free ps v a.1)
  where
    go : (b : Bool) → (b || has_var v ps) ≡ true → (has_var v ps ≡ true → IsFree (name_in ps v)) → IsFree (if b then p.name else name_in ps v)
    go true h ih = a.0
    go false h ih = ih h

own_free : (xs : List (List ℕ)) → Each IsFree xs → AreFree (map own xs)
own_free [] h = tt
own_free (x ∷ xs) h = (h.0, own_free xs h.1)

-- the names that variables want are names
wanted_helper : (o : Derived) (r : Role) (k : ℕ) → IsName (wanted_for o (helper r k))
wanted_helper adjoint_text work k = name-append (codes "ADW") (digits k) (refl, refl) (digits_chars k)
wanted_helper tangent_text work k = name-append (codes "ADY") (digits k) (refl, refl) (digits_chars k)
wanted_helper o temp k = name-append (codes "ADZ") (digits k) (refl, refl) (digits_chars k)
wanted_helper o control k = (refl, refl)
wanted_helper o first k = name-append (codes "ADM") (digits k) (refl, refl) (digits_chars k)
wanted_helper o stride k = name-append (codes "ADI") (digits k) (refl, refl) (digits_chars k)
wanted_helper o count k = name-append (codes "ADL") (digits k) (refl, refl) (digits_chars k)
wanted_helper o turn k = name-append (codes "ADJ") (digits k) (refl, refl) (digits_chars k)
wanted_helper o entry k = name-append (codes "ADK") (digits k) (refl, refl) (digits_chars k)
wanted_helper o entries k = name-append (codes "ADN") (digits k) (refl, refl) (digits_chars k)
wanted_helper o kind k = name-append (codes "ADA") (digits k) (refl, refl) (digits_chars k)
wanted_helper o lower k = name-append (codes "ADF") (digits k) (refl, refl) (digits_chars k)
wanted_helper o upper k = name-append (codes "ADT") (digits k) (refl, refl) (digits_chars k)
wanted_helper o slots k = name-append (codes "ADS") (digits k) (refl, refl) (digits_chars k)

wanted_helpers : (o : Derived) (vs : List Var) → AreHelpers vs → Each (λ v. IsName (wanted_for o v)) vs
wanted_helpers o [] h = tt
wanted_helpers o (plain x ∷ vs) h = absurd h
wanted_helpers o (shadow x ∷ vs) h = absurd h
wanted_helpers o (helper r k ∷ vs) h = (wanted_helper o r k, wanted_helpers o vs h)

-- so is a name with what follows it in that of its shadow
mark_chars : (o : Derived) → list_all is_name_char (mark_of o) ≡ true
mark_chars adjoint_text = refl
mark_chars tangent_text = refl

wanted_shadows : (o : Derived) (a : Vars) (xs : List (List ℕ)) → Each IsFree xs → Each (λ v. IsName (wanted_for o v)) (map shadow (names_in a xs))
wanted_shadows o a [] h = tt
wanted_shadows o a (x ∷ xs) h = go (a (plain x)) (wanted_shadows o a xs h.1)
  where
    go : (b : Bool) → Each (λ v. IsName (wanted_for o v)) (map shadow (names_in a xs)) → Each (λ v. IsName (wanted_for o v)) (map shadow (if b then x ∷ names_in a xs else names_in a xs))
    go true ih = (name-append x (mark_of o) h.0.0 (mark_chars o), ih)
    go false ih = ih

each_append : {X : Type 0} (P : X → Type 0) (xs ys : List X) → Each P xs → Each P ys → Each P (xs ++ ys)
each_append P [] ys h g = g
each_append P (x ∷ xs) ys h g = (h.0, each_append P xs ys h.1 g)

-- what isn't taken isn't reserved
abbrev TakesReserved : List (List ℕ) → Type 0
TakesReserved taken = (x : List ℕ) → has_name x taken ≡ false → has_name x reserved ≡ false

made_free : (o : Derived) (taken : List (List ℕ)) (vs : List Var) → Each (λ v. IsName (wanted_for o v)) vs → TakesReserved taken → AreFree (named_for o taken vs)
made_free o taken [] h t = tt
made_free o taken (v ∷ vs) h t =
    ((fresh-name (wanted_for o v) taken h.0, t (fresh (wanted_for o v) taken) (fresh-is_free (wanted_for o v) taken)), made_free o (taken ++ (fresh (wanted_for o v) taken ∷ [])) vs h.1 (λ x n. t x (or_false (has_name x taken) (has_name x (fresh (wanted_for o v) taken ∷ [])) (sym (has-append x taken (fresh (wanted_for o v) taken ∷ [])) ∙ n)).0))

-- a name that was made wasn't taken
made_untaken : (o : Derived) (taken : List (List ℕ)) (ws : List Var) (v : Var) → has_var v (named_for o taken ws) ≡ true → has_name (name_in (named_for o taken ws) v) taken ≡ false
made_untaken o taken [] v h = absurd cc
made_untaken o taken (w ∷ ws) v h = go (var_eq v w) h (made_untaken o (taken ++ (fresh (wanted_for o w) taken ∷ [])) ws v)
  where
    go : (b : Bool) → (b || has_var v (named_for o (taken ++ (fresh (wanted_for o w) taken ∷ [])) ws)) ≡ true → (has_var v (named_for o (taken ++ (fresh (wanted_for o w) taken ∷ [])) ws) ≡ true → has_name (name_in (named_for o (taken ++ (fresh (wanted_for o w) taken ∷ [])) ws) v) (taken ++ (fresh (wanted_for o w) taken ∷ [])) ≡ false) →
        has_name (if b then fresh (wanted_for o w) taken else name_in (named_for o (taken ++ (fresh (wanted_for o w) taken ∷ [])) ws) v) taken ≡ false
    go true h ih = fresh-is_free (wanted_for o w) taken
    go false h ih =
        let z = name_in (named_for o (taken ++ (fresh (wanted_for o w) taken ∷ [])) ws) v in
        (or_false (has_name z taken) (has_name z (fresh (wanted_for o w) taken ∷ [])) (sym (has-append z taken (fresh (wanted_for o w) taken ∷ [])) ∙ ih h)).0

-- a variable that isn't of the text is looked for behind the own names
behind_own : (xs : List (List ℕ)) (qs : List Named) (v : Var) → has_var v (map own xs) ≡ false → name_in (map own xs ++ qs) v ≡ name_in qs v
behind_own [] qs v h = refl
behind_own (x ∷ xs) qs v h = let p = or_false (var_eq v (plain x)) (has_var v (map own xs)) h in ap (λ b. if b then x else name_in (map own xs ++ qs) v) p.0 ∙ behind_own xs qs v p.1

-- ---- the table of a unit

-- with these variables, of which some have shadows, and these helpers
abbrev pub table_for : Derived → List (List ℕ) → List (List ℕ) → Vars → List Var → List Named
table_for o vs units a hs = unit_names_for o vs units (map shadow (names_in a vs) ++ hs)

module _ (o : Derived) (vs units : List (List ℕ)) (a : Vars) (hs : List Var) (free : Each IsFree vs) (helpers : AreHelpers hs) where
  abbrev made : List Var
  made = map shadow (names_in a vs) ++ hs

  abbrev table : List Named
  table = table_for o vs units a hs

  takes_reserved : TakesReserved (vs ++ (units ++ reserved))
  takes_reserved x n =
      (or_false (has_name x units) (has_name x reserved) (sym (has-append x units reserved) ∙ (or_false (has_name x vs) (has_name x (units ++ reserved)) (sym (has-append x vs (units ++ reserved)) ∙ n)).1)).1

  all_free : AreFree table
  all_free =
      free_append (map own vs) (named_for o (vs ++ (units ++ reserved)) made) (own_free vs free)
      (made_free o (vs ++ (units ++ reserved)) made (each_append (λ v. IsName (wanted_for o v)) (map shadow (names_in a vs)) hs (wanted_shadows o a vs free) (wanted_helpers o hs helpers)) takes_reserved)

  in_table : (v : Var) → has_var v table ≡ (has_var v (map own vs) || among v made)
  in_table v = has_var-append v (map own vs) (named_for o (vs ++ (units ++ reserved)) made) ∙ ap (λ b. has_var v (map own vs) || b) (has_made o v (vs ++ (units ++ reserved)) made)

  -- each variable that it has gets a name that is written and free
  pub named_free_for : (v : Var) → has_var v table ≡ true → IsFree (name_in table v)
  named_free_for v h = name_free table v all_free h

  pub named_indexed_for : (v : Var) → has_var v table ≡ true → IsIndexed (naming table v)
  named_indexed_for v h = let f = named_free_for v h in (f.0, no_intrinsic (name_in table v) f.1)

  -- it has the variables of the unit
  pub has_plain_for : (x : List ℕ) → has_name x vs ≡ true → has_var (plain x) table ≡ true
  has_plain_for x h = in_table (plain x) ∙ or_left (has_var (plain x) (map own vs)) (among (plain x) made) (has_own x vs ∙ h)

  -- and no others of the text
  pub plain_known_for : (x : List ℕ) → has_var (plain x) table ≡ true → has_name x vs ≡ true
  plain_known_for x h =
      let none : among (plain x) made ≡ false = among-append (plain x) (map shadow (names_in a vs)) hs ∙ rw (plain_no_shadow x (names_in a vs), plain_no_helper x hs helpers) refl in
      either (has_var (plain x) (map own vs)) (among (plain x) made) (has_name x vs) (sym (in_table (plain x)) ∙ h) (λ e. sym (has_own x vs) ∙ e) (λ e. absurd (let p : true ≡ false = sym e ∙ none in cc))

  has_other : (v : Var) → among v made ≡ true → has_var v table ≡ true
  has_other v h = in_table v ∙ or_right (has_var v (map own vs)) (among v made) h

  -- the shadows of those that have one
  pub has_shadow_for : (x : List ℕ) → has_name x vs ≡ true → a (plain x) ≡ true → has_var (shadow x) table ≡ true
  has_shadow_for x h marked =
      has_other (shadow x) (among-append (shadow x) (map shadow (names_in a vs)) hs ∙ or_left (among (shadow x) (map shadow (names_in a vs))) (among (shadow x) hs) (among_shadows x (names_in a vs) ∙ in_set a x vs h marked))

  -- and the helpers
  pub has_helper_for : (v : Var) → among v hs ≡ true → has_var v table ≡ true
  has_helper_for v h = has_other v (among-append v (map shadow (names_in a vs)) hs ∙ or_right (among v (map shadow (names_in a vs))) (among v hs) h)

  -- whose names aren't those of units
  pub made_no_unit_for : (v : Var) → has_var v (map own vs) ≡ false → has_var v table ≡ true → has_name (name_in table v) units ≡ false
  made_no_unit_for v n h =
      let taken = vs ++ (units ++ reserved) in
      let z = name_in (named_for o (vs ++ (units ++ reserved)) made) v in
      let inside : has_var v (named_for o (vs ++ (units ++ reserved)) made) ≡ true = sym (ap (λ b. b || has_var v (named_for o (vs ++ (units ++ reserved)) made)) n) ∙ (sym (has_var-append v (map own vs) (named_for o (vs ++ (units ++ reserved)) made)) ∙ h) in
      let free : has_name z (vs ++ (units ++ reserved)) ≡ false = made_untaken o (vs ++ (units ++ reserved)) made v inside in
      let behind : has_name z (units ++ reserved) ≡ false = (or_false (has_name z vs) (has_name z (units ++ reserved)) (sym (has-append z vs (units ++ reserved)) ∙ free)).1 in
      ap (λ y. has_name y units) (behind_own vs (named_for o (vs ++ (units ++ reserved)) made) v n) ∙ (or_false (has_name z units) (has_name z reserved) (sym (has-append z units reserved) ∙ behind)).0

-- ---- the same of adjoints

module _ (vs units : List (List ℕ)) (a : Vars) (hs : List Var) (free : Each IsFree vs) (helpers : AreHelpers hs) where
  abbrev names_of : List Named
  names_of = table_for adjoint_text vs units a hs

  pub named_free : (v : Var) → has_var v names_of ≡ true → IsFree (name_in names_of v)
  named_free = named_free_for adjoint_text vs units a hs free helpers

  pub named_indexed : (v : Var) → has_var v names_of ≡ true → IsIndexed (naming names_of v)
  named_indexed = named_indexed_for adjoint_text vs units a hs free helpers

  pub has_plain : (x : List ℕ) → has_name x vs ≡ true → has_var (plain x) names_of ≡ true
  has_plain = has_plain_for adjoint_text vs units a hs free helpers

  pub plain_known : (x : List ℕ) → has_var (plain x) names_of ≡ true → has_name x vs ≡ true
  plain_known = plain_known_for adjoint_text vs units a hs free helpers

  pub has_shadow : (x : List ℕ) → has_name x vs ≡ true → a (plain x) ≡ true → has_var (shadow x) names_of ≡ true
  has_shadow = has_shadow_for adjoint_text vs units a hs free helpers

  pub has_helper : (v : Var) → among v hs ≡ true → has_var v names_of ≡ true
  has_helper = has_helper_for adjoint_text vs units a hs free helpers

  pub made_no_unit : (v : Var) → has_var v (map own vs) ≡ false → has_var v names_of ≡ true → has_name (name_in names_of v) units ≡ false
  made_no_unit = made_no_unit_for adjoint_text vs units a hs free helpers
