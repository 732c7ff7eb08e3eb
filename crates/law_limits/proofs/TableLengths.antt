-- How long the names are that the variables of a made unit get.
use Rattle.std.proofs.Common.{◌≡◌, ◌≤◌, ◌<◌, ◌^◌, ℕ, zero, suc, ◌+◌, Bool, true, false, List, [], ◌∷◌, ◌++◌, length, map, refl, sym, ap, subst, ◌∙◌, arith, inl, inr, append_assoc, length-append, codes, if◌then◌else◌}
use Rattle.std.specs.Prelude.{◌||◌, ◌==◌, not, Some, None}
use Rattle.std.specs.List.{list_all}
use Rattle.std.proofs.lemmas.Bool.{or_cases, and_parts}
use Rattle.std.proofs.lemmas.Bool.Decides.{nat_tests}
use Rattle.std.proofs.lemmas.List.{append-nil}
use Rattle.adj_tree.specs.Code.{Role, work, temp, control, first, stride, count, turn, entry, entries, kind, lower, upper, slots, Var, plain, shadow, helper, var_eq, Act, Code}
use Rattle.def_meaning.specs.Apart.{has_name}
use Rattle.def_names.specs.Fresh.{digits, candidate, fresh}
use Rattle.def_names.specs.Reserved.{reserved}
use Rattle.def_sweep.specs.Naming.{Derived, adjoint_text, tangent_text, mark_of, wanted_for, Named, own, named_for, named, unit_names_for, unit_names, name_in}
use Rattle.def_names.specs.Numbers.{Vars}
use Rattle.def_sweep.specs.Marked.{names_in}
use Rattle.def_sweep.specs.Declared.{helpers_from}
use Rattle.def_names.proofs.Fresh.{digits_same, digits_pass}
use Rattle.def_names.proofs.NameLists.{has-append}
use Rattle.def_sweep.specs.Plan.{Plan, Schedules, Step}
use Rattle.def_sweep.specs.Program.{works_used, temps_used, depth_used_with, tells_some_with, goes_back_with, reverses_by, any_step, has_slots, is_do, is_loop, helpers_among, loop_helpers_with, reversal_helpers, all_reversal_helpers, helpers_used_with, forth_slots, helpers_forth}
use Rattle.law_emitted.proofs.Lists.{Each, each_append, each_more}
use Rattle.law_emitted.proofs.Sources.{of_each}
use Rattle.law_emitted.proofs.Tables.{has_var}
use Rattle.law_limits.proofs.FreshLengths.{digits_short, fresh_short, fresh_candidate}

abbrev pub Entry : Named → Type 0
Entry p = length p.name ≤ 63

-- the name of a variable that a table has
pub name_short : (ps : List Named) (v : Var) → Each Entry ps → has_var v ps ≡ true → length (name_in ps v) ≤ 63
name_short [] v h e = absurd cc
name_short (p ∷ ps) v h e = elim (var_eq v p.variable) as (λ b. (b || has_var v ps) ≡ true → length (if b then p.name else name_in ps v) ≤ 63) [ true ↦ λ g. h.0 | false ↦ λ g. name_short ps v h.1 g ] e

-- ---- what is wanted

-- a name of a moderate length
abbrev pub Modest : Derived → Var → Type 0
Modest o v = length (wanted_for o v) ≤ 51

behind_letters : (w : List ℕ) (k : ℕ) → length w ≤ 3 → k < 10 ^ suc 47 → length (w ++ digits k) ≤ 51
behind_letters w k h lt = let d = digits_short 47 k lt in let a = length-append w (digits k) in omega arith

helper_modest : (o : Derived) (r : Role) (k : ℕ) → k < 10 ^ suc 47 → Modest o (helper r k)
helper_modest adjoint_text work k lt = behind_letters (codes "ADW") k (omega arith) lt
helper_modest tangent_text work k lt = behind_letters (codes "ADY") k (omega arith) lt
helper_modest o temp k lt = behind_letters (codes "ADZ") k (omega arith) lt
helper_modest o control k lt = omega arith
helper_modest o first k lt = behind_letters (codes "ADM") k (omega arith) lt
helper_modest o stride k lt = behind_letters (codes "ADI") k (omega arith) lt
helper_modest o count k lt = behind_letters (codes "ADL") k (omega arith) lt
helper_modest o turn k lt = behind_letters (codes "ADJ") k (omega arith) lt
helper_modest o entry k lt = behind_letters (codes "ADK") k (omega arith) lt
helper_modest o entries k lt = behind_letters (codes "ADN") k (omega arith) lt
helper_modest o kind k lt = behind_letters (codes "ADA") k (omega arith) lt
helper_modest o lower k lt = behind_letters (codes "ADF") k (omega arith) lt
helper_modest o upper k lt = behind_letters (codes "ADT") k (omega arith) lt
helper_modest o slots k lt = behind_letters (codes "ADS") k (omega arith) lt

pub from_modest : (o : Derived) (r : Role) (k n : ℕ) → k + n ≤ 10 ^ suc 47 → Each (Modest o) (helpers_from r k n)
from_modest o r k zero h = tt
from_modest o r k (suc n) h = (helper_modest o r k (omega arith), from_modest o r (suc k) n (omega arith))

from_count : (r : Role) (k n : ℕ) → length (helpers_from r k n) ≡ n
from_count r k zero = refl
from_count r k (suc n) = let rest = from_count r (suc k) n in omega arith

among_modest : (o : Derived) (f : ℕ → Bool) (r : Role) (k n : ℕ) → k + n ≤ 10 ^ suc 47 → Each (Modest o) (helpers_among f r k n)
among_modest o f r k zero h = tt
among_modest o f r k (suc n) h =
    let rest = among_modest o f r (suc k) n (omega arith) in
    let here = helper_modest o r k (omega arith) in
    elim (f k) as (λ b. Each (Modest o) (if b then helper r k ∷ helpers_among f r (suc k) n else helpers_among f r (suc k) n)) [ true ↦ (here, rest) | false ↦ rest ]

among_count : (f : ℕ → Bool) (r : Role) (k n : ℕ) → length (helpers_among f r k n) ≤ n
among_count f r k zero = omega arith
among_count f r k (suc n) =
    let rest = among_count f r (suc k) n in
    elim (f k) as (λ b. length (if b then helper r k ∷ helpers_among f r (suc k) n else helpers_among f r (suc k) n) ≤ suc n) [ true ↦ omega arith | false ↦ omega arith ]

one_letter : (o : Derived) → length (mark_of o) ≤ 1
one_letter adjoint_text = omega arith
one_letter tangent_text = omega arith

shadows_modest : (o : Derived) (a : Vars) (xs : List (List ℕ)) → Each (λ x. length x ≤ 40) xs → Each (Modest o) (map shadow (names_in a xs))
shadows_modest o a [] h = tt
shadows_modest o a (x ∷ xs) h =
    let rest = shadows_modest o a xs h.1 in
    let all = length-append x (mark_of o) in
    let one = one_letter o in
    let le : length x ≤ 40 = h.0 in
    let here : Modest o (shadow x) = omega arith in
    elim (a (plain x)) as (λ b. Each (Modest o) (map shadow (if b then x ∷ names_in a xs else names_in a xs))) [ true ↦ (here, rest) | false ↦ rest ]

shadows_count : (a : Vars) (xs : List (List ℕ)) → length (map shadow (names_in a xs)) ≤ length xs
shadows_count a [] = omega arith
shadows_count a (x ∷ xs) =
    let rest = shadows_count a xs in
    elim (a (plain x)) as (λ b. length (map shadow (if b then x ∷ names_in a xs else names_in a xs)) ≤ length (x ∷ xs)) [ true ↦ omega arith | false ↦ omega arith ]

control_modest : (o : Derived) (b : Bool) → Each (Modest o) (if b then helper control 0 ∷ [] else [])
control_modest o true = (omega arith, tt)
control_modest o false = tt

control_count : (b : Bool) → length (if b then helper control 0 ∷ [] else []) ≤ 1
control_count true = omega arith
control_count false = omega arith

-- ---- names in order

-- so many names are taken at most
abbrev pub most : ℕ
most = 10000000000

module _ (o : Derived) where
  fresh_modest : (taken : List (List ℕ)) (v : Var) → Modest o v → length taken < 10 ^ suc 10 → length (fresh (wanted_for o v) taken) ≤ 63
  fresh_modest taken v h lt = let f = fresh_short 10 (wanted_for o v) taken taken (λ j e. e) lt in omega arith

  simple : (taken : List (List ℕ)) (vs : List Var) → Each (Modest o) vs → length taken + length vs ≤ most → Each Entry (named_for o taken vs)
  simple taken [] h le = tt
  simple taken (v ∷ vs) h le =
      let x = fresh (wanted_for o v) taken in
      let all = length-append taken (x ∷ []) in
      (fresh_modest taken v h.0 (omega arith), simple (taken ++ x ∷ []) vs h.1 (omega arith))

  joined : (taken : List (List ℕ)) (vs ws : List Var) → Each Entry (named_for o taken vs) → ((more : List (List ℕ)) → length more ≡ length vs → Each Entry (named_for o (taken ++ more) ws)) → Each Entry (named_for o taken (vs ++ ws))
  joined taken [] ws h f = let P : List (List ℕ) → Type 0 = λ xs. Each Entry (named_for o xs ws) in subst P (append-nil taken) (f [] refl)
  joined taken (v ∷ vs) ws h f =
      let x = fresh (wanted_for o v) taken in
      let P : List (List ℕ) → Type 0 = λ xs. Each Entry (named_for o xs ws) in
      (h.0, joined (taken ++ x ∷ []) vs ws h.1 (λ more e. subst P (sym (append_assoc taken (x ∷ []) more)) (f (x ∷ more) (omega arith))))

  -- some modest ones, and others behind them
  before : (taken : List (List ℕ)) (vs ws : List Var) → Each (Modest o) vs → length taken + length vs ≤ most → ((later : List (List ℕ)) → length later ≤ length taken + length vs → Each Entry (named_for o later ws)) → Each Entry (named_for o taken (vs ++ ws))
  before taken vs ws h le f = joined taken vs ws (simple taken vs h le) (λ more e. let all = length-append taken more in f (taken ++ more) (omega arith))

-- ---- any number of variables that want names of their own without an underscore: no name of one is a candidate for another

abbrev pub stem : List ℕ → List ℕ
stem [] = []
stem (c ∷ cs) = if c == 95 then [] else c ∷ stem cs

abbrev pub bare : List ℕ → Bool
bare = list_all (λ c. not (c == 95))

not_one : (b : Bool) → not b ≡ true → b ≡ false
not_one true h = absurd cc
not_one false h = refl

stem_bare : (b x : List ℕ) → bare b ≡ true → stem (b ++ 95 ∷ x) ≡ b
stem_bare [] x h = refl
stem_bare (c ∷ cs) x h = let p = and_parts (not (c == 95)) (bare cs) h in rw (not_one (c == 95) p.0) (ap (λ z. c ∷ z) (stem_bare cs x p.1))

stem_whole : (b : List ℕ) → bare b ≡ true → stem b ≡ b
stem_whole [] h = refl
stem_whole (c ∷ cs) h = let p = and_parts (not (c == 95)) (bare cs) h in rw (not_one (c == 95) p.0) (ap (λ z. c ∷ z) (stem_whole cs p.1))

stem_candidate : (b : List ℕ) (j : ℕ) → bare b ≡ true → stem (candidate b j) ≡ b
stem_candidate b zero h = stem_whole b h
stem_candidate b (suc j) h = stem_bare b (digits (suc j)) h

digits_bare : (k : ℕ) → bare (digits k) ≡ true
digits_bare = digits_pass (λ c. not (c == 95)) (λ d h. grind (arith, nat_tests))

module _ (o : Derived) where
  -- none of the variables wants this name
  abbrev pub Unwanted : List Var → List ℕ → Type 0
  Unwanted vs x = Each (λ v. x ≡ wanted_for o v → ⊥) vs

  -- each wants a name of its own
  abbrev pub WantOwn : List Var → Type 0
  WantOwn [] = Unit {0}
  WantOwn (v ∷ vs) = Unwanted vs (wanted_for o v) × WantOwn vs

  pub own_append : (vs ws : List Var) → WantOwn vs → WantOwn ws → Each (λ v. Unwanted ws (wanted_for o v)) vs → WantOwn (vs ++ ws)
  own_append [] ws h g f = g
  own_append (v ∷ vs) ws h g f = (each_append (λ w. wanted_for o v ≡ wanted_for o w → ⊥) vs ws h.0 f.0, own_append vs ws h.1 g f.1)

  -- a name without an underscore
  abbrev pub IsBare : Var → Type 0
  IsBare v = bare (wanted_for o v) ≡ true

  -- a name that was made earlier: none wants what stands before its underscore
  abbrev pub Earlier : List Var → List ℕ → Type 0
  Earlier vs x = Unwanted vs (stem x)

  pub bare_short : (base : List (List ℕ)) → length base ≤ most → (vs : List Var) → Each (Modest o) vs → Each IsBare vs → WantOwn vs → (earlier : List (List ℕ)) → Each (Earlier vs) earlier → Each Entry (named_for o (base ++ earlier) vs)
  bare_short base few [] m b w earlier h = tt
  bare_short base few (v ∷ vs) m b w earlier h =
      let a = wanted_for o v in
      let x = fresh a (base ++ earlier) in
      let f = fresh_short 10 a base (base ++ earlier) (λ i e.
      elim (or_cases (has_name (candidate a i) base) (has_name (candidate a i) earlier) (sym (has-append (candidate a i) base earlier) ∙ e)) [
        | inl g ↦ g
        | inr g ↦ let wanted_by = of_each (Earlier (v ∷ vs)) earlier h (candidate a i) g in absurd (wanted_by.0 (stem_candidate a i b.0))
      ]) (omega arith) in
      let modest : Modest o v = m.0 in
      let c = fresh_candidate a (base ++ earlier) in
      let now : Earlier vs x = subst (Unwanted vs) (sym (ap stem c.1 ∙ stem_candidate a c.0 b.0)) w.0 in
      let P : List (List ℕ) → Type 0 = λ xs. Each Entry (named_for o xs vs) in
      (omega arith, subst P (sym (append_assoc base earlier (x ∷ []))) (bare_short base few vs m.1 b.1 w.1 (earlier ++ x ∷ []) (each_append (Earlier vs) earlier (x ∷ []) (each_more (Earlier (v ∷ vs)) (Earlier vs) (λ y k. k.1) earlier h) (now, tt))))

  -- helpers of a role, whose names differ in their numbers
  module _ (r : Role) (same : (k j : ℕ) → wanted_for o (helper r k) ≡ wanted_for o (helper r j) → k ≡ j) where
    later_unwanted : (i k n : ℕ) → i < k → Unwanted (helpers_from r k n) (wanted_for o (helper r i))
    later_unwanted i k zero lt = tt
    later_unwanted i k (suc n) lt = ((λ e. let one = same i k e in absurd (omega arith)), later_unwanted i (suc k) n (omega arith))

    pub from_own : (k n : ℕ) → WantOwn (helpers_from r k n)
    from_own k zero = tt
    from_own k (suc n) = (later_unwanted k (suc k) n (omega arith), from_own (suc k) n)

-- what holds of each helper of a role
pub from_each : (P : Var → Type 0) (r : Role) → ((j : ℕ) → P (helper r j)) → (k n : ℕ) → Each P (helpers_from r k n)
from_each P r f k zero = tt
from_each P r f k (suc n) = (f k, from_each P r f (suc k) n)

pub work_bare : (o : Derived) (k : ℕ) → IsBare o (helper work k)
work_bare adjoint_text = digits_bare
work_bare tangent_text = digits_bare

pub temp_bare : (o : Derived) (k : ℕ) → IsBare o (helper temp k)
temp_bare o = digits_bare

pub works_apart : (o : Derived) (k j : ℕ) → wanted_for o (helper work k) ≡ wanted_for o (helper work j) → k ≡ j
works_apart adjoint_text k j e = let d : digits k ≡ digits j = cc in digits_same k j d
works_apart tangent_text k j e = let d : digits k ≡ digits j = cc in digits_same k j d

pub temps_apart : (o : Derived) (k j : ℕ) → wanted_for o (helper temp k) ≡ wanted_for o (helper temp j) → k ≡ j
temps_apart o k j e = let d : digits k ≡ digits j = cc in digits_same k j d

pub temps_short : (o : Derived) (base : List (List ℕ)) → length base ≤ most → (n : ℕ) → 1 + n ≤ 10 ^ suc 47 → Each Entry (named_for o base (helpers_from temp 1 n))
temps_short o base few n le =
    let P : List (List ℕ) → Type 0 = λ xs. Each Entry (named_for o xs (helpers_from temp 1 n)) in
    subst P (append-nil base) (bare_short o base few (helpers_from temp 1 n) (from_modest o temp 1 n le) (from_each (IsBare o) temp (temp_bare o) 1 n) (from_own o temp (temps_apart o) 1 n) [] tt)

-- ---- a unit's table

own_short : (xs : List (List ℕ)) → Each (λ x. length x ≤ 40) xs → Each Entry (map own xs)
own_short [] h = tt
own_short (x ∷ xs) h = let le : length x ≤ 40 = h.0 in (omega arith, own_short xs h.1)

entries_join : (ps qs : List Named) → Each Entry ps → Each Entry qs → Each Entry (ps ++ qs)
entries_join [] qs h g = g
entries_join (p ∷ ps) qs h g = (h.0, entries_join ps qs h.1 g)

-- of a unit whose helpers get short names
pub table_short_for : (o : Derived) (hs : List Var) → ((taken : List (List ℕ)) → length taken ≤ 9000000000 → Each Entry (named_for o taken hs)) → (a : Vars) (vs units : List (List ℕ)) → Each (λ x. length x ≤ 40) vs → length vs ≤ 2 ^ 30 → length units ≤ 1608000 → Each Entry (unit_names_for o vs units (map shadow (names_in a vs) ++ hs))
table_short_for o hs helpers a vs units short few some =
    let eighteen : length reserved ≡ 18 = refl in
    let x = length-append vs (units ++ reserved) in
    let y = length-append units reserved in
    let shadows = shadows_count a vs in
    entries_join (map own vs) _ (own_short vs short) (before o (vs ++ (units ++ reserved)) (map shadow (names_in a vs)) hs (shadows_modest o a vs short) (omega arith) (λ later h. helpers later (omega arith)))

module _ (sc : Schedules) (p : Plan) (i : ℕ) (c : Code) (loops : depth_used_with sc p i 0 c ≤ 45) (works : works_used p.marks i c ≤ 200) (temps : temps_used p.marks i c < 10 ^ 47) where
  loop_piece : (is_such : Act → Bool) (r : Role) (taken : List (List ℕ)) (ws : List Var) → length taken + 45 ≤ most → ((later : List (List ℕ)) → length later ≤ length taken + 45 → Each Entry (named later ws)) → Each Entry (named taken (loop_helpers_with sc is_such r p i c ++ ws))
  loop_piece is_such r taken ws le f =
      let few = among_count (λ k. goes_back_with sc is_such k p i 0 c) r 1 (depth_used_with sc p i 0 c) in
      before adjoint_text taken (loop_helpers_with sc is_such r p i c) ws (among_modest adjoint_text (λ k. goes_back_with sc is_such k p i 0 c) r 1 (depth_used_with sc p i 0 c) (omega arith)) (omega arith) (λ later h. f later (omega arith))

  -- those of reversals by schedules
  acts_of : (z : Schedules) (sort : Step → Bool) (r : Role) → depth_used_with z p i 0 c ≤ 45 → Each (Modest adjoint_text) (reversal_helpers z sort r p i c)
  acts_of z sort r le = among_modest adjoint_text (λ k. reverses_by z sort k p i 0 c) r 1 (depth_used_with z p i 0 c) (omega arith)

  acts_modest : (z : Schedules) → depth_used_with z p i 0 c ≤ 45 → Each (Modest adjoint_text) (all_reversal_helpers z p i c)
  acts_modest None le = tt
  acts_modest (Some reads) le =
      let z = Some reads in
      each_append (Modest adjoint_text) (reversal_helpers z any_step entry p i c) _ (acts_of z any_step entry le)
      (each_append (Modest adjoint_text) (reversal_helpers z any_step entries p i c) _ (acts_of z any_step entries le)
      (each_append (Modest adjoint_text) (reversal_helpers z any_step kind p i c) _ (acts_of z any_step kind le)
      (each_append (Modest adjoint_text) (reversal_helpers z any_step lower p i c) _ (acts_of z any_step lower le)
      (each_append (Modest adjoint_text) (reversal_helpers z any_step upper p i c) (reversal_helpers z has_slots slots p i c) (acts_of z any_step upper le) (acts_of z has_slots slots le)))))

  few_of : (z : Schedules) (sort : Step → Bool) (r : Role) → depth_used_with z p i 0 c ≤ 45 → length (reversal_helpers z sort r p i c) ≤ 45
  few_of z sort r le = let few = among_count (λ k. reverses_by z sort k p i 0 c) r 1 (depth_used_with z p i 0 c) in omega arith

  acts_count : (z : Schedules) → depth_used_with z p i 0 c ≤ 45 → length (all_reversal_helpers z p i c) ≤ 270
  acts_count None le = omega arith
  acts_count (Some reads) le =
      let z = Some reads in
      let one = reversal_helpers z any_step entry p i c in
      let two = reversal_helpers z any_step entries p i c in
      let three = reversal_helpers z any_step kind p i c in
      let four = reversal_helpers z any_step lower p i c in
      let five = reversal_helpers z any_step upper p i c in
      let six = reversal_helpers z has_slots slots p i c in
      let few_one = few_of z any_step entry le in
      let few_two = few_of z any_step entries le in
      let few_three = few_of z any_step kind le in
      let few_four = few_of z any_step lower le in
      let few_five = few_of z any_step upper le in
      let few_six = few_of z has_slots slots le in
      let all = length-append one (two ++ (three ++ (four ++ (five ++ six)))) in
      let from_two = length-append two (three ++ (four ++ (five ++ six))) in
      let from_three = length-append three (four ++ (five ++ six)) in
      let from_four = length-append four (five ++ six) in
      let from_five = length-append five six in
      omega arith

  helpers_short : (taken : List (List ℕ)) → length taken ≤ 9000000000 → Each Entry (named taken (helpers_used_with sc p i c))
  helpers_short taken few =
      let one = control_count (tells_some_with sc p i 0 c) in
      let few_acts = acts_count sc loops in
      let count_works = from_count work 1 (works_used p.marks i c) in
      let power : 10 ^ suc 46 < 10 ^ suc 47 = omega arith in
      before adjoint_text taken _ _ (control_modest adjoint_text (tells_some_with sc p i 0 c)) (omega arith) (λ a ha.
      loop_piece is_loop count a _ (omega arith) (λ b hb.
      loop_piece is_do first b _ (omega arith) (λ d hd.
      loop_piece is_do stride d _ (omega arith) (λ e he.
      loop_piece is_loop turn e _ (omega arith) (λ g hg.
      before adjoint_text g (all_reversal_helpers sc p i c) (helpers_from work 1 (works_used p.marks i c) ++ helpers_from temp 1 (temps_used p.marks i c)) (acts_modest sc loops) (omega arith) (λ k hk.
      before adjoint_text k (helpers_from work 1 (works_used p.marks i c)) (helpers_from temp 1 (temps_used p.marks i c)) (from_modest adjoint_text work 1 (works_used p.marks i c) (omega arith)) (omega arith) (λ h hh.
      temps_short adjoint_text h (omega arith) (temps_used p.marks i c) (omega arith))))))))

  pub table_short : (a : Vars) (vs units : List (List ℕ)) → Each (λ x. length x ≤ 40) vs → length vs ≤ 2 ^ 30 → length units ≤ 1608000 → Each Entry (unit_names vs units (map shadow (names_in a vs) ++ helpers_used_with sc p i c))
  table_short = table_short_for adjoint_text (helpers_used_with sc p i c) helpers_short

  -- ---- the table of a forward unit

  slots_modest : (z : Schedules) → depth_used_with z p i 0 c ≤ 45 → Each (Modest adjoint_text) (forth_slots z p i c)
  slots_modest None le = tt
  slots_modest (Some reads) le = acts_of (Some reads) has_slots slots le

  slots_count : (z : Schedules) → depth_used_with z p i 0 c ≤ 45 → length (forth_slots z p i c) ≤ 45
  slots_count None le = omega arith
  slots_count (Some reads) le = few_of (Some reads) has_slots slots le

  forth_short : (taken : List (List ℕ)) → length taken ≤ 9000000000 → Each Entry (named taken (helpers_forth sc p i c))
  forth_short taken few =
      loop_piece is_loop count taken _ (omega arith) (λ b hb.
      loop_piece is_do first b _ (omega arith) (λ d hd.
      loop_piece is_do stride d _ (omega arith) (λ e he. let some = slots_count sc loops in simple adjoint_text e (forth_slots sc p i c) (slots_modest sc loops) (omega arith))))

  pub forth_table_short : (a : Vars) (vs units : List (List ℕ)) → Each (λ x. length x ≤ 40) vs → length vs ≤ 2 ^ 30 → length units ≤ 1608000 → Each Entry (unit_names vs units (map shadow (names_in a vs) ++ helpers_forth sc p i c))
  forth_table_short = table_short_for adjoint_text (helpers_forth sc p i c) forth_short
