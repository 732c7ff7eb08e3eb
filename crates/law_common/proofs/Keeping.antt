-- The program without blocks does what the program with them does.
use Rattle.std.proofs.Common.{◌≡◌, ℕ, Bool, true, false, List, [], ◌∷◌, ◌++◌, map, refl, sym, ap, ◌∙◌, subst, if◌then◌else◌}
use Rattle.std.specs.Prelude.{◌||◌, Option, Some, None}
use Rattle.adj_tree.specs.Code.{Var, plain, name_eq, Terms, Act, assign, choose, loop, during, call, runtime, Code, stop, step, Procedure}
use Rattle.adj_tree.proofs.Names.{name_same}
use Rattle.def_meaning.specs.Apart.{has_name}
use Rattle.def_meaning.specs.Written.{find_unit, is_handed_back, handed_back}
use Rattle.def_meaning.specs.Units.{declared}
use Rattle.adj_tree.specs.Common.{Shared}
use Rattle.def_common.specs.Blocks.{find_shared, used_blocks}
use Rattle.def_common.specs.Members.{is_slot, block_members, slots_for, members, owned, swapped, swap, swapped_declaration}
use Rattle.def_common.specs.Slots.{slot_declarations, shared_unit, shared_units}
use Rattle.law_common.specs.Passing.{passed_unit, passed_units, EachCall', EachCall, NoSlots, CallFits, CallCounts, HasParts, HasSlots}
use Rattle.def_common.specs.Lowering.{lowered_unit, lowered_program}
use Rattle.law_common.specs.Renaming.{FoundRenamed, AreRenamed}
use Rattle.law_common.specs.Lowers.{Each, found_dummies, own_dummies, CallChecks, FoundFits, CallCounted, FoundCounts, RenamesUnit, LowersUnit, Renames, Lowers}
use Rattle.def_common.specs.Source.{KeepsRunsOver}
use Rattle.law_common.proofs.Written.{passed_found, find_passed}
use Rattle.law_common.proofs.Passing.{run_passed}
use Rattle.law_common.proofs.Renaming.{run_renamed}
use Rattle.law_common.proofs.Laying.{declared_front, laid_names, slot_extents, LaidAt, slots_laid, all_slots, each_map}
use Rattle.law_common.proofs.Lowered.{unit_renamed}

-- ---- finding units

abbrev pub made_found : (Shared → Procedure) → Option Shared → Option Procedure
made_found f None = None
made_found f (Some s) = Some (f s)

pub find_made : (f : Shared → Procedure) → ((s : Shared) → (f s).name ≡ s.unit.name) → (ps : List Shared) (name : List ℕ) → find_unit (map f ps) name ≡ made_found f (find_shared ps name)
find_made f h [] name = refl
find_made f h (s ∷ ps) name = ap (λ y. if name_eq y name then Some (f s) else find_unit (map f ps) name) (h s) ∙ go (name_eq s.unit.name name) (find_made f h ps name)
  where
    go : (b : Bool) → find_unit (map f ps) name ≡ made_found f (find_shared ps name) → (if b then Some (f s) else find_unit (map f ps) name) ≡ made_found f (if b then Some s else find_shared ps name)
    go true r = refl
    go false r = r

-- what is known of a unit that is found
pub record Found (P : Shared → Type 0) (name : List ℕ) (s : Shared) : Type 0 where
  pub named : s.unit.name ≡ name
  pub is : P s

pub each_found : (P : Shared → Type 0) (ps : List Shared) → Each P ps → (name : List ℕ) (s : Shared) → find_shared ps name ≡ Some s → Found P name s
each_found P [] h name s e = absurd (let z : None ≡ Some s = e in cc)
each_found P (p ∷ ps) h name s e = go (name_eq p.unit.name name) refl e (each_found P ps h.1 name s)
  where
    go : (b : Bool) → name_eq p.unit.name name ≡ b → (if b then Some p else find_shared ps name) ≡ Some s → (find_shared ps name ≡ Some s → Found P name s) → Found P name s
    go true k e r = let same : p ≡ s = cc in subst (Found P name) same (record { named = name_same p.unit.name name k; is = h.0 })
    go false k e r = r e

-- ---- calls

mutual
  act_map : (P Q : List ℕ → Terms → Type 0) → ((name : List ℕ) (args : Terms) → P name args → Q name args) → (a : Act) → EachCall' P a → EachCall' Q a
  act_map P Q f (assign x subs e) h = tt
  act_map P Q f (choose c a b) h = (call_map P Q f a h.0, call_map P Q f b h.1)
  act_map P Q f (loop x first last by body m) h = call_map P Q f body h
  act_map P Q f (during c body) h = call_map P Q f body h
  act_map P Q f (call name args) h = f name args h
  act_map P Q f (runtime r) h = tt

  pub call_map : (P Q : List ℕ → Terms → Type 0) → ((name : List ℕ) (args : Terms) → P name args → Q name args) → (c : Code) → EachCall P c → EachCall Q c
  call_map P Q f stop h = tt
  call_map P Q f (step line a rest) h = (act_map P Q f a h.0, call_map P Q f rest h.1)

pub each_name : (P : List ℕ → Type 0) (xs : List (List ℕ)) → Each P xs → (x : List ℕ) → has_name x xs ≡ true → P x
each_name P [] h x k = absurd cc
each_name P (y ∷ xs) h x k = go (name_eq x y) refl k (each_name P xs h.1 x)
  where
    go : (b : Bool) → name_eq x y ≡ b → (b || has_name x xs) ≡ true → (has_name x xs ≡ true → P x) → P x
    go true e k r = subst P (sym (name_same x y e)) h.0
    go false e k r = r k

no_slots : (xs : List (List ℕ)) (q : List ℕ → List ℕ) → Each (λ d. (q d ≡ d) × (is_slot (plain d) ≡ false)) xs → NoSlots xs
no_slots [] q h = tt
no_slots (x ∷ xs) q h = (h.0.1, no_slots xs q h.1)

-- ---- the program with slots

-- a unit with slots is that of a unit of the text
record SharedAt (P : Shared → Type 0) (ps : List Shared) (name : List ℕ) (u : Procedure) : Type 0 where
  pub source : Shared
  pub found : find_shared ps name ≡ Some source
  pub is : shared_unit ps source ≡ u
  pub named : source.unit.name ≡ name
  pub holds : P source

shared_at : (P : Shared → Type 0) (ps : List Shared) → Each P ps → (name : List ℕ) (u : Procedure) → find_unit (shared_units ps) name ≡ Some u → SharedAt P ps name u
shared_at P ps h name u e = go (find_shared ps name) refl (sym (find_made (shared_unit ps) (λ s. refl) ps name) ∙ e)
  where
    go : (o : Option Shared) → find_shared ps name ≡ o → made_found (shared_unit ps) o ≡ Some u → SharedAt P ps name u
    go None k e = absurd (let z : None ≡ Some u = e in cc)
    go (Some s) k e =
        let f = each_found P ps h name s k in
        record { source = s; found = k; is = cc; named = f.named; holds = f.is }

module _ (ps : List Shared) (h : Renames ps) where
  call_counts : (name : List ℕ) (args : Terms) → CallCounted ps name args → CallCounts (shared_units ps) (own_dummies ps) name args
  call_counts name args c u e = subst (FoundCounts ps name args) e c

  pub has_parts : HasParts (shared_units ps) (own_dummies ps) (slots_for ps)
  has_parts = record {
    dummies = λ name u e. let a = shared_at (RenamesUnit ps) ps h name u e in ap (λ (v : Procedure). v.dummies) (sym a.is) ∙ (λ i. found_dummies (sym a.found i) ++ slots_for ps (a.named i));
    owns = λ name. own name (find_shared ps name) refl;
    slots = λ name. all_slots ps (used_blocks ps name);
    counts = λ name u e.
        let a = shared_at (RenamesUnit ps) ps h name u e in
        subst (λ (v : Procedure). EachCall (CallCounts (shared_units ps) (own_dummies ps)) v.body) a.is
        (call_map (CallCounted ps) (CallCounts (shared_units ps) (own_dummies ps)) call_counts (shared_unit ps a.source).body a.holds.counts);
  }
    where
      own : (name : List ℕ) (o : Option Shared) → find_shared ps name ≡ o → NoSlots (found_dummies o)
      own name None e = tt
      own name (Some s) e = no_slots s.unit.dummies (swapped (members ps s)) (each_found (RenamesUnit ps) ps h name s e).is.dummies

  -- ---- and the lowered one

  abbrev pub names_of : Option Shared → Var → Var
  names_of None x = x
  names_of (Some s) x = swap (members ps s) x

  pub renamed : AreRenamed (λ name. names_of (find_shared ps name)) (passed_units (slots_for ps) (shared_units ps)) (lowered_program ps)
  renamed = record {
    at = λ name.
        subst (λ o. FoundRenamed (names_of (find_shared ps name)) o (find_unit (lowered_program ps) name)) (sym (find_passed (slots_for ps) (shared_units ps) name ∙ ap (passed_found (slots_for ps)) (find_made (shared_unit ps) (λ s. refl) ps name)))
        (subst (FoundRenamed (names_of (find_shared ps name)) (passed_found (slots_for ps) (made_found (shared_unit ps) (find_shared ps name)))) (sym (find_made (lowered_unit ps) (λ s. refl) ps name)) (go name (find_shared ps name) refl));
  }
    where
      go : (name : List ℕ) (o : Option Shared) → find_shared ps name ≡ o → FoundRenamed (names_of o) (passed_found (slots_for ps) (made_found (shared_unit ps) o)) (made_found (lowered_unit ps) o)
      go name None e = tt
      go name (Some s) e = unit_renamed ps s (each_found (RenamesUnit ps) ps h name s e).is

module _ (ps : List Shared) (h : Lowers ps) where
  pub renames : Renames ps
  renames = each_map (LowersUnit ps) (RenamesUnit ps) (λ s k. k.renames) ps h

  call_fits : (slots : List (List ℕ)) (name : List ℕ) (args : Terms) → CallChecks ps slots name args → CallFits (shared_units ps) (own_dummies ps) (slots_for ps) slots name args
  call_fits slots name args c u e =
      let f : FoundFits ps slots name args (Some u) = subst (FoundFits ps slots name args) e c in
      (f.0, each_name (λ x. (has_name x slots ≡ true) × (is_handed_back (plain x) (handed_back (shared_units ps) name) args ≡ false)) (slots_for ps name) f.1)

  laid_at : (name : List ℕ) (u : Procedure) (e : find_unit (shared_units ps) name ≡ Some u) (x : List ℕ) → has_name x (slots_for ps name) ≡ true → LaidAt (declared u.declarations (plain x)) (slot_extents ps x)
  laid_at name u e x k =
      let a = shared_at (LowersUnit ps) ps h name u e in
      let there : has_name x (slots_for ps a.source.unit.name) ≡ true = ap (λ y. has_name x (slots_for ps y)) a.named ∙ k in
      let l = slots_laid ps (used_blocks ps a.source.unit.name) a.holds.renames.layout x there in
      let first = declared_front (slot_declarations ps a.source.unit.name) (map (swapped_declaration (owned (members ps a.source))) a.source.unit.declarations) x (ap (has_name x) (laid_names (block_members ps (used_blocks ps a.source.unit.name))) ∙ there) in
      record { is = ap (λ (v : Procedure). declared v.declarations (plain x)) (sym a.is) ∙ first ∙ l.is; fit = l.fit }

  has_slots : HasSlots (shared_units ps) (own_dummies ps) (slots_for ps) (slot_extents ps)
  has_slots = record {
    parts = has_parts ps renames;
    declares = λ name u e x k. (laid_at name u e x k).is;
    fit = λ name u e x k. (laid_at name u e x k).fit;
    calls = λ name u e.
        let a = shared_at (LowersUnit ps) ps h name u e in
        subst (λ (v : Procedure). EachCall (CallFits (shared_units ps) (own_dummies ps) (slots_for ps) (slots_for ps name)) v.body) a.is
        (subst (λ y. EachCall (CallFits (shared_units ps) (own_dummies ps) (slots_for ps) (slots_for ps y)) (shared_unit ps a.source).body) a.named
        (call_map (CallChecks ps (slots_for ps a.source.unit.name)) (CallFits (shared_units ps) (own_dummies ps) (slots_for ps) (slots_for ps a.source.unit.name)) (call_fits (slots_for ps a.source.unit.name)) (shared_unit ps a.source).body a.holds.calls));
  }

pub lowering_keeps : {C : Type 0} (ps : List Shared) → Lowers ps → KeepsRunsOver C ps
lowering_keeps ps h name s e n input tape room k =
    run_passed (shared_units ps) (own_dummies ps) (slots_for ps) (slot_extents ps) (has_slots ps h) n name (shared_unit ps s) (find_made (shared_unit ps) (λ s. refl) ps name ∙ ap (made_found (shared_unit ps)) e) input tape room k
    ∙ run_renamed (λ name. names_of ps (renames ps h) (find_shared ps name)) (passed_units (slots_for ps) (shared_units ps)) (lowered_program ps) (renamed ps (renames ps h)) n (swap (members ps s)) (passed_unit (slots_for ps) (shared_unit ps s)) (lowered_unit ps s)
    (unit_renamed ps s (each_found (RenamesUnit ps) ps (renames ps h) name s e).is) input tape room k
