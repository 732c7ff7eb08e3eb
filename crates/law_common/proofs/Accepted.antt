-- Where reading and checking give no fault, each unit lowers.
use Rattle.std.proofs.Common.{◌≡◌, ℕ, true, List, [], ◌∷◌, ◌++◌, map, sym, ◌∙◌, subst}
use Rattle.std.specs.Prelude.{Some}
use Rattle.adj_tree.specs.Code.{Var, plain, Procedure}
use Rattle.def_meaning.specs.Apart.{has_name, AreApart}
use Rattle.def_meaning.specs.Units.{declared}
use Rattle.def_names.specs.Fault.{Rules}
use Rattle.def_names.specs.Check.{IsSound}
use Rattle.def_meaning.specs.Written.{handed_back}
use Rattle.def_names.specs.Variables.{dummy_places, declared_places, statement_places, is_integer}
use Rattle.adj_tree.specs.Common.{Shared}
use Rattle.def_common.specs.Blocks.{find_shared, declares, layout, all_blocks, blocks, uses, used_blocks}
use Rattle.def_common.specs.Members.{Member, member_names, member_slots, names_of_blocks, block_members, slots_for, members, taken_in, owned, swapped, swap}
use Rattle.def_common.specs.Refused.{first_layout}
use Rattle.def_common.specs.Slots.{slot_declarations}
use Rattle.def_common.specs.Lowering.{lowered_unit, lowered_program}
use Rattle.law_common.specs.Passing.{EachCall, NoSlots, AllSlots}
use Rattle.law_common.specs.Lowers.{Each, EachIn, CallCounted, RenamesUnit, LowersUnit, Renames, Lowers}
use Rattle.law_common.specs.Accepted.{Accepted}
use Rattle.law_common.specs.Theorem.{LoweringKeeps, SourceKeeps}
use Rattle.law_common.proofs.Laying.{all_slots, each_append, each_front, each_behind, each_map, each_of_map, each_zip}
use Rattle.law_common.proofs.Refused.{laid_alike}
use Rattle.law_common.proofs.Slotted.{chosen_among, member_for}
use Rattle.law_common.proofs.Literal.{IsLiteral, blocks_literal, laid_out}
use Rattle.law_common.proofs.Freshness.{Said, body_stays, declarations_stay}
use Rattle.law_common.proofs.Keeping.{call_map, each_found, has_parts, names_of, renamed, lowering_keeps}
use Rattle.law_common.proofs.Handed.{handed}
use Rattle.law_common.proofs.Using.{CallMatches, calls_fit, calls_both}
use Rattle.law_common.proofs.Separate.{append_apart, apart_behind, none_behind, names_no_slots, own_stay, slots_apart, chosen_apart, repeats_apart}
use Rattle.law_common.proofs.Faults.{Clean, all_clean, all_integers, dummies_apart, good_extents, calls_clean, calls_apart}
use Rattle.law_common.proofs.Declared.{IsTyped, all_declared}
use Rattle.law_common.proofs.Letters.{Begins, no_slots_of, letters}
use Rattle.law_common.proofs.LoweredWritten.{each_of_all}
use Rattle.def_text.specs.Written.{IsWrittenShared}
use Rattle.law_common.proofs.Named.{members_begin, members_own, members_passed}
use Rattle.law_common.proofs.Said.{all_said}
use Rattle.law_common.proofs.Calls.{Before, calls_before, calls_after, CallClean, call_counted, counted_renamed, CallApart, call_matches}
use Rattle.law_common.proofs.Fitting.{Good, Fits, declared_good, good_fits, of_blocks, from_extents, laid_same, laid_each}

-- ---- one unit without faults

module _ (m : Rules) (ps : List Shared) (s : Shared) (clean : Clean m ps s) where
  abbrev ms : List Member
  ms = members ps s

  abbrev lowered' : Procedure
  lowered' = lowered_unit ps s

  pub all_apart : AreApart (s.unit.dummies ++ member_names ms)
  all_apart = dummies_apart m (lowered_program ps) lowered' clean.names

  -- a member is declared, or an integer by its first letter
  typed : Each (IsTyped s.unit ms) ms
  typed =
      each_of_map (λ x. is_integer lowered' x ≡ true) (λ m. m.name) ms
      (each_behind (λ x. is_integer lowered' x ≡ true) s.unit.dummies (member_names ms)
      (each_of_map (λ p. is_integer lowered' p.1 ≡ true) (λ (d : List ℕ). (lowered'.line, d)) (s.unit.dummies ++ member_names ms)
      (each_front (λ p. is_integer lowered' p.1 ≡ true) (dummy_places lowered') (declared_places lowered' ++ statement_places lowered') (all_integers m (lowered_program ps) lowered' clean.names))))

  -- so the lowered unit declares it with its extents
  pub members_declared : Each (λ m. declared lowered'.declarations (plain m.name) ≡ m.extents) ms
  members_declared = all_declared s.unit ms (apart_behind s.unit.dummies (member_names ms) all_apart) typed (members_own ps s) (members_passed ps s)

  -- which are good
  pub members_good : Each (λ m. (u : Procedure) × Good u m.extents) ms
  members_good =
      each_map (λ l. declared lowered'.declarations (plain l.name) ≡ l.extents) (λ l. (u : Procedure) × Good u l.extents)
      (λ l e. (lowered', subst (Good lowered') e (declared_good lowered' lowered'.declarations (good_extents m (lowered_program ps) lowered' clean.names) (plain l.name)))) ms members_declared

-- ---- all units

module _ (m : Rules) (ps : List Shared) (h : Accepted m ps) where
  same_slots : Each (λ s. member_slots (members ps s) ≡ slots_for ps s.unit.name) ps
  same_slots = member_for ps h.alike

  written_all : Each IsWrittenShared ps
  written_all = each_of_all IsWrittenShared ps h.written

  cleans : Each (Clean m ps) ps
  cleans = all_clean m ps h.sound

  among_blocks : (name : List ℕ) → Each (λ b. has_name b (blocks ps) ≡ true) (used_blocks ps name)
  among_blocks name = chosen_among (uses ps name) (blocks ps)

  -- extents of blocks fit
  all_fit : (name : List ℕ) → Each (λ m. Fits m.extents) (block_members ps (used_blocks ps name))
  all_fit name =
      each_map (λ m. IsLiteral m.extents × ((u : Procedure) × Good u m.extents)) (λ m. Fits m.extents) (λ m k. good_fits k.1.0 m.extents k.0 k.1.1) (block_members ps (used_blocks ps name))
      (each_zip (λ m. IsLiteral m.extents) (λ m. (u : Procedure) × Good u m.extents) (block_members ps (used_blocks ps name)) (blocks_literal ps h.alike (used_blocks ps name) (among_blocks name))
      (of_blocks ps (λ m. (u : Procedure) × Good u m.extents)
      (each_map (Clean m ps) (λ t. (find_shared ps t.unit.name ≡ Some t) × Each (λ m. (u : Procedure) × Good u m.extents) (members ps t)) (λ t c. (c.found, members_good m ps t c)) ps cleans)
      (used_blocks ps name) (among_blocks name)))

  module _ (s : Shared) (same : member_slots (members ps s) ≡ slots_for ps s.unit.name) (clean : Clean m ps s) (named : IsWrittenShared s) where
    slots : AllSlots (member_slots (members ps s))
    slots = subst AllSlots (sym same) (all_slots ps (used_blocks ps s.unit.name))

    slots_are_apart : AreApart (member_slots (members ps s))
    slots_are_apart = subst AreApart (sym same) (slots_apart ps (used_blocks ps s.unit.name) (chosen_apart (uses ps s.unit.name) (blocks ps) (repeats_apart [] (all_blocks ps))))

    begin : Each (λ m. Begins m.name) (members ps s)
    begin = members_begin ps written_all s named

    said : Said s.unit
    said = all_said ps s (letters s named) begin (all_integers m (lowered_program ps) (lowered_unit ps s) clean.names)

    no_slots : NoSlots (s.unit.dummies ++ member_names (members ps s))
    no_slots =
        no_slots_of (s.unit.dummies ++ member_names (members ps s)) (each_append Begins s.unit.dummies (member_names (members ps s)) (letters s named).dummies (names (members ps s) begin))
      where
        names : (l : List Member) → Each (λ m. Begins m.name) l → Each Begins (member_names l)
        names [] k = tt
        names (x ∷ l) k = (k.0, names l k.1)

    apart : AreApart (member_names (members ps s) ++ member_slots (members ps s))
    apart =
        append_apart (member_names (members ps s)) (member_slots (members ps s)) (apart_behind s.unit.dummies (member_names (members ps s)) (all_apart m ps s clean)) slots_are_apart
        (names_no_slots (member_names (members ps s)) (member_slots (members ps s)) (none_behind s.unit.dummies (member_names (members ps s)) no_slots) slots)

    alike : (b : List ℕ) → has_name b (blocks ps) ≡ true → declares b s ≡ true → layout b s ≡ first_layout ps b
    alike b k d = ((each_found _ ps (laid_alike ps h.alike b k) s.unit.name s clean.found).is d).0

    -- members are declared in the lowered unit as their slots
    placed : Each (λ m. declared (lowered_unit ps s).declarations (plain m.name) ≡ declared (slot_declarations ps s.unit.name) (plain m.slot)) (members ps s)
    placed =
        each_map (λ l. (declared (lowered_unit ps s).declarations (plain l.name) ≡ l.extents) × (declared _ (plain l.slot) ≡ l.extents)) (λ l. declared (lowered_unit ps s).declarations (plain l.name) ≡ declared (slot_declarations ps s.unit.name) (plain l.slot))
        (λ l k. k.0 ∙ sym k.1 ∙ laid_same (members ps s) (block_members ps (used_blocks ps s.unit.name)) same (from_extents ps s alike (used_blocks ps s.unit.name) (among_blocks s.unit.name) (taken_in ps s)) (plain l.slot)) (members ps s)
        (each_zip _ _ (members ps s) (members_declared m ps s clean) (laid_each (members ps s) slots_are_apart))

    abbrev body_same : EachIn (λ x. swap (owned (members ps s)) x ≡ swap (members ps s) x) s.unit.body
    body_same = body_stays ps s said (letters s named) slots

    passes : EachCall (λ name args. names_of_blocks (members ps s) (used_blocks ps name) ≡ map (swapped (members ps s)) (slots_for ps name)) s.unit.body
    passes = handed ps h.alike s clean.found apart

    -- calls have as many actuals as own dummies
    counted : EachCall (CallCounted ps) s.unit.body
    counted =
        call_map (Before ps (members ps s) (CallClean ps same_slots (members ps s) (lowered_unit ps s))) (CallCounted ps) (call_counted ps same_slots (members ps s) (lowered_unit ps s)) s.unit.body
        (calls_before ps (members ps s) (CallClean ps same_slots (members ps s) (lowered_unit ps s)) s.unit.body passes (calls_clean (lowered_program ps) (lowered_unit ps s) clean.calls))

    unit_renames : RenamesUnit ps s
    unit_renames = record {
      apart = apart;
      slots = same;
      dummies = own_stay (members ps s) s.unit.dummies (all_apart m ps s clean) no_slots slots;
      body = body_same;
      declarations = declarations_stay ps s said (letters s named) slots;
      layout = laid_out ps h.alike s.unit.name (all_fit s.unit.name);
      placed = placed;
      counts = calls_after (swap (owned (members ps s))) (swap (members ps s)) (CallCounted ps) (CallCounted ps) (counted_renamed ps (swap (members ps s))) s.unit.body body_same counted;
      handed = passes;
    }

  each_renames : (l : List Shared) → Each (λ s. member_slots (members ps s) ≡ slots_for ps s.unit.name) l → Each (Clean m ps) l → Each IsWrittenShared l → Each (RenamesUnit ps) l
  each_renames [] a b c = tt
  each_renames (s ∷ l) a b c = (unit_renames s a.0 b.0 c.0, each_renames l a.1 b.1 c.1)

  renames : Renames ps
  renames = each_renames ps same_slots cleans written_all

  -- what both programs write is the same, so calls match
  unit_lowers : (s : Shared) → RenamesUnit ps s → member_slots (members ps s) ≡ slots_for ps s.unit.name → Clean m ps s → IsWrittenShared s → LowersUnit ps s
  unit_lowers s r same clean named =
      let has = has_parts ps renames in
      let ms = members ps s in
      let u = lowered_unit ps s in
      let r' : List ℕ → Var → Var = λ name. names_of ps renames (find_shared ps name) in record {
        renames = r;
        calls =
            calls_fit ps s.unit.name s clean.found (swap (owned ms))
            (calls_after (swap (owned ms)) (swap ms) (λ name args. CallCounted ps name args × Before ps ms (CallApart ps has r' (renamed ps renames) ms r.apart u) name args) (CallMatches ps)
            (λ name args k. call_matches ps has r' (renamed ps renames) ms r.apart u name args k.0 k.1) s.unit.body r.body
            (calls_both (CallCounted ps) (Before ps ms (CallApart ps has r' (renamed ps renames) ms r.apart u)) (λ name args. CallCounted ps name args × Before ps ms (CallApart ps has r' (renamed ps renames) ms r.apart u) name args) (λ name args a b. (a, b)) s.unit.body
            (counted s same clean named) (calls_before ps ms (CallApart ps has r' (renamed ps renames) ms r.apart u) s.unit.body r.handed (calls_apart (handed_back (lowered_program ps)) u clean.writes))));
      }

  each_lowers : (l : List Shared) → Each (RenamesUnit ps) l → Each (λ s. member_slots (members ps s) ≡ slots_for ps s.unit.name) l → Each (Clean m ps) l → Each IsWrittenShared l → Each (LowersUnit ps) l
  each_lowers [] r a b c = tt
  each_lowers (s ∷ l) r a b c = (unit_lowers s r.0 a.0 b.0 c.0, each_lowers l r.1 a.1 b.1 c.1)

  pub accepted_lowers : Lowers ps
  accepted_lowers = each_lowers ps renames same_slots cleans written_all

-- so each unit's run with blocks is its run in the lowered program
pub accepted_keeps : LoweringKeeps
accepted_keeps m ps h = (lowering_keeps ps (accepted_lowers m ps h), lowering_keeps ps (accepted_lowers m ps h))

pub source_keeps : SourceKeeps
source_keeps m bytes program r w s = accepted_keeps m r.shared (record { written = w; alike = r.alike; sound = subst (IsSound m) r.is s })
