-- The units that are made by tables are the lowered ones.
use Rattle.std.proofs.Common.{◌≡◌, ℕ, Bool, true, false, List, [], ◌∷◌, ◌++◌, map, refl, sym, ap, ◌∙◌, subst, arith, if◌then◌else◌}
use Rattle.std.specs.Prelude.{◌||◌, flat_map}
use Rattle.adj_tree.specs.Code.{name_eq, Declaration}
use Rattle.def_meaning.specs.Apart.{has_name, AreApart}
use Rattle.def_meaning.proofs.Booleans.{or_false}
use Rattle.def_names.specs.Reserved.{reserved}
use Rattle.def_names.specs.NameFaults.{extent_names}
use Rattle.def_names.specs.Variables.{variables}
use Rattle.def_sweep.specs.Declared.{scalar, declaration}
use Rattle.adj_tree.specs.Common.{Shared}
use Rattle.def_common.specs.Blocks.{all_blocks, blocks, uses, chosen, used_blocks}
use Rattle.def_common.specs.Members.{names_of_blocks, unit_names, item_names, names_in, taken_in, members}
use Rattle.def_common.specs.Lowering.{lowered_unit, lowered_program}
use Rattle.adj_reach.specs.Edges.{Edges}
use Rattle.adj_sets.specs.Sets.{all_added}
use Rattle.adj_sets.proofs.NameSets.{has-behind}
use Rattle.adj_naming.proofs.Added.{or_comm, has-all_added}
use Rattle.adj_symbols_writes.specs.Names.{names_among}
use Rattle.adj_common.specs.Entries.{OwnBlocks, IsOwn, AreOwn}
use Rattle.adj_common.specs.Texts.{TextBlocks, text_blocks}
use Rattle.adj_common.specs.Naming.{text_vars}
use Rattle.adj_common.specs.Handing.{passed_names}
use Rattle.adj_common.specs.Members.{entry_names, all_entries, with_item, has_names, entry_declarations}
use Rattle.adj_common.specs.Using.{unit_numbers, edges_from, AreReached, rows_from}
use Rattle.adj_common.specs.Lowering.{Known, used_by, taken_by, groups_by, handing_by, unit_with, lowered_by, all_lowered}
use Rattle.adj_common.proofs.Tabled.{once_apart}
use Rattle.adj_common.proofs.Owned.{name_turned, bare}
use Rattle.adj_common.proofs.Grouped.{AreNumbers, Taken, groups_of, joined, joined_groups, groups_same, all_same, with_same, names_bare, declared_same}
use Rattle.adj_common.proofs.Passed.{code_same, calls_pass}
use Rattle.adj_common.proofs.Numbered.{used_numbers}
use Rattle.adj_common.proofs.Spelled.{spelled}

-- ---- what is declared

there : (ds : List Declaration) (x : List ℕ) → has_names ds x ≡ true → declaration 0 ds x ≡ declaration 1 ds x
there [] x h = cc
there (d ∷ ds) x h = ap (λ b. if b then d else declaration 0 ds x) (name_turned d.name x) ∙ go (name_eq x d.name) h (there ds x) ∙ ap (λ b. if b then d else declaration 1 ds x) (sym (name_turned d.name x))
  where
    go : (b : Bool) → (b || has_names ds x) ≡ true → (has_names ds x ≡ true → declaration 0 ds x ≡ declaration 1 ds x) → (if b then d else declaration 0 ds x) ≡ (if b then d else declaration 1 ds x)
    go true k r = refl
    go false k r = r k

absent : (line : ℕ) (ds : List Declaration) (x : List ℕ) → has_names ds x ≡ false → declaration line ds x ≡ scalar line x
absent line [] x h = refl
absent line (d ∷ ds) x h =
    let p = or_false (name_eq x d.name) (has_names ds x) h in
    ap (λ b. if b then d else declaration line ds x) (name_turned d.name x ∙ p.0) ∙ absent line ds x p.1

-- equal declarations are of the same names
same_names : (ds es : List Declaration) → ((line : ℕ) (x : List ℕ) → declaration line ds x ≡ declaration line es x) → (x : List ℕ) → has_names ds x ≡ has_names es x
same_names ds es h x = go (has_names ds x) refl (has_names es x) refl
  where
    clash : (l k : List Declaration) → ((line : ℕ) → declaration line l x ≡ declaration line k x) → has_names l x ≡ true → has_names k x ≡ false → ⊥
    clash l k f a b =
        let lines : 0 ≡ 1 = ap (λ (d : Declaration). d.line) (sym (absent 0 k x b) ∙ sym (f 0) ∙ there l x a ∙ f 1 ∙ absent 1 k x b) in
        omega (arith, lines)

    go : (p : Bool) → has_names ds x ≡ p → (q : Bool) → has_names es x ≡ q → p ≡ q
    go true a true b = refl
    go false a false b = refl
    go true a false b = absurd (clash ds es (λ line. h line x) a b)
    go false a true b = absurd (clash es ds (λ line. sym (h line x)) b a)

-- ---- blocks that are chosen are apart

chosen_none : (f : List ℕ → Bool) (bs : List (List ℕ)) (x : List ℕ) → has_name x bs ≡ false → has_name x (chosen f bs) ≡ false
chosen_none f [] x h = refl
chosen_none f (b ∷ bs) x h = let p = or_false (name_eq x b) (has_name x bs) h in go (f b) p.0 (chosen_none f bs x p.1)
  where
    go : (c : Bool) → name_eq x b ≡ false → has_name x (chosen f bs) ≡ false → has_name x (if c then b ∷ chosen f bs else chosen f bs) ≡ false
    go true e r = ap (λ c. c || has_name x (chosen f bs)) e ∙ r
    go false e r = r

chosen_apart : (f : List ℕ → Bool) (bs : List (List ℕ)) → AreApart bs → AreApart (chosen f bs)
chosen_apart f [] h = tt
chosen_apart f (b ∷ bs) h = go (f b) (chosen_none f bs b h.0) (chosen_apart f bs h.1)
  where
    go : (c : Bool) → has_name b (chosen f bs) ≡ false → AreApart (chosen f bs) → AreApart (if c then b ∷ chosen f bs else chosen f bs)
    go true e r = (e, r)
    go false e r = r

-- ---- a unit

module _ (ps : List Shared) (os : List OwnBlocks) (own : AreOwn ps os) (fs : List (List Bool)) (reached : AreReached (edges_from (unit_numbers ps) 0 ps) (text_blocks ps).owners (text_blocks ps).table.rows fs) (nf : List (List ℕ)) (free : nf ≡ all_added [] (unit_names ps ++ reserved)) where
  abbrev known : Known
  known = record { owns = os; text = text_blocks ps; units = unit_numbers ps; used = rows_from fs 0 ps; not_free = nf }

  module _ (s : Shared) (o : OwnBlocks) (h : IsOwn s o) where
    row : List ℕ
    row = used_by known s

    numbers : AreNumbers (blocks ps) (used_by known s) (used_blocks ps s.unit.name)
    numbers = used_numbers ps fs reached s.unit.name

    taken : Taken ps os own s o h (taken_by known s) (taken_in ps s)
    taken = record {
      same = record {
        at = λ z.
            has-behind z nf (all_added [] (names_among (text_vars s)))
            ∙ (λ i. (ap (has_name z) free ∙ has-all_added z [] (unit_names ps ++ reserved)) i || (has-all_added z [] (names_among (text_vars s)) ∙ spelled s z) i)
            ∙ or_comm (has_name z (unit_names ps ++ reserved)) (has_name z (names_in s))
            ∙ sym (has-behind z (names_in s) (unit_names ps ++ reserved));
      };
      items = λ z k. has-behind z (names_in s) (unit_names ps ++ reserved) ∙ ap (λ b. b || has_name z (unit_names ps ++ reserved)) (within z k);
    }
      where
        extents : List (List ℕ)
        extents = flat_map (λ (d : Declaration). extent_names d.extents) s.unit.declarations

        within : (z : List ℕ) → has_name z (item_names s.commons) ≡ true → has_name z (names_in s) ≡ true
        within z k = has-behind z (variables s.unit) (item_names s.commons ++ extents) ∙ behind (has_name z (variables s.unit)) (has-behind z (item_names s.commons) extents ∙ ap (λ b. b || has_name z extents) k)
          where
            behind : {b : Bool} (a : Bool) → b ≡ true → (a || b) ≡ true
            behind true e = refl
            behind false e = e

    groups : groups_by known o s (used_by known s) ≡ map (map bare) (groups_of ps s (taken_in ps s) (used_blocks ps s.unit.name))
    groups = groups_same ps os own s o h (taken_by known s) (taken_in ps s) taken (used_by known s) (used_blocks ps s.unit.name) numbers

    all : joined (groups_of ps s (taken_in ps s) (used_blocks ps s.unit.name)) ≡ members ps s
    all = joined_groups ps s (taken_in ps s) (used_blocks ps s.unit.name)

    entries : all_entries (map (map bare) (groups_of ps s (taken_in ps s) (used_blocks ps s.unit.name))) ≡ map bare (members ps s)
    entries = all_same (groups_of ps s (taken_in ps s) (used_blocks ps s.unit.name)) ∙ ap (map bare) all

    pub unit_made : lowered_by known o s ≡ lowered_unit ps s
    unit_made =
        ap (unit_with known o s (used_by known s)) groups
        ∙ (λ i. record s.unit {
          dummies = s.unit.dummies ++ (ap entry_names entries ∙ names_bare (members ps s)) i;
          declarations = (ap (λ es. map (with_item es) s.unit.declarations) entries ∙ with_same (members ps s) s.unit.declarations) i ++ (ap (entry_declarations o.declarations s.unit.is_none) entries ∙ declared_same o.declarations s.unit h.1 (same_names o.declarations s.unit.declarations h.1) (members ps s)) i;
          body = code_same ps (members ps s) (passed_names (handing_by known (map (map bare) (groups_of ps s (taken_in ps s) (used_blocks ps s.unit.name))) (used_by known s)))
              (λ name. calls_pass ps s (taken_in ps s) (used_blocks ps s.unit.name) (chosen_apart (uses ps s.unit.name) (blocks ps) (once_apart [] (all_blocks ps))) (used_by known s) numbers (unit_numbers ps) (rows_from fs 0 ps) (used_numbers ps fs reached) name ∙ ap (λ ms. names_of_blocks ms (used_blocks ps name)) all) s.unit.body i;
        })

  -- all units
  units_made : (ss : List Shared) (qs : List OwnBlocks) → AreOwn ss qs → all_lowered known qs ss ≡ map (lowered_unit ps) ss
  units_made [] [] a = refl
  units_made [] (q ∷ qs) a = absurd a
  units_made (s ∷ ss) [] a = absurd a
  units_made (s ∷ ss) (q ∷ qs) a = λ i. unit_made s q a.0 i ∷ units_made ss qs a.1 i

  pub program_made : all_lowered known os ps ≡ lowered_program ps
  program_made = units_made ps os own

-- ---- by the tables that the code makes

pub tables_made : (ps : List Shared) (os : List OwnBlocks) → AreOwn ps os → (t : TextBlocks) (ns : List (List ℕ × ℕ)) (es : Edges) (fs : List (List Bool)) (rows : List (List ℕ)) (nf : List (List ℕ)) →
    t ≡ text_blocks ps → ns ≡ unit_numbers ps → es ≡ edges_from ns 0 ps → AreReached es t.owners t.table.rows fs → rows ≡ rows_from fs 0 ps → nf ≡ all_added [] (unit_names ps ++ reserved) →
    all_lowered (record { owns = os; text = t; units = ns; used = rows; not_free = nf }) os ps ≡ lowered_program ps
tables_made ps os own t ns es fs rows nf text units edges reached used free =
    (λ i. all_lowered (record { owns = os; text = text i; units = units i; used = used i; not_free = nf }) os ps)
    ∙ program_made ps os own fs found nf free
  where
    found : AreReached (edges_from (unit_numbers ps) 0 ps) (text_blocks ps).owners (text_blocks ps).table.rows fs
    found = subst (λ e. AreReached e (text_blocks ps).owners (text_blocks ps).table.rows fs) (edges ∙ ap (λ n. edges_from n 0 ps) units) (subst (λ (z : TextBlocks). AreReached es z.owners z.table.rows fs) text reached)

-- ---- units one after the other

pub no_unit : (k : Known) (os : List OwnBlocks) → all_lowered k os [] ≡ []
no_unit k [] = refl
no_unit k (o ∷ os) = refl
