-- The numbers of blocks that are made for a unit are of those that it uses.
use Rattle.std.proofs.Common.{◌≡◌, ℕ, zero, suc, ◌+◌, Bool, true, false, List, [], ◌∷◌, ◌++◌, length, map, Option, Some, None, refl, sym, ap, ◌∙◌, subst, arith, append_assoc, if◌then◌else◌}
use Rattle.std.specs.Prelude.{◌||◌}
use Rattle.adj_tree.specs.Code.{name_eq}
use Rattle.adj_tree.specs.Common.{Shared}
use Rattle.def_common.specs.Blocks.{declares, calls_some, found_uses, uses_after, uses, chosen, blocks, used_blocks}
use Rattle.def_common.specs.Members.{unit_names}
use Rattle.adj_reach.specs.Edges.{flag}
use Rattle.adj_symbols_writes.specs.Table.{value_of}
use Rattle.adj_common.specs.Texts.{names_of_text, owners_from, text_blocks, at_place}
use Rattle.adj_common.specs.Handing.{row_or}
use Rattle.adj_common.specs.Using.{unit_numbers, edges_from, AreReached, row_from, rows_from}
use Rattle.adj_common.proofs.Finding.{next}
use Rattle.adj_common.proofs.Tabled.{places_from, tabled_is}
use Rattle.adj_common.proofs.Owned.{at_end, longer}
use Rattle.adj_common.proofs.Blocked.{image, table_blocks}
use Rattle.adj_common.proofs.Passed.{index}
use Rattle.adj_common.proofs.Grouped.{AreNumbers}
use Rattle.adj_common.proofs.Searched.{flag_uses, find_index, numbers_are}

at_next : {A : Type 0} (a : A) (l : List A) (o : Option ℕ) → at_place (a ∷ l) (next o) ≡ at_place l o
at_next a l None = refl
at_next a l (Some n) = refl

-- the row of a unit by its name
rows_at : (fs : List (List Bool)) (u : ℕ) (ps : List Shared) (name : List ℕ) → at_place (rows_from fs u ps) (index (unit_names ps) name) ≡ image (λ n. row_from 0 fs (n + u)) (index (unit_names ps) name)
rows_at fs u [] name = refl
rows_at fs u (s ∷ ps) name = go (name_eq name s.unit.name) (rows_at fs (u + 1) ps name)
  where
    shifted : (o : Option ℕ) → image (λ n. row_from 0 fs (n + (u + 1))) o ≡ image (λ n. row_from 0 fs (n + u)) (next o)
    shifted None = refl
    shifted (Some n) = let e : n + (u + 1) ≡ suc n + u = omega arith in ap (λ k. Some (row_from 0 fs k)) e

    go : (b : Bool) → at_place (rows_from fs (u + 1) ps) (index (unit_names ps) name) ≡ image (λ n. row_from 0 fs (n + (u + 1))) (index (unit_names ps) name) →
        at_place (row_from 0 fs u ∷ rows_from fs (u + 1) ps) (if b then Some 0 else next (index (unit_names ps) name)) ≡ image (λ n. row_from 0 fs (n + u)) (if b then Some 0 else next (index (unit_names ps) name))
    go true h = let e : u ≡ 0 + u = omega arith in ap (λ k. Some (row_from 0 fs k)) e
    go false h = at_next (row_from 0 fs u) (rows_from fs (u + 1) ps) (index (unit_names ps) name) ∙ h ∙ shifted (index (unit_names ps) name)

-- flags that say which of some blocks are chosen
abbrev pub AreFlags : (List ℕ → Bool) → ℕ → List (List Bool) → List (List ℕ) → Type 0
AreFlags g u [] [] = Unit {0}
AreFlags g u [] (b ∷ bs) = ⊥
AreFlags g u (f ∷ fs) [] = ⊥
AreFlags g u (f ∷ fs) (b ∷ bs) = (flag f u ≡ g b) × AreFlags g u fs bs

flags_chosen : (g : List ℕ → Bool) (u : ℕ) (front : List (List ℕ)) (fs : List (List Bool)) (bs : List (List ℕ)) → AreFlags g u fs bs → AreNumbers (front ++ bs) (row_from (length front) fs u) (chosen g bs)
flags_chosen g u front [] [] h = tt
flags_chosen g u front [] (b ∷ bs) h = absurd h
flags_chosen g u front (f ∷ fs) [] h = absurd h
flags_chosen g u front (f ∷ fs) (b ∷ bs) h =
    subst (λ c. AreNumbers (front ++ b ∷ bs) ((if c then length front ∷ [] else []) ++ row_from (length front + 1) fs u) (if g b then b ∷ chosen g bs else chosen g bs)) (sym h.0)
    (go (g b)
    (subst (λ l. AreNumbers l (row_from (length front + 1) fs u) (chosen g bs)) (append_assoc front (b ∷ []) bs)
    (subst (λ n. AreNumbers ((front ++ b ∷ []) ++ bs) (row_from n fs u) (chosen g bs)) (let e : suc (length front) ≡ length front + 1 = omega arith in longer front b ∙ e) (flags_chosen g u (front ++ b ∷ []) fs bs h.1))))
  where
    go : (c : Bool) → AreNumbers (front ++ b ∷ bs) (row_from (length front + 1) fs u) (chosen g bs) → AreNumbers (front ++ b ∷ bs) ((if c then length front ∷ [] else []) ++ row_from (length front + 1) fs u) (if c then b ∷ chosen g bs else chosen g bs)
    go true r = (at_end front b bs, r)
    go false r = r

none_chosen : (g : List ℕ → Bool) → ((b : List ℕ) → g b ≡ false) → (bs : List (List ℕ)) → chosen g bs ≡ []
none_chosen g h [] = refl
none_chosen g h (b ∷ bs) = ap (λ c. if c then b ∷ chosen g bs else chosen g bs) (h b) ∙ none_chosen g h bs

module _ (ps : List Shared) where
  flags_are : (name : List ℕ) (u : ℕ) → index (unit_names ps) name ≡ Some u → (fs : List (List Bool)) (bs : List (List ℕ)) → AreReached (edges_from (unit_numbers ps) 0 ps) (owners_from 0 ps) (map (places_from 0 (names_of_text ps)) bs) fs → AreFlags (uses ps name) u fs bs
  flags_are name u at [] [] h = tt
  flags_are name u at [] (b ∷ bs) h = absurd h
  flags_are name u at (f ∷ fs) [] h = absurd h
  flags_are name u at (f ∷ fs) (b ∷ bs) h = (flag_uses ps b (flag f u) name u at (h.0 u), flags_are name u at fs bs h.1)

  unused : (name : List ℕ) → index (unit_names ps) name ≡ None → (b : List ℕ) → uses ps name b ≡ false
  unused name at b = after (length ps)
    where
      after : (k : ℕ) → uses_after ps b k name ≡ false
      after zero = refl
      after (suc k) = ap (found_uses (λ s. declares b s || calls_some (uses_after ps b k) s.unit.body)) (find_index ps name ∙ ap (at_place ps) at)

  -- the row of the unit of a name has the numbers of the blocks that it uses
  pub used_numbers : (fs : List (List Bool)) → AreReached (edges_from (unit_numbers ps) 0 ps) (text_blocks ps).owners (text_blocks ps).table.rows fs →
      (name : List ℕ) → AreNumbers (blocks ps) (row_or (at_place (rows_from fs 0 ps) (value_of name (unit_numbers ps)))) (used_blocks ps name)
  used_numbers fs h name =
      subst (λ o. AreNumbers (blocks ps) (row_or o) (used_blocks ps name)) (sym (ap (at_place (rows_from fs 0 ps)) (numbers_are ps name) ∙ rows_at fs 0 ps name))
      (go (index (unit_names ps) name) refl)
    where
      reached : AreReached (edges_from (unit_numbers ps) 0 ps) (owners_from 0 ps) (map (places_from 0 (names_of_text ps)) (blocks ps)) fs
      reached = subst (λ rows. AreReached (edges_from (unit_numbers ps) 0 ps) (owners_from 0 ps) rows fs) ((tabled_is (names_of_text ps)).rows ∙ ap (map (places_from 0 (names_of_text ps))) (table_blocks ps)) h

      go : (o : Option ℕ) → index (unit_names ps) name ≡ o → AreNumbers (blocks ps) (row_or (image (λ n. row_from 0 fs (n + 0)) o)) (used_blocks ps name)
      go None e = subst (λ bs. AreNumbers (blocks ps) [] bs) (sym (none_chosen (uses ps name) (unused name e) (blocks ps))) tt
      go (Some u) e =
          let q : u ≡ u + 0 = omega arith in
          subst (λ n. AreNumbers (blocks ps) (row_from 0 fs n) (used_blocks ps name)) q (flags_chosen (uses ps name) u [] fs (blocks ps) (flags_are name u e fs (blocks ps) reached))
