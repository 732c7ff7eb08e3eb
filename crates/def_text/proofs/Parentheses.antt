-- How open parentheses are counted, character by character.
use Rattle.std.proofs.Common.{◌≡◌, ℕ, ◌+◌, ◌<◌, ◌≤◌, ◌&&◌, Bool, true, false, eqb, List, ◌∷◌, length, get_or, drop, Option, Some, None, option_map, refl, sym, ap, ◌∙◌, inl, inr, arith}
use Rattle.std.proofs.lemmas.Bool.{ne_eqb, eq-eqb}
use Rattle.std.proofs.lemmas.Bool.Decides.{eqb_tells}
use Rattle.std.proofs.lemmas.List.{drop_all, drop_more}
use Rattle.def_text.specs.Char.{right}
use Rattle.def_text.specs.Class.{depth_behind, has_open, is_matched, group_len}

both : (a b c d : ℕ) → a ≡ b → c ≡ d → (eqb a b && eqb c d) ≡ true
both a b c d h k = rw (eq-eqb a b h, eq-eqb c d k) refl

not_both : (a b c d : ℕ) → (a ≡ b → c ≡ d → ⊥) → (eqb a b && eqb c d) ≡ false
not_both a b c d h = elim (eqb_tells a b) [ inl p ↦ rw (p.0, ne_eqb c d (h p.1)) refl | inr p ↦ rw p.0 refl ]

module _ (depth i : ℕ) (text : List ℕ) where
  module _ (x : ℕ) (total : Bool) (so_far : has_open x depth (drop i text) ≡ total) where
    -- the text is at its end
    pub open_ends : length text ≤ i → false ≡ total
    unfolding has_open
    open_ends past = ap (has_open x depth) (sym (drop_all i text past)) ∙ so_far

    module _ (within : i < length text) where
      open_one : has_open x depth (get_or text i 0 ∷ drop (i + 1) text) ≡ total
      open_one = ap (has_open x depth) (sym (drop_more text i 0 within)) ∙ so_far

      -- the character stands here
      pub open_here : get_or text i 0 ≡ x → depth ≡ 0 → true ≡ total
      unfolding has_open
      open_here same none = rw (both (get_or text i 0) x depth 0 same none) at open_one

      -- it doesn't
      pub open_later : (next : ℕ) → (get_or text i 0 ≡ x → depth ≡ 0 → ⊥) → next ≡ depth_behind depth (get_or text i 0) → has_open x next (drop (i + 1) text) ≡ total
      unfolding has_open
      open_later next other next_is = rw next_is (rw (not_both (get_or text i 0) x depth 0 other) at open_one)

  module _ (total : Bool) (so_far : is_matched depth (drop i text) ≡ total) where
    -- the text is at its end
    pub matched_ends : length text ≤ i → eqb depth 0 ≡ total
    unfolding is_matched
    matched_ends past = ap (is_matched depth) (sym (drop_all i text past)) ∙ so_far

    module _ (within : i < length text) where
      matched_one : is_matched depth (get_or text i 0 ∷ drop (i + 1) text) ≡ total
      matched_one = ap (is_matched depth) (sym (drop_more text i 0 within)) ∙ so_far

      -- a parenthesis closes that none opened
      pub matched_fails : get_or text i 0 ≡ right → depth ≡ 0 → false ≡ total
      unfolding is_matched
      matched_fails same none = rw (both (get_or text i 0) right depth 0 same none) at matched_one

      -- none does
      pub matched_later : (next : ℕ) → (get_or text i 0 ≡ right → depth ≡ 0 → ⊥) → next ≡ depth_behind depth (get_or text i 0) → is_matched next (drop (i + 1) text) ≡ total
      unfolding is_matched
      matched_later next other next_is = rw next_is (rw (not_both (get_or text i 0) right depth 0 other) at matched_one)

  module _ (total : Option ℕ) (so_far : option_map (λ n. i + n) (group_len depth (drop i text)) ≡ total) where
    -- the text is at its end
    pub group_ends : length text ≤ i → None ≡ total
    unfolding group_len
    group_ends past = ap (λ cs. option_map (λ n. i + n) (group_len depth cs)) (sym (drop_all i text past)) ∙ so_far

    module _ (within : i < length text) where
      group_one : option_map (λ n. i + n) (group_len depth (get_or text i 0 ∷ drop (i + 1) text)) ≡ total
      group_one = ap (λ cs. option_map (λ n. i + n) (group_len depth cs)) (sym (drop_more text i 0 within)) ∙ so_far

      -- the last open parenthesis is closed
      pub group_here : get_or text i 0 ≡ right → depth ≡ 1 → Some (i + 1) ≡ total
      unfolding group_len
      group_here same last = rw (both (get_or text i 0) right depth 1 same last) at group_one

      regroup : (found : Option ℕ) → option_map (λ n. i + 1 + n) found ≡ option_map (λ n. i + n) (option_map (λ k. k + 1) found)
      regroup None = refl
      regroup (Some n) = ap Some (omega arith)

      -- it isn't
      pub group_later : (next : ℕ) → (get_or text i 0 ≡ right → depth ≡ 1 → ⊥) → next ≡ depth_behind depth (get_or text i 0) → option_map (λ n. i + 1 + n) (group_len next (drop (i + 1) text)) ≡ total
      unfolding group_len
      group_later next other next_is = rw next_is (regroup (group_len (depth_behind depth (get_or text i 0)) (drop (i + 1) text)) ∙ rw (not_both (get_or text i 0) right depth 1 other) at group_one)
