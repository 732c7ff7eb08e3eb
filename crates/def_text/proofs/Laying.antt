-- Laying: the lines of a statement are joined to its characters.
use Rattle.std.proofs.Common.{◌≡◌, ℕ, ◌+◌, ◌≤◌, true, false, cond, eqb, List, [], ◌∷◌, ◌++◌, length, refl, sym, ap, ◌∙◌, arith, inl, inr, append_assoc, append-nil, length-append, Result}
use Rattle.std.specs.List.{list_all}
use Rattle.std.proofs.lemmas.Bool.{cases_lt, ne_eqb, eq-eqb}
use Rattle.adj_tree.specs.declared.fault.Refusal.{Refusal}
use Rattle.def_text.specs.Char.{is_blank, are_blank, is_allowed, folded}
use Rattle.def_text.specs.Limits.{no_limits}
use Rattle.def_text.specs.Line.{cut_lines, next_number}
use Rattle.def_text.specs.Lined.{Lines, Pass, pass_over}
use Rattle.def_text.specs.Text.{laid, statement}
use Rattle.def_text.proofs.Joins.{AreAllowed, allowed-append, cut_line, folded-append, indented, continued, going, over_initial, over_continuation}
use Rattle.def_text.proofs.Scans.{both_true}

-- the lines that characters are laid out in, behind what stands in the first of them
laid_lines : List ℕ → ℕ → List ℕ → List (List ℕ)
laid_lines front k [] = front ∷ []
laid_lines front k (c ∷ cs) = cond (eqb k 66) (front ∷ laid_lines (continued (c ∷ [])) 1 cs) (laid_lines (front ++ c ∷ []) (k + 1) cs)

cut_laid : (s front : List ℕ) (k : ℕ) (rest : List ℕ) → AreAllowed front → AreAllowed s → cut_lines (front ++ (laid k s ++ rest)) ≡ laid_lines front k s ++ cut_lines rest
unfolding laid laid_lines
cut_laid [] front k rest h g = cut_line front rest h
cut_laid (c ∷ cs) front k rest h g =
    let a = both_true (is_allowed c) (list_all is_allowed cs) g in
    let one : AreAllowed (c ∷ []) = rw a.0 refl in
    elim (eqb k 66) as (λ b. cut_lines (front ++ (cond b (10 ∷ continued (c ∷ laid 1 cs)) (c ∷ laid (k + 1) cs) ++ rest)) ≡ cond b (front ∷ laid_lines (continued (c ∷ [])) 1 cs) (laid_lines (front ++ c ∷ []) (k + 1) cs) ++ cut_lines rest) [
      | true ↦ cut_line front (continued (c ∷ laid 1 cs) ++ rest) h ∙ ap (λ ls. front ∷ ls) (cut_laid cs (continued (c ∷ [])) 1 rest one a.1)
      | false ↦ ap cut_lines (sym (append_assoc front (c ∷ []) (laid (k + 1) cs ++ rest))) ∙ cut_laid cs (front ++ c ∷ []) (k + 1) rest (allowed-append front (c ∷ []) h one) a.1
    ]

module _ (p : Pass) (n : ℕ) where
  -- the pass goes on behind a statement with this text
  abbrev Goes : Result (List Lines) Refusal → List ℕ → List (List ℕ) → Type 0
  Goes read text ls = (m : ℕ) × (read ≡ pass_over no_limits (going p n text) m ls)

  goes-as : (read read' : Result (List Lines) Refusal) (text text' : List ℕ) (ls : List (List ℕ)) → read' ≡ read → text ≡ text' → Goes read text ls → Goes read' text' ls
  goes-as read read' text text' ls e f h = (h.0, e ∙ h.1 ∙ ap (λ t. pass_over no_limits (going p n t) h.0 ls) f)

  over_continuations : (s text b : List ℕ) (k m : ℕ) (ls : List (List ℕ)) → AreAllowed b → AreAllowed s → k ≡ length b → k ≤ 66 → Goes (pass_over no_limits (going p n text) m (laid_lines (continued b) k s ++ ls)) (text ++ folded (b ++ s)) ls
  unfolding laid_lines
  over_continuations [] text b k m ls h g e le =
      (next_number m, over_continuation p n m text b ls h (omega arith) ∙ ap (λ t. pass_over no_limits (going p n (text ++ folded t)) (next_number m) ls) (sym (append-nil b)))
  over_continuations (c ∷ cs) text b k m ls h g e le =
      let a = both_true (is_allowed c) (list_all is_allowed cs) g in
      let one : AreAllowed (c ∷ []) = rw a.0 refl in
      elim (cases_lt k 66) [
        | inl lt ↦
            let other : eqb k 66 ≡ false = ne_eqb k 66 (λ q. omega arith) in
            let r = over_continuations cs text (b ++ c ∷ []) (k + 1) m ls (allowed-append b (c ∷ []) h one) a.1 (omega (arith, length-append b (c ∷ []))) (omega arith) in
            goes-as _ _ _ _ ls (rw other refl) (ap (λ t. text ++ folded t) (append_assoc b (c ∷ []) cs)) r
        | inr past ↦
            let full : eqb k 66 ≡ true = eq-eqb k 66 (omega arith) in
            let r = over_continuations cs (text ++ folded b) (c ∷ []) 1 (next_number m) ls one a.1 refl (omega arith) in
            let first = over_continuation p n m text b (laid_lines (continued (c ∷ [])) 1 cs ++ ls) h (omega arith) in
            goes-as _ _ _ _ ls (rw full first) (append_assoc text (folded b) (folded (c ∷ cs)) ∙ ap (λ t. text ++ t) (sym (folded-append b (c ∷ cs)))) r
      ]

  not_blank : (d : ℕ) (b : List ℕ) → is_blank d ≡ false → are_blank (d ∷ b) ≡ false
  not_blank d b h = rw h refl

  over_laid : (s : List ℕ) (d : ℕ) (b : List ℕ) (k : ℕ) (ls : List (List ℕ)) → is_blank d ≡ false → AreAllowed (d ∷ b) → AreAllowed s → k ≡ length (d ∷ b) → k ≤ 66 → Goes (pass_over no_limits p n (laid_lines (indented (d ∷ b)) k s ++ ls)) (folded ((d ∷ b) ++ s)) ls
  unfolding laid_lines
  over_laid [] d b k ls some h g e le =
      (next_number n, over_initial p n (d ∷ b) ls (not_blank d b some) h (omega arith) ∙ ap (λ t. pass_over no_limits (going p n (folded t)) (next_number n) ls) (sym (append-nil (d ∷ b))))
  over_laid (c ∷ cs) d b k ls some h g e le =
      let a = both_true (is_allowed c) (list_all is_allowed cs) g in
      let one : AreAllowed (c ∷ []) = rw a.0 refl in
      elim (cases_lt k 66) [
        | inl lt ↦
            let other : eqb k 66 ≡ false = ne_eqb k 66 (λ q. omega arith) in
            let r = over_laid cs d (b ++ c ∷ []) (k + 1) ls some (allowed-append (d ∷ b) (c ∷ []) h one) a.1 (omega (arith, length-append b (c ∷ []))) (omega arith) in
            goes-as _ _ _ _ ls (rw other refl) (ap folded (append_assoc (d ∷ b) (c ∷ []) cs)) r
        | inr past ↦
            let full : eqb k 66 ≡ true = eq-eqb k 66 (omega arith) in
            let r = over_continuations cs (folded (d ∷ b)) (c ∷ []) 1 (next_number n) ls one a.1 refl (omega arith) in
            let first = over_initial p n (d ∷ b) (laid_lines (continued (c ∷ [])) 1 cs ++ ls) (not_blank d b some) h (omega arith) in
            goes-as _ _ _ _ ls (rw full first) (sym (folded-append (d ∷ b) (c ∷ cs))) r
      ]

  -- whatever follows a statement, its lines are joined to its characters
  pub joins : (d : ℕ) (s rest : List ℕ) → is_blank d ≡ false → AreAllowed (d ∷ s) → Goes (pass_over no_limits p n (cut_lines (statement (d ∷ s) ++ rest))) (folded (d ∷ s)) (cut_lines rest)
  unfolding laid
  joins d s rest some h =
      let a = both_true (is_allowed d) (list_all is_allowed s) h in
      let one : AreAllowed (d ∷ []) = rw a.0 refl in
      let cut = cut_laid s (indented (d ∷ [])) 1 rest one a.1 in
      goes-as _ _ _ _ (cut_lines rest) (ap (λ ls. pass_over no_limits p n ls) cut) refl (over_laid s d [] 1 (cut_lines rest) some one a.1 refl (omega arith))
