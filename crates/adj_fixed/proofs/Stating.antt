-- Statements one by one: one more, and the end.
use Rattle.std.proofs.Common.{◌≡◌, ℕ, ◌+◌, ◌<◌, ◌≤◌, List, [], ◌∷◌, ◌++◌, length, get_or, drop, Result, Ok, Err, refl, sym, ap, ◌∙◌, append_assoc, append-nil}
use Rattle.std.proofs.lemmas.List.{drop_all, drop_more}
use Rattle.adj_tree.specs.declared.fault.Refusal.{Refusal}
use Rattle.adj_tree.specs.declared.fault.Fault.{Fault}
use Rattle.adj_tree.specs.declared.fault.Fault.TheVariants.{Memory, Refused}
use Rattle.def_text.specs.Limits.{Limits}
use Rattle.def_text.specs.Refused.{◌>>=◌, Fails}
use Rattle.def_text.specs.Stated.{stated, all_stated}
use Rattle.def_text.specs.declared.stated.Stated.{Stated}
use Rattle.adj_fixed.specs.declared.lined.Lined.{Lined}
use Rattle.adj_fixed.specs.View.{lines_of, all_lines}

-- statements before others, where there are such
abbrev pub behind : List Stated → Result (List Stated) Refusal → Result (List Stated) Refusal
behind front found = found >>= λ xs. Ok (front ++ xs)

regroup : (front : List Stated) (x : Stated) (found : Result (List Stated) Refusal) → behind front (found >>= λ xs. Ok (x ∷ xs)) ≡ behind (front ++ x ∷ []) found
regroup front x (Ok xs) = ap Ok (sym (append_assoc front (x ∷ []) xs))
regroup front x (Err e) = refl

module _ (limits : Limits) (items : List Lined) (n : ℕ) (front : List Stated) (total : Result (List Stated) Refusal) (so_far : behind front (all_stated limits (all_lines (drop n items))) ≡ total) where
  -- no statement is left
  pub over_end : length items ≤ n → total ≡ Ok front
  unfolding all_stated
  over_end past = sym so_far ∙ ap (λ ss. behind front (all_stated limits (all_lines ss))) (drop_all n items past) ∙ ap Ok (append-nil front)

  module _ (s : Lined) (here : (n < length items) × (s ≡ get_or items n s)) where
    next : Result Stated Refusal → Result (List Stated) Refusal
    next r = behind front (r >>= λ x. all_stated limits (all_lines (drop (n + 1) items)) >>= λ xs. Ok (x ∷ xs))

    one : next (stated limits (lines_of s)) ≡ total
    unfolding all_stated next
    one = ap (λ k. next (stated limits (lines_of k))) here.1 ∙ ap (λ ss. behind front (all_stated limits (all_lines ss))) (sym (drop_more items n s here.0)) ∙ so_far

    -- the next one has no fault
    pub over_more : (x : Stated) → stated limits (lines_of s) ≡ Ok x → behind (front ++ x ∷ []) (all_stated limits (all_lines (drop (n + 1) items))) ≡ total
    unfolding next
    over_more x h = sym (regroup front x (all_stated limits (all_lines (drop (n + 1) items)))) ∙ ap next (sym h) ∙ one

    -- it has one
    pub over_fails : (e : Fault) → Fails e (stated limits (lines_of s)) → Fails e total
    unfolding next
    over_fails Memory h = tt
    over_fails (Refused r) h = sym one ∙ ap next h
