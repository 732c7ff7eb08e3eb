-- A pass over lines: one line more, and the end.
use Rattle.std.proofs.Common.{◌≡◌, ℕ, List, ◌∷◌, Bool, true, false, cond, Result, Ok, sym, ap, ◌∙◌, length}
use Rattle.std.proofs.lemmas.List.{nil_from_length}
use Rattle.adj_tree.specs.declared.fault.Refusal.{Refusal}
use Rattle.adj_tree.specs.declared.fault.Fault.{Fault}
use Rattle.adj_tree.specs.declared.fault.Fault.TheVariants.{Memory, Refused}
use Rattle.def_text.specs.Limits.{Limits}
use Rattle.def_text.specs.Line.{cut_lines, is_data, next_number, without_cr}
use Rattle.def_text.specs.Lined.{Lines, Pass, ended, with_line, pass_over}
use Rattle.def_text.specs.Refused.{◌>>=◌, Fails}
use Rattle.def_text.proofs.Cutting.{cut_lines-nil}

module _ (limits : Limits) (p : Pass) (n : ℕ) (rest : List ℕ) (total : Result (List Lines) Refusal) (so_far : pass_over limits p n (cut_lines rest) ≡ total) where
  -- no line is left
  pub over_end : length rest ≡ 0 → ended p p.pending ≡ total
  unfolding pass_over
  over_end none = sym (ap (λ ls. pass_over limits p n ls) (ap cut_lines (nil_from_length rest none) ∙ cut_lines-nil)) ∙ so_far

  module _ (line after l : List ℕ) (cut : cut_lines rest ≡ line ∷ cut_lines after) (l_is : l ≡ without_cr line) where
    taken : Bool → Result Pass Refusal → Result (List Lines) Refusal
    taken b r = cond b (ended p p.pending) (r >>= λ q. pass_over limits q (next_number n) (cut_lines after))

    one : pass_over limits p n (cut_lines rest) ≡ taken (is_data l) (with_line limits p n l)
    unfolding pass_over taken
    one = ap (λ ls. pass_over limits p n ls) cut ∙ ap (λ k. taken (is_data k) (with_line limits p n k)) (sym l_is)

    -- the next line is `$DATA`
    pub over_data : is_data l ≡ true → ended p p.pending ≡ total
    unfolding taken
    over_data tested = sym (one ∙ ap (λ b. taken b (with_line limits p n l)) tested) ∙ so_far

    -- the next line is taken
    pub over_more : (q : Pass) (m : ℕ) → is_data l ≡ false → with_line limits p n l ≡ Ok q → m ≡ next_number n → pass_over limits q m (cut_lines after) ≡ total
    unfolding taken
    over_more q m tested h m_is = rw m_is (sym (one ∙ ap (λ b. taken b (with_line limits p n l)) tested ∙ ap (taken false) h) ∙ so_far)

    -- the next line has a fault
    pub over_fails : (e : Fault) → is_data l ≡ false → Fails e (with_line limits p n l) → Fails e total
    unfolding taken
    over_fails Memory tested h = tt
    over_fails (Refused r) tested h = sym so_far ∙ one ∙ ap (λ b. taken b (with_line limits p n l)) tested ∙ ap (taken false) h
