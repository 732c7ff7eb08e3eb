-- A pass over the statements of a text: one more, and the end; their tokens are slices of them.
use Rattle.std.proofs.Common.{◌≡◌, ℕ, ◌+◌, ◌-◌, ◌<◌, ◌≤◌, List, [], ◌∷◌, length, drop, get_or, Result, Ok, sym, ap, ◌∙◌, arith}
use Rattle.std.specs.Prelude.{All}
use Rattle.std.proofs.lemmas.List.{at_drop_more, drop_all, length-drop}
use Rattle.std.proofs.lemmas.List.Elements.{All-nil, All-cons}
use Rattle.adj_tree.specs.Common.{Shared}
use Rattle.adj_tree.specs.declared.fault.Fault.{Fault}
use Rattle.adj_tree.specs.declared.fault.Fault.TheVariants.{Memory, Refused}
use Rattle.adj_tree.specs.declared.fault.Refusal.{Refusal}
use Rattle.adj_parse_expression.specs.Front.{AreSlices}
use Rattle.def_text.specs.Limits.{limits_of}
use Rattle.def_text.specs.Lined.{lines_of}
use Rattle.def_text.specs.Refused.{◌>>=◌, Fails}
use Rattle.def_text.specs.Stated.{keyword_len, ending_len, all_stated, IsCovered}
use Rattle.def_text.specs.Token.{AreJoined}
use Rattle.def_text.specs.declared.mode.Mode.{Mode}
use Rattle.def_text.specs.declared.stated.Stated.{Stated}
use Rattle.def_text.specs.declared.token.Token.{Token}
use Rattle.def_text.proofs.Covering.{all_covered}
use Rattle.def_text.proofs.LinesMarked.{bind_ok}
use Rattle.adj_parse.specs.Trees.{IsText, State, follow, trees_from}

module _ (mode : Mode) (s : State) (all : List Stated) (i : ℕ) (total : Result (List Shared) Refusal) (so_far : trees_from mode s (drop i all) ≡ total) where
  -- no statement is left
  pub over_end : length all ≤ i → Ok s.units.done ≡ total
  unfolding trees_from
  over_end h = ap (trees_from mode s) (sym (drop_all i all h)) ∙ so_far

  module _ (t : Stated) (within : i < length all) (here : t ≡ get_or all i t) (left : ℕ) (behind : left ≡ length all - i - 1) where
    left_behind : length (drop (i + 1) all) ≡ left
    left_behind = omega (arith, length-drop (i + 1) all)

    one : trees_from mode s (drop i all) ≡ (follow mode s t left >>= λ next. trees_from mode next (drop (i + 1) all))
    unfolding trees_from
    one =
        at_drop_more (trees_from mode s) all i t within ∙ ap (λ x. trees_from mode s (x ∷ drop (i + 1) all)) (sym here)
        ∙ ap (λ n. follow mode s t n >>= λ next. trees_from mode next (drop (i + 1) all)) left_behind

    -- the next statement is read
    pub over_more : (next : State) → follow mode s t left ≡ Ok next → trees_from mode next (drop (i + 1) all) ≡ total
    over_more next h = sym (ap (λ r. r >>= λ n. trees_from mode n (drop (i + 1) all)) h) ∙ sym one ∙ so_far

    -- the next statement has a fault
    pub over_fails : (e : Fault) → Fails e (follow mode s t left) → Fails e total
    over_fails Memory h = tt
    over_fails (Refused r) h = sym so_far ∙ one ∙ ap (λ q. q >>= λ n. trees_from mode n (drop (i + 1) all)) h

pub joined_ends : (from to : ℕ) (ts : List Token) → AreJoined from to ts → from ≤ to
joined_ends from to [] h = omega arith
joined_ends from to (t ∷ ts) h = omega (arith, joined_ends t.end to ts h.2)

abbrev IsSlice : List ℕ → Token → Type 0
IsSlice text t = (t.start ≤ t.end) × (t.end ≤ length text)

joined_slices : (text : List ℕ) (from to : ℕ) (ts : List Token) → to ≤ length text → AreJoined from to ts → AreSlices text ts
joined_slices text from to [] fits h = All-nil (IsSlice text)
joined_slices text from to (t ∷ ts) fits h = let here : IsSlice text t = (omega arith, omega (arith, joined_ends t.end to ts h.2)) in All-cons (IsSlice text) t ts here (joined_slices text t.end to ts fits h.2)

covered_slices : (s : Stated) → IsCovered s → AreSlices s.text s.tokens
covered_slices s h = joined_slices s.text (keyword_len s.kind s.text) (length s.text - ending_len s.kind) s.tokens (omega arith) h

-- the tokens of each statement of a text are slices of it
pub text_slices : (mode : Mode) (all : List Stated) → IsText mode all → (i : ℕ) (t : Stated) → i < length all → t ≡ get_or all i t → AreSlices t.text t.tokens
text_slices mode all h i t within here =
    let lines = bind_ok (lines_of (limits_of mode) h.0) (all_stated (limits_of mode)) all h.1 in
    let covered : All IsCovered all = rw lines.2 at (all_covered (limits_of mode) lines.0) in
    covered_slices t (rw (sym here) at (covered i t within))
