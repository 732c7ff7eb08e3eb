-- SplitLines: the lines of split calls, one statement after the other.
use Rattle.std.proofs.Common.{◌≡◌, ℕ, ◌+◌, ◌<◌, Bool, true, false, cond, List, [], ◌∷◌, ◌++◌, length, get_or, take, Ok, refl, sym, ap, ◌∙◌, append-nil}
use Rattle.std.proofs.lemmas.List.{take_more}
use Rattle.def_text.specs.Limits.{no_limits}
use Rattle.def_text.specs.Reads.{ReadsSplits}
use Rattle.def_text.specs.Splits.{split_lines}
use Rattle.def_text.specs.Stated.{statements_of}
use Rattle.def_text.specs.declared.stated.Stated.{Stated}
use Rattle.def_text.proofs.Cut.{forms_text}

split_append : (xs ys : List Stated) → split_lines (xs ++ ys) ≡ split_lines xs ++ split_lines ys
split_append [] ys = refl
split_append (x ∷ xs) ys = by x.split (split_append xs ys)
  where
    by : (b : Bool) → split_lines (xs ++ ys) ≡ split_lines xs ++ split_lines ys → cond b (x.line ∷ split_lines (xs ++ ys)) (split_lines (xs ++ ys)) ≡ cond b (x.line ∷ split_lines xs) (split_lines xs) ++ split_lines ys
    by true h = ap (λ ls. x.line ∷ ls) h
    by false h = h

-- one statement more, which is split
one_split : (xs : List Stated) (x : Stated) → x.split ≡ true → split_lines (xs ++ x ∷ []) ≡ split_lines xs ++ x.line ∷ []
one_split xs x h = split_append xs (x ∷ []) ∙ ap (λ b. split_lines xs ++ cond b (x.line ∷ []) []) h

-- or which isn't
one_whole : (xs : List Stated) (x : Stated) → x.split ≡ false → split_lines (xs ++ x ∷ []) ≡ split_lines xs
one_whole xs x h = split_append xs (x ∷ []) ∙ ap (λ b. split_lines xs ++ cond b (x.line ∷ []) []) h ∙ append-nil (split_lines xs)

-- behind the statements that were taken comes another
module _ (ss : List Stated) (i : ℕ) (x : Stated) (within : i < length ss) (here : x ≡ get_or ss i x) where
  one_taken : split_lines (take i ss ++ x ∷ []) ≡ split_lines (take (i + 1) ss)
  one_taken = ap split_lines (ap (λ y. take i ss ++ y ∷ []) here ∙ sym (take_more ss i x within))

  pub split_taken : x.split ≡ true → (lines : List ℕ) → lines ≡ split_lines (take i ss) → lines ++ x.line ∷ [] ≡ split_lines (take (i + 1) ss)
  split_taken split lines h = ap (λ ls. ls ++ x.line ∷ []) h ∙ sym (one_split (take i ss) x split) ∙ one_taken

  pub whole_taken : x.split ≡ false → (lines : List ℕ) → lines ≡ split_lines (take i ss) → lines ≡ split_lines (take (i + 1) ss)
  whole_taken split lines h = h ∙ sym (one_whole (take i ss) x split) ∙ one_taken

-- these are the lines of the split calls of each text with these statements
pub splits_read : (stated : List Stated) (lines : List ℕ) → lines ≡ split_lines stated → (bytes : List ℕ) → statements_of no_limits bytes ≡ Ok stated → ReadsSplits bytes lines
splits_read stated lines h bytes e = record { stated = stated; lines_form = forms_text bytes stated e; marked = h }
