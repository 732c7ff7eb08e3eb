-- Statements that are part of a sweep where a mark holds.
use Rattle.std.proofs.Common.{◌≡◌, Bool, true, false, refl, sym, ap, ◌∙◌}
use Rattle.adj_tree.specs.Code.{Var, Code, stop, step}
use Rattle.def_meaning.specs.Append.{◌+++◌}
use Rattle.def_meaning.specs.Rename.{rename}
use Rattle.def_meaning.proofs.Appends.{append-stop}
use Rattle.def_sweep.specs.Marked.{code_if}
use Rattle.def_sweep.specs.Rows.{is_empty}

-- behind others
pub behind_if : (r : Var → Var) (b : Bool) (x old new : Code) → b ≡ true → new ≡ old +++ rename r x → new ≡ old +++ rename r (code_if b x)
behind_if r b x old new e h = h ∙ ap (λ z. old +++ rename r (code_if z x)) (sym e)

pub behind_not : (r : Var → Var) (b : Bool) (x old : Code) → b ≡ false → old ≡ old +++ rename r (code_if b x)
behind_not r b x old e = sym (append-stop old) ∙ ap (λ z. old +++ rename r (code_if z x)) (sym e)

-- before others
pub before_if : (r : Var → Var) (b : Bool) (x old new : Code) → b ≡ true → new ≡ rename r x +++ old → new ≡ rename r (code_if b x) +++ old
before_if r b x old new e h = h ∙ ap (λ z. rename r (code_if z x) +++ old) (sym e)

pub before_not : (r : Var → Var) (b : Bool) (x old : Code) → b ≡ false → old ≡ rename r (code_if b x) +++ old
before_not r b x old e = ap (λ z. rename r (code_if z x) +++ old) (sym e)

-- the same of code in which nothing is renamed
pub kept_behind_if : (b : Bool) (x old new : Code) → b ≡ true → new ≡ old +++ x → new ≡ old +++ code_if b x
kept_behind_if b x old new e h = h ∙ ap (λ z. old +++ code_if z x) (sym e)

pub kept_behind_not : (b : Bool) (x old : Code) → b ≡ false → old ≡ old +++ code_if b x
kept_behind_not b x old e = sym (append-stop old) ∙ ap (λ z. old +++ code_if z x) (sym e)

pub kept_before_if : (b : Bool) (x old new : Code) → b ≡ true → new ≡ x +++ old → new ≡ code_if b x +++ old
kept_before_if b x old new e h = h ∙ ap (λ z. code_if z x +++ old) (sym e)

pub kept_before_not : (b : Bool) (x old : Code) → b ≡ false → old ≡ code_if b x +++ old
kept_before_not b x old e = ap (λ z. code_if z x +++ old) (sym e)

-- code is empty exactly where it is under other names
pub empty_renamed : (r : Var → Var) (c : Code) → is_empty (rename r c +++ stop) ≡ is_empty c
empty_renamed r stop = refl
empty_renamed r (step line a c) = refl
