-- Shadows that are cleared, and the body of an adjoint unit from its parts.
use Rattle.std.proofs.Common.{◌≡◌, ℕ, true, false, List, [], ◌∷◌, ◌+◌, ◌<◌, length, get_or, drop, drop-cons, add-one, refl, sym, ap, ◌∙◌, if◌then◌else◌}
use Rattle.std.specs.Prelude.{pos}
use Rattle.adj_tree.specs.Code.{Var, plain, shadow, lit, none, assign, runtime, zero_array, Code, stop, step}
use Rattle.adj_tree.specs.Listed.{code_turned}
use Rattle.adj_tree.specs.View.{act_of}
use Rattle.adj_tree.specs.declared.stmt.Stmt.{Stmt}
use Rattle.def_meaning.specs.Append.{◌+++◌, one}
use Rattle.def_meaning.specs.Rename.{rename}
use Rattle.def_meaning.proofs.Appends.{append_assoc, append-stop}
use Rattle.def_meaning.proofs.RenamedLists.{rename-append}
use Rattle.def_sweep.specs.Plan.{Plan}
use Rattle.def_sweep.specs.Emission.{cleared}
use Rattle.adj_sweep.specs.Swept.{in_order}
use Rattle.adj_sweep.proofs.Turned.{turned_before, written_behind}

-- the first, and then the others
pub cleared_more : (p : Plan) (line : ℕ) (x : List ℕ) (xs : List (List ℕ)) → cleared p line (x ∷ xs) ≡ cleared p line (x ∷ []) +++ cleared p line xs
cleared_more p line x xs = ap (λ z. z +++ cleared p line xs) (sym (append-stop (if p.arrays (plain x) then one line (runtime (zero_array (shadow x))) else one line (assign (shadow x) none (lit (pos 0))))))

-- an array's
pub cleared_array : (r : Var → Var) (p : Plan) (line : ℕ) (x y : List ℕ) → p.arrays (plain x) ≡ true → plain y ≡ r (shadow x) → one line (runtime (zero_array (plain y))) ≡ rename r (cleared p line (x ∷ []))
cleared_array r p line x y e h =
    ap (λ v. one line (runtime (zero_array v))) h ∙ ap (λ b. rename r ((if b then one line (runtime (zero_array (shadow x))) else one line (assign (shadow x) none (lit (pos 0)))) +++ stop)) (sym e)

-- a scalar's
pub cleared_scalar : (r : Var → Var) (p : Plan) (line : ℕ) (x y : List ℕ) → p.arrays (plain x) ≡ false → plain y ≡ r (shadow x) → one line (assign (plain y) none (lit (pos 0))) ≡ rename r (cleared p line (x ∷ []))
cleared_scalar r p line x y e h =
    ap (λ v. one line (assign v none (lit (pos 0)))) h ∙ ap (λ b. rename r ((if b then one line (runtime (zero_array (shadow x))) else one line (assign (shadow x) none (lit (pos 0)))) +++ stop)) (sym e)

-- what is left begins with the name at hand
here : (xs : List (List ℕ)) (i : ℕ) (x : List ℕ) → i < length xs → x ≡ get_or xs i x → drop i xs ≡ x ∷ drop (i + 1) xs
here xs i x lt at = drop-cons xs i x lt ∙ (λ j. sym at j ∷ drop (sym (add-one i) j) xs)

-- one more is passed
pub cleared_passed : (r : Var → Var) (p : Plan) (line i : ℕ) (xs : List (List ℕ)) (x : List ℕ) (s : Stmt) (old new whole : Code) → i < length xs → x ≡ get_or xs i x → one s.line (act_of s.act) ≡ rename r (cleared p line (x ∷ [])) → new ≡ step s.line (act_of s.act) old → in_order old +++ rename r (cleared p line (drop i xs)) ≡ whole → in_order new +++ rename r (cleared p line (drop (i + 1) xs)) ≡ whole
cleared_passed r p line i xs x s old new whole lt at is made h =
    let first = cleared p line (x ∷ []) in
    let others = cleared p line (drop (i + 1) xs) in
    let behind : in_order new ≡ in_order old +++ rename r first = written_behind old new s s.line (act_of s.act) made refl refl ∙ ap (λ z. in_order old +++ z) is in
    ap (λ z. z +++ rename r others) behind
    ∙ append_assoc (in_order old) (rename r first) (rename r others)
    ∙ ap (λ z. in_order old +++ z) (sym (rename-append r first others) ∙ ap (rename r) (sym (cleared_more p line x (drop (i + 1) xs))) ∙ ap (λ z. rename r (cleared p line z)) (sym (here xs i x lt at)))
    ∙ h

-- four parts, of which the first two were turned round
pub body_whole : (r : Var → Var) (f c1 b c2 t back whole : Code) → whole ≡ code_turned t back → in_order t ≡ rename r f +++ rename r c1 → back ≡ rename r b +++ rename r c2 → whole ≡ rename r (f +++ (c1 +++ (b +++ c2)))
body_whole r f c1 b c2 t back whole h ht hb =
    h ∙ turned_before t back ∙ (λ i. ht i +++ hb i)
    ∙ append_assoc (rename r f) (rename r c1) (rename r b +++ rename r c2)
    ∙ ap (λ z. rename r f +++ z) (ap (λ z. rename r c1 +++ z) (sym (rename-append r b c2)) ∙ sym (rename-append r c1 (b +++ c2)))
    ∙ sym (rename-append r f (c1 +++ (b +++ c2)))
