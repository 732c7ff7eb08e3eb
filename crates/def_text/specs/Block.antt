-- Block: which statements are the body of a unit, a loop or a part of an IF.
use Rattle.std.specs.Prelude.{◌≡◌, ◌≢◌, ℕ, Bool, false, not, ◌==◌, ◌&&◌, List, [], ◌∷◌, Some, None}
use Rattle.std.specs.List.{list_any}
use Rattle.adj_tree.specs.Code.{Test, Mark, Act, Code, choose, loop, during, stop, step}
use Rattle.def_text.specs.Statement.{Range}
use Rattle.def_text.specs.Form.{Form, simple, logical, opens_do, opens_while, end_do, go_on, opens_if, otherwise, otherwise_if, end_if, Statement, at}

-- whether a label is that of an open DO; the labels are those of the open blocks, the innermost first, 0 where a block has none
abbrev pub is_open : List ℕ → ℕ → Bool
is_open labels l = not (l == 0) && list_any (λ k. k == l) labels

abbrev pub innermost : List ℕ → ℕ
innermost [] = 0
innermost (l ∷ ls) = l

abbrev pub loop_of : Range → Code → Mark → Act
loop_of r body mark = loop r.counter r.from r.to r.by body mark

-- ReadsBody labels statements rest body: inside open blocks with these labels the statements up to the rest are a body.
-- A statement with the label of an open DO is the CONTINUE that ends it.
mutual
  pub data ReadsBody : List ℕ → List Statement → List Statement → Code → Type 0 where
    empty : {ls : List ℕ} {ts : List Statement} → ReadsBody ls ts ts stop
    more : {ls : List ℕ} {ts us rest : List Statement} {n l : ℕ} {f : Form} {a : Act} {body : Code} → is_open ls l ≡ false → ReadsAct ls n f ts us a → ReadsBody ls us rest body → ReadsBody ls (at n l f ∷ ts) rest (step n a body)
    -- a CONTINUE that ends no loop leaves nothing
    skipped : {ls : List ℕ} {ts rest : List Statement} {n l : ℕ} {body : Code} → is_open ls l ≡ false → ReadsBody ls ts rest body → ReadsBody ls (at n l go_on ∷ ts) rest body

  -- ReadsAct labels line form statements rest act: a statement of this line and form, with the statements behind it up to the rest, does this
  pub data ReadsAct : List ℕ → ℕ → Form → List Statement → List Statement → Act → Type 0 where
    simply : {ls : List ℕ} {rest : List Statement} {n : ℕ} {a : Act} → ReadsAct ls n (simple a) rest rest a
    -- a logical IF is an IF with one statement
    guarded : {ls : List ℕ} {rest : List Statement} {n : ℕ} {c : Test} {a : Act} → ReadsAct ls n (logical c a) rest rest (choose c (step n a stop) stop)
    branch : {ls : List ℕ} {ts us rest : List Statement} {n : ℕ} {c : Test} {a b : Code} → ReadsBody (0 ∷ ls) ts us a → ReadsElse ls us rest b → ReadsAct ls n (opens_if c) ts rest (choose c a b)
    -- a DO without label ends at END DO
    unlabelled : {ls : List ℕ} {ts rest : List Statement} {n m k : ℕ} {s : Mark} {r : Range} {body : Code} → ReadsBody (0 ∷ ls) ts (at m k end_do ∷ rest) body → is_open ls k ≡ false → ReadsAct ls n (opens_do None r s) ts rest (loop_of r body s)
    -- and so does a DO WHILE
    repeated : {ls : List ℕ} {ts rest : List Statement} {n m k : ℕ} {c : Test} {body : Code} → ReadsBody (0 ∷ ls) ts (at m k end_do ∷ rest) body → is_open ls k ≡ false → ReadsAct ls n (opens_while c) ts rest (during c body)
    -- a DO with label ends at the CONTINUE of that label
    labelled : {ls : List ℕ} {ts rest : List Statement} {n m l : ℕ} {s : Mark} {r : Range} {body : Code} → l ≢ 0 → innermost ls ≢ l → ReadsBody (l ∷ ls) ts (at m l go_on ∷ rest) body → ReadsAct ls n (opens_do (Some l) r s) ts rest (loop_of r body s)
    -- directly inside a DO of the same label the CONTINUE is left to that one
    shared : {ls : List ℕ} {ts rest : List Statement} {n m l : ℕ} {s : Mark} {r : Range} {body : Code} → l ≢ 0 → innermost ls ≡ l → ReadsBody (l ∷ ls) ts (at m l go_on ∷ rest) body → ReadsAct ls n (opens_do (Some l) r s) ts (at m l go_on ∷ rest) (loop_of r body s)

  -- ReadsElse labels statements rest body: behind the first part of an IF, what is done otherwise
  pub data ReadsElse : List ℕ → List Statement → List Statement → Code → Type 0 where
    nothing : {ls : List ℕ} {rest : List Statement} {n l : ℕ} → is_open ls l ≡ false → ReadsElse ls (at n l end_if ∷ rest) rest stop
    part : {ls : List ℕ} {ts rest : List Statement} {n l m k : ℕ} {body : Code} → is_open ls l ≡ false → ReadsBody (0 ∷ ls) ts (at m k end_if ∷ rest) body → is_open ls k ≡ false → ReadsElse ls (at n l otherwise ∷ ts) rest body
    -- ELSE IF is an IF as the only statement of that part
    chained : {ls : List ℕ} {ts us rest : List Statement} {n l : ℕ} {c : Test} {a b : Code} → is_open ls l ≡ false → ReadsBody (0 ∷ ls) ts us a → ReadsElse ls us rest b → ReadsElse ls (at n l (otherwise_if c) ∷ ts) rest (step n (choose c a b) stop)
