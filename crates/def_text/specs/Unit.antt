-- Unit: which statements are a unit, and which are the units of a text.
use Rattle.std.specs.Prelude.{◌≡◌, ℕ, Bool, true, false, List, [], ◌∷◌, ◌++◌, map}
use Rattle.adj_tree.specs.Code.{Code, Declaration}
use Rattle.adj_tree.specs.Common.{Common, Shared}
use Rattle.def_text.specs.Statement.{Item}
use Rattle.def_text.specs.Form.{subroutine, implicit_none, integers, common, leaves, ends, Statement, at}
use Rattle.def_text.specs.Block.{ReadsBody}

-- at most one IMPLICIT NONE
pub data ReadsImplicit : List Statement → List Statement → Bool → Type 0 where
  absent : {rest : List Statement} → ReadsImplicit rest rest false
  present : {rest : List Statement} {n l : ℕ} → ReadsImplicit (at n l implicit_none ∷ rest) rest true

abbrev pub declaration_of : ℕ → Item → Declaration
declaration_of n i = record { line = n; name = i.name; extents = i.extents }

abbrev pub common_of : ℕ → List ℕ → List Item → Common
common_of n b is = record { line = n; block = b; items = map (declaration_of n) is }

-- INTEGER statements, with COMMON statements among them; each declaration has the line of its statement
pub data ReadsDeclarations : List Statement → List Statement → List Declaration → List Common → Type 0 where
  none : {rest : List Statement} → ReadsDeclarations rest rest [] []
  more : {ts rest : List Statement} {n l : ℕ} {is : List Item} {ds all : List Declaration} {cs : List Common} → ReadsDeclarations ts rest ds cs → all ≡ map (declaration_of n) is ++ ds → ReadsDeclarations (at n l (integers is) ∷ ts) rest all cs
  shared : {ts rest : List Statement} {n l : ℕ} {b : List ℕ} {is : List Item} {ds : List Declaration} {cs : List Common} → ReadsDeclarations ts rest ds cs → ReadsDeclarations (at n l (common b is) ∷ ts) rest ds (common_of n b is ∷ cs)

-- END, and a RETURN directly before it or none
pub data ReadsEnd : List Statement → List Statement → Type 0 where
  ended : {rest : List Statement} {n l : ℕ} → ReadsEnd (at n l ends ∷ rest) rest
  returned : {rest : List Statement} {n l m k : ℕ} → ReadsEnd (at n l leaves ∷ at m k ends ∷ rest) rest

pub data ReadsUnit : List Statement → List Statement → Shared → Type 0 where
  unit : {ts us vs ws rest : List Statement} {n l : ℕ} {x : List ℕ} {dummies : List (List ℕ)} {is_none : Bool} {ds : List Declaration} {cs : List Common} {body : Code} →
      ReadsImplicit ts us is_none → ReadsDeclarations us vs ds cs → ReadsBody [] vs ws body → ReadsEnd ws rest →
      ReadsUnit (at n l (subroutine x dummies) ∷ ts) rest (record { unit = record { line = n; name = x; dummies = dummies; is_none = is_none; declarations = ds; body = body }; commons = cs })

-- the units of a text with their COMMON statements, in order
pub data ReadsUnits : List Statement → List Shared → Type 0 where
  none : ReadsUnits [] []
  more : {ts us : List Statement} {s : Shared} {ss : List Shared} → ReadsUnit ts us s → ReadsUnits us ss → ReadsUnits ts (s ∷ ss)
