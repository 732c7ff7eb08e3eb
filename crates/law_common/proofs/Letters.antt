-- Names of a text begin with a capital letter, so none is a slot.
use Rattle.std.proofs.Common.{◌≡◌, ℕ, Bool, true, false, List, [], ◌∷◌, sym, ap, ◌∙◌, refl}
use Rattle.std.specs.Prelude.{◌&&◌, ◌==◌}
use Rattle.std.specs.List.{All}
use Rattle.adj_tree.specs.Code.{plain, Extent, fixed, given, Declaration}
use Rattle.adj_tree.proofs.Names.{nat_same}
use Rattle.def_text.specs.Char.{is_capital}
use Rattle.def_text.specs.Written.{IsName, IsWrittenExtent, IsWrittenDeclaration, IsWrittenShared}
use Rattle.adj_tree.specs.Common.{Shared}
use Rattle.def_common.specs.Members.{is_slot}
use Rattle.law_common.specs.Passing.{NoSlots}
use Rattle.law_common.specs.Lowers.{Each}
use Rattle.law_common.proofs.Laying.{each_map}
use Rattle.law_common.proofs.LoweredWritten.{each_of_all}

abbrev pub Begins : List ℕ → Type 0
Begins [] = ⊥
Begins (c ∷ x) = is_capital c ≡ true

pub no_slot : (x : List ℕ) → Begins x → is_slot (plain x) ≡ false
no_slot [] h = refl
no_slot (c ∷ []) h = refl
no_slot (c ∷ d ∷ x) h = go (c == 0) refl
  where
    go : (b : Bool) → (c == 0) ≡ b → (b && (d == 3)) ≡ false
    go true e = absurd (let z : false ≡ true = ap is_capital (sym (nat_same c 0 e)) ∙ h in cc)
    go false e = refl

pub no_slots_of : (xs : List (List ℕ)) → Each Begins xs → NoSlots xs
no_slots_of [] h = tt
no_slots_of (x ∷ xs) h = (no_slot x h.0, no_slots_of xs h.1)

-- ---- dummies and declarations of a unit that is written

abbrev pub ExtentBegins : Extent → Type 0
ExtentBegins (fixed z) = Unit {0}
ExtentBegins (given x) = Begins x

abbrev pub BeginsDeclared : Declaration → Type 0
BeginsDeclared d = Begins d.name × Each ExtentBegins d.extents

pub record HasLetters (s : Shared) : Type 0 where
  pub dummies : Each Begins s.unit.dummies
  pub declared : Each BeginsDeclared s.unit.declarations

pub of_name : (x : List ℕ) → IsName x → Begins x
of_name [] h = h
of_name (c ∷ x) h = h.0

of_extent : (e : Extent) → IsWrittenExtent e → ExtentBegins e
of_extent (fixed z) h = tt
of_extent (given x) h = of_name x h

each_all : {A : Type 0} (P Q : A → Type 0) → ((a : A) → P a → Q a) → (l : List A) → All P l → Each Q l
each_all P Q f l h = each_map P Q f l (each_of_all P l h)

pub letters : (s : Shared) → IsWrittenShared s → HasLetters s
letters s w = record {
  dummies = each_all IsName Begins of_name s.unit.dummies w.unit.dummies;
  declared = each_all IsWrittenDeclaration BeginsDeclared (λ d k. (of_name d.name k.named, each_all IsWrittenExtent ExtentBegins of_extent d.extents k.extents)) s.unit.declarations w.unit.declarations;
}
