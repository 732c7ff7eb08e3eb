-- Members' names begin with a letter; whose extents they have, and that a fresh name isn't declared.
use Rattle.std.proofs.Common.{◌≡◌, inl, inr, ℕ, true, false, List, [], ◌∷◌, refl, sym, ap, ◌∙◌}
use Rattle.std.specs.Prelude.{◌||◌}
use Rattle.adj_tree.specs.Code.{name_eq, Declaration}
use Rattle.def_meaning.specs.Apart.{has_name}
use Rattle.def_names.specs.Variables.{variables}
use Rattle.adj_tree.specs.Common.{Shared}
use Rattle.def_common.specs.Blocks.{used_blocks}
use Rattle.def_common.specs.Members.{Member, members, names_in, taken_in}
use Rattle.law_common.specs.Lowers.{Each}
use Rattle.law_common.proofs.Laying.{declared_names, each_map, true_front}
use Rattle.law_common.proofs.Letters.{Begins, of_name}
use Rattle.law_common.proofs.EachMember.{Any, any_each, any_items, own_so, members_so}
use Rattle.law_common.proofs.LoweredWritten.{IsWrittenMember, members_written}
use Rattle.def_text.specs.Written.{IsWrittenShared}
use Rattle.law_common.proofs.Declared.{IsOwn, IsPassed}
use Rattle.law_common.proofs.Freshness.{from_new, IsNew, declarations_stand}
use Rattle.def_names.proofs.NameLists.{has-append}

pub members_begin : (ps : List Shared) → Each IsWrittenShared ps → (s : Shared) → IsWrittenShared s → Each (λ m. Begins m.name) (members ps s)
members_begin ps all s h = each_map IsWrittenMember (λ m. Begins m.name) (λ m k. of_name m.name k.named) (members ps s) (members_written ps all s h)

pub members_own : (ps : List Shared) (s : Shared) → Each (λ m. m.own ≡ true → IsOwn s.unit m) (members ps s)
members_own ps s =
    members_so Any Any Any (λ m. m.own ≡ true → IsOwn s.unit m) (λ m taken c g. tt) (λ line taken m c g e. absurd (let z : false ≡ true = e in cc)) ps s (λ b. any_each _)
    (λ b. own_so s.unit Any (λ m. m.own ≡ true → IsOwn s.unit m) (λ c line i d g e. refl) b 1 s.commons (any_items s.commons)) tt (any_each (members ps s))

-- ---- passed ones

-- a name that is none of some isn't among them
none_of : (x : List ℕ) (ds : List Declaration) → Each (λ d. name_eq x d.name ≡ false) ds → has_name x (declared_names ds) ≡ false
none_of x [] h = refl
none_of x (d ∷ ds) h = ap (λ b. b || has_name x (declared_names ds)) h.0 ∙ none_of x ds h.1

pub members_passed : (ps : List Shared) (s : Shared) → Each (λ m. m.own ≡ false → IsPassed s.unit m) (members ps s)
members_passed ps s =
    each_map (IsNew (names_in s)) (λ m. m.own ≡ false → IsPassed s.unit m) (λ m k. go m k) (members ps s)
    (from_new (names_in s) ps s (taken_in ps s) (λ z k. has-append z (names_in s) _ ∙ true_front (has_name z (names_in s)) _ k) (used_blocks ps s.unit.name))
  where
    go : (m : Member) → IsNew (names_in s) m → m.own ≡ false → IsPassed s.unit m
    go m (inl e) f = absurd (let z : true ≡ false = sym e ∙ f in cc)
    go m (inr k) f =
        none_of m.name s.unit.declarations
        (each_map (λ d. has_name d.name (variables s.unit) ≡ true) (λ d. name_eq m.name d.name ≡ false) (λ d e. k d.name (has-append d.name (variables s.unit) _ ∙ true_front (has_name d.name (variables s.unit)) _ e)) s.unit.declarations (declarations_stand s.unit))
