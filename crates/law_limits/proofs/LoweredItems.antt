-- The items of a unit's COMMON statements are members of it.
use Rattle.std.proofs.Common.{◌≡◌, ℕ, suc, ◌+◌, Bool, true, false, List, [], ◌∷◌, ◌++◌, length, map, refl, sym, ap, ◌∙◌, inl, inr, if◌then◌else◌}
use Rattle.std.specs.Prelude.{◌||◌, Some}
use Rattle.std.proofs.lemmas.Bool.{or_cases}
use Rattle.std.proofs.lemmas.List.{map-append}
use Rattle.adj_tree.specs.Code.{name_eq, Declaration, Procedure}
use Rattle.adj_tree.proofs.Names.{name_refl, name_same}
use Rattle.def_meaning.specs.Apart.{has_name}
use Rattle.def_names.proofs.NameLists.{has-append}
use Rattle.def_names.proofs.Variables.{or_left, or_right}
use Rattle.adj_tree.specs.Common.{Common, Shared}
use Rattle.def_common.specs.Blocks.{declares, find_shared, all_blocks, without_repeats, blocks, calls_some, found_uses, uses_after, uses, chosen, first_declaring, used_blocks}
use Rattle.def_common.specs.Members.{Member, member_names, own_items, own_members, found_members, passed_members, members_from, members, item_names, taken_in}
use Rattle.law_common.specs.Lowers.{Each}
use Rattle.law_common.proofs.Laying.{each_map}
use Rattle.law_limits.proofs.LoweredVariables.{Within}

abbrev blocks_of : List Common → List (List ℕ)
blocks_of cs = map (λ (c : Common). c.block) cs

member_join : (x : List ℕ) (ms ns : List Member) → has_name x (member_names (ms ++ ns)) ≡ (has_name x (member_names ms) || has_name x (member_names ns))
member_join x ms ns = ap (has_name x) (map-append (λ (m : Member). m.name) ms ns) ∙ has-append x (member_names ms) (member_names ns)

front_join : (x : List ℕ) (ms ns : List Member) → has_name x (member_names ms) ≡ true → has_name x (member_names (ms ++ ns)) ≡ true
front_join x ms ns h = member_join x ms ns ∙ or_left (has_name x (member_names ms)) (has_name x (member_names ns)) h

behind_join : (x : List ℕ) (ms ns : List Member) → has_name x (member_names ns) ≡ true → has_name x (member_names (ms ++ ns)) ≡ true
behind_join x ms ns h = member_join x ms ns ∙ or_right (has_name x (member_names ms)) (has_name x (member_names ns)) h

-- ---- in the members of its block

own_named : (u : Procedure) (b : List ℕ) (line i : ℕ) (ds : List Declaration) → member_names (own_items u b line i ds) ≡ map (λ (d : Declaration). d.name) ds
own_named u b line i [] = refl
own_named u b line i (d ∷ ds) = ap (λ l. d.name ∷ l) (own_named u b line (suc i) ds)

record InBlock (u : Procedure) (cs : List Common) (x : List ℕ) : Type 0 where
  block : List ℕ
  there : has_name block (blocks_of cs) ≡ true
  among : (i : ℕ) → has_name x (member_names (own_members u block i cs)) ≡ true

in_block : (u : Procedure) (cs : List Common) (x : List ℕ) → has_name x (item_names cs) ≡ true → InBlock u cs x
in_block u [] x h = absurd cc
in_block u (c ∷ cs) x h =
    let names = map (λ (d : Declaration). d.name) c.items in
    elim (or_cases (has_name x names) (has_name x (item_names cs)) (sym (has-append x names (item_names cs)) ∙ h)) [
      | inl e ↦ record {
        block = c.block;
        there = or_left (name_eq c.block c.block) (has_name c.block (blocks_of cs)) (name_refl c.block);
        among = λ i.
            ap (λ p. has_name x (member_names (if p then own_items u c.block c.line i c.items ++ own_members u c.block (i + length c.items) cs else own_members u c.block i cs))) (name_refl c.block)
            ∙ front_join x (own_items u c.block c.line i c.items) (own_members u c.block (i + length c.items) cs) (ap (has_name x) (own_named u c.block c.line i c.items) ∙ e);
      }
      | inr e ↦
          let r = in_block u cs x e in
          record {
            block = r.block;
            there = or_right (name_eq r.block c.block) (has_name r.block (blocks_of cs)) r.there;
            among = λ i. later r.block (r.among) i (name_eq c.block r.block);
          }
    ]
  where
    later : (b : List ℕ) → ((i : ℕ) → has_name x (member_names (own_members u b i cs)) ≡ true) → (i : ℕ) (p : Bool) → has_name x (member_names (if p then own_items u b c.line i c.items ++ own_members u b (i + length c.items) cs else own_members u b i cs)) ≡ true
    later b f i true = behind_join x (own_items u b c.line i c.items) (own_members u b (i + length c.items) cs) (f (i + length c.items))
    later b f i false = f i

-- ---- its block is used

among_some : (b : List ℕ) (seen bs : List (List ℕ)) → has_name b seen ≡ false → has_name b bs ≡ true → has_name b (without_repeats seen bs) ≡ true
among_some b seen [] n h = absurd cc
among_some b seen (c ∷ bs) n h = go (has_name c seen) refl (name_eq b c) refl h (among_some b seen bs n) (among_some b (c ∷ seen) bs)
  where
    other : (p q : Bool) → p ≡ false → q ≡ false → (p || q) ≡ false
    other false q e f = f
    other true q e f = e

    go : (p : Bool) → has_name c seen ≡ p → (q : Bool) → name_eq b c ≡ q → (q || has_name b bs) ≡ true → (has_name b bs ≡ true → has_name b (without_repeats seen bs) ≡ true) →
        (has_name b (c ∷ seen) ≡ false → has_name b bs ≡ true → has_name b (without_repeats (c ∷ seen) bs) ≡ true) → has_name b (if p then without_repeats seen bs else c ∷ without_repeats (c ∷ seen) bs) ≡ true
    go true e true f k old new = absurd (let z : true ≡ false = sym e ∙ ap (λ z. has_name z seen) (sym (name_same b c f)) ∙ n in cc)
    go true e false f k old new = old k
    go false e true f k old new = or_left (name_eq b c) (has_name b (without_repeats (c ∷ seen) bs)) f
    go false e false f k old new = or_right (name_eq b c) (has_name b (without_repeats (c ∷ seen) bs)) (new (other (name_eq b c) (has_name b seen) f n) k)

each_declared : (l : List Shared) → Each (λ s. Within (blocks_of s.commons) (all_blocks l)) l
each_declared [] = tt
each_declared (s ∷ l) = (
  (λ x h. has-append x (blocks_of s.commons) (all_blocks l) ∙ or_left (has_name x (blocks_of s.commons)) (has_name x (all_blocks l)) h),
  each_map (λ t. Within (blocks_of t.commons) (all_blocks l)) (λ t. Within (blocks_of t.commons) (all_blocks (s ∷ l))) (λ t f x h. has-append x (blocks_of s.commons) (all_blocks l) ∙ or_right (has_name x (blocks_of s.commons)) (has_name x (all_blocks l)) (f x h)) l (each_declared l),
)

used_there : (ps : List Shared) (name b : List ℕ) (s : Shared) → find_shared ps name ≡ Some s → declares b s ≡ true → uses ps name b ≡ true
used_there [] name b s e h = absurd cc
used_there (p ∷ ps) name b s e h =
    let qs = p ∷ ps in
    let after = uses_after qs b (length ps) in
    ap (found_uses (λ t. declares b t || calls_some after t.unit.body)) e ∙ or_left (declares b s) (calls_some after s.unit.body) h

chosen_there : (f : List ℕ → Bool) (bs : List (List ℕ)) (b : List ℕ) → f b ≡ true → has_name b bs ≡ true → has_name b (chosen f bs) ≡ true
chosen_there f [] b g h = absurd cc
chosen_there f (c ∷ bs) b g h = go (f c) refl (name_eq b c) refl h (chosen_there f bs b g)
  where
    go : (p : Bool) → f c ≡ p → (q : Bool) → name_eq b c ≡ q → (q || has_name b bs) ≡ true → (has_name b bs ≡ true → has_name b (chosen f bs) ≡ true) → has_name b (if p then c ∷ chosen f bs else chosen f bs) ≡ true
    go true e true k j later = or_left (name_eq b c) (has_name b (chosen f bs)) k
    go true e false k j later = or_right (name_eq b c) (has_name b (chosen f bs)) (later j)
    go false e true k j later = absurd (let z : true ≡ false = sym g ∙ ap f (name_same b c k) ∙ e in cc)
    go false e false k j later = later j

-- ---- so it is a member

from_there : (ps : List Shared) (s : Shared) (b x : List ℕ) → declares b s ≡ true → has_name x (member_names (own_members s.unit b 1 s.commons)) ≡ true → (taken : List (List ℕ)) (bs : List (List ℕ)) → has_name b bs ≡ true → has_name x (member_names (members_from ps s taken bs)) ≡ true
from_there ps s b x d h taken [] k = absurd cc
from_there ps s b x d h taken (c ∷ bs) k = go (name_eq b c) refl k (λ others. from_there ps s b x d h others bs)
  where
    first : List Member
    first = if declares c s then own_members s.unit c 1 s.commons else passed_members s.unit.line taken (found_members c (first_declaring c ps))

    go : (q : Bool) → name_eq b c ≡ q → (q || has_name b bs) ≡ true → ((others : List (List ℕ)) → has_name b bs ≡ true → has_name x (member_names (members_from ps s others bs)) ≡ true) → has_name x (member_names (members_from ps s taken (c ∷ bs))) ≡ true
    go true e j later =
        let same : b ≡ c = name_same b c e in
        let own : first ≡ own_members s.unit b 1 s.commons = ap (λ p. if p then own_members s.unit c 1 s.commons else passed_members s.unit.line taken (found_members c (first_declaring c ps))) (ap (λ z. declares z s) (sym same) ∙ d) ∙ ap (λ z. own_members s.unit z 1 s.commons) (sym same) in
        front_join x first (members_from ps s (member_names first ++ taken) bs) (ap (λ ms. has_name x (member_names ms)) own ∙ h)
    go false e j later = behind_join x first (members_from ps s (member_names first ++ taken) bs) (later (member_names first ++ taken) j)

-- of each unit that is found where it is
pub items_are_members : (ps : List Shared) → Each (λ s. find_shared ps s.unit.name ≡ Some s) ps → Each (λ s. Within (item_names s.commons) (member_names (members ps s))) ps
items_are_members ps found = go ps found (each_declared ps)
  where
    one : (s : Shared) → find_shared ps s.unit.name ≡ Some s → Within (blocks_of s.commons) (all_blocks ps) → Within (item_names s.commons) (member_names (members ps s))
    one s e f x h =
        let b = in_block s.unit s.commons x h in
        let used = chosen_there (uses ps s.unit.name) (blocks ps) b.block (used_there ps s.unit.name b.block s e b.there) (among_some b.block [] (all_blocks ps) refl (f b.block b.there)) in
        from_there ps s b.block x b.there (b.among 1) (taken_in ps s) (used_blocks ps s.unit.name) used

    go : (l : List Shared) → Each (λ s. find_shared ps s.unit.name ≡ Some s) l → Each (λ s. Within (blocks_of s.commons) (all_blocks ps)) l → Each (λ s. Within (item_names s.commons) (member_names (members ps s))) l
    go [] a b = tt
    go (s ∷ l) a b = (one s a.0 b.0, go l a.1 b.1)
