-- What calls pass by tables is what they pass by the definition.
use Rattle.std.proofs.Common.{◌≡◌, ℕ, suc, ◌+◌, Bool, true, false, List, [], ◌∷◌, ◌++◌, length, map, Option, Some, None, is_some, refl, sym, ap, ◌∙◌, arith, append-nil, if◌then◌else◌}
use Rattle.std.specs.Option.{option_or}
use Rattle.adj_tree.specs.Code.{plain, name_eq, var, Terms, none, more, Act, assign, choose, loop, during, call, runtime, Code, stop, step, Procedure}
use Rattle.adj_tree.specs.Listed.{terms_turned}
use Rattle.adj_tree.proofs.Names.{name_refl, name_same}
use Rattle.def_meaning.specs.Apart.{has_name, AreApart}
use Rattle.def_meaning.proofs.Booleans.{or_false}
use Rattle.def_meaning.proofs.Variables.{name_comm}
use Rattle.def_names.specs.Fresh.{fresh}
use Rattle.adj_tree.specs.Common.{Common, Shared}
use Rattle.def_common.specs.Blocks.{declares, first_declaring, blocks, used_blocks}
use Rattle.def_common.specs.Members.{Member, member_names, own_items, own_members, found_members, passed_members, names_of_block, names_of_blocks}
use Rattle.def_common.specs.Lowering.{behind, lowered_act, lowered}
use Rattle.adj_symbols_writes.specs.Table.{value_of, with_value}
use Rattle.adj_common.specs.Texts.{text_blocks, at_place, name_of_block}
use Rattle.adj_common.specs.Members.{entry_names}
use Rattle.adj_common.specs.Handing.{Tables, row_or, group_names, names_for, names_of_row, passed_names, turned_before, turned_rows, handed_act, handed_code}
use Rattle.adj_common.specs.Lowering.{places_from}
use Rattle.adj_common.proofs.Finding.{next}
use Rattle.adj_common.proofs.Blocked.{block_named}
use Rattle.adj_common.proofs.Owned.{bare}
use Rattle.adj_common.proofs.Grouped.{AreNumbers, group_of, groups_of, joined, names_bare}

-- ---- actuals

abbrev onto : Terms → Terms → Terms
onto none rest = rest
onto (more e es) rest = more e (onto es rest)

abbrev vars_onto : List (List ℕ) → Terms → Terms
vars_onto [] rest = rest
vars_onto (x ∷ xs) rest = more (var (plain x)) (vars_onto xs rest)

turned_twice : (es made rest : Terms) → terms_turned (terms_turned es made) rest ≡ terms_turned made (onto es rest)
turned_twice none made rest = refl
turned_twice (more e es) made rest = turned_twice es (more e made) rest

turned_vars : (xs : List (List ℕ)) (es rest : Terms) → terms_turned (turned_before xs es) rest ≡ terms_turned es (vars_onto xs rest)
turned_vars [] es rest = refl
turned_vars (x ∷ xs) es rest = turned_vars xs (more (var (plain x)) es) rest

onto_behind : (es : Terms) (xs : List (List ℕ)) → onto es (vars_onto xs none) ≡ behind es xs
onto_behind none [] = refl
onto_behind none (x ∷ xs) = ap (more (var (plain x))) (onto_behind none xs)
onto_behind (more e es) xs = ap (more e) (onto_behind es xs)

before_append : (xs ys : List (List ℕ)) (es : Terms) → turned_before (xs ++ ys) es ≡ turned_before ys (turned_before xs es)
before_append [] ys es = refl
before_append (x ∷ xs) ys es = before_append xs ys (more (var (plain x)) es)

rows_before : (t : Tables) (bs : List ℕ) (es : Terms) → turned_rows t bs es ≡ turned_before (names_of_row t bs) es
rows_before t [] es = refl
rows_before t (b ∷ bs) es = rows_before t bs (turned_before (names_for t (name_of_block t.text b)) es) ∙ sym (before_append (names_for t (name_of_block t.text b)) (names_of_row t bs) es)

-- actuals turned round, with variables of rows before them, and turned round again
pub rows_behind : (t : Tables) (bs : List ℕ) (es : Terms) → terms_turned (turned_rows t bs (terms_turned es none)) none ≡ behind es (names_of_row t bs)
rows_behind t bs es =
    ap (λ z. terms_turned z none) (rows_before t bs (terms_turned es none))
    ∙ turned_vars (names_of_row t bs) (terms_turned es none) none
    ∙ turned_twice es none (vars_onto (names_of_row t bs) none)
    ∙ onto_behind es (names_of_row t bs)

-- ---- statements

module _ (ps : List Shared) (ms : List Member) (f : List ℕ → List (List ℕ)) (h : (name : List ℕ) → f name ≡ names_of_blocks ms (used_blocks ps name)) where
  mutual
    act_same : (a : Act) → handed_act f a ≡ lowered_act ps ms a
    act_same (assign x subs e) = refl
    act_same (choose c a b) = λ i. choose c (code_same a i) (code_same b i)
    act_same (loop x first last by body m) = λ i. loop x first last by (code_same body i) m
    act_same (during c body) = ap (during c) (code_same body)
    act_same (call name args) = ap (λ l. call name (behind args l)) (h name)
    act_same (runtime r) = refl

    pub code_same : (c : Code) → handed_code f c ≡ lowered ps ms c
    code_same stop = refl
    code_same (step line a rest) = λ i. step line (act_same a i) (code_same rest i)

-- ---- numbers of names

value_push : (es : List (List ℕ × ℕ)) (b : List ℕ) (n : ℕ) (c : List ℕ) → value_of c (es ++ (b, n) ∷ []) ≡ option_or (value_of c es) (if name_eq c b then Some n else None)
value_push [] b n c = refl
value_push (e ∷ es) b n c = go (name_eq c e.0) (value_push es b n c)
  where
    go : (p : Bool) → value_of c (es ++ (b, n) ∷ []) ≡ option_or (value_of c es) (if name_eq c b then Some n else None) → (if p then Some e.1 else value_of c (es ++ (b, n) ∷ [])) ≡ option_or (if p then Some e.1 else value_of c es) (if name_eq c b then Some n else None)
    go true h = refl
    go false h = h

or_none : (o : Option ℕ) → option_or o None ≡ o
or_none None = refl
or_none (Some n) = refl

or_assoc : (a b c : Option ℕ) → option_or (option_or a b) c ≡ option_or a (option_or b c)
or_assoc None b c = refl
or_assoc (Some n) b c = refl

pub value_more : (es : List (List ℕ × ℕ)) (b : List ℕ) (n : ℕ) (c : List ℕ) → value_of c (with_value es b n) ≡ option_or (value_of c es) (if name_eq c b then Some n else None)
value_more es b n c = go (is_some (value_of b es)) refl (name_eq c b) refl
  where
    known : (o : Option ℕ) → is_some o ≡ true → o ≡ option_or o (Some n)
    known None e = cc
    known (Some m) e = refl

    go : (p : Bool) → is_some (value_of b es) ≡ p → (q : Bool) → name_eq c b ≡ q → value_of c (if p then es else es ++ (b, n) ∷ []) ≡ option_or (value_of c es) (if q then Some n else None)
    go true e true d = known (value_of c es) (ap (λ z. is_some (value_of z es)) (name_same c b d) ∙ e)
    go true e false d = sym (or_none (value_of c es))
    go false e q d = value_push es b n c ∙ ap (λ z. option_or (value_of c es) (if z then Some n else None)) d

-- the place of a name among some
abbrev pub index : List (List ℕ) → List ℕ → Option ℕ
index [] c = None
index (b ∷ bs) c = if name_eq c b then Some 0 else next (index bs c)

abbrev pub moved : ℕ → Option ℕ → Option ℕ
moved k None = None
moved k (Some n) = Some (n + k)

moved_next : (k : ℕ) (o : Option ℕ) → moved (k + 1) o ≡ moved k (next o)
moved_next k None = refl
moved_next k (Some n) = let e : n + (k + 1) ≡ suc n + k = omega arith in ap Some e

pub moved_none : (o : Option ℕ) → moved 0 o ≡ o
moved_none None = refl
moved_none (Some n) = let e : n + 0 ≡ n = omega arith in ap Some e

moved_step : (k : ℕ) (p : Bool) (o : Option ℕ) → option_or (if p then Some k else None) (moved (k + 1) o) ≡ moved k (if p then Some 0 else next o)
moved_step k true o = let e : k ≡ 0 + k = omega arith in ap Some e
moved_step k false o = moved_next k o

module _ (ps : List Shared) where
  places_index : (es : List (List ℕ × ℕ)) (k : ℕ) (row : List ℕ) (bs : List (List ℕ)) → AreNumbers (blocks ps) row bs → (c : List ℕ) → value_of c (places_from (text_blocks ps) es k row) ≡ option_or (value_of c es) (moved k (index bs c))
  places_index es k [] [] n c = sym (or_none (value_of c es))
  places_index es k [] (b ∷ bs) n c = absurd n
  places_index es k (r ∷ row) [] n c = absurd n
  places_index es k (r ∷ row) (b ∷ bs) n c =
      ap (λ o. value_of c (places_from (text_blocks ps) (named o) (k + 1) row)) (block_named ps r ∙ n.0)
      ∙ places_index (with_value es b k) (k + 1) row bs n.1 c
      ∙ ap (λ o. option_or o (moved (k + 1) (index bs c))) (value_more es b k c)
      ∙ or_assoc (value_of c es) (if name_eq c b then Some k else None) (moved (k + 1) (index bs c))
      ∙ ap (option_or (value_of c es)) (moved_step k (name_eq c b) (index bs c))
    where
      named : Option (List ℕ) → List (List ℕ × ℕ)
      named None = es
      named (Some x) = with_value es x k

  pub places_are : (row : List ℕ) (bs : List (List ℕ)) → AreNumbers (blocks ps) row bs → (c : List ℕ) → value_of c (places_from (text_blocks ps) [] 0 row) ≡ index bs c
  places_are row bs n c = places_index [] 0 row bs n c ∙ moved_none (index bs c)

-- ---- members of one block

abbrev IsIn : List ℕ → List Member → Type 0
IsIn b [] = Unit {0}
IsIn b (m ∷ ms) = (m.block ≡ b) × IsIn b ms

in_append : (b : List ℕ) (l k : List Member) → IsIn b l → IsIn b k → IsIn b (l ++ k)
in_append b [] k h g = g
in_append b (m ∷ l) k h g = (h.0, in_append b l k h.1 g)

items_in : (u : Procedure) (b : List ℕ) (line i : ℕ) (ds : List _) → IsIn b (own_items u b line i ds)
items_in u b line i [] = tt
items_in u b line i (d ∷ ds) = (refl, items_in u b line (suc i) ds)

own_in : (u : Procedure) (b : List ℕ) (i : ℕ) (cs : List Common) → IsIn b (own_members u b i cs)
own_in u b i [] = tt
own_in u b i (c ∷ cs) = go (name_eq c.block b) (own_in u b (i + length c.items) cs) (own_in u b i cs)
  where
    go : (p : Bool) → IsIn b (own_members u b (i + length c.items) cs) → IsIn b (own_members u b i cs) → IsIn b (if p then own_items u b c.line i c.items ++ own_members u b (i + length c.items) cs else own_members u b i cs)
    go true h k = in_append b (own_items u b c.line i c.items) (own_members u b (i + length c.items) cs) (items_in u b c.line i c.items) h
    go false h k = k

found_in : (b : List ℕ) (o : Option Shared) → IsIn b (found_members b o)
found_in b None = tt
found_in b (Some s) = own_in s.unit b 1 s.commons

passed_in : (b : List ℕ) (line : ℕ) (taken : List (List ℕ)) (ms : List Member) → IsIn b ms → IsIn b (passed_members line taken ms)
passed_in b line taken [] h = tt
passed_in b line taken (m ∷ ms) h = (h.0, passed_in b line (fresh m.name taken ∷ taken) ms h.1)

group_in : (ps : List Shared) (s : Shared) (taken : List (List ℕ)) (b : List ℕ) → IsIn b (group_of ps s taken b)
group_in ps s taken b = go (declares b s)
  where
    go : (p : Bool) → IsIn b (if p then own_members s.unit b 1 s.commons else passed_members s.unit.line taken (found_members b (first_declaring b ps)))
    go true = own_in s.unit b 1 s.commons
    go false = passed_in b s.unit.line taken (found_members b (first_declaring b ps)) (found_in b (first_declaring b ps))

names_append : (b : List ℕ) (l k : List Member) → names_of_block b (l ++ k) ≡ names_of_block b l ++ names_of_block b k
names_append b [] k = refl
names_append b (m ∷ l) k = go (name_eq m.block b) (names_append b l k)
  where
    go : (p : Bool) → names_of_block b (l ++ k) ≡ names_of_block b l ++ names_of_block b k → (if p then m.name ∷ names_of_block b (l ++ k) else names_of_block b (l ++ k)) ≡ (if p then m.name ∷ names_of_block b l else names_of_block b l) ++ names_of_block b k
    go true h = ap (λ z. m.name ∷ z) h
    go false h = h

names_all : (b : List ℕ) (l : List Member) → IsIn b l → names_of_block b l ≡ member_names l
names_all b [] h = refl
names_all b (m ∷ l) h = ap (λ p. if p then m.name ∷ names_of_block b l else names_of_block b l) (ap (λ z. name_eq z b) h.0 ∙ name_refl b) ∙ ap (λ z. m.name ∷ z) (names_all b l h.1)

names_other : (b c : List ℕ) → name_eq c b ≡ false → (l : List Member) → IsIn c l → names_of_block b l ≡ []
names_other b c e [] h = refl
names_other b c e (m ∷ l) h = ap (λ p. if p then m.name ∷ names_of_block b l else names_of_block b l) (ap (λ z. name_eq z b) h.0 ∙ e) ∙ names_other b c e l h.1

-- ---- the tables of a unit

module _ (ps : List Shared) (s : Shared) where
  none_of : (c : List ℕ) (taken bs : List (List ℕ)) → has_name c bs ≡ false → names_of_block c (joined (groups_of ps s taken bs)) ≡ []
  none_of c taken [] h = refl
  none_of c taken (b ∷ bs) h =
      let p = or_false (name_eq c b) (has_name c bs) h in
      let g = group_of ps s taken b in
      names_append c g (joined (groups_of ps s (member_names g ++ taken) bs))
      ∙ (λ i. names_other c b (name_comm c b p.0) g (group_in ps s taken b) i ++ none_of c (member_names g ++ taken) bs p.1 i)

  at_next : {A : Type 0} (a : A) (l : List A) (o : Option ℕ) → at_place (a ∷ l) (next o) ≡ at_place l o
  at_next a l None = refl
  at_next a l (Some n) = refl

  group_at : (c : List ℕ) (taken bs : List (List ℕ)) → AreApart bs → row_or (at_place (map entry_names (map (map bare) (groups_of ps s taken bs))) (index bs c)) ≡ names_of_block c (joined (groups_of ps s taken bs))
  group_at c taken [] a = refl
  group_at c taken (b ∷ bs) a =
      go (name_eq c b) refl (group_at c (member_names g ++ taken) bs a.1) ∙ sym (names_append c g (joined (groups_of ps s (member_names g ++ taken) bs)))
    where
      g : List Member
      g = group_of ps s taken b

      go : (p : Bool) → name_eq c b ≡ p → row_or (at_place (map entry_names (map (map bare) (groups_of ps s (member_names g ++ taken) bs))) (index bs c)) ≡ names_of_block c (joined (groups_of ps s (member_names g ++ taken) bs)) →
          row_or (at_place (entry_names (map bare g) ∷ map entry_names (map (map bare) (groups_of ps s (member_names g ++ taken) bs))) (if p then Some 0 else next (index bs c))) ≡ names_of_block c g ++ names_of_block c (joined (groups_of ps s (member_names g ++ taken) bs))
      go true e r =
          let same : c ≡ b = name_same c b e in
          names_bare g ∙ sym (append-nil (member_names g))
          ∙ (λ i. sym (ap (λ z. names_of_block z g) same ∙ names_all b g (group_in ps s taken b)) i ++ sym (none_of c (member_names g ++ taken) bs (ap (λ z. has_name z bs) same ∙ a.0)) i)
      go false e r =
          ap row_or (at_next (entry_names (map bare g)) (map entry_names (map (map bare) (groups_of ps s (member_names g ++ taken) bs))) (index bs c))
          ∙ r ∙ ap (λ l. l ++ names_of_block c (joined (groups_of ps s (member_names g ++ taken) bs))) (sym (names_other c b (name_comm c b e) g (group_in ps s taken b)))

  -- what is passed for some blocks
  rows_passed : (t : Tables) → t.text ≡ text_blocks ps → (ms : List Member) → ((c : List ℕ) → group_names t c ≡ names_of_block c ms) → (row : List ℕ) (bs : List (List ℕ)) → AreNumbers (blocks ps) row bs → names_of_row t row ≡ names_of_blocks ms bs
  rows_passed t e ms h [] [] n = refl
  rows_passed t e ms h [] (b ∷ bs) n = absurd n
  rows_passed t e ms h (k ∷ row) [] n = absurd n
  rows_passed t e ms h (k ∷ row) (b ∷ bs) n =
      λ i. (ap (names_for t) (ap (λ z. name_of_block z k) e ∙ block_named ps k ∙ n.0) ∙ h b) i ++ rows_passed t e ms h row bs n.1 i

  pub calls_pass : (taken bs : List (List ℕ)) → AreApart bs → (row : List ℕ) → AreNumbers (blocks ps) row bs → (units : List (List ℕ × ℕ)) (used : List (List ℕ)) →
      ((name : List ℕ) → AreNumbers (blocks ps) (row_or (at_place used (value_of name units))) (used_blocks ps name)) →
      (name : List ℕ) → passed_names (record { groups = places_from (text_blocks ps) [] 0 row; names = map entry_names (map (map bare) (groups_of ps s taken bs)); text = text_blocks ps; units = units; used = used }) name ≡ names_of_blocks (joined (groups_of ps s taken bs)) (used_blocks ps name)
  calls_pass taken bs a row n units used h name =
      rows_passed (record { groups = places_from (text_blocks ps) [] 0 row; names = map entry_names (map (map bare) (groups_of ps s taken bs)); text = text_blocks ps; units = units; used = used }) refl (joined (groups_of ps s taken bs))
      (λ c. ap (λ o. row_or (at_place (map entry_names (map (map bare) (groups_of ps s taken bs))) o)) (places_are ps row bs n c) ∙ group_at c taken bs a)
      (row_or (at_place used (value_of name units))) (used_blocks ps name) (h name)
