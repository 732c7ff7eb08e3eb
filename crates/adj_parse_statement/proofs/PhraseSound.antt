-- PhraseSound: what is read of a statement is what its lexemes say.
use Rattle.std.proofs.Common.{◌≡◌, ◌≤◌, Bool, true, false, cond, ℕ, zero, suc, List, [], ◌∷◌, ◌++◌, length, Option, Some, None, option_map, IfSome, refl, sym, ap, ◌∙◌, subst, append_assoc, append-nil, arith}
use Rattle.def_text.proofs.Unique.{itself_derived}
use Rattle.def_text.specs.Condition.{Condition, Whole, DerivesCondition}
use Rattle.def_text.specs.Form.{subroutine}
use Rattle.def_text.specs.Grammar.{Syntax, Arguments, only, beside, count_of, Sum, Derives, DerivesAll, single, another}
use Rattle.def_text.specs.Statement.{ReadsNames, ReadsHead}
use Rattle.def_text.specs.Statement as statement
use Rattle.def_text.specs.Lexeme.{Lexeme, Named, Digits, Mark}
use Rattle.def_text.specs.declared.stated.Kind.{Kind}
use Rattle.def_text.specs.declared.stated.Kind.TheVariants as kind
use Rattle.def_text.specs.declared.token.TokenKind.TheVariants.{Slash, Left, Right, Comma, Equals, Call}
use Rattle.adj_parse_expression.proofs.ConditionUnique.{test_itself_derived}
use Rattle.adj_parse_expression.specs.Reading.{read_expression, read_condition}
use Rattle.adj_parse_statement.specs.Phrase.{Entry, Deed, assigns, calls, Size, numbered, named, Declared, Bounds, are_numbered, Phrase, plainly, declares, shares, does, guards, repeats, goes_while, opens, turns, SaysPlace, SaysAssignment, SaysCall, SaysSize, SaysItem, SaysItems, SaysCommon, SaysBounds, by_one, by_step, SaysDo, SaysGuard, guard, SaysGuarded, Says}
use Rattle.adj_parse_statement.specs.Phrase as says
use Rattle.adj_parse_statement.specs.Phrases.{Read, ◌>>=◌, name_at, behind_right, behind_comma, behind_equals, ended, members, members_behind, with_last, read_arguments, second_subscript, read_subscripts, read_place, read_assignment, actuals_in, read_actuals, read_call, read_names, dummies_in, read_dummies, read_head, size_at, second_size, read_sizes, read_item, read_items, sharing, read_common, read_step, read_bounds, read_label, read_do, read_guard, read_guarded, read_logical, read_test, phrase_of}

-- expressions separated by commas
members_derived : (n : ℕ) (ws us : List Lexeme) (front : Arguments) → DerivesAll ws us front → IfSome (members beside read_expression n front us) (λ r. DerivesAll ws r.1 r.0)
unfolding members
members_derived zero ws us front h = h
members_derived (suc n) ws [] front h = h
members_derived (suc n) ws (Mark Comma ∷ vs) front h =
    elim (read_expression vs) as (λ (o : Read Syntax). IfSome o (λ r. Derives Sum vs r.1 r.0) → IfSome (o >>= λ r. members beside read_expression n (beside front r.0) r.1) (λ r. DerivesAll ws r.1 r.0)) [
      | None ↦ λ d. tt
      | Some r ↦ λ d. members_derived n ws r.1 (beside front r.0) (another h d)
    ] (itself_derived vs)
members_derived (suc n) ws (w ∷ us) front h = h

arguments_derived : (ws : List Lexeme) → IfSome (read_arguments ws) (λ r. DerivesAll ws r.1 r.0)
unfolding read_arguments members_behind
arguments_derived ws = go (read_expression ws) (itself_derived ws)
  where
    go : (o : Read Syntax) → IfSome o (λ r. Derives Sum ws r.1 r.0) → IfSome (o >>= λ s. members beside read_expression (length s.1) (only s.0) s.1) (λ r. DerivesAll ws r.1 r.0)
    go None d = tt
    go (Some r) d = members_derived (length r.1) ws r.1 (only r.0) (single d)

-- one or two
subscripts_derived : (ws : List Lexeme) → IfSome (read_subscripts ws) (λ r. DerivesAll ws r.1 r.0 × (count_of r.0 ≤ 2))
unfolding read_subscripts
subscripts_derived ws = first (read_expression ws) (itself_derived ws)
  where
    second : (a : Syntax) (us : List Lexeme) → Derives Sum ws (Mark Comma ∷ us) a → (o : Read Syntax) → IfSome o (λ r. Derives Sum us r.1 r.0) → IfSome {T = Arguments × List Lexeme} (option_map (λ b. (beside (only a) b.0, b.1)) o) (λ r. DerivesAll ws r.1 r.0 × (count_of r.0 ≤ 2))
    second a us d None e = tt
    second a us d (Some b) e = (another (single d) e, omega arith)

    behind : (a : Syntax) (rest : List Lexeme) → Derives Sum ws rest a → IfSome (second_subscript a rest (behind_comma rest)) (λ r. DerivesAll ws r.1 r.0 × (count_of r.0 ≤ 2))
    behind a [] d = (single d, omega arith)
    behind a (Mark Comma ∷ us) d = second a us d (read_expression us) (itself_derived us)
    behind a (w ∷ us) d = (single d, omega arith)

    first : (o : Read Syntax) → IfSome o (λ r. Derives Sum ws r.1 r.0) → IfSome (o >>= λ a. second_subscript a.0 a.1 (behind_comma a.1)) (λ r. DerivesAll ws r.1 r.0 × (count_of r.0 ≤ 2))
    first None d = tt
    first (Some a) d = behind a.0 a.1 d

place_said : (ws : List Lexeme) → IfSome (read_place ws) (λ r. SaysPlace ws r.1 r.0)
unfolding read_place
place_said [] = tt
place_said (Named x ∷ Mark Left ∷ ts) = inner (read_subscripts ts) (subscripts_derived ts)
  where
    closed : (s : Arguments) (rest : List Lexeme) → DerivesAll ts rest s → count_of s ≤ 2 → IfSome {T = Entry × List Lexeme} (behind_right rest >>= λ us. Some (record { name = x; list = Some s }, us)) (λ r. SaysPlace (Named x ∷ Mark Left ∷ ts) r.1 r.0)
    closed s [] d n = tt
    closed s (Mark Right ∷ us) d n = says.element d n
    closed s (w ∷ us) d n = tt

    inner : (o : Read Arguments) → IfSome o (λ r. DerivesAll ts r.1 r.0 × (count_of r.0 ≤ 2)) → IfSome {T = Entry × List Lexeme} (o >>= λ s. behind_right s.1 >>= λ us. Some (record { name = x; list = Some s.0 }, us)) (λ r. SaysPlace (Named x ∷ Mark Left ∷ ts) r.1 r.0)
    inner None d = tt
    inner (Some s) d = closed s.0 s.1 d.0 d.1
place_said (Named x ∷ rest) = says.SaysPlace.scalar
place_said (w ∷ ws) = tt

assignment_said : (ws : List Lexeme) → IfSome (read_assignment ws) (SaysAssignment ws)
unfolding read_assignment
assignment_said ws = first (read_place ws) (place_said ws)
  where
    whole : (us : List Lexeme) (p : Entry) → SaysPlace ws (Mark Equals ∷ us) p → (e : Syntax) (rest : List Lexeme) → Derives Sum us rest e → IfSome (ended (assigns p e) rest) (SaysAssignment ws)
    whole us p h e [] d = says.assignment h d
    whole us p h e (w ∷ rest) d = tt

    value : (us : List Lexeme) (p : Entry) → SaysPlace ws (Mark Equals ∷ us) p → (o : Read Syntax) → IfSome o (λ r. Derives Sum us r.1 r.0) → IfSome (o >>= λ e. ended (assigns p e.0) e.1) (SaysAssignment ws)
    value us p h None d = tt
    value us p h (Some e) d = whole us p h e.0 e.1 d

    behind : (p : Entry) (rest : List Lexeme) → SaysPlace ws rest p → IfSome (behind_equals rest >>= λ us. read_expression us >>= λ e. ended (assigns p e.0) e.1) (SaysAssignment ws)
    behind p [] h = tt
    behind p (Mark Equals ∷ us) h = value us p h (read_expression us) (itself_derived us)
    behind p (w ∷ us) h = tt

    first : (o : Read Entry) → IfSome o (λ r. SaysPlace ws r.1 r.0) → IfSome (o >>= λ p. behind_equals p.1 >>= λ us. read_expression us >>= λ e. ended (assigns p.0 e.0) e.1) (SaysAssignment ws)
    first None h = tt
    first (Some p) h = behind p.0 p.1 h

closed_by : (us rest : List Lexeme) → behind_right us ≡ Some rest → us ≡ Mark Right ∷ rest
closed_by [] rest e = absurd cc
closed_by (Mark Right ∷ us) rest e = let k : us ≡ rest = cc in ap (λ l. Mark Right ∷ l) k
closed_by (w ∷ us) rest e = absurd cc

call_said : (ws : List Lexeme) → IfSome (read_call ws) (SaysCall ws)
unfolding read_call read_actuals
call_said [] = tt
call_said (Named x ∷ []) = says.alone
call_said (Named x ∷ Mark Left ∷ ts) = closed (behind_right ts) refl
  where
    whole : (all : Arguments) (rest : List Lexeme) → DerivesAll ts (Mark Right ∷ rest) all → IfSome (ended (Some all) rest >>= λ l. Some (calls (record { name = x; list = l }))) (SaysCall (Named x ∷ Mark Left ∷ ts))
    whole all [] d = says.actuals d
    whole all (w ∷ rest) d = tt

    last : (all : Arguments) (rest : List Lexeme) → DerivesAll ts rest all → IfSome ((behind_right rest >>= λ us. ended (Some all) us) >>= λ l. Some (calls (record { name = x; list = l }))) (SaysCall (Named x ∷ Mark Left ∷ ts))
    last all [] d = tt
    last all (Mark Right ∷ us) d = whole all us d
    last all (w ∷ us) d = tt

    inner : (o : Read Arguments) → IfSome o (λ r. DerivesAll ts r.1 r.0) → IfSome ((o >>= λ all. behind_right all.1 >>= λ us. ended (Some all.0) us) >>= λ l. Some (calls (record { name = x; list = l }))) (SaysCall (Named x ∷ Mark Left ∷ ts))
    inner None d = tt
    inner (Some all) d = last all.0 all.1 d

    empty : (rest : List Lexeme) → ts ≡ Mark Right ∷ rest → IfSome (ended None rest >>= λ l. Some (calls (record { name = x; list = l }))) (SaysCall (Named x ∷ Mark Left ∷ ts))
    empty [] e = subst (λ us. SaysCall (Named x ∷ Mark Left ∷ us) (calls (record { name = x; list = None }))) (sym e) says.empty
    empty (w ∷ rest) e = tt

    closed : (o : Option (List Lexeme)) → behind_right ts ≡ o → IfSome (actuals_in ts o >>= λ l. Some (calls (record { name = x; list = l }))) (SaysCall (Named x ∷ Mark Left ∷ ts))
    closed None e = inner (read_arguments ts) (arguments_derived ts)
    closed (Some rest) e = empty rest (closed_by ts rest e)
call_said (Named x ∷ w ∷ ws) = tt
call_said (w ∷ ws) = tt

-- members separated by commas, each behind its comma
data Follows {A : Type 0} (Is : List Lexeme → List Lexeme → A → Type 0) : List Lexeme → List Lexeme → List A → Type 0 where
  none : {rest : List Lexeme} → Follows Is rest rest []
  next : {ts us rest : List Lexeme} {x : A} {xs : List A} → Is ts us x → Follows Is us rest xs → Follows Is (Mark Comma ∷ ts) rest (x ∷ xs)

members_follow : {A : Type 0} (Is : List Lexeme → List Lexeme → A → Type 0) (reader : List Lexeme → Read A) → ((ws : List Lexeme) → IfSome (reader ws) (λ r. Is ws r.1 r.0)) → (n : ℕ) (before : List A) (ws : List Lexeme) → IfSome (members with_last reader n before ws) (λ r. (xs : List A) × Follows Is ws r.1 xs × (r.0 ≡ before ++ xs))
unfolding members
members_follow Is reader sound zero before ws = ([], none, sym (append-nil before))
members_follow Is reader sound (suc n) before [] = ([], none, sym (append-nil before))
members_follow {A} Is reader sound (suc n) before (Mark Comma ∷ us) = first (reader us) (sound us) (λ r. members_follow Is reader sound n (before ++ r.0 ∷ []) r.1)
  where
    longer : (m : A × List Lexeme) → Is us m.1 m.0 → (r : List A × List Lexeme) → ((xs : List A) × Follows Is m.1 r.1 xs × (r.0 ≡ (before ++ m.0 ∷ []) ++ xs)) → (xs : List A) × Follows Is (Mark Comma ∷ us) r.1 xs × (r.0 ≡ before ++ xs)
    longer m h r k = (m.0 ∷ k.0, next h k.1, k.2 ∙ append_assoc before (m.0 ∷ []) k.0)

    all : (m : A × List Lexeme) → Is us m.1 m.0 → (o : Read (List A)) → IfSome o (λ r. (xs : List A) × Follows Is m.1 r.1 xs × (r.0 ≡ (before ++ m.0 ∷ []) ++ xs)) → IfSome o (λ r. (xs : List A) × Follows Is (Mark Comma ∷ us) r.1 xs × (r.0 ≡ before ++ xs))
    all m h None k = tt
    all m h (Some r) k = longer m h r k

    first : (o : Read A) → IfSome o (λ r. Is us r.1 r.0) → ((r : A × List Lexeme) → IfSome (members with_last reader n (before ++ r.0 ∷ []) r.1) (λ q. (xs : List A) × Follows Is r.1 q.1 xs × (q.0 ≡ (before ++ r.0 ∷ []) ++ xs))) → IfSome (o >>= λ r. members with_last reader n (before ++ r.0 ∷ []) r.1) (λ q. (xs : List A) × Follows Is (Mark Comma ∷ us) q.1 xs × (q.0 ≡ before ++ xs))
    first None h k = tt
    first (Some m) h k = all m h (members with_last reader n (before ++ m.0 ∷ []) m.1) (k m)
members_follow Is reader sound (suc n) before (w ∷ ws) = ([], none, sym (append-nil before))

-- names
data IsName : List Lexeme → List Lexeme → List ℕ → Type 0 where
  name : {x : List ℕ} {rest : List Lexeme} → IsName (Named x ∷ rest) rest x

name_said : (ws : List Lexeme) → IfSome (name_at ws) (λ r. IsName ws r.1 r.0)
name_said [] = tt
name_said (Named x ∷ ws) = name
name_said (w ∷ ws) = tt

names_follow : {us rest : List Lexeme} {xs : List (List ℕ)} (x : List ℕ) → Follows IsName us rest xs → ReadsNames (Named x ∷ us) rest (x ∷ xs)
names_follow x none = statement.last
names_follow x (next (name {x = y}) f) = statement.another (names_follow y f)

names_said : (ws : List Lexeme) → IfSome (read_names ws) (λ r. ReadsNames ws r.1 r.0)
unfolding read_names members_behind
names_said [] = tt
names_said (Named x ∷ us) = go (members with_last name_at (length us) (x ∷ []) us) (members_follow IsName name_at name_said (length us) (x ∷ []) us)
  where
    go : (o : Read (List (List ℕ))) → IfSome o (λ r. (xs : List (List ℕ)) × Follows IsName us r.1 xs × (r.0 ≡ (x ∷ []) ++ xs)) → IfSome o (λ r. ReadsNames (Named x ∷ us) r.1 r.0)
    go None h = tt
    go (Some r) h = subst (λ xs. ReadsNames (Named x ∷ us) r.1 xs) (sym h.2) (names_follow x h.1)
names_said (w ∷ ws) = tt

head_said : (ws : List Lexeme) → IfSome (option_map plainly (read_head ws)) (Says kind.Subroutine ws)
unfolding read_head read_dummies
head_said [] = tt
head_said (Named x ∷ []) = says.Says.heading statement.alone
head_said (Named x ∷ Mark Left ∷ ts) = closed (behind_right ts) refl
  where
    whole : (xs : List (List ℕ)) (rest : List Lexeme) → ReadsNames ts (Mark Right ∷ rest) xs → IfSome (option_map plainly (ended xs rest >>= λ l. Some (subroutine x l))) (Says kind.Subroutine (Named x ∷ Mark Left ∷ ts))
    whole xs [] d = says.Says.heading (statement.dummies d)
    whole xs (w ∷ rest) d = tt

    last : (xs : List (List ℕ)) (rest : List Lexeme) → ReadsNames ts rest xs → IfSome (option_map plainly ((behind_right rest >>= λ us. ended xs us) >>= λ l. Some (subroutine x l))) (Says kind.Subroutine (Named x ∷ Mark Left ∷ ts))
    last xs [] d = tt
    last xs (Mark Right ∷ us) d = whole xs us d
    last xs (w ∷ us) d = tt

    inner : (o : Read (List (List ℕ))) → IfSome o (λ r. ReadsNames ts r.1 r.0) → IfSome (option_map plainly ((o >>= λ all. behind_right all.1 >>= λ us. ended all.0 us) >>= λ l. Some (subroutine x l))) (Says kind.Subroutine (Named x ∷ Mark Left ∷ ts))
    inner None d = tt
    inner (Some all) d = last all.0 all.1 d

    empty : (rest : List Lexeme) → ts ≡ Mark Right ∷ rest → IfSome (option_map plainly (ended [] rest >>= λ l. Some (subroutine x l))) (Says kind.Subroutine (Named x ∷ Mark Left ∷ ts))
    empty [] e = says.Says.heading (subst (λ us. ReadsHead (Named x ∷ Mark Left ∷ us) x []) (sym e) statement.empty)
    empty (w ∷ rest) e = tt

    closed : (o : Option (List Lexeme)) → behind_right ts ≡ o → IfSome (option_map plainly (dummies_in ts o >>= λ l. Some (subroutine x l))) (Says kind.Subroutine (Named x ∷ Mark Left ∷ ts))
    closed None e = inner (read_names ts) (names_said ts)
    closed (Some rest) e = empty rest (closed_by ts rest e)
head_said (Named x ∷ w ∷ ws) = tt
head_said (w ∷ ws) = tt

-- items
size_said : (ws : List Lexeme) → IfSome (size_at ws) (λ r. SaysSize ws r.1 r.0)
unfolding size_at
size_said [] = tt
size_said (Digits ds ∷ ws) = says.literal
size_said (Named x ∷ ws) = says.name
size_said (Mark k ∷ ws) = tt

item_said : (ws : List Lexeme) → IfSome (read_item ws) (λ r. SaysItem ws r.1 r.0)
unfolding read_item read_sizes
item_said [] = tt
item_said (Named x ∷ Mark Left ∷ ts) = first (size_at ts) (size_said ts)
  where
    two : (a b : Size) (us rest : List Lexeme) → SaysSize ts (Mark Comma ∷ us) a → SaysSize us rest b → IfSome {T = Declared × List Lexeme} (behind_right rest >>= λ vs. Some (record { name = x; sizes = a ∷ b ∷ [] }, vs)) (λ r. SaysItem (Named x ∷ Mark Left ∷ ts) r.1 r.0)
    two a b us [] d e = tt
    two a b us (Mark Right ∷ vs) d e = says.table d e
    two a b us (w ∷ vs) d e = tt

    second : (a : Size) (us : List Lexeme) → SaysSize ts (Mark Comma ∷ us) a → (o : Read Size) → IfSome o (λ r. SaysSize us r.1 r.0) → IfSome {T = Declared × List Lexeme} (option_map {U = List Size × List Lexeme} (λ b. (a ∷ b.0 ∷ [], b.1)) o >>= λ s. behind_right s.1 >>= λ vs. Some (record { name = x; sizes = s.0 }, vs)) (λ r. SaysItem (Named x ∷ Mark Left ∷ ts) r.1 r.0)
    second a us d None e = tt
    second a us d (Some b) e = two a b.0 us b.1 d e

    behind : (a : Size) (rest : List Lexeme) → SaysSize ts rest a → IfSome {T = Declared × List Lexeme} (second_size a rest (behind_comma rest) >>= λ s. behind_right s.1 >>= λ vs. Some (record { name = x; sizes = s.0 }, vs)) (λ r. SaysItem (Named x ∷ Mark Left ∷ ts) r.1 r.0)
    behind a [] d = tt
    behind a (Mark Comma ∷ us) d = second a us d (size_at us) (size_said us)
    behind a (Mark Right ∷ us) d = says.row d
    behind a (w ∷ us) d = tt

    first : (o : Read Size) → IfSome o (λ r. SaysSize ts r.1 r.0) → IfSome {T = Declared × List Lexeme} ((o >>= λ a. second_size a.0 a.1 (behind_comma a.1)) >>= λ s. behind_right s.1 >>= λ vs. Some (record { name = x; sizes = s.0 }, vs)) (λ r. SaysItem (Named x ∷ Mark Left ∷ ts) r.1 r.0)
    first None d = tt
    first (Some a) d = behind a.0 a.1 d
item_said (Named x ∷ rest) = says.SaysItem.scalar
item_said (w ∷ ws) = tt

items_follow : {ts us : List Lexeme} {is : List Declared} (i : Declared) → Follows SaysItem us [] is → SaysItem ts us i → SaysItems ts (i ∷ is)
items_follow i none h = says.SaysItems.last h
items_follow i (next {x = j} k f) h = says.SaysItems.another h (items_follow j f k)

pub items_said : (ws : List Lexeme) → IfSome (read_items ws) (SaysItems ws)
unfolding read_items members_behind
items_said ws = first (read_item ws) (item_said ws)
  where
    whole : (i : Declared) (us : List Lexeme) → SaysItem ws us i → (is : List Declared) (rest : List Lexeme) → ((xs : List Declared) × Follows SaysItem us rest xs × (is ≡ (i ∷ []) ++ xs)) → IfSome (ended is rest) (SaysItems ws)
    whole i us h is [] f = subst (SaysItems ws) (sym f.2) (items_follow i f.1 h)
    whole i us h is (w ∷ rest) f = tt

    all : (i : Declared) (us : List Lexeme) → SaysItem ws us i → (o : Read (List Declared)) → IfSome o (λ r. (xs : List Declared) × Follows SaysItem us r.1 xs × (r.0 ≡ (i ∷ []) ++ xs)) → IfSome (o >>= λ r. ended r.0 r.1) (SaysItems ws)
    all i us h None f = tt
    all i us h (Some r) f = whole i us h r.0 r.1 f

    first : (o : Read Declared) → IfSome o (λ r. SaysItem ws r.1 r.0) → IfSome (o >>= λ i. members with_last read_item (length i.1) (i.0 ∷ []) i.1 >>= λ r. ended r.0 r.1) (SaysItems ws)
    first None h = tt
    first (Some i) h = all i.0 i.1 h (members with_last read_item (length i.1) (i.0 ∷ []) i.1) (members_follow SaysItem read_item item_said (length i.1) (i.0 ∷ []) i.1)

-- the items of a block
common_said : (ws : List Lexeme) → IfSome (read_common ws) (λ p. SaysCommon ws p.0 p.1)
unfolding read_common
common_said [] = tt
common_said (Mark Slash ∷ Named b ∷ Mark Slash ∷ ts) = all (read_items ts) (items_said ts)
  where
    chosen : (is : List Declared) → SaysItems ts is → (n : Bool) → are_numbered is ≡ n → IfSome {T = List ℕ × List Declared} (cond n (Some (b, is)) None) (λ p. SaysCommon (Mark Slash ∷ Named b ∷ Mark Slash ∷ ts) p.0 p.1)
    chosen is h true e = says.SaysCommon.block h e
    chosen is h false e = tt

    all : (o : Option (List Declared)) → IfSome o (SaysItems ts) → IfSome (o >>= sharing b) (λ p. SaysCommon (Mark Slash ∷ Named b ∷ Mark Slash ∷ ts) p.0 p.1)
    all None h = tt
    all (Some is) h = chosen is h (are_numbered is) refl
common_said (Mark Slash ∷ Named b ∷ w ∷ ts) = tt
common_said (Mark Slash ∷ Named b ∷ []) = tt
common_said (Mark Slash ∷ w ∷ ts) = tt
common_said (Mark Slash ∷ []) = tt
common_said (w ∷ ts) = tt

-- loops
bounds_said : (ws : List Lexeme) → IfSome (read_bounds ws) (SaysBounds ws)
unfolding read_bounds read_step
bounds_said [] = tt
bounds_said (Named x ∷ Mark Equals ∷ ts) = begun (read_expression ts) (itself_derived ts)
  where
    stepped : (a b c : Syntax) (us vs rest : List Lexeme) → Derives Sum ts (Mark Comma ∷ us) a → Derives Sum us (Mark Comma ∷ vs) b → Derives Sum vs rest c → IfSome (ended (Some c) rest >>= λ c. Some (record { counter = x; from = a; to = b; by = c })) (SaysBounds (Named x ∷ Mark Equals ∷ ts))
    stepped a b c us vs [] d e f = by_step d e f
    stepped a b c us vs (w ∷ rest) d e f = tt

    step : (a b : Syntax) (us vs : List Lexeme) → Derives Sum ts (Mark Comma ∷ us) a → Derives Sum us (Mark Comma ∷ vs) b → (o : Read Syntax) → IfSome o (λ r. Derives Sum vs r.1 r.0) → IfSome ((o >>= λ c. ended (Some c.0) c.1) >>= λ c. Some (record { counter = x; from = a; to = b; by = c })) (SaysBounds (Named x ∷ Mark Equals ∷ ts))
    step a b us vs d e None f = tt
    step a b us vs d e (Some c) f = stepped a b c.0 us vs c.1 d e f

    limited : (a b : Syntax) (us rest : List Lexeme) → Derives Sum ts (Mark Comma ∷ us) a → Derives Sum us rest b → IfSome (read_step rest >>= λ c. Some (record { counter = x; from = a; to = b; by = c })) (SaysBounds (Named x ∷ Mark Equals ∷ ts))
    limited a b us [] d e = by_one d e
    limited a b us (Mark Comma ∷ vs) d e = step a b us vs d e (read_expression vs) (itself_derived vs)
    limited a b us (w ∷ vs) d e = tt

    to : (a : Syntax) (us : List Lexeme) → Derives Sum ts (Mark Comma ∷ us) a → (o : Read Syntax) → IfSome o (λ r. Derives Sum us r.1 r.0) → IfSome (o >>= λ b. read_step b.1 >>= λ c. Some (record { counter = x; from = a; to = b.0; by = c })) (SaysBounds (Named x ∷ Mark Equals ∷ ts))
    to a us d None e = tt
    to a us d (Some b) e = limited a b.0 us b.1 d e

    between : (a : Syntax) (rest : List Lexeme) → Derives Sum ts rest a → IfSome (behind_comma rest >>= λ us. read_expression us >>= λ b. read_step b.1 >>= λ c. Some (record { counter = x; from = a; to = b.0; by = c })) (SaysBounds (Named x ∷ Mark Equals ∷ ts))
    between a [] d = tt
    between a (Mark Comma ∷ us) d = to a us d (read_expression us) (itself_derived us)
    between a (w ∷ us) d = tt

    begun : (o : Read Syntax) → IfSome o (λ r. Derives Sum ts r.1 r.0) → IfSome (o >>= λ a. behind_comma a.1 >>= λ us. read_expression us >>= λ b. read_step b.1 >>= λ c. Some (record { counter = x; from = a.0; to = b.0; by = c })) (SaysBounds (Named x ∷ Mark Equals ∷ ts))
    begun None d = tt
    begun (Some a) d = between a.0 a.1 d
bounds_said (Named x ∷ ws) = tt
bounds_said (w ∷ ws) = tt

do_said : (ws : List Lexeme) → IfSome (option_map (λ (q : Option (List ℕ) × Bounds). repeats q.0 q.1) (read_do ws)) (SaysDo ws)
unfolding read_do read_label
do_said (Digits ds ∷ Mark Comma ∷ ts) = go (read_bounds ts) (bounds_said ts)
  where
    go : (o : Option Bounds) → IfSome o (SaysBounds ts) → IfSome (option_map (λ (q : Option (List ℕ) × Bounds). repeats q.0 q.1) (option_map (λ b. (Some ds, b)) o)) (SaysDo (Digits ds ∷ Mark Comma ∷ ts))
    go None h = tt
    go (Some b) h = says.labelled_comma h
do_said (Digits ds ∷ ts) = go (read_bounds ts) (bounds_said ts)
  where
    go : (o : Option Bounds) → IfSome o (SaysBounds ts) → IfSome (option_map (λ (q : Option (List ℕ) × Bounds). repeats q.0 q.1) (option_map (λ b. (Some ds, b)) o)) (SaysDo (Digits ds ∷ ts))
    go None h = tt
    go (Some b) h = says.labelled h
do_said ts = go (read_bounds ts) (bounds_said ts)
  where
    go : (o : Option Bounds) → IfSome o (SaysBounds ts) → IfSome (option_map (λ (q : Option (List ℕ) × Bounds). repeats q.0 q.1) (option_map (λ b. (None, b)) o)) (SaysDo ts)
    go None h = tt
    go (Some b) h = says.unlabelled h

-- guards
guard_said : (ws : List Lexeme) → IfSome (read_guard ws) (λ r. SaysGuard ws r.1 r.0)
unfolding read_guard
guard_said [] = tt
guard_said (Mark Left ∷ ts) = inner (read_condition ts) (test_itself_derived ts)
  where
    closed : (c : Condition) (rest : List Lexeme) → DerivesCondition Whole ts rest c → IfSome {T = Condition × List Lexeme} (behind_right rest >>= λ us. Some (c, us)) (λ r. SaysGuard (Mark Left ∷ ts) r.1 r.0)
    closed c [] d = tt
    closed c (Mark Right ∷ us) d = guard d
    closed c (w ∷ us) d = tt

    inner : (o : Read Condition) → IfSome o (λ r. DerivesCondition Whole ts r.1 r.0) → IfSome {T = Condition × List Lexeme} (o >>= λ c. behind_right c.1 >>= λ us. Some (c.0, us)) (λ r. SaysGuard (Mark Left ∷ ts) r.1 r.0)
    inner None d = tt
    inner (Some c) d = closed c.0 c.1 d
guard_said (w ∷ ws) = tt

test_said : (ws : List Lexeme) → IfSome (read_test ws) (SaysGuard ws [])
unfolding read_test
test_said ws = first (read_guard ws) (guard_said ws)
  where
    whole : (c : Condition) (rest : List Lexeme) → SaysGuard ws rest c → IfSome (ended c rest) (SaysGuard ws [])
    whole c [] h = h
    whole c (w ∷ rest) h = tt

    first : (o : Read Condition) → IfSome o (λ r. SaysGuard ws r.1 r.0) → IfSome (o >>= λ c. ended c.0 c.1) (SaysGuard ws [])
    first None h = tt
    first (Some c) h = whole c.0 c.1 h

as_assigned : (ws : List Lexeme) (o : Option Deed) → IfSome o (SaysAssignment ws) → IfSome o (SaysGuarded ws)
as_assigned ws None h = tt
as_assigned ws (Some d) h = says.SaysGuarded.assigned h

as_called : (ws : List Lexeme) (o : Option Deed) → IfSome o (SaysCall ws) → IfSome o (SaysGuarded (Mark Call ∷ ws))
as_called ws None h = tt
as_called ws (Some d) h = says.SaysGuarded.called h

guarded_said : (ws : List Lexeme) → IfSome (read_guarded ws) (SaysGuarded ws)
unfolding read_guarded
guarded_said (Mark Call ∷ ts) = as_called ts (read_call ts) (call_said ts)
guarded_said ws = as_assigned ws (read_assignment ws) (assignment_said ws)

logical_said : (ws : List Lexeme) → IfSome (option_map (λ (q : Condition × Deed). guards q.0 q.1) (read_logical ws)) (Says kind.LogicalIf ws)
unfolding read_logical
logical_said ws = first (read_guard ws) (guard_said ws)
  where
    deed : (c : Condition) (us : List Lexeme) → SaysGuard ws us c → (o : Option Deed) → IfSome o (SaysGuarded us) → IfSome (option_map (λ (q : Condition × Deed). guards q.0 q.1) (o >>= λ d. Some (c, d))) (Says kind.LogicalIf ws)
    deed c us g None h = tt
    deed c us g (Some d) h = says.Says.guarded g h

    first : (o : Read Condition) → IfSome o (λ r. SaysGuard ws r.1 r.0) → IfSome (option_map (λ (q : Condition × Deed). guards q.0 q.1) (o >>= λ c. read_guarded c.1 >>= λ d. Some (c.0, d))) (Says kind.LogicalIf ws)
    first None g = tt
    first (Some c) g = deed c.0 c.1 g (read_guarded c.1) (guarded_said c.1)

-- a phrase made of what was read
made : {A : Type 0} (k : Kind) (ws : List Lexeme) (make : A → Phrase) (P : A → Type 0) → ((a : A) → P a → Says k ws (make a)) → (o : Option A) → IfSome o P → IfSome (option_map make o) (Says k ws)
made k ws make P rule None h = tt
made k ws make P rule (Some a) h = rule a h

-- what is read of a statement is what its lexemes say
pub phrase_said : (k : Kind) (ws : List Lexeme) → IfSome (phrase_of k ws) (Says k ws)
phrase_said kind.Subroutine ws = head_said ws
phrase_said kind.Integer ws = made kind.Integer ws declares (SaysItems ws) (λ is h. says.Says.declaration h) (read_items ws) (items_said ws)
phrase_said kind.Common ws = made kind.Common ws (λ (p : List ℕ × List Declared). shares p.0 p.1) (λ p. SaysCommon ws p.0 p.1) (λ p h. says.Says.shared h) (read_common ws) (common_said ws)
phrase_said kind.Assign ws = made kind.Assign ws does (SaysAssignment ws) (λ d h. says.Says.assigned h) (read_assignment ws) (assignment_said ws)
phrase_said kind.Call ws = made kind.Call ws does (SaysCall ws) (λ d h. says.Says.called h) (read_call ws) (call_said ws)
phrase_said kind.LogicalIf ws = logical_said ws
phrase_said kind.Do ws = begun (option_map (λ (q : Option (List ℕ) × Bounds). repeats q.0 q.1) (read_do ws)) (do_said ws)
  where
    begun : (o : Option Phrase) → IfSome o (SaysDo ws) → IfSome o (Says kind.Do ws)
    begun None h = tt
    begun (Some p) h = says.Says.begins h
phrase_said kind.BlockIf ws = made kind.BlockIf ws opens (SaysGuard ws []) (λ c h. says.Says.tests h) (read_test ws) (test_said ws)
phrase_said kind.DoWhile ws = made kind.DoWhile ws goes_while (SaysGuard ws []) (λ c h. says.Says.tests_first h) (read_test ws) (test_said ws)
phrase_said kind.ElseIf ws = made kind.ElseIf ws turns (SaysGuard ws []) (λ c h. says.Says.tests_again h) (read_test ws) (test_said ws)
phrase_said kind.ImplicitNone [] = says.Says.implicit
phrase_said kind.EndDo [] = says.Says.finished
phrase_said kind.Continue [] = says.Says.continued
phrase_said kind.Else [] = says.Says.turned
phrase_said kind.EndIf [] = says.Says.closed
phrase_said kind.Return [] = says.Says.returned
phrase_said kind.End [] = says.Says.ended
phrase_said kind.ImplicitNone (w ∷ ws) = tt
phrase_said kind.EndDo (w ∷ ws) = tt
phrase_said kind.Continue (w ∷ ws) = tt
phrase_said kind.Else (w ∷ ws) = tt
phrase_said kind.EndIf (w ∷ ws) = tt
phrase_said kind.Return (w ∷ ws) = tt
phrase_said kind.End (w ∷ ws) = tt
