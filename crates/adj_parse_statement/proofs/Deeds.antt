-- Deeds: assignments and CALLs are judged part by part.
use Rattle.std.proofs.Common.{◌≡◌, ℕ, Bool, true, false, ◌||◌, cond, List, [], ◌∷◌, ◌++◌, length, Option, Some, None, option_map, Result, Ok, Err, refl, sym, ap, ◌∙◌}
use Rattle.adj_tree.specs.Code.{plain, Term, Terms, none, more, assign}
use Rattle.adj_tree.specs.Listed.{terms_onto, terms_listed}
use Rattle.def_text.specs.Grammar.{Syntax, Arguments, only, beside, with_both, tree, trees_before}
use Rattle.def_text.specs.Machine.{chosen}
use Rattle.def_text.specs.Statement.{called}
use Rattle.def_text.specs.Lexeme.{Lexeme}
use Rattle.adj_parse_expression.specs.Front.{front_expression}
use Rattle.adj_parse_expression.specs.Judged.{has_large, any_large, judged, judged_by}
use Rattle.adj_parse_expression.specs.Reading.{read_expression}
use Rattle.adj_parse_expression.specs.View.{seen}
use Rattle.adj_parse_expression.specs.declared.flaw.Flaw.{Flaw}
use Rattle.adj_parse_statement.specs.Called.{call_of}
use Rattle.adj_parse_expression.specs.Flaws.{both}
use Rattle.adj_parse_statement.specs.Flaws.{with_part}
use Rattle.adj_parse_statement.specs.Phrase.{Entry, assigns, calls}
use Rattle.adj_parse_statement.specs.Phrases.{Read, read_as, ◌>>=◌, name_at, behind_left, behind_right, behind_comma, behind_equals, are_none, ended, members, members_behind, read_arguments, second_subscript, read_subscripts, place_behind, read_place, read_assignment, actuals_in, read_actuals, read_call}
use Rattle.adj_parse_statement.specs.Said.{any_deep, list_large, list_deep, list_trees}
use Rattle.adj_parse_statement.specs.Fronts.{front_list, terms, judged_terms, front_subscripts, front_inner, judged_place, front_place, judged_actuals, front_actuals, judged_deed, front_assignment, front_call}
use Rattle.adj_parse_statement.proofs.Judging.{seen-judged, joined-judged, with_part-judged}
use Rattle.adj_parse_statement.proofs.Members.{members-seen}
use Rattle.adj_parse_statement.proofs.Runtime.{call_of-called}

-- the last of some expressions comes directly before the others
terms_last : (ts : List Term) (t : Term) (rest : Terms) → terms_onto (ts ++ t ∷ []) rest ≡ terms_onto ts (more t rest)
terms_last [] t rest = refl
terms_last (u ∷ ts) t rest = ap (more u) (terms_last ts t rest)

-- the trees of arguments are those in their list
trees_onto : (all : Arguments) (rest : Terms) → trees_before all rest ≡ option_map (λ ts. terms_onto ts rest) (terms all)
trees_onto (only s) rest = go (tree s)
  where
    go : (o : Option Term) → option_map (λ t. more t rest) o ≡ option_map (λ ts. terms_onto ts rest) (option_map (λ t. t ∷ []) o)
    go None = refl
    go (Some t) = refl
trees_onto (beside front s) rest = go (tree s) (λ t. trees_onto front (more t rest))
  where
    last : (t : Term) (o : Option (List Term)) → option_map (λ ts. terms_onto ts (more t rest)) o ≡ option_map (λ ts. terms_onto ts rest) (with_both (λ ts t. Some (ts ++ t ∷ [])) o (Some t))
    last t None = refl
    last t (Some ts) = ap Some (sym (terms_last ts t rest))

    nothing : (o : Option (List Term)) → None ≡ option_map (λ ts. terms_onto ts rest) (with_both (λ ts t. Some (ts ++ t ∷ [])) o None)
    nothing None = refl
    nothing (Some ts) = refl

    go : (o : Option Term) → ((t : Term) → trees_before front (more t rest) ≡ option_map (λ ts. terms_onto ts (more t rest)) (terms front)) → (o >>= λ t. trees_before front (more t rest)) ≡ option_map (λ ts. terms_onto ts rest) (with_both (λ ts t. Some (ts ++ t ∷ [])) (terms front) o)
    go None h = nothing (terms front)
    go (Some t) h = h t ∙ last t (terms front)

-- a first expression, and another behind some
first_judged : (limit : ℕ) (s : Syntax) → with_part (Ok []) (judged limit s) ≡ judged_terms limit (only s)
first_judged limit s = go (judged limit s) ∙ seen-judged (λ t. t ∷ []) (has_large s) (any_deep limit (only s)) (tree s)
  where
    go : (r : Result Term Flaw) → with_part (Ok []) r ≡ seen (λ t. t ∷ []) r
    go (Ok t) = refl
    go (Err f) = refl

next_judged : (limit : ℕ) (front : Arguments) (s : Syntax) → with_part (judged_terms limit front) (judged limit s) ≡ judged_terms limit (beside front s)
next_judged limit front s = with_part-judged (any_large front) (any_deep limit front) (terms front) (has_large s) (any_deep limit (only s)) (tree s)

-- expressions separated by commas
front_arguments : (limit : ℕ) (ws : List Lexeme) → front_list (front_expression limit) ws ≡ read_as (judged_terms limit) (read_arguments ws)
unfolding front_list read_arguments members_behind
front_arguments limit ws = go (read_expression ws)
  where
    go : (o : Read Syntax) → (read_as (judged limit) o >>= λ m. members with_part (front_expression limit) (length m.1) (with_part (Ok []) m.0) m.1) ≡ read_as (judged_terms limit) (o >>= λ s. members beside read_expression (length s.1) (only s.0) s.1)
    go None = refl
    go (Some s) = ap (λ (b : Result (List Term) Flaw). members with_part (front_expression limit) (length s.1) b s.1) (first_judged limit s.0) ∙ members-seen beside with_part read_expression (judged limit) (judged_terms limit) (next_judged limit) (length s.1) (only s.0) s.1

-- one or two subscripts
pub front_subscripts_on : (limit : ℕ) (ws : List Lexeme) → front_subscripts limit ws ≡ (front_expression limit ws >>= λ a. chosen (behind_comma a.1) (λ us. read_as (with_part (with_part (Ok []) a.0)) (front_expression limit us)) (Some (with_part (Ok []) a.0, a.1)))
unfolding front_subscripts read_subscripts
front_subscripts_on limit ws = first (read_expression ws)
  where
    second : (a : Syntax) (o : Read Syntax) → read_as (judged_terms limit) (option_map (λ b. (beside (only a) b.0, b.1)) o) ≡ read_as (with_part (with_part (Ok []) (judged limit a))) (read_as (judged limit) o)
    second a None = refl
    second a (Some b) = ap (λ (r : Result (List Term) Flaw). Some (r, b.1)) (sym (ap (λ (r : Result (List Term) Flaw). with_part r (judged limit b.0)) (first_judged limit a) ∙ next_judged limit (only a) b.0))

    behind : (a : Syntax) (rest : List Lexeme) (o : Option (List Lexeme)) → read_as (judged_terms limit) (second_subscript a rest o) ≡ chosen o (λ us. read_as (with_part (with_part (Ok []) (judged limit a))) (front_expression limit us)) (Some (with_part (Ok []) (judged limit a), rest))
    behind a rest None = ap (λ (r : Result (List Term) Flaw). Some (r, rest)) (sym (first_judged limit a))
    behind a rest (Some us) = second a (read_expression us)

    first : (o : Read Syntax) → read_as (judged_terms limit) (o >>= λ a. second_subscript a.0 a.1 (behind_comma a.1)) ≡ (read_as (judged limit) o >>= λ a. chosen (behind_comma a.1) (λ us. read_as (with_part (with_part (Ok []) a.0)) (front_expression limit us)) (Some (with_part (Ok []) a.0, a.1)))
    first None = refl
    first (Some a) = behind a.0 a.1 (behind_comma a.1)

-- a place with subscripts
listed_judged : (limit : ℕ) (x : List ℕ) (all : Arguments) → judged_place limit (record { name = x; list = Some all }) ≡ seen (λ ts. (x, terms_listed ts)) (judged_terms limit all)
listed_judged limit x all =
    sym (seen-judged (λ ts. (x, terms_listed ts)) (any_large all) (any_deep limit all) (terms all) ∙ ap (judged_by (any_large all) (any_deep limit all)) (go (terms all) ∙ ap (option_map {U = List ℕ × Terms} (λ ts. (x, ts))) (sym (trees_onto all none))))
  where
    go : (o : Option (List Term)) → option_map {U = List ℕ × Terms} (λ ts. (x, terms_listed ts)) o ≡ option_map (λ ts. (x, ts)) (option_map (λ ts. terms_onto ts none) o)
    go None = refl
    go (Some ts) = refl

pub front_place_on : (limit : ℕ) (ws : List Lexeme) → front_place limit ws ≡ (name_at ws >>= λ x. read_as (seen (λ ts. (x.0, terms_listed ts))) (front_inner limit x.1))
unfolding front_place front_inner front_subscripts read_place
front_place_on limit ws = first (name_at ws)
  where
    closed : (x : List ℕ) (s : Arguments) (o : Option (List Lexeme)) → read_as (judged_place limit) (o >>= λ us. Some (record { name = x; list = Some s }, us)) ≡ read_as (seen (λ ts. (x, terms_listed ts))) (option_map (λ rest. (judged_terms limit s, rest)) o)
    closed x s None = refl
    closed x s (Some rest) = ap (λ (r : Result (List ℕ × Terms) Flaw). Some (r, rest)) (listed_judged limit x s)

    inner : (x : List ℕ) (o : Read Arguments) → read_as (judged_place limit) (o >>= λ s. behind_right s.1 >>= λ us. Some (record { name = x; list = Some s.0 }, us)) ≡ read_as (seen (λ ts. (x, terms_listed ts))) (read_as (judged_terms limit) o >>= λ s. option_map (λ rest. (s.0, rest)) (behind_right s.1))
    inner x None = refl
    inner x (Some s) = closed x s.0 (behind_right s.1)

    behind : (x : List ℕ) (rest : List Lexeme) (o : Option (List Lexeme)) → read_as (judged_place limit) (place_behind x rest o) ≡ read_as (seen (λ ts. (x, terms_listed ts))) (chosen o (λ us. read_as (judged_terms limit) (read_subscripts us) >>= λ s. option_map (λ rest. (s.0, rest)) (behind_right s.1)) (Some (Ok [], rest)))
    behind x rest None = refl
    behind x rest (Some us) = inner x (read_subscripts us)

    first : (o : Read (List ℕ)) → read_as (judged_place limit) (o >>= λ x. place_behind x.0 x.1 (behind_left x.1)) ≡ (o >>= λ x. read_as (seen (λ ts. (x.0, terms_listed ts))) (chosen (behind_left x.1) (λ us. read_as (judged_terms limit) (read_subscripts us) >>= λ s. option_map (λ rest. (s.0, rest)) (behind_right s.1)) (Some (Ok [], x.1))))
    first None = refl
    first (Some x) = behind x.0 x.1 (behind_left x.1)

-- an assignment: its place and its right side
assigned_judged : (limit : ℕ) (p : Entry) (e : Syntax) → judged_deed limit (assigns p e) ≡ seen (λ (q : (List ℕ × Terms) × Term). assign (plain q.0.0) q.0.1 q.1) (both (judged_place limit p) (judged limit e))
assigned_judged limit p e =
    sym (joined-judged (λ (q : List ℕ × Terms) (t : Term). assign (plain q.0) q.1 t) (list_large p.list) (list_deep limit p.list) (option_map (λ ts. (p.name, ts)) (list_trees p.list)) (has_large e) (any_deep limit (only e)) (tree e)
    ∙ ap (judged_by (list_large p.list || has_large e) (list_deep limit p.list || any_deep limit (only e))) (go (list_trees p.list) (tree e)))
  where
    go : (m : Option Terms) (n : Option Term) → with_both (λ (q : List ℕ × Terms) t. Some (assign (plain q.0) q.1 t)) (option_map (λ ts. (p.name, ts)) m) n ≡ with_both (λ ts t. Some (assign (plain p.name) ts t)) m n
    go None None = refl
    go None (Some t) = refl
    go (Some ts) None = refl
    go (Some ts) (Some t) = refl

pub front_assignment_on : (limit : ℕ) (ws : List Lexeme) → front_assignment limit ws ≡ (front_place limit ws >>= λ p. behind_equals p.1 >>= λ us. front_expression limit us >>= λ e. ended (seen (λ (q : (List ℕ × Terms) × Term). assign (plain q.0.0) q.0.1 q.1) (both p.0 e.0)) e.1)
unfolding front_assignment front_place read_assignment
front_assignment_on limit ws = first (read_place ws)
  where
    whole : (p : Entry) (e : Syntax) (rest : List Lexeme) → option_map (judged_deed limit) (ended (assigns p e) rest) ≡ ended (seen (λ (q : (List ℕ × Terms) × Term). assign (plain q.0.0) q.0.1 q.1) (both (judged_place limit p) (judged limit e))) rest
    whole p e [] = ap Some (assigned_judged limit p e)
    whole p e (w ∷ rest) = refl

    value : (p : Entry) (o : Read Syntax) → option_map (judged_deed limit) (o >>= λ e. ended (assigns p e.0) e.1) ≡ (read_as (judged limit) o >>= λ e. ended (seen (λ (q : (List ℕ × Terms) × Term). assign (plain q.0.0) q.0.1 q.1) (both (judged_place limit p) e.0)) e.1)
    value p None = refl
    value p (Some e) = whole p e.0 e.1

    behind : (p : Entry) (o : Option (List Lexeme)) → option_map (judged_deed limit) (o >>= λ us. read_expression us >>= λ e. ended (assigns p e.0) e.1) ≡ (o >>= λ us. front_expression limit us >>= λ e. ended (seen (λ (q : (List ℕ × Terms) × Term). assign (plain q.0.0) q.0.1 q.1) (both (judged_place limit p) e.0)) e.1)
    behind p None = refl
    behind p (Some us) = value p (read_expression us)

    first : (o : Read Entry) → option_map (judged_deed limit) (o >>= λ p. behind_equals p.1 >>= λ us. read_expression us >>= λ e. ended (assigns p.0 e.0) e.1) ≡ (read_as (judged_place limit) o >>= λ p. behind_equals p.1 >>= λ us. front_expression limit us >>= λ e. ended (seen (λ (q : (List ℕ × Terms) × Term). assign (plain q.0.0) q.0.1 q.1) (both p.0 e.0)) e.1)
    first None = refl
    first (Some p) = behind p.0 (behind_equals p.1)

-- actuals: none, or those in parentheses
pub front_actuals_on : (limit : ℕ) (ws : List Lexeme) → front_actuals limit ws ≡ cond (are_none ws) (Some (Ok [])) (behind_left ws >>= λ us. chosen (behind_right us) (λ rest. ended (Ok []) rest) (front_list (front_expression limit) us >>= λ all. behind_right all.1 >>= λ rest. ended all.0 rest))
unfolding front_actuals read_actuals
front_actuals_on limit ws = first (are_none ws)
  where
    whole : (all : Arguments) (rest : List Lexeme) → option_map (judged_actuals limit) (ended (Some all) rest) ≡ ended (judged_terms limit all) rest
    whole all [] = refl
    whole all (w ∷ rest) = refl

    closed : (all : Arguments) (o : Option (List Lexeme)) → option_map (judged_actuals limit) (o >>= λ rest. ended (Some all) rest) ≡ (o >>= λ rest. ended (judged_terms limit all) rest)
    closed all None = refl
    closed all (Some rest) = whole all rest

    inner : (o : Read Arguments) → option_map (judged_actuals limit) (o >>= λ all. behind_right all.1 >>= λ rest. ended (Some all.0) rest) ≡ (read_as (judged_terms limit) o >>= λ all. behind_right all.1 >>= λ rest. ended all.0 rest)
    inner None = refl
    inner (Some all) = closed all.0 (behind_right all.1)

    empty : (rest : List Lexeme) → option_map (judged_actuals limit) (ended None rest) ≡ ended (Ok []) rest
    empty [] = refl
    empty (w ∷ rest) = refl

    behind : (us : List Lexeme) (o : Option (List Lexeme)) → option_map (judged_actuals limit) (actuals_in us o) ≡ chosen o (λ rest. ended (Ok []) rest) (front_list (front_expression limit) us >>= λ all. behind_right all.1 >>= λ rest. ended all.0 rest)
    behind us None = inner (read_arguments us) ∙ ap (λ (o : Read (Result (List Term) Flaw)). o >>= λ all. behind_right all.1 >>= λ rest. ended all.0 rest) (sym (front_arguments limit us))
    behind us (Some rest) = empty rest

    opened : (o : Option (List Lexeme)) → option_map (judged_actuals limit) (o >>= λ us. actuals_in us (behind_right us)) ≡ (o >>= λ us. chosen (behind_right us) (λ rest. ended (Ok []) rest) (front_list (front_expression limit) us >>= λ all. behind_right all.1 >>= λ rest. ended all.0 rest))
    opened None = refl
    opened (Some us) = behind us (behind_right us)

    first : (b : Bool) → option_map (judged_actuals limit) (cond b (Some None) (behind_left ws >>= λ us. actuals_in us (behind_right us))) ≡ cond b (Some (Ok [])) (behind_left ws >>= λ us. chosen (behind_right us) (λ rest. ended (Ok []) rest) (front_list (front_expression limit) us >>= λ all. behind_right all.1 >>= λ rest. ended all.0 rest))
    first true = refl
    first false = opened (behind_left ws)

-- a CALL: its name and its actuals
call_judged : (limit : ℕ) (x : List ℕ) (list : Option Arguments) → judged_deed limit (calls (record { name = x; list = list })) ≡ seen (λ ts. called x (terms_listed ts)) (judged_actuals limit list)
call_judged limit x None = refl
call_judged limit x (Some all) =
    sym (seen-judged (λ ts. called x (terms_listed ts)) (any_large all) (any_deep limit all) (terms all) ∙ ap (judged_by (any_large all) (any_deep limit all)) (go (terms all) ∙ ap (option_map (called x)) (sym (trees_onto all none))))
  where
    go : (o : Option (List Term)) → option_map (λ ts. called x (terms_listed ts)) o ≡ option_map (called x) (option_map (λ ts. terms_onto ts none) o)
    go None = refl
    go (Some ts) = refl

pub front_call_on : (limit : ℕ) (ws : List Lexeme) → front_call limit ws ≡ (name_at ws >>= λ x. option_map (seen (λ ts. call_of x.0 (terms_listed ts))) (front_actuals limit x.1))
unfolding front_call front_actuals read_call
front_call_on limit ws = first (name_at ws)
  where
    by_name : (x : List ℕ) (r : Result (List Term) Flaw) → seen (λ ts. called x (terms_listed ts)) r ≡ seen (λ ts. call_of x (terms_listed ts)) r
    by_name x (Ok ts) = ap Ok (sym (call_of-called x (terms_listed ts)))
    by_name x (Err f) = refl

    list : (x : List ℕ) (o : Option (Option Arguments)) → option_map (judged_deed limit) (o >>= λ l. Some (calls (record { name = x; list = l }))) ≡ option_map (seen (λ ts. call_of x (terms_listed ts))) (option_map (judged_actuals limit) o)
    list x None = refl
    list x (Some l) = ap Some (call_judged limit x l ∙ by_name x (judged_actuals limit l))

    first : (o : Read (List ℕ)) → option_map (judged_deed limit) (o >>= λ x. read_actuals x.1 >>= λ l. Some (calls (record { name = x.0; list = l }))) ≡ (o >>= λ x. option_map (seen (λ ts. call_of x.0 (terms_listed ts))) (option_map (judged_actuals limit) (read_actuals x.1)))
    first None = refl
    first (Some x) = list x.0 (read_actuals x.1)
