-- What is known of the units that are called is what the sweeps of calls know.
use Rattle.std.proofs.Common.{◌≡◌, ℕ, zero, suc, ◌+◌, ◌≤◌, ◌<◌, Bool, false, List, [], ◌∷◌, map, length, drop, get_or, Some, None, refl, sym, ap, ◌∙◌, subst, arith, add-one, if◌then◌else◌}
use Rattle.std.specs.Prelude.{position, Option, slice_get, unwrap_or}
use Rattle.std.proofs.lemmas.List.{length-map}
use Rattle.adj_tree.specs.Code.{plain, name_eq, Procedure}
use Rattle.adj_tree.specs.View.{procedure_of}
use Rattle.adj_tree.specs.declared.unit.Unit.{Unit}
use Rattle.def_meaning.specs.LeastSet.{least_rows}
use Rattle.def_meaning.specs.Written.{find_unit, write_rule, is_written}
use Rattle.def_meaning.specs.Read.{read_rule, is_read}
use Rattle.def_meaning.proofs.LeastSets.{is_least}
use Rattle.def_meaning.proofs.WritesMore.{write_rises}
use Rattle.def_meaning.proofs.ReadsMore.{read_rises}
use Rattle.def_meaning.specs.Apart.{has_name, AreApart}
use Rattle.def_sweep.specs.Declared.{unit_name}
use Rattle.def_sweep.specs.Names.{adjoint_name, forth_name, back_name}
use Rattle.def_sweep.specs.Marking.{ProgramMarks, place_from, dummy_set, read_by, callee_in, callee_of}
use Rattle.adj_sweep.specs.declared.callees.Dummy.{Dummy}
use Rattle.adj_sweep.specs.declared.callees.Callee.{Callee}
use Rattle.adj_sweep.specs.declared.callees.Callees.{Callees}
use Rattle.adj_sweep.specs.Callees.{callee_at, seen, Knows, KnowsAll}
use Rattle.def_names.proofs.Variables.{or_false}
use Rattle.def_meaning.proofs.Variables.{name_comm}
use Rattle.adj_reach.specs.Edges.{flag}
use Rattle.adj_naming.proofs.Places.{from_here}
use Rattle.adj_flow.specs.Asked.{units_of}
use Rattle.adj_weave.specs.declared.marks.Marked.{Marked}
use Rattle.adj_weave.specs.declared.marks.Marked.TheVariants as by
use Rattle.adj_weave.specs.Marked.{program_marks, reads_in, unit_dummy, dummy_told, HasUnits, KnowsUnits, IsOver}
use Rattle.adj_weave.specs.Orders.{Names, names_of, dummy_said, dummies_said, said, said_of}
use Rattle.adj_weave_units.proofs.Places.{At, at_first, at_next, at_rest, at_there, at_one, at_map, at_place, no_place, find_at}
use Rattle.adj_weave_units.proofs.Ordered.{unit_place}

-- ---- how many units there are

pub has_fewer : (m : Marked) (n k : ℕ) → HasUnits m n → k ≤ n → HasUnits m k
has_fewer by.Full n k h l = tt
has_fewer (by.Found g) n k h l = omega arith

pub knows_has : (m : Marked) (us : List Unit) → KnowsUnits m (map procedure_of us) → HasUnits m (length us)
knows_has by.Full us h = tt
knows_has (by.Found g) us h =
    let same : length us ≡ length g.flow.now.parts.items = sym (length-map us procedure_of) ∙ sym (ap length h) ∙ length-map g.flow.now.parts.items (λ p. procedure_of p.unit.now) in
    omega arith

-- what is over the flow of a program is over its units
pub over_knows : (m : Marked) (ps : List Procedure) (h : ℕ) → IsOver m ps h → KnowsUnits m ps
over_knows by.Full ps h o = tt
over_knows (by.Found g) ps h o = o.units

-- ---- what is said of units

-- the names of what is made of a unit
abbrev pub made_of : List Procedure → Procedure → Names
made_of ps u = record { adjoint = adjoint_name ps u; forth = forth_name ps u; back = back_name ps u }

pub names_made : (ps us : List Procedure) → names_of (map (adjoint_name ps) us) (map (forth_name ps) us) (map (back_name ps) us) ≡ map (made_of ps) us
names_made ps [] = refl
names_made ps (u ∷ us) = ap (λ z. made_of ps u ∷ z) (names_made ps us)

-- what is said of the units of a program, of which the first is the k-th
abbrev pub sayings : Marked → List Procedure → ℕ → List Procedure → List (Names × List Dummy)
sayings m ps k us = said_of m k us (map (made_of ps) us) (map (λ u. map (is_written ps u) u.dummies) us) (map (λ u. map (is_read ps u) u.dummies) us)

-- a dummy of the unit of a number is that of the unit of its name
dummy_same : (m : Marked) (ps : List Procedure) → KnowsUnits m ps → (name : List ℕ) (k : ℕ) → place_from 0 ps name ≡ k → (d : List ℕ) (w : Bool) →
    (let p = program_marks m in let there : Dummy = record { written = w; read = false; member = p.members name (plain d); shadowed = p.shadowed name (plain d) } in unit_dummy m k d w ≡ there)
dummy_same by.Full ps over name k place d w = refl
dummy_same (by.Found g) ps over name k place d w =
    let here : k ≡ place_from 0 (units_of g.flow.now) name = sym place ∙ ap (λ qs. place_from 0 qs name) (sym over) in
    ap (λ j. dummy_told g.flow.now g.marks.now j d w) here

dummies_same : (m : Marked) (ps : List Procedure) → KnowsUnits m ps → (u : Procedure) (k : ℕ) → place_from 0 ps u.name ≡ k → (ds : List (List ℕ)) →
    dummies_said m k ds (map (is_written ps u) ds) (map (is_read ps u) ds) ≡ map (seen (callee_of (program_marks m) ps u.name (Some u)) (dummy_set (is_read ps u))) ds
dummies_same m ps over u k place [] = refl
dummies_same m ps over u k place (d ∷ ds) =
    let own = λ (z : Dummy). record z { read = is_read ps u d } in
    λ i. own (dummy_same m ps over u.name k place d (is_written ps u d) i) ∷ dummies_same m ps over u k place ds i

-- the flags that are left
flag_left : (xs : List Bool) (j : ℕ) → flag (drop j xs) 0 ≡ flag xs j
flag_left xs zero = refl
flag_left [] (suc j) = refl
flag_left (x ∷ xs) (suc j) = flag_left xs j

drop_none : (k : ℕ) → drop {A = Bool} k [] ≡ []
drop_none zero = refl
drop_none (suc k) = refl

drop_next : (xs : List Bool) (j : ℕ) → drop 1 (drop j xs) ≡ drop (j + 1) xs
drop_next xs zero = refl
drop_next [] (suc j) = sym (drop_none (suc j + 1))
drop_next (x ∷ xs) (suc j) =
    let e : suc j + 1 ≡ suc (j + 1) = omega arith in
    drop_next xs j ∙ ap (λ k. drop k (x ∷ xs)) (sym e)

-- what is said of the dummies that are left begins with what is said of the one at hand
pub dummies_on : (m : Marked) (k : ℕ) (names : List (List ℕ)) (ws rs : List Bool) (j : ℕ) (d : List ℕ) → j < length names → d ≡ get_or names j d →
    dummies_said m k (drop j names) (drop j ws) (drop j rs) ≡ dummy_said m k d (flag ws j) (flag rs j) ∷ dummies_said m k (drop (j + 1) names) (drop (j + 1) ws) (drop (j + 1) rs)
dummies_on m k names ws rs j d lt at =
    ap (λ z. dummies_said m k z (drop j ws) (drop j rs)) (from_here names j d lt at)
    ∙ (λ i. dummy_said m k d (flag_left ws j i) (flag_left rs j i) ∷ dummies_said m k (drop (j + 1) names) (drop_next ws j i) (drop_next rs j i))

-- what is said of the j-th of some units
abbrev saying : Marked → List Procedure → ℕ → Procedure → Names × List Dummy
saying m ps k u = (made_of ps u, dummies_said m k u.dummies (map (is_written ps u) u.dummies) (map (is_read ps u) u.dummies))

-- the names that are left begin with those of the unit at hand
pub names_on : (k : ℕ) (xs ys zs : List (List ℕ)) (x y z : List ℕ) → k < length xs → x ≡ get_or xs k x → k < length ys → y ≡ get_or ys k y → k < length zs → z ≡ get_or zs k z →
    (let first : Names = record { adjoint = x; forth = y; back = z } in names_of (drop k xs) (drop k ys) (drop k zs) ≡ first ∷ names_of (drop (k + 1) xs) (drop (k + 1) ys) (drop (k + 1) zs))
names_on k xs ys zs x y z lx ax ly ay lz az = λ i. names_of (from_here xs k x lx ax i) (from_here ys k y ly ay i) (from_here zs k z lz az i)

-- what is said of the units that are left begins with what is said of the one at hand
pub said_on : (m : Marked) (k : ℕ) (us : List Unit) (ns rest : List Names) (ws rs : List (List Bool)) (u : Unit) (x : Names) (w r : List Bool) → k < length us → u ≡ get_or us k u → ns ≡ x ∷ rest → k < length ws → w ≡ get_or ws k w → k < length rs → r ≡ get_or rs k r →
    said_of m k (map procedure_of (drop k us)) ns (drop k ws) (drop k rs) ≡ (x, dummies_said m k (procedure_of u).dummies w r) ∷ said_of m (k + 1) (map procedure_of (drop (k + 1) us)) rest (drop (k + 1) ws) (drop (k + 1) rs)
said_on m k us ns rest ws rs u x w r lu au ax lw aw lr ar =
    (λ i. said_of m k (map procedure_of (from_here us k u lu au i)) (ax i) (from_here ws k w lw aw i) (from_here rs k r lr ar i))
    ∙ ap (λ j. (x, dummies_said m k (procedure_of u).dummies w r) ∷ said_of m j (map procedure_of (drop (k + 1) us)) rest (drop (k + 1) ws) (drop (k + 1) rs)) (sym (add-one k))

said_at : (m : Marked) (ps : List Procedure) (k : ℕ) (us : List Procedure) (j : ℕ) (u : Procedure) → At us j u → At (sayings m ps k us) j (saying m ps (k + j) u)
said_at m ps k [] j u h = absurd (let l = h.within in omega arith)
said_at m ps k (v ∷ us) zero u h =
    let same : k ≡ k + 0 = omega arith in
    subst (λ (w : Procedure). At (sayings m ps k (v ∷ us)) 0 (saying m ps (k + 0) w)) (sym h.is)
    (subst (λ i. At (sayings m ps k (v ∷ us)) 0 (saying m ps i v)) same (at_first (saying m ps k v) (sayings m ps (suc k) us)))
said_at m ps k (v ∷ us) (suc j) u h =
    let same : suc k + j ≡ k + suc j = omega arith in
    subst (λ i. At (sayings m ps k (v ∷ us)) (suc j) (saying m ps i u)) same
    (at_next (saying m ps k v) (saying m ps (suc k + j) u) (sayings m ps (suc k) us) j (said_at m ps (suc k) us j u (at_rest v u us j h)))

got : {A : Type 0} (xs : List A) (j : ℕ) (x d : A) → At xs j x → unwrap_or (slice_get xs j) d ≡ x
got [] j x d h = absurd (let l = h.within in omega arith)
got (y ∷ ys) zero x d h = sym h.is
got (y ∷ ys) (suc j) x d h = let l = h.within in got ys j x d (record { within = omega arith; is = h.is })

-- the names that are known of a unit, and those of no unit
abbrev pub said_names : Callee → Names
said_names k = record { adjoint = k.adjoint; forth = k.forth; back = k.back }

abbrev pub none_made : Names
none_made = record { adjoint = []; forth = []; back = [] }

module _ (m : Marked) (ps : List Procedure) (over : KnowsUnits m ps) (apart : AreApart (map unit_name ps)) (c : Callees) (names : c.names ≡ map unit_name ps) (known : map said c.known.items ≡ sayings m ps 0 ps) (other : said_names c.other ≡ none_made) (nothing : c.other.dummies.items ≡ []) where
  abbrev w : ProgramMarks
  w = program_marks m

  -- a unit at a place is known
  known_at : (name : List ℕ) (j : ℕ) → position (name_eq name) (map unit_name ps) ≡ Some j → Knows (callee_at c (Some j)) (callee_in w ps name) (reads_in ps name)
  known_at name j p =
      let named : At (map unit_name ps) j name = at_place (map unit_name ps) j name p in
      let many : length (map unit_name ps) ≡ length ps = length-map ps unit_name in
      let o : (u : Procedure) × At ps j u = at_there ps j (let l = named.within in omega arith) in
      let u = o.0 in
      let called : name ≡ u.name = at_one (map unit_name ps) j name u.name named (at_map unit_name ps j u o.1) in
      let found : find_unit ps name ≡ Some u = ap (find_unit ps) called ∙ find_at ps j u apart o.1 in
      let s : At (sayings m ps 0 ps) j (saying m ps (0 + j) u) = said_at m ps 0 ps j u o.1 in
      let count : length (map said c.known.items) ≡ length c.known.items = length-map c.known.items said in
      let all : length (map said c.known.items) ≡ length (sayings m ps 0 ps) = ap length known in
      let k : (k : Callee) × At c.known.items j k = at_there c.known.items j (let l = s.within in omega arith) in
      let both : said k.0 ≡ saying m ps (0 + j) u =
      at_one (sayings m ps 0 ps) j (said k.0) (saying m ps (0 + j) u) (subst (λ z. At z j (said k.0)) known (at_map said c.known.items j k.0 k.1)) s in
      let here : callee_at c (Some j) ≡ k.0 = got c.known.items j k.0 c.other k.1 in
      let at_name : callee_of w ps u.name (Some u) ≡ callee_in w ps name = ap (λ z. callee_of w ps z (Some u)) (sym called) ∙ ap (callee_of w ps name) (sym found) in
      let place : place_from 0 ps u.name ≡ 0 + j = unit_place 0 ps j u apart o.1 in
      let reads : dummy_set (is_read ps u) ≡ reads_in ps name = ap (λ o. dummy_set (read_by ps o)) (sym found) in
      let first : Knows k.0 (callee_of w ps u.name (Some u)) (dummy_set (is_read ps u)) = record { adjoint = ap (λ z. z.0.adjoint) both; forth = ap (λ z. z.0.forth) both; back = ap (λ z. z.0.back) both; dummies = ap (λ z. z.1) both ∙ dummies_same m ps over u (0 + j) place u.dummies } in
      subst (λ z. Knows z (callee_in w ps name) (reads_in ps name)) (sym here) (subst (λ z. Knows k.0 z (reads_in ps name)) at_name (subst (Knows k.0 (callee_of w ps u.name (Some u))) reads first))

  -- of others nothing is known
  no_unit : (us : List Procedure) (name : List ℕ) → has_name name (map unit_name us) ≡ false → find_unit us name ≡ None
  no_unit [] name h = refl
  no_unit (v ∷ us) name h = let p = or_false (name_eq name v.name) (has_name name (map unit_name us)) h in ap (λ b. if b then Some v else find_unit us name) (name_comm name v.name p.0) ∙ no_unit us name p.1

  known_other : (name : List ℕ) → position (name_eq name) (map unit_name ps) ≡ None → Knows c.other (callee_in w ps name) (reads_in ps name)
  known_other name p =
      let none : find_unit ps name ≡ None = no_unit ps name (no_place (map unit_name ps) name apart p) in
      let first : Knows c.other (callee_of w ps name None) (reads_in ps name) = record { adjoint = ap (λ z. z.adjoint) other; forth = ap (λ z. z.forth) other; back = ap (λ z. z.back) other; dummies = nothing } in
      subst (λ z. Knows c.other z (reads_in ps name)) (ap (callee_of w ps name) (sym none)) first

  pub all_known : KnowsAll c (callee_in w ps) (reads_in ps)
  all_known name = subst (λ o. Knows (callee_at c o) (callee_in w ps name) (reads_in ps name)) (ap (position (name_eq name)) (sym names)) (go (position (name_eq name) (map unit_name ps)) refl)
    where
      go : (o : Option ℕ) → position (name_eq name) (map unit_name ps) ≡ o → Knows (callee_at c o) (callee_in w ps name) (reads_in ps name)
      go (Some j) p = known_at name j p
      go None p = known_other name p

-- the least rows say which of its dummies each unit writes
pub rows_written : (ps : List Procedure) → least_rows write_rule ps ≡ map (λ u. map (is_written ps u) u.dummies) ps
rows_written ps = let l = is_least write_rule write_rises ps in sym l.closed

-- and which it reads
pub rows_read : (ps : List Procedure) → least_rows read_rule ps ≡ map (λ u. map (is_read ps u) u.dummies) ps
rows_read ps = let l = is_least read_rule read_rises ps in sym l.closed
