-- A row that comes, goes or is changed does so in the table.
use Rattle.std.specs.Prelude.{◌≡◌, ◌≢◌, ℕ, List, [], ◌∷◌, ◌++◌, Option, Some, None}
use Rattle.std.specs.Option.{option_map}
use Rattle.std.proofs.Common.{◌∙◌, ap, sym, subst, arith}
use Rattle.pfl_base.specs.declared.addr.Addr.{Addr}
use Rattle.pfl_base.specs.declared.addr.Addr.TheVariants.{V4, V6}
use Rattle.pfl_base.specs.declared.flow.Key.{Key}
use Rattle.pfl_base.specs.declared.proto.Proto.{Proto}
use Rattle.pfl_base.specs.declared.state_name.StateName.{StateName}
use Rattle.pfl_base.specs.Ends.{proto_number, proto_of, IsProto}
use Rattle.pfl_base.specs.Names.{name_cmp}
use Rattle.pfl_base.proofs.ForCallers.{names_total, names_exact}
use Rattle.pfl_edits.specs.Maps as maps
use Rattle.pfl_edits.specs.Maps.{Map, set_at}
use Rattle.pfl_edits.proofs.ForCallers.{get-set_at_same, get-set_at_other, set_at-set_at, row_at, Distinct, Distinct-without, map_of-between}
use Rattle.pfl_edits.proofs.ForCallers.{map_of-without, some_is_none}
use Rattle.pfl_edits.specs.Rows.{map_of}
use Rattle.pfl_containers.specs.declared.by_name.ByName.{ByName}
use Rattle.pfl_containers.specs.Lists.{Link, link}
use Rattle.pfl_containers.specs.NameKeys.{by_name_cmp}
use Rattle.pfl_containers.specs.Mapped.{map_values}
use Rattle.pfl_containers.specs.SlotIndexes.{HasNone, key_of}
use Rattle.pfl_containers.specs.inner.NameOrder.{by_name_total, by_name_exact}
use Rattle.pfl_containers.proofs.ForCallers.{key_of_row, map_values-set_at, found-stands, has_none}
use Rattle.pfl_track.specs.declared.state.State.{State}
use Rattle.pfl_track.specs.States.{IsState}
use Rattle.pfl_table.specs.declared.row.Row.{Row}
use Rattle.pfl_table.specs.inner.Ordering.{Flow, number_of, version_of, flow_of, flow_cmp, flow_total, flow_exact, by_name}
use Rattle.pfl_table.specs.Tables.{Table, IsTable, AreStates, states_of, with_row}
use Rattle.pfl_table.proofs.Tables.{get-states_of}
use Rattle.pfl_table.specs.inner.Filed.{Filing, AreStated, HasNoKey, OthersHaveNoKey, GainsRow, LosesRow, ChangesRow, name_of, wire_flow, stack_flow}
use Rattle.pfl_table.specs.inner.Filed.{rows_of, table_of, row_of_link}
use Rattle.pfl_table.proofs.Viewed.{found-again, get-rows_of}

-- ---- flows of states are keys

same_addr : (a b : Addr) → number_of a ≡ number_of b → version_of a ≡ version_of b → a ≡ b
same_addr (V4 m) (V4 n) e v = ap V4 e
same_addr (V4 m) (V6 n) e v = absurd (omega arith)
same_addr (V6 m) (V4 n) e v = absurd (omega arith)
same_addr (V6 m) (V6 n) e v = ap V6 e

same_proto : (p q : Proto) → IsProto p → IsProto q → proto_number p ≡ proto_number q → p ≡ q
same_proto p q is_p is_q e = sym is_p ∙ (ap proto_of e ∙ is_q)

same_key_of_flow : (a b : Key) → IsProto a.proto → IsProto b.proto → flow_of a ≡ flow_of b → a ≡ b
same_key_of_flow a b is_a is_b e =
    let proto = same_proto a.proto b.proto is_a is_b (ap (λ (f : Flow). f.proto) e) in
    let far = same_addr a.far.addr b.far.addr (ap (λ (f : Flow). f.far) e) (ap (λ (f : Flow). f.far_version) e) in
    let near = same_addr a.near.addr b.near.addr (ap (λ (f : Flow). f.near) e) (ap (λ (f : Flow). f.near_version) e) in
    let far_port : a.far.port ≡ b.far.port = ap (λ (f : Flow). f.far_port) e in
    let near_port : a.near.port ≡ b.near.port = ap (λ (f : Flow). f.near_port) e in
    λ i. record {
      proto = proto i;
      far = record { addr = far i; port = far_port i };
      near = record { addr = near i; port = near_port i };
    }

stack_proto : (s : State) → IsState s → IsProto s.stack.proto
stack_proto s is = subst IsProto (sym is.one_proto) is.proto

-- ---- rows with states

pub stated-at : (front : List (Link Row)) (l : Link Row) (back : List (Link Row)) → AreStated (front ++ l ∷ back) → IsState l.value.state
stated-at [] l back are = are.0
stated-at (x ∷ front) l back are = stated-at front l back are.1

pub stated-without : (front : List (Link Row)) (l : Link Row) (back : List (Link Row)) → AreStated (front ++ l ∷ back) → AreStated (front ++ back)
stated-without [] l back are = are.1
stated-without (x ∷ front) l back are = (are.0, stated-without front l back are.1)

pub stated-with : (front : List (Link Row)) (l : Link Row) (back : List (Link Row)) → AreStated (front ++ back) → IsState l.value.state
    → AreStated (front ++ l ∷ back)
stated-with [] l back are is = (is, are)
stated-with (x ∷ front) l back are is = (are.0, stated-with front l back are.1 is)

-- ---- the rows by their names

rows-with : (front : List (Link Row)) (l : Link Row) (back : List (Link Row)) → HasNone name_cmp name_of (front ++ back) (name_of l.value)
    → rows_of (front ++ l ∷ back) ≡ maps.insert (rows_of (front ++ back)) (name_of l.value) l.value
rows-with front l back none =
    ap (map_values row_of_link) (map_of-between names_total names_exact (key_of name_of) front l back none)
    ∙ map_values-set_at names_total names_exact row_of_link (map_of name_cmp (key_of name_of) (front ++ back)) (name_of l.value) (Some l)

rows-without : (front : List (Link Row)) (l : Link Row) (back : List (Link Row)) → Distinct name_cmp (key_of name_of) (front ++ l ∷ back)
    → rows_of (front ++ back) ≡ maps.remove (rows_of (front ++ l ∷ back)) (name_of l.value)
rows-without front l back d =
    ap (map_values row_of_link)
    (map_of-without names_total names_exact (key_of name_of) front l back
    (Distinct-without names_total names_exact (key_of name_of) front l back d).0)
    ∙ map_values-set_at names_total names_exact row_of_link (map_of name_cmp (key_of name_of) (front ++ l ∷ back)) (name_of l.value) None

same_table : (old new : Filing) (name : StateName) (at : Option Row) → new.limit ≡ old.limit
    → rows_of new.links ≡ set_at (rows_of old.links) name at → table_of new ≡ with_row (table_of old) name at
same_table old new name at limit rows = λ i. record { limit = limit i; rows = rows i }

-- a row more
pub table-gains : (old new : Filing) (r : Row) → GainsRow old new r → HasNone name_cmp name_of old.links (name_of r)
    → table_of new ≡ with_row (table_of old) (name_of r) (Some r)
table-gains old new r g none =
    same_table old new (name_of r) (Some r) g.limit
    (ap rows_of g.is ∙ (rows-with g.front (link g.slot r) g.back (subst (λ (ls : List (Link Row)). HasNone name_cmp name_of ls (name_of r)) g.was none)
    ∙ ap (λ (ls : List (Link Row)). maps.insert (rows_of ls) (name_of r) r) (sym g.was)))

-- a row less
pub table-loses : (old new : Filing) (r : Row) → LosesRow old new r → Distinct name_cmp (key_of name_of) old.links
    → table_of new ≡ with_row (table_of old) (name_of r) None
table-loses old new r g d =
    same_table old new (name_of r) None g.limit
    (ap rows_of g.is ∙ (rows-without g.front (link g.slot r) g.back (subst (Distinct name_cmp (key_of name_of)) g.was d)
    ∙ ap (λ (ls : List (Link Row)). maps.remove (rows_of ls) (name_of r)) (sym g.was)))

-- rows but for one, with another one of its name
changed_rows : (front back : List (Link Row)) (slot : ℕ) (was r : Row) → name_of r ≡ name_of was
    → Distinct name_cmp (key_of name_of) (front ++ link slot was ∷ back)
    → maps.insert (rows_of (front ++ back)) (name_of r) r ≡ maps.insert (rows_of (front ++ link slot was ∷ back)) (name_of r) r
changed_rows front back slot was r same d =
    ap (λ (m : Map name_cmp Row). maps.insert m (name_of r) r) (rows-without front (link slot was) back d
    ∙ ap (maps.remove (rows_of (front ++ link slot was ∷ back))) (sym same))
    ∙ set_at-set_at names_total names_exact (rows_of (front ++ link slot was ∷ back)) (name_of r) None (Some r)

others_no_name : (front back : List (Link Row)) (slot : ℕ) (was r : Row) → name_of r ≡ name_of was
    → Distinct name_cmp (key_of name_of) (front ++ link slot was ∷ back) → HasNone name_cmp name_of (front ++ back) (name_of r)
others_no_name front back slot was r same d = ap (row_at name_cmp (key_of name_of) (front ++ back)) same
    ∙ (Distinct-without names_total names_exact (key_of name_of) front (link slot was) back d).0

-- another row of the same name
pub table-changes : (old new : Filing) (was r : Row) → ChangesRow old new was r → name_of r ≡ name_of was
    → Distinct name_cmp (key_of name_of) old.links → table_of new ≡ with_row (table_of old) (name_of r) (Some r)
table-changes old new was r g same d =
    let apart = subst (Distinct name_cmp (key_of name_of)) g.was d in
    same_table old new (name_of r) (Some r) g.limit
    (ap rows_of g.is ∙ (rows-with g.front (link g.slot r) g.back (others_no_name g.front g.back g.slot was r same apart)
    ∙ (changed_rows g.front g.back g.slot was r same apart ∙ ap (λ (ls : List (Link Row)). maps.insert (rows_of ls) (name_of r) r) (sym g.was))))

-- ---- keys that no other row has

module _ (limit : ℕ) (links : List (Link Row)) (r : Row) (none : HasNone name_cmp name_of links (name_of r)) (stated : AreStated links) (is : IsState r.state)
    (names : Distinct name_cmp (key_of name_of) links)
    (are : AreStates (states_of (record { limit = limit; rows = maps.insert (rows_of links) (name_of r) r }))) where
  abbrev more : Table
  more = record { limit = limit; rows = maps.insert (rows_of links) (name_of r) r }

  here : maps.get (states_of more) (name_of r) ≡ Some r.state
  here = get-states_of more (name_of r) ∙ ap (option_map (λ (q : Row). q.state)) (get-set_at_same names_total names_exact (rows_of links) (name_of r) (Some r))

  other_name : (l : Link Row) → row_at name_cmp (key_of name_of) links (name_of l.value) ≡ Some l → name_of l.value ≢ name_of r
  other_name l at same = some_is_none l (sym at ∙ (ap (row_at name_cmp (key_of name_of) links) same ∙ none))

  there : (l : Link Row) → row_at name_cmp (key_of name_of) links (name_of l.value) ≡ Some l → maps.get (states_of more) (name_of l.value) ≡ Some l.value.state
  there l at =
      get-states_of more (name_of l.value)
      ∙ ap (option_map (λ (q : Row). q.state))
      (get-set_at_other names_total names_exact (rows_of links) (name_of r) (Some r) (name_of l.value) (other_name l at)
      ∙ (get-rows_of links (name_of l.value) ∙ ap (option_map row_of_link) at))

  no_wire : (l : Link Row) → row_at flow_cmp (key_of wire_flow) links (wire_flow r) ≡ Some l → ⊥
  no_wire l found =
      let at = found-again flow_cmp names_total names_exact name_of wire_flow links (wire_flow r) l names found in
      let s = found-stands flow_cmp wire_flow links (wire_flow r) l found in
      let its = stated-at s.front l s.back (subst AreStated s.split stated) in
      let same : l.value.state.wire ≡ r.state.wire =
      same_key_of_flow l.value.state.wire r.state.wire its.proto is.proto
      (key_of_row flow_total flow_exact (key_of wire_flow) links (wire_flow r) l found) in
      other_name l at (are.one_wire (name_of l.value) (name_of r) l.value.state r.state (there l at) here same)

  no_stack : (l : Link Row) → row_at flow_cmp (key_of stack_flow) links (stack_flow r) ≡ Some l → ⊥
  no_stack l found =
      let at = found-again flow_cmp names_total names_exact name_of stack_flow links (stack_flow r) l names found in
      let s = found-stands flow_cmp stack_flow links (stack_flow r) l found in
      let its = stated-at s.front l s.back (subst AreStated s.split stated) in
      let same : l.value.state.stack ≡ r.state.stack =
      same_key_of_flow l.value.state.stack r.state.stack (stack_proto l.value.state its) (stack_proto r.state is)
      (key_of_row flow_total flow_exact (key_of stack_flow) links (stack_flow r) l found) in
      other_name l at (are.one_stack (name_of l.value) (name_of r) l.value.state r.state (there l at) here same)

  no_name : (l : Link Row) → row_at by_name_cmp (key_of by_name) links (by_name r) ≡ Some l → ⊥
  no_name l found =
      let at = found-again by_name_cmp names_total names_exact name_of by_name links (by_name r) l names found in
      other_name l at (ap (λ (n : ByName). n.0) (key_of_row by_name_total by_name_exact (key_of by_name) links (by_name r) l found))

  pub has_no_key : HasNoKey links r
  has_no_key = record {
    name = has_none by_name_cmp by_name links (by_name r) no_name;
    wire = has_none flow_cmp wire_flow links (wire_flow r) no_wire;
    stack = has_none flow_cmp stack_flow links (stack_flow r) no_stack;
  }

-- what makes a table of the rows with one more leaves it keys of its own
pub table-no_key : (f : Filing) (r : Row) → AreStated f.links → IsState r.state → Distinct name_cmp (key_of name_of) f.links
    → HasNone name_cmp name_of f.links (name_of r) → IsTable (with_row (table_of f) (name_of r) (Some r)) → HasNoKey f.links r
table-no_key f r stated is names none table = has_no_key f.limit f.links r none stated is names table.states

-- and of the rows with another one of its name
pub table-others : (f : Filing) (r : Row) → AreStated f.links → IsState r.state → Distinct name_cmp (key_of name_of) f.links
    → IsTable (with_row (table_of f) (name_of r) (Some r)) → OthersHaveNoKey f.links r
table-others f r stated is names table slot was front back split same =
    let d = subst (Distinct name_cmp (key_of name_of)) split names in
    let are : AreStates (states_of (record { limit = f.limit; rows = maps.insert (rows_of (front ++ back)) (name_of r) r })) =
    subst (λ (m : Map name_cmp Row). AreStates (states_of (record { limit = f.limit; rows = m })))
    (ap (λ (ls : List (Link Row)). maps.insert (rows_of ls) (name_of r) r) split ∙ sym (changed_rows front back slot was r same d)) table.states in
    has_no_key f.limit (front ++ back) r (others_no_name front back slot was r same d)
    (stated-without front (link slot was) back (subst AreStated split stated)) is
    (Distinct-without names_total names_exact (key_of name_of) front (link slot was) back d).1 are
