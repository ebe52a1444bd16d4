-- What is read of rows at slots is what contracts say of the table.
use Rattle.std.specs.Prelude.{◌≡◌, true, false, List, [], ◌∷◌, length, map, find, Option, Some, None, refl}
use Rattle.std.specs.Option.{option_map}
use Rattle.std.specs.declared.cmp.Ordering.{Ordering}
use Rattle.std.specs.Ordering.{eq_by_cmp}
use Rattle.std.specs.Cmp.{IsTotalOrder}
use Rattle.std.specs.FinMap.{IsAntisymmetric}
use Rattle.std.proofs.Common.{◌∙◌, ap, sym, subst}
use Rattle.pfl_base.specs.declared.flow.Key.{Key}
use Rattle.pfl_base.specs.declared.state_name.StateName.{StateName}
use Rattle.pfl_base.specs.Keys.{is_key}
use Rattle.pfl_base.specs.Names.{name_cmp}
use Rattle.pfl_base.proofs.ForCallers.{names_total, names_exact}
use Rattle.pfl_edits.specs.Maps as maps
use Rattle.pfl_edits.specs.Ordered.{IsRising}
use Rattle.pfl_edits.proofs.ForCallers.{Distinct-rising, values-map_of, keys-map_of, row_at, Distinct, own_key, same_key, get-map_of, len-map_of, some_is_none}
use Rattle.pfl_edits.specs.Rows.{map_of}
use Rattle.pfl_containers.specs.Lists.{Link}
use Rattle.pfl_containers.specs.SlotIndexes.{key_of, HasNone}
use Rattle.pfl_containers.proofs.ForCallers.{key_of_row, get-map_values, values-map_values, keys-map_values, len-map_values, found-stands}
use Rattle.pfl_containers.proofs.ForCallers.{not_its_key, stands-found}
use Rattle.pfl_table.proofs.Keyed.{first_value-none, first_value-some}
use Rattle.pfl_track.specs.declared.state.State.{State}
use Rattle.pfl_table.specs.declared.row.Row.{Row}
use Rattle.pfl_table.specs.inner.Ordering.{Flow, flow_of, flow_cmp, flow_total, flow_exact}
use Rattle.pfl_table.specs.Tables.{states_of}
use Rattle.pfl_table.proofs.Tables.{get-states_of}
use Rattle.pfl_table.specs.inner.Filed.{Filing, name_of, rows_of, table_of, row_of_link}
use Rattle.pfl_table.proofs.Flows.{key_is}

-- an option mapped twice
pub mapped_twice : {X Y Z : Type 0} (f : Y → Z) (g : X → Y) (o : Option X) → option_map f (option_map g o) ≡ option_map (λ x. f (g x)) o
mapped_twice f g None = refl
mapped_twice f g (Some x) = refl

some_same : {X : Type 0} (x y : X) → Some x ≡ Some y → x ≡ y
some_same x y e = cc

abbrev state_of_link : Link Row → State
state_of_link l = l.value.state

-- a row that is found by one key is found by another
pub found-again : {K J : Type 0} {R : K → K → Ordering} (S : J → J → Ordering) (o : IsTotalOrder R) (exact : IsAntisymmetric R) (key : Row
    → K) (other : Row → J) (links : List (Link Row)) (q : J) (l : Link Row)
    → Distinct R (key_of key) links → row_at S (key_of other) links q ≡ Some l → row_at R (key_of key) links (key l.value) ≡ Some l
found-again {R = R} S o exact key other links q l d is =
    let s = found-stands S other links q l is in
    subst (λ (ls : List (Link Row)). row_at R (key_of key) ls (key l.value) ≡ Some l) (sym s.split)
    (stands-found o exact key s.front l s.back (subst (Distinct R (key_of key)) s.split d))

-- what stands under a name
pub get-rows_of : (links : List (Link Row)) (q : StateName) → maps.get (rows_of links) q ≡ option_map row_of_link (row_at name_cmp (key_of name_of) links q)
get-rows_of links q = get-map_values name_cmp row_of_link (map_of name_cmp (key_of name_of) links) q
    ∙ ap (option_map row_of_link) (get-map_of names_total names_exact (key_of name_of) links q)

-- the rows in order
pub values-rows_of : (links : List (Link Row)) → IsRising name_cmp (key_of name_of) links → maps.values (rows_of links) ≡ map row_of_link links
values-rows_of links r = values-map_values name_cmp row_of_link (map_of name_cmp (key_of name_of) links)
    ∙ ap (map row_of_link) (values-map_of names_total (key_of name_of) links r)

names-twice : (links : List (Link Row)) → map name_of (map row_of_link links) ≡ map (key_of name_of) links
names-twice [] = refl
names-twice (l ∷ links) = ap (λ (names : List StateName). name_of l.value ∷ names) (names-twice links)

-- their names
pub keys-rows_of : (links : List (Link Row)) → IsRising name_cmp (key_of name_of) links → map name_of (map row_of_link links) ≡ maps.keys (rows_of links)
keys-rows_of links r =
    names-twice links
    ∙ sym (keys-map_values name_cmp row_of_link (map_of name_cmp (key_of name_of) links) ∙ keys-map_of names_total (key_of name_of) links r)

-- how many they are
pub len-rows_of : (links : List (Link Row)) → IsRising name_cmp (key_of name_of) links → maps.len (rows_of links) ≡ length links
len-rows_of links r = len-map_values name_cmp row_of_link (map_of name_cmp (key_of name_of) links)
    ∙ len-map_of names_total names_exact (key_of name_of) links (Distinct-rising name_cmp (key_of name_of) links r)

module _ (f : Filing) where
  pub get-states : (q : StateName) → maps.get (states_of (table_of f)) q ≡ option_map state_of_link (row_at name_cmp (key_of name_of) f.links q)
  get-states q =
      get-states_of (table_of f) q
      ∙ (ap (option_map (λ (r : Row). r.state)) (get-rows_of f.links q)
      ∙ mapped_twice (λ (r : Row). r.state) row_of_link (row_at name_cmp (key_of name_of) f.links q))

  -- a state of the table, and where it stands
  record Standing (q : StateName) (v : State) : Type 0 where
    pub found : Link Row
    pub at : row_at name_cmp (key_of name_of) f.links q ≡ Some found
    pub state : found.value.state ≡ v

  standing : (q : StateName) (v : State) → maps.get (states_of (table_of f)) q ≡ Some v → Standing q v
  standing q v is =
      elim (row_at name_cmp (key_of name_of) f.links q) as (λ at. row_at name_cmp (key_of name_of) f.links q ≡ at
      → option_map state_of_link at ≡ Some v → Standing q v) [
        | None ↦ λ at e. absurd (some_is_none v (sym e))
        | Some l ↦ λ at e. record { found = l; at = at; state = some_same l.value.state v e }
      ] refl (sym (get-states q) ∙ is)

  module _ (rising : IsRising name_cmp (key_of name_of) f.links) (key : State
      → Key) (apart : Distinct flow_cmp (key_of (λ (r : Row). flow_of (key r.state))) f.links) (k : Key) where
    abbrev flow : Row → Flow
    flow r = flow_of (key r.state)

    names : Distinct name_cmp (key_of name_of) f.links
    names = Distinct-rising name_cmp (key_of name_of) f.links rising

    fails : HasNone flow_cmp flow f.links (flow_of k) → (q : StateName) (v : State) → maps.get (states_of (table_of f)) q ≡ Some v → is_key (key v) k ≡ false
    fails none q v is =
        let at = standing q v is in
        let s = found-stands name_cmp name_of f.links q at.found at.at in
        let out = not_its_key flow_cmp flow s.front at.found s.back (flow_of k)
        (subst (λ (ls : List (Link Row)). HasNone flow_cmp flow ls (flow_of k)) s.split none) in
        ap (λ (u : State). is_key (key u) k) (sym at.state) ∙ (key_is (key at.found.value.state) k ∙ out)

    its_flow : (l : Link Row) → row_at flow_cmp (key_of flow) f.links (flow_of k) ≡ Some l → flow l.value ≡ flow_of k
    its_flow l is = key_of_row flow_total flow_exact (key_of flow) f.links (flow_of k) l is

    passes : (l : Link Row) → row_at flow_cmp (key_of flow) f.links (flow_of k) ≡ Some l → is_key (key l.value.state) k ≡ true
    passes l is = key_is (key l.value.state) k
        ∙ (ap (λ (g : Flow). eq_by_cmp flow_cmp (flow_of k) g) (its_flow l is) ∙ own_key flow_total flow_exact (λ (g : Flow). g) (flow_of k))

    alone : (l : Link Row) → row_at flow_cmp (key_of flow) f.links (flow_of k) ≡ Some l → (q : StateName) (u : State)
        → maps.get (states_of (table_of f)) q ≡ Some u → is_key (key u) k ≡ true → q ≡ name_of l.value
    alone l is q u iu pu =
        let at = standing q u iu in
        let flows : flow_of k ≡ flow at.found.value =
        same_key flow_total flow_exact (λ (g : Flow). g) (flow_of k) (flow at.found.value) (sym (key_is (key at.found.value.state) k)
        ∙ (ap (λ (v : State). is_key (key v) k) at.state ∙ pu)) in
        let again = found-again name_cmp flow_total flow_exact flow name_of f.links q at.found apart at.at in
        let one : l ≡ at.found = some_same l at.found (sym is ∙ (ap (row_at flow_cmp (key_of flow) f.links) flows ∙ again)) in
        sym (ap (λ (m : Link Row). name_of m.value) one ∙ key_of_row names_total names_exact (key_of name_of) f.links q at.found at.at)

    -- the one state with a key is the one that the index finds
    pub find-key : find (λ s. is_key (key s) k) (maps.values (states_of (table_of f)))
        ≡ option_map state_of_link (row_at flow_cmp (key_of flow) f.links (flow_of k))
    find-key = elim (row_at flow_cmp (key_of flow) f.links (flow_of k)) as (λ at. row_at flow_cmp (key_of flow) f.links (flow_of k) ≡ at
        → find (λ s. is_key (key s) k) (maps.values (states_of (table_of f))) ≡ option_map state_of_link at) [
          | None ↦ λ is. first_value-none names_total names_exact (λ s. is_key (key s) k) (states_of (table_of f)) (fails is)
          | Some l ↦ λ is. first_value-some names_total names_exact (λ s. is_key (key s) k) (states_of (table_of f)) (name_of l.value) l.value.state
              (get-states (name_of l.value)
              ∙ ap (option_map state_of_link) (found-again flow_cmp names_total names_exact name_of flow f.links (flow_of k) l names is))
              (passes l is) (alone l is)
        ] refl
